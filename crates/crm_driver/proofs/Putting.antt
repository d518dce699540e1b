-- Calls that make puts, one after another. `g` has the members of the site's trait.
use Rattle.std.proofs.Common.{◌≡◌, ◌∙◌, ◌≤◌, ℕ, List, [], ◌∷◌, ◌++◌, refl, sym, ap, arith, Some, None, Result, Ok, Err, IsErr}
use Rattle.std.proofs.lemmas.Result.{on_ok_weaker}
use Rattle.std.proofs.lemmas.Bool.{false≢true}
use Rattle.qc_site.specs.declared.site.Failed.{Failed}
use Rattle.qc_site.specs.declared.site.Site.{Ghosts}
use Rattle.qc_site.specs.Image.{Image, with_row}
use Rattle.qc_site.specs.Causes.{HasCause, Rose}
use Rattle.qc_site.specs.Disk.{Elapses, Follows, LeavesOnly, NoMore, PutStep}
use Rattle.qc_site.proofs.Moments.{started, goes_on, weaker, joined}
use Rattle.crm_driver.specs.Puts.{RowPut, after_puts, LeavesFront, MakesPuts}
use Rattle.crm_driver.proofs.PutLaws.{after_puts-append, goes_by-append, passed_over, lacks_puts, none_yet, front_longer, front_on, Lacks, put_there, put_absent, certain_put, certain_over, front_put}

rose : (old mid now : ℕ) → old ≤ mid → Rose mid now → Rose old now
rose old mid now le up = omega (arith, le, up)

caused : (failed : Type 0) (old mid now : ℕ) → old ≤ mid → HasCause mid now failed → HasCause old now failed
caused failed old mid now le then = record { no_fewer = omega (arith, le, then.no_fewer); cause = λ f. rose old mid now le (then.cause f) }

both_none : (xs ys : List RowPut) → xs ++ ys ≡ [] → (xs ≡ []) × (ys ≡ [])
both_none [] ys none = (refl, none)
both_none (x ∷ xs) ys none = search

module _ {S : Type 0} (g : Ghosts S) where
  -- no put yet
  pub none_made : {A : Type 0} (a : A) (site : S) → (g.told → (c : Image) → g.left_since site (g.moment site) c → g.may_leave site c) → MakesPuts g [] (Ok a) site site
  none_made a site only_now = record {
    nothing = λ none. (search, refl);
    made = λ told. refl;
    certain = λ told c here. (c, here, refl);
    any_moment = λ told. started g.moment g.left_since site (LeavesFront (g.shown site).rows [] (g.may_leave site)) (λ c left. none_yet (g.shown site).rows [] (g.may_leave site) c (only_now told c left));
    cause = record { no_fewer = omega arith; cause = λ failed. absurd (false≢true failed) };
  }

  -- after puts that were all made, further ones
  pub puts_on : {A B : Type 0} (done more : List RowPut) (a : A) (result : Result B Failed) (site mid now : S) → MakesPuts g done (Ok a) site mid → MakesPuts g more result mid now → MakesPuts g (done ++ more) result site now
  puts_on done more a result site mid now first then =
      let rows = (g.shown site).rows in
      let lacks : g.told → Lacks (g.shown mid).rows rows = λ told r k none. lacks_puts done (g.shown site) r k (ap (λ (i : Image). i.rows r k) (sym (first.made told)) ∙ none) in
      record {
        nothing = λ none.
            let parts = both_none done more none in
            let here = then.nothing parts.1 in
            (here.0, here.1 ∙ (first.nothing parts.0).1);
        made = λ told. on_ok_weaker result (λ is. is ∙ ap (λ (i : Image). after_puts more i) (first.made told) ∙ sym (after_puts-append done more (g.shown site))) (then.made told);
        certain = λ told. on_ok_weaker result (λ follows c here.
            let last = follows c here in
            let from = first.certain told last.0 last.1 in
            (from.0, from.1, goes_by-append rows done more from.0 last.0 c from.2 (passed_over (g.shown mid).rows rows more last.0 c (lacks told) last.2))) (then.certain told);
        any_moment = λ told.
            joined g.moment g.left_since site mid now (LeavesFront rows (done ++ more) (g.may_leave site))
            (weaker g.moment g.left_since site mid (LeavesFront rows done (g.may_leave site)) (LeavesFront rows (done ++ more) (g.may_leave site)) (front_longer rows done more (g.may_leave site)) (first.any_moment told))
            (weaker g.moment g.left_since mid now (LeavesFront (g.shown mid).rows more (g.may_leave mid)) (LeavesFront rows (done ++ more) (g.may_leave site)) (front_on (g.shown mid).rows rows done more (g.may_leave site) (g.may_leave mid) (lacks told) (first.certain told)) (then.any_moment told));
        cause = caused (IsErr result) (g.faults site) (g.faults mid) (g.faults now) first.cause.no_fewer then.cause;
      }

  -- a crash in these puts is one in these and further ones
  pub among_more : {A : Type 0} (done more : List RowPut) (result : Result A Failed) (site now : S) → MakesPuts g done result site now → g.told → LeavesOnly g.moment g.left_since site now (LeavesFront (g.shown site).rows (done ++ more) (g.may_leave site))
  among_more done more result site now puts told =
      let rows = (g.shown site).rows in
      weaker g.moment g.left_since site now (LeavesFront rows done (g.may_leave site)) (LeavesFront rows (done ++ more) (g.may_leave site)) (front_longer rows done more (g.may_leave site)) (puts.any_moment told)

-- one put, from what the site says of it
module _ {S : Type 0} (g : Ghosts S) (p : RowPut) (site now : S) (only_now : g.told → (c : Image) → g.left_since site (g.moment site) c → g.may_leave site c)
    (crash : g.told → Follows (PutStep p.resource p.key p.amount) (g.may_leave site) (g.may_leave now))
    (time : g.told → Elapses (g.moment site) (g.moment now) (g.left_since site) (g.left_since now) (g.may_leave now)) where
  moment : g.told → LeavesOnly g.moment g.left_since site now (LeavesFront (g.shown site).rows (p ∷ []) (g.may_leave site))
  moment told =
      let P = LeavesFront (g.shown site).rows (p ∷ []) (g.may_leave site) in
      let start = started g.moment g.left_since site P (λ c left. none_yet (g.shown site).rows (p ∷ []) (g.may_leave site) c (only_now told c left)) in
      goes_on g.moment g.left_since site site now P (g.may_leave now) start (time told) (front_put p (g.shown site).rows (g.may_leave site) (g.may_leave now) (crash told))

  pub one_made : {A : Type 0} (a : A) → (g.told → g.shown now ≡ with_row p.resource p.key p.amount (g.shown site)) → (g.told → (n : ℕ) × ((g.shown site).rows p.resource p.key ≡ Some n))
      → (g.told → Follows (λ d c. c ≡ with_row p.resource p.key p.amount d) (g.may_leave site) (g.may_leave now)) → g.faults site ≤ g.faults now → MakesPuts g (p ∷ []) (Ok a) site now
  one_made a put was certain count = record {
    nothing = λ none. search;
    made = λ told. put told ∙ sym (put_there p (was told).0 (g.shown site) (was told).1);
    certain = λ told. certain_put p (g.shown site).rows (g.may_leave site) (g.may_leave now) (crash told) (certain told);
    any_moment = moment;
    cause = record { no_fewer = count; cause = λ failed. absurd (false≢true failed) };
  }

  pub one_absent : {A : Type 0} (a : A) → (g.told → (g.shown site).rows p.resource p.key ≡ None) → (g.told → (g.shown now ≡ g.shown site) × NoMore (g.may_leave site) (g.may_leave now)) → g.faults site ≤ g.faults now → MakesPuts g (p ∷ []) (Ok a) site now
  one_absent a absent same count = record {
    nothing = λ none. search;
    made = λ told. (same told).0 ∙ sym (put_absent p (g.shown site) (absent told));
    certain = λ told. certain_over p (g.shown site).rows (g.may_leave site) (g.may_leave now) (absent told) (same told).1;
    any_moment = moment;
    cause = record { no_fewer = count; cause = λ failed. absurd (false≢true failed) };
  }

  pub one_failed : {A : Type 0} → HasCause (g.faults site) (g.faults now) (Unit {0}) → MakesPuts g {A = A} (p ∷ []) (Err (record {})) site now
  one_failed cause = record {
    nothing = λ none. search;
    made = λ told. search;
    certain = λ told. search;
    any_moment = moment;
    cause = record { no_fewer = cause.no_fewer; cause = λ failed. cause.cause (tt {0}) };
  }
