-- What a crash leaves while attempts are finished in turn. `g` has the members of the site's trait.
use Rattle.std.proofs.Common.{◌≡◌, ◌∙◌, ⊎_elim, ◌<◌, ◌≤◌, ℕ, List, [], ◌∷◌, ◌++◌, length, Result, Ok, Err, refl, sym, ap, subst, append_assoc, append-nil}
use Rattle.qc_base.specs.Rows.{OutsideRows}
use Rattle.qc_site.specs.declared.site.Failed.{Failed}
use Rattle.qc_site.specs.declared.site.Site.{Ghosts}
use Rattle.qc_site.specs.declared.site.SiteFile.{SiteFile}
use Rattle.qc_site.specs.declared.site.SiteFile.TheVariants.{CrmLog}
use Rattle.qc_site.specs.Disk.{FileStep, Follows, Images, LeavesOnly}
use Rattle.qc_site.specs.Image.{Image, bytes_of}
use Rattle.qc_site.proofs.Images.{bytes_of-with_bytes}
use Rattle.qc_site.proofs.Moments.{started, weaker, joined}
use Rattle.qc_frame.specs.Calls.{LogStands, Forces}
use Rattle.qc_frame.specs.Frame.{groups_at}
use Rattle.qc_frame.specs.Gate.{After}
use Rattle.qc_frame.specs.Log.{LogView, SameLog, WholeFrom, WholeOrNotFrom, Whole, WholeOrNot}
use Rattle.crm_log.specs.Log.{lines_payload}
use Rattle.crm_driver.specs.Puts.{RowPut, GoesByPuts, LeavesFront, MakesPuts}
use Rattle.crm_driver.proofs.PutLaws.{Lacks, lacks_puts, passed_over}
use Rattle.crm_recovery.specs.Settling.{done_group, rows_after}
use Rattle.crm_recovery.specs.Moments.{Finish, GoesByFinishes, GoesByNext, LeavesFinishes, FinishesInTurn, AddsDone}
use Rattle.crm_recovery.proofs.Finishing.{rows-after}

-- nothing of a file

same-step : (c : Image) → FileStep CrmLog SameLog c c
same-step c = record { bytes = c.crm_log; is = refl; by = record { front = refl; followed = λ l. l; same = refl } }

none-begun : (rows : OutsideRows) (left : List Finish) (c : Image) → GoesByNext rows left c c
none-begun rows [] c = refl
none-begun rows (f ∷ left) c = record { made = []; left = f.puts; split = refl; put = c; by = refl; undone = same-step c }

none-done : (rows : OutsideRows) (all : List Finish) (before : Images) (c : Image) → before c → LeavesFinishes rows all before c
none-done rows all before c here = record { was = c; there = here; done = []; left = all; split = refl; mid = c; whole = refl; part = none-begun rows all c }

-- one attempt

front-part : (rows : OutsideRows) (f : Finish) (before : Images) (c : Image) → LeavesFront rows f.puts before c → LeavesFinishes rows (f ∷ []) before c
front-part rows f before c front = record {
  was = front.was;
  there = front.there;
  done = [];
  left = f ∷ [];
  split = refl;
  mid = front.was;
  whole = refl;
  part = record { made = front.done; left = front.left; split = front.split; put = c; by = front.by; undone = same-step c };
}

done-part : (rows : OutsideRows) (f : Finish) (before mid : Images) → Follows (GoesByPuts rows f.puts) before mid → (c : Image) → After CrmLog (WholeOrNot (lines_payload (done_group f.attempt))) mid c → LeavesFinishes rows (f ∷ []) before c
done-part rows f before mid follows c here =
    let m = here.0 in
    let step = here.2 in
    let w = follows m here.1 in
    ⊎_elim
    (λ (same : groups_at step.bytes 16 ≡ groups_at m.crm_log 16). record {
      was = w.0;
      there = w.1;
      done = [];
      left = f ∷ [];
      split = refl;
      mid = w.0;
      whole = refl;
      part = record { made = f.puts; left = []; split = sym (append-nil f.puts); put = m; by = w.2; undone = record { bytes = step.bytes; is = step.is; by = record { front = step.by.front; followed = step.by.followed; same = same } } };
    })
    (λ (more : groups_at step.bytes 16 ≡ groups_at m.crm_log 16 ++ lines_payload (done_group f.attempt) ∷ []). record {
      was = w.0;
      there = w.1;
      done = f ∷ [];
      left = [];
      split = refl;
      mid = c;
      whole = (c, record { put = m; puts = w.2; done = record { bytes = step.bytes; is = step.is; by = record { front = step.by.front; more = more } } }, refl);
      part = refl;
    })
    step.by.either

-- more attempts

part-longer : (rows : OutsideRows) (left more : List Finish) (mid c : Image) → GoesByNext rows left mid c → GoesByNext rows (left ++ more) mid c
part-longer rows [] more mid c same = subst (λ (i : Image). GoesByNext rows more mid i) (sym same) (none-begun rows more mid)
part-longer rows (f ∷ left) more mid c part = part

longer : (rows : OutsideRows) (xs ys : List Finish) (before : Images) (c : Image) → LeavesFinishes rows xs before c → LeavesFinishes rows (xs ++ ys) before c
longer rows xs ys before c here = record {
  was = here.was;
  there = here.there;
  done = here.done;
  left = here.left ++ ys;
  split = ap (λ (l : List Finish). l ++ ys) here.split ∙ append_assoc here.done here.left ys;
  mid = here.mid;
  whole = here.whole;
  part = part-longer rows here.left ys here.mid c here.part;
}

goes-append : (rows : OutsideRows) (xs ys : List Finish) (a b c : Image) → GoesByFinishes rows xs a b → GoesByFinishes rows ys b c → GoesByFinishes rows (xs ++ ys) a c
goes-append rows [] ys a b c none then = subst (λ (i : Image). GoesByFinishes rows ys i c) none then
goes-append rows (x ∷ xs) ys a b c first then = (first.0, first.1, goes-append rows xs ys first.0 b c first.2 then)

goes-over : (fewer rows : OutsideRows) (fs : List Finish) (a b : Image) → Lacks fewer rows → GoesByFinishes fewer fs a b → GoesByFinishes rows fs a b
goes-over fewer rows [] a b lacks same = same
goes-over fewer rows (f ∷ fs) a b lacks by =
    (by.0, record { put = by.1.put; puts = passed_over fewer rows f.puts a by.1.put lacks by.1.puts; done = by.1.done }, goes-over fewer rows fs by.0 b lacks by.2)

part-over : (fewer rows : OutsideRows) (left : List Finish) (a b : Image) → Lacks fewer rows → GoesByNext fewer left a b → GoesByNext rows left a b
part-over fewer rows [] a b lacks same = same
part-over fewer rows (f ∷ left) a b lacks part = record { made = part.made; left = part.left; split = part.split; put = part.put; by = passed_over fewer rows part.made a part.put lacks part.by; undone = part.undone }

further : (fewer rows : OutsideRows) (xs ys : List Finish) (before mid : Images) → Lacks fewer rows → Follows (GoesByFinishes rows xs) before mid → (c : Image) → LeavesFinishes fewer ys mid c → LeavesFinishes rows (xs ++ ys) before c
further fewer rows xs ys before mid lacks follows c here =
    let w = follows here.was here.there in
    record {
      was = w.0;
      there = w.1;
      done = xs ++ here.done;
      left = here.left;
      split = ap (λ (l : List Finish). xs ++ l) here.split ∙ sym (append_assoc xs here.done here.left);
      mid = here.mid;
      whole = goes-append rows xs here.done w.0 here.was here.mid w.2 (goes-over fewer rows here.done here.was here.mid lacks here.whole);
      part = part-over fewer rows here.left here.mid c lacks here.part;
    }

-- rows after puts are there where they were
lacks-after : (puts : List RowPut) (image : Image) (rows : OutsideRows) → rows ≡ rows_after puts image.rows → Lacks rows image.rows
lacks-after puts image rows is r k none = lacks_puts puts image r k (ap (λ (x : OutsideRows). x r k) (rows-after puts image ∙ sym is) ∙ none)

module _ {S : Type 0} (g : Ghosts S) where
  -- the site was not touched
  pub untouched : {A E : Type 0} (all : List Finish) (e : E) (site : S) → (g.told → (c : Image) → g.left_since site (g.moment site) c → g.may_leave site c) → FinishesInTurn g {A = A} all (Err e) site site
  untouched all e site only_now = record {
    certain = λ told. tt;
    any_moment = λ told. started g.moment g.left_since site (LeavesFinishes (g.shown site).rows all (g.may_leave site)) (λ c left. none-done (g.shown site).rows all (g.may_leave site) c (only_now told c left));
  }

  pub none-in-turn : {A E : Type 0} (a : A) (site : S) → (g.told → (c : Image) → g.left_since site (g.moment site) c → g.may_leave site c) → FinishesInTurn g {A = A} {E = E} [] (Ok a) site site
  none-in-turn a site only_now = record {
    certain = λ told c here. (c, here, refl);
    any_moment = λ told. started g.moment g.left_since site (LeavesFinishes (g.shown site).rows [] (g.may_leave site)) (λ c left. none-done (g.shown site).rows [] (g.may_leave site) c (only_now told c left));
  }

  -- its puts failed
  pub put-failed : {A B E : Type 0} (f : Finish) (e : Failed) (d : E) (site mid : S) → MakesPuts g {A = B} f.puts (Err e) site mid → FinishesInTurn g {A = A} (f ∷ []) (Err d) site mid
  put-failed f e d site mid puts = record {
    certain = λ told. tt;
    any_moment = λ told. weaker g.moment g.left_since site mid (LeavesFront (g.shown site).rows f.puts (g.may_leave site)) (LeavesFinishes (g.shown site).rows (f ∷ []) (g.may_leave site)) (front-part (g.shown site).rows f (g.may_leave site)) (puts.any_moment told);
  }

  moments-one : {A E : Type 0} (f : Finish) (result : Result A E) (site mid after : S) → MakesPuts g {A = Unit {0}} f.puts (Ok (tt {0})) site mid → AddsDone g f.attempt result mid after → g.told → LeavesOnly g.moment g.left_since site after (LeavesFinishes (g.shown site).rows (f ∷ []) (g.may_leave site))
  moments-one f result site mid after puts done told =
      let P = LeavesFinishes (g.shown site).rows (f ∷ []) (g.may_leave site) in
      joined g.moment g.left_since site mid after P
      (weaker g.moment g.left_since site mid (LeavesFront (g.shown site).rows f.puts (g.may_leave site)) P (front-part (g.shown site).rows f (g.may_leave site)) (puts.any_moment told))
      (weaker g.moment g.left_since mid after (After CrmLog (WholeOrNot (lines_payload (done_group f.attempt))) (g.may_leave mid)) P (done-part (g.shown site).rows f (g.may_leave site) (g.may_leave mid) (puts.certain told)) (done.any_moment told))

  pub done-failed : {A B E F : Type 0} (f : Finish) (e : E) (d : F) (site mid after : S) → MakesPuts g {A = Unit {0}} f.puts (Ok (tt {0})) site mid → AddsDone g {A = B} f.attempt (Err e) mid after → FinishesInTurn g {A = A} (f ∷ []) (Err d) site after
  done-failed {A} {B} {E} {F} f e d site mid after puts done = record {
    certain = λ told. tt;
    any_moment = moments-one {A = B} {E = E} f (Err e) site mid after puts done;
  }

  pub one-in-turn : {A B E F : Type 0} (f : Finish) (b : B) (a : A) (site mid after : S) → MakesPuts g {A = Unit {0}} f.puts (Ok (tt {0})) site mid → AddsDone g {A = B} {E = E} f.attempt (Ok b) mid after → FinishesInTurn g {A = A} {E = F} (f ∷ []) (Ok a) site after
  one-in-turn {A} {B} {E} {F} f b a site mid after puts done = record {
    certain = λ told c here.
        let m = done.certain told c here in
        let w = puts.certain told m.0 m.1 in
        (w.0, w.1, (c, record { put = m.0; puts = w.2; done = m.2 }, refl));
    any_moment = moments-one {A = B} {E = E} f (Ok b) site mid after puts done;
  }

  -- and then others
  moments-on : {A B E F : Type 0} (xs ys : List Finish) (a : A) (result : Result B F) (site mid after : S) → (g.told → Lacks (g.shown mid).rows (g.shown site).rows) → FinishesInTurn g {A = A} {E = E} xs (Ok a) site mid → FinishesInTurn g ys result mid after
      → g.told → LeavesOnly g.moment g.left_since site after (LeavesFinishes (g.shown site).rows (xs ++ ys) (g.may_leave site))
  moments-on xs ys a result site mid after lacks first then told =
      let rows = (g.shown site).rows in
      let P = LeavesFinishes rows (xs ++ ys) (g.may_leave site) in
      joined g.moment g.left_since site mid after P
      (weaker g.moment g.left_since site mid (LeavesFinishes rows xs (g.may_leave site)) P (longer rows xs ys (g.may_leave site)) (first.any_moment told))
      (weaker g.moment g.left_since mid after (LeavesFinishes (g.shown mid).rows ys (g.may_leave mid)) P (further (g.shown mid).rows rows xs ys (g.may_leave site) (g.may_leave mid) (lacks told) (first.certain told)) (then.any_moment told))

  -- the first of those that follow failed
  pub turn-failed : {A B C E F G : Type 0} (xs ys more : List Finish) (a : A) (e : F) (d : G) (site mid after : S) → (g.told → Lacks (g.shown mid).rows (g.shown site).rows) → FinishesInTurn g {A = A} {E = E} xs (Ok a) site mid → FinishesInTurn g {A = B} ys (Err e) mid after
      → FinishesInTurn g {A = C} (xs ++ (ys ++ more)) (Err d) site after
  turn-failed {A} {B} {C} {E} {F} {G} xs ys more a e d site mid after lacks first then = record {
    certain = λ told. tt;
    any_moment = λ told.
        let rows = (g.shown site).rows in
        subst (λ (l : List Finish). LeavesOnly g.moment g.left_since site after (LeavesFinishes rows l (g.may_leave site))) (append_assoc xs ys more)
        (weaker g.moment g.left_since site after (LeavesFinishes rows (xs ++ ys) (g.may_leave site)) (LeavesFinishes rows ((xs ++ ys) ++ more) (g.may_leave site)) (longer rows (xs ++ ys) more (g.may_leave site))
        (moments-on {A = A} {B = B} {E = E} {F = F} xs ys a (Err e) site mid after lacks first then told));
  }

  pub turn-on : {A B C E F G : Type 0} (xs ys : List Finish) (a : A) (b : B) (d : C) (site mid after : S) → (g.told → Lacks (g.shown mid).rows (g.shown site).rows) → FinishesInTurn g {A = A} {E = E} xs (Ok a) site mid → FinishesInTurn g {A = B} {E = F} ys (Ok b) mid after
      → FinishesInTurn g {A = C} {E = G} (xs ++ ys) (Ok d) site after
  turn-on {A} {B} {C} {E} {F} {G} xs ys a b d site mid after lacks first then = record {
    certain = λ told c here.
        let m = then.certain told c here in
        let w = first.certain told m.0 m.1 in
        (w.0, w.1, goes-append (g.shown site).rows xs ys w.0 m.0 c w.2 (goes-over (g.shown mid).rows (g.shown site).rows ys m.0 c (lacks told) m.2));
    any_moment = moments-on {A = A} {B = B} {E = E} {F = F} xs ys a (Ok b) site mid after lacks first then;
  }

  -- another answer of the same call
  pub turn-retold : {A B E F : Type 0} (all : List Finish) (a : A) (b : B) (site after : S) → FinishesInTurn g {A = A} {E = E} all (Ok a) site after → FinishesInTurn g {A = B} {E = F} all (Ok b) site after
  turn-retold all a b site after turn = record { certain = turn.certain; any_moment = turn.any_moment }

  pub lacks-shown : (puts : List RowPut) (site mid : S) → (g.told → (g.shown mid).rows ≡ rows_after puts (g.shown site).rows) → g.told → Lacks (g.shown mid).rows (g.shown site).rows
  lacks-shown puts site mid is told = lacks-after puts (g.shown site) (g.shown mid).rows (is told)

  -- Done of an attempt
  module _ (a : ℕ) (staged new : LogView) (site after : S) (file : staged.file ≡ CrmLog) (start : staged.start ≡ 16) (payload : staged.payload ≡ lines_payload (done_group a)) (some : 0 < length staged.payload) (stood : LogStands g staged site)
      (counts : (t : ℕ) (c : Image) → g.told → t ≤ g.moment after → g.may_leave after c → g.left_since after t c) where
    as-done : (P : SiteFile → ℕ → List ℕ → Type 0) → P staged.file staged.start staged.payload → P CrmLog 16 (lines_payload (done_group a))
    as-done P there = subst (λ (x : SiteFile × ℕ × List ℕ). P x.0 x.1 x.2) (λ i. (file i, start i, payload i)) there

    moments : {A : Type 0} (result : Result A Failed) → Forces g {A = A} {E = Failed} result staged site new after → g.told → LeavesOnly g.moment g.left_since site after (After CrmLog (WholeOrNot (lines_payload (done_group a))) (g.may_leave site))
    moments result forces told = as-done (λ f n p. LeavesOnly g.moment g.left_since site after (After f (WholeOrNotFrom n p) (g.may_leave site))) (forces.makes.changes.any_moment told)

    grouped : {A : Type 0} (u : A) → Forces g {A = A} {E = Failed} (Ok u) staged site new after → g.told → Follows (FileStep CrmLog (Whole (lines_payload (done_group a)))) (g.may_leave site) (g.may_leave after)
    grouped u forces told m here = as-done (λ f n p. (d : Image) × g.may_leave site d × FileStep f (WholeFrom n p) d m) (
        let all = forces.makes.changes.any_moment told in
        let same : new.file ≡ staged.file = ap (λ (l : LogView). l.file) (forces.moved some) in
        let from = all.each m (counts (g.moment site) m told all.later here) in
        let step = from.2 in
        let bytes : bytes_of staged.file m ≡ step.bytes = ap (bytes_of staged.file) step.is ∙ bytes_of-with_bytes staged.file step.bytes from.0 in
        let now : bytes_of staged.file m ≡ bytes_of staged.file (g.shown after) = subst (λ (f : SiteFile). bytes_of f m ≡ bytes_of f (g.shown after)) same ((forces.makes.stands told).certain m here) in
        let whole = (forces.made told some).whole in
        let was : bytes_of staged.file from.0 ≡ bytes_of staged.file (g.shown site) = (stood told).certain from.0 from.1 in
        let P : List ℕ → List ℕ → Type 0 = WholeFrom staged.start staged.payload in (
          from.0,
          from.1,
          record { bytes = step.bytes; is = step.is; by = subst (λ (l : List ℕ). P l step.bytes) (sym was) (subst (λ (l : List ℕ). P (bytes_of staged.file (g.shown site)) l) (sym now ∙ bytes) whole) },
        ))

    pub adds-done : {A : Type 0} (result : Result A Failed) → Forces g {A = A} {E = Failed} result staged site new after → AddsDone g a result site after
    adds-done (Ok u) forces = record { certain = grouped u forces; any_moment = moments (Ok u) forces }
    adds-done (Err e) forces = record { certain = λ told. tt; any_moment = moments (Err e) forces }
