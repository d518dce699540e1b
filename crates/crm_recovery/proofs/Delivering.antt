-- The phase of an attempt, delivered to one compensator after another. `g` has the members of the site's trait.
use Rattle.std.proofs.Common.{◌≡◌, ◌∙◌, ◌≤◌, ◌+◌, ℕ, List, [], ◌∷◌, ◌++◌, length, map, filter_map, reverse, Bool, true, false, Result, Ok, Err, refl, sym, ap, subst, arith, append_assoc, append-nil, length-append, All}
use Rattle.std.specs.List.{flat_map}
use Rattle.std.proofs.lemmas.List.{length-map, length-reverse}
use Rattle.std.proofs.lemmas.List.Elements.{filter_map-append, All-tail}
use Rattle.std.proofs.lemmas.List.Sums.{sum_by-cons}
use Rattle.std.proofs.lemmas.Grind.{flat_map-append}
use Rattle.qc_base.specs.declared.log_line.LogRecord.{LogRecord}
use Rattle.qc_base.specs.declared.log_line.Heard.{Heard}
use Rattle.qc_base.specs.declared.log_line.Heard.TheVariants.{EndCommit, EndAbort, CommitRecord, AbortRecord}
use Rattle.qc_base.specs.declared.log_line.Notice.{Notice}
use Rattle.qc_site.specs.declared.site.Failed.{Failed}
use Rattle.qc_site.specs.declared.site.Site.{Ghosts}
use Rattle.crm_driver.specs.Compensators.{CompensatorState}
use Rattle.crm_driver.specs.Phases.{Delivers}
use Rattle.crm_driver.specs.Puts.{RowPut, MakesPuts}
use Rattle.crm_driver.proofs.Putting.{puts_on, among_more}
use Rattle.crm_recovery.specs.Tellings.{Plan, IsReady, heard_in, notices_in, plan_notices, plan_puts}

front-none : (xs ys : List RowPut) → xs ++ ys ≡ [] → xs ≡ []
front-none [] ys none = refl
front-none (x ∷ xs) ys none = search

-- a phase has an entry for each record, and two more
pub length-heard : (committed : Bool) (records : List LogRecord) → length (heard_in committed records) ≡ length records + 2
length-heard true records = omega (arith, length-append (map (λ (r : LogRecord). CommitRecord r.seq) records) (EndCommit ∷ []), length-map records (λ (r : LogRecord). CommitRecord r.seq))
length-heard false records = omega (arith, length-append (map (λ (r : LogRecord). AbortRecord r.seq) (reverse records)) (EndAbort ∷ []), length-map (reverse records) (λ (r : LogRecord). AbortRecord r.seq), length-reverse records)

module _ {S : Type 0} (g : Ghosts S) where
  -- puts that failed are among further ones
  pub failed-among : {A : Type 0} (done more : List RowPut) (e : Failed) (site now : S) → MakesPuts g {A = A} done (Err e) site now → MakesPuts g {A = A} (done ++ more) (Err e) site now
  failed-among done more e site now makes = record {
    nothing = λ none. makes.nothing (front-none done more none);
    made = λ told. tt;
    certain = λ told. tt;
    any_moment = λ told. among_more g done more (Err e) site now makes told;
    cause = makes.cause;
  }

  pub delivered : {A : Type 0} (put : LogRecord → _) (heard : List Heard) (records : List LogRecord) (old new : CompensatorState) (site after : S) (result : Result A Failed) → Delivers g put heard records result old new site after → MakesPuts g (filter_map put records) result site after
  delivered put heard records old new site after (Ok a) d = subst (λ (l : List LogRecord). MakesPuts g (filter_map put l) (Ok a) site after) (sym (d.split ∙ ap (λ (l : List LogRecord). d.told ++ l) d.all ∙ append-nil d.told)) d.puts
  delivered {A} put heard records old new site after (Err e) d =
      subst (λ (l : List RowPut). MakesPuts g {A = A} l (Err e) site after) (sym (ap (filter_map put) d.split ∙ filter_map-append put d.told d.left))
      (failed-among (filter_map put d.told) (filter_map put d.left) e site after d.puts)

  -- how far the phase has come: these plans are left
  pub record Delivering (committed : Bool) (all : List Plan) (old : List Notice) (site : S) (left : List Plan) (notices : List Notice) (len cap : ℕ) (mid : S) : Type 0 where
    pub done : List Plan
    pub split : all ≡ done ++ left
    pub ready : All IsReady left
    pub told : notices ≡ old ++ flat_map (plan_notices committed) done
    pub room : len + notices_in left ≤ cap
    pub puts : MakesPuts g (flat_map (plan_puts committed) done) (Ok (tt {0})) site mid

  -- what one more puts, behind those before
  behind : {A : Type 0} (committed : Bool) (done : List Plan) (p : Plan) (result : Result A Failed) (site mid after : S) → MakesPuts g (flat_map (plan_puts committed) done) (Ok (tt {0})) site mid → MakesPuts g (plan_puts committed p) result mid after
      → MakesPuts g (flat_map (plan_puts committed) (done ++ p ∷ [])) result site after
  behind committed done p result site mid after before then =
      subst (λ (l : List RowPut). MakesPuts g l result site after)
      (sym (flat_map-append (plan_puts committed) done (p ∷ []) ∙ ap (λ (l : List RowPut). flat_map (plan_puts committed) done ++ l) (append-nil (plan_puts committed p))))
      (puts_on g (flat_map (plan_puts committed) done) (plan_puts committed p) (tt {0}) result site mid after before then)

  pub delivered-one : (committed : Bool) (all : List Plan) (old : List Notice) (site : S) (p : Plan) (left : List Plan) (notices now : List Notice) (len more cap limit : ℕ) (mid after : S) → Delivering committed all old site (p ∷ left) notices len cap mid
      → MakesPuts g {A = Unit {0}} (plan_puts committed p) (Ok (tt {0})) mid after → now ≡ notices ++ plan_notices committed p → more ≡ len + (length p.records + 2) → limit ≡ cap
      → Delivering committed all old site left now more limit after
  delivered-one committed all old site p left notices now len more cap limit mid after so puts told counted same = record {
    done = so.done ++ p ∷ [];
    split = so.split ∙ sym (append_assoc so.done (p ∷ []) left);
    ready = All-tail IsReady p left so.ready;
    told = told ∙ ap (λ (l : List Notice). l ++ plan_notices committed p) so.told ∙ append_assoc old (flat_map (plan_notices committed) so.done) (plan_notices committed p)
        ∙ ap (λ (l : List Notice). old ++ l) (sym (flat_map-append (plan_notices committed) so.done (p ∷ []) ∙ ap (λ (l : List Notice). flat_map (plan_notices committed) so.done ++ l) (append-nil (plan_notices committed p))));
    room = omega (arith, so.room, counted, same, sum_by-cons (λ (x : Plan). length x.records + 2) p left);
    puts = behind committed so.done p (Ok (tt {0})) site mid after so.puts puts;
  }

  pub delivery-failed : (committed : Bool) (all : List Plan) (old : List Notice) (site : S) (p : Plan) (left : List Plan) (notices : List Notice) (len cap : ℕ) (mid after : S) (e : Failed) → Delivering committed all old site (p ∷ left) notices len cap mid
      → MakesPuts g {A = Unit {0}} (plan_puts committed p) (Err e) mid after → MakesPuts g {A = Unit {0}} (flat_map (plan_puts committed) all) (Err e) site after
  delivery-failed committed all old site p left notices len cap mid after e so puts =
      let f : Plan → List RowPut = plan_puts committed in
      subst (λ (l : List RowPut). MakesPuts g {A = Unit {0}} l (Err e) site after)
      (sym (ap (flat_map f) (so.split ∙ sym (append_assoc so.done (p ∷ []) left)) ∙ flat_map-append f (so.done ++ p ∷ []) left))
      (failed-among (flat_map f (so.done ++ p ∷ [])) (flat_map f left) e site after (behind committed so.done p (Err e) site mid after so.puts puts))

  pub all-delivered : (committed : Bool) (all : List Plan) (old : List Notice) (site : S) (left : List Plan) (notices : List Notice) (len cap : ℕ) (mid : S) → left ≡ [] → Delivering committed all old site left notices len cap mid
      → MakesPuts g {A = Unit {0}} (flat_map (plan_puts committed) all) (Ok (tt {0})) site mid × (notices ≡ old ++ flat_map (plan_notices committed) all)
  all-delivered committed all old site left notices len cap mid none so =
      let is : so.done ≡ all = sym (so.split ∙ ap (λ (l : List Plan). so.done ++ l) none ∙ append-nil so.done) in (
        subst (λ (l : List Plan). MakesPuts g {A = Unit {0}} (flat_map (plan_puts committed) l) (Ok (tt {0})) site mid) is so.puts,
        so.told ∙ ap (λ (l : List Plan). old ++ flat_map (plan_notices committed) l) is,
      )
