-- The phase of an attempt, delivered to one compensator after another. `g` has the members of the site's trait.
use Rattle.std.proofs.Common.{◌≡◌, ◌∙◌, ◌≤◌, ◌<◌, ◌+◌, ◌==◌, ℕ, List, [], ◌∷◌, ◌++◌, length, map, filter_map, reverse, Bool, true, false, cond, bytes_eq, Option, Some, None, Result, Ok, Err, Vec, Global, vec_len, vec_capacity, refl, sym, ap, subst, arith, append_assoc, append-nil, length-append, eqb-true, get_or, drop, not, All}
use Rattle.std.specs.Prelude.{sum_by}
use Rattle.std.specs.List.{flat_map, list_all, list_any}
use Rattle.std.specs.Option.{IfSome, option_map_or}
use Rattle.std.proofs.lemmas.Bool.{and_parts, false≢true, not-true}
use Rattle.std.proofs.lemmas.List.{length-map, length-reverse}
use Rattle.std.proofs.lemmas.List.Elements.{filter_map-append, All-head, All-tail}
use Rattle.std.proofs.lemmas.List.Sums.{sum_by-cons}
use Rattle.std.proofs.lemmas.Grind.{flat_map-append}
use Rattle.qc_base.specs.declared.log_line.Heard.{Heard}
use Rattle.qc_base.specs.declared.log_line.Heard.TheVariants.{AbortRecord, CommitRecord, EndAbort, EndCommit}
use Rattle.qc_base.specs.declared.log_line.LogLine.{LogLine}
use Rattle.qc_base.specs.declared.log_line.LogRecord.{LogRecord}
use Rattle.qc_base.specs.declared.log_line.Notice.{Notice}
use Rattle.qc_base.specs.LogLines.{Registration, has_phase, notices_to, phase_of, phases_of}
use Rattle.qc_site.specs.declared.site.Failed.{Failed}
use Rattle.qc_site.specs.declared.site.Site.{Ghosts}
use Rattle.qc_site.specs.Image.{Image}
use Rattle.qc_entries.specs.Entries.{EntriesView}
use Rattle.qc_catalogue.specs.declared.catalogue.Catalogue.{Catalogue}
use Rattle.qc_catalogue.specs.declared.catalogue.Resource.{Resource}
use Rattle.qc_catalogue.specs.Lookup.{resource_named}
use Rattle.qc_catalogue.specs.Rows.{has_its_phases}
use Rattle.crm_clerk.specs.Clerk.{ClerkView}
use Rattle.crm_clerk.specs.Keeps.{are_distinct}
use Rattle.crm_driver.specs.Compensators.{CompensatorState}
use Rattle.crm_driver.specs.Phases.{Delivers}
use Rattle.crm_driver.specs.Puts.{RowPut, after_put, after_puts, MakesPuts}
use Rattle.crm_driver.specs.RowRules.{put_of, rules_of}
use Rattle.crm_driver.proofs.PutLaws.{after_puts-log}
use Rattle.crm_driver.proofs.Putting.{puts_on, among_more, none_made}
use Rattle.crm_history.specs.Legal.{has_phases}
use Rattle.crm_recovery.specs.Settling.{phase_puts, puts_of, registration_puts, rows_after}
use Rattle.crm_recovery.specs.Tellings.{phase_flag}
use Rattle.qc_worker.proofs.Logged.{log-kept, stands-put}
use Rattle.qc_machine.specs.LogAndRows.{LogAndRows, lines_of, with_puts}
use Rattle.qc_machine.specs.Underway.{heard_in_phase}
use Rattle.qc_underway.specs.declared.compensators.Compensators.{Compensators}
use Rattle.qc_underway.specs.Compensators.{CanHear, Hears, IsMadeBy, IsOf, IsOrderly, calls_of, count_of, named, records_of, registered_by}
use Rattle.qc_underway.specs.Phase.{AreRegistered, DeliversOne, DeliversPhase, phase_heard, rules_puts, told_puts}
use Rattle.qc_underway.specs.Standing.{IsUnderway}
use Rattle.qc_underway.specs.Votes.{as_registration}
use Rattle.qc_underway.proofs.Asking.{length-notices, others-apart, pairs_of, registered-at}
use Rattle.qc_machine.proofs.OwnLines.{own-phases, own-puts}

front-none : (xs ys : List RowPut) → xs ++ ys ≡ [] → xs ≡ []
front-none [] ys none = refl
front-none (x ∷ xs) ys none = absurd (omega (arith, ap length none, length-append xs ys))

-- a phase has an entry for each record, and two more
pub length-phase : (committed : Bool) (records : List LogRecord) → length (phase_heard committed records) ≡ length records + 2
length-phase true records = omega (arith, length-append (map (λ (r : LogRecord). CommitRecord r.seq) records) (EndCommit ∷ []), length-map records (λ (r : LogRecord). CommitRecord r.seq))
length-phase false records = omega (arith, length-append (map (λ (r : LogRecord). AbortRecord r.seq) (reverse records)) (EndAbort ∷ []), length-map (reverse records) (λ (r : LogRecord). AbortRecord r.seq), length-reverse records)

-- the notices of a registered resource
pub phase-notices : (clerk : ClerkView) (committed : Bool) (r : Registration) → has_phase (phase_flag committed) r.phases ≡ true → phase_of clerk.lines clerk.attempt committed false r ≡ notices_to r.resource (phase_heard committed (records_of clerk r.resource))
phase-notices clerk true r has = ap (λ (b : Bool). cond b (notices_to r.resource (phase_heard true (records_of clerk r.resource))) []) has
phase-notices clerk false r has = ap (λ (b : Bool). cond b (notices_to r.resource (phase_heard false (records_of clerk r.resource))) []) has

pub no-notices : (clerk : ClerkView) (committed : Bool) (r : Registration) → has_phase (phase_flag committed) r.phases ≡ false → phase_of clerk.lines clerk.attempt committed false r ≡ []
no-notices clerk true r has = ap (λ (b : Bool). cond b (notices_to r.resource (phase_heard true (records_of clerk r.resource))) []) has
no-notices clerk false r has = ap (λ (b : Bool). cond b (notices_to r.resource (phase_heard false (records_of clerk r.resource))) []) has

pub fewer-notices : (clerk : ClerkView) (committed : Bool) (r : Registration) → length (phase_of clerk.lines clerk.attempt committed false r) ≤ calls_of clerk r
fewer-notices clerk committed r = by (has_phase (phase_flag committed) r.phases) refl
  where
    heard : List Heard
    heard = phase_heard committed (records_of clerk r.resource)

    by : (b : Bool) → has_phase (phase_flag committed) r.phases ≡ b → length (phase_of clerk.lines clerk.attempt committed false r) ≤ calls_of clerk r
    by true has = omega (arith, ap length (phase-notices clerk committed r has), length-notices r.resource heard, length-phase committed (records_of clerk r.resource))
    by false has = omega (arith, ap length (no-notices clerk committed r has))

-- the puts of a registered resource

pub puts-by : (clerk : ClerkView) (told : Compensators) (committed : Bool) (r : Registration) (s : CompensatorState) → has_phase (phase_flag committed) r.phases ≡ true → named told r.resource ≡ Some s
    → told_puts clerk told committed r ≡ rules_puts s.rules committed (records_of clerk r.resource)
puts-by clerk told committed r s has is =
    let puts : CompensatorState → List RowPut = λ x. rules_puts x.rules committed (records_of clerk r.resource) in
    ap (λ (b : Bool). cond b (option_map_or puts (named told r.resource) []) []) has ∙ ap (λ (o : Option CompensatorState). option_map_or puts o []) is

pub no-puts : (clerk : ClerkView) (told : Compensators) (committed : Bool) (r : Registration) → has_phase (phase_flag committed) r.phases ≡ false → told_puts clerk told committed r ≡ []
no-puts clerk told committed r has =
    ap (λ (b : Bool). cond b (option_map_or (λ (x : CompensatorState). rules_puts x.rules committed (records_of clerk r.resource)) (named told r.resource) []) []) has

none-picked : {A B : Type 0} (xs : List A) → filter_map {X = A} {Y = B} (λ x. None) xs ≡ []
none-picked [] = refl
none-picked (x ∷ xs) = none-picked xs

-- who doesn't hear of the phase puts nothing in it
silent : (committed : Bool) (r : Resource) (records : List LogRecord) → has_its_phases r ≡ true → has_phase (phase_flag committed) r.phases ≡ false → puts_of r committed records ≡ []
silent committed r records its unheard = by committed r.early refl unheard
  where
    needs : (b : Bool) → r.early ≡ b → has_phase (cond b 4 2) r.phases ≡ true
    needs b is = sym (ap (λ (x : Bool). has_phase (cond x 4 2) r.phases) is) ∙ (and_parts (has_phase (cond r.early 4 2) r.phases) _ its).0

    by : (committed b : Bool) → r.early ≡ b → has_phase (phase_flag committed) r.phases ≡ false → puts_of r committed records ≡ []
    by true true is none = ap (λ (x : Bool). filter_map (λ (y : LogRecord). cond x None (Some (put_of r.name y.key y.new))) records) is ∙ none-picked records
    by true false is none = absurd (false≢true (sym none ∙ needs false is))
    by false false is none = ap (λ (x : Bool). filter_map (λ (y : LogRecord). cond x (Some (put_of r.name y.key y.old)) None) (reverse records)) is ∙ none-picked (reverse records)
    by false true is none = absurd (false≢true (sym none ∙ needs true is))

its-phases : (name : List ℕ) (rs : List Resource) (r : Resource) → list_all has_its_phases rs ≡ true → resource_named name rs ≡ Some r → has_its_phases r ≡ true
its-phases name [] r all is = absurd cc
its-phases name (x ∷ rs) r all is =
    let parts = and_parts (has_its_phases x) (list_all has_its_phases rs) all in
    by (bytes_eq x.name name) parts.0 is (its-phases name rs r parts.1)
  where
    by : (b : Bool) → has_its_phases x ≡ true → cond b (Some x) (resource_named name rs) ≡ Some r → (resource_named name rs ≡ Some r → has_its_phases r ≡ true) → has_its_phases r ≡ true
    by true own here further = let one : x ≡ r = cc in subst (λ (y : Resource). has_its_phases y ≡ true) one own
    by false own there further = further there

one-puts : (c : Catalogue) (clerk : ClerkView) (told : Compensators) (committed : Bool) (r : Registration) (s : CompensatorState) → IsMadeBy c told → named told r.resource ≡ Some s → list_all has_its_phases c.resources ≡ true → has_phases c r.resource r.phases ≡ true
    → told_puts clerk told committed r ≡ registration_puts c clerk.lines clerk.attempt committed r
one-puts c clerk told committed r s made is all fits =
    let records = records_of clerk r.resource in
    let of : IsOf c r.resource s = subst (λ (x : Option CompensatorState). IfSome x (λ y. IsOf c r.resource y)) is (made r.resource) in
    let x = of.resource in
    let phases : x.phases ≡ r.phases = eqb-true x.phases r.phases (sym (ap (λ (o : Option Resource). option_map_or (λ (y : Resource). y.phases == r.phases) o false) of.is) ∙ fits) in
    let machine : registration_puts c clerk.lines clerk.attempt committed r ≡ puts_of x committed records = ap (λ (o : Option Resource). option_map_or (λ (y : Resource). puts_of y committed records) o []) of.is in
    by (has_phase (phase_flag committed) r.phases) refl x of.rules phases (its-phases r.resource c.resources x all of.is) machine
  where
    by : (b : Bool) → has_phase (phase_flag committed) r.phases ≡ b → (x : Resource) → s.rules ≡ rules_of x → x.phases ≡ r.phases → has_its_phases x ≡ true
        → registration_puts c clerk.lines clerk.attempt committed r ≡ puts_of x committed (records_of clerk r.resource) → told_puts clerk told committed r ≡ registration_puts c clerk.lines clerk.attempt committed r
    by true has x rules phases its machine =
        puts-by clerk told committed r s has is ∙ ap (λ ru. rules_puts ru committed (records_of clerk r.resource)) rules ∙ sym machine
    by false has x rules phases its machine =
        no-puts clerk told committed r has ∙ sym (machine ∙ silent committed x (records_of clerk r.resource) its (ap (λ n. has_phase (phase_flag committed) n) phases ∙ has))

-- those of all are the machine's
all-puts : (c : Catalogue) (clerk : ClerkView) (told : Compensators) (committed : Bool) (rs : List Registration) → IsMadeBy c told → list_all has_its_phases c.resources ≡ true → list_all (λ (r : Registration). has_phases c r.resource r.phases) rs ≡ true
    → All (λ (r : Registration). Hears 1 (count_of clerk r) r.resource told) rs → flat_map (told_puts clerk told committed) rs ≡ flat_map (registration_puts c clerk.lines clerk.attempt committed) rs
all-puts c clerk told committed [] made all fits hears = refl
all-puts c clerk told committed (r ∷ rs) made all fits hears =
    let parts = and_parts (has_phases c r.resource r.phases) (list_all (λ (x : Registration). has_phases c x.resource x.phases) rs) fits in
    let P : Registration → Type 0 = λ x. Hears 1 (count_of clerk x) x.resource told in
    let first = All-head P r rs hears in
    let one = one-puts c clerk told committed r first.state made first.is all parts.0 in
    let others = all-puts c clerk told committed rs made all parts.1 (All-tail P r rs hears) in
    λ i. one i ++ others i

-- only rows change

rows-after : (puts : List RowPut) (image : Image) → (after_puts puts image).rows ≡ rows_after puts image.rows
rows-after [] image = refl
rows-after (p ∷ puts) image = rows-after puts (after_put p image)

module _ {S : Type 0} (g : Ghosts S) where
  -- puts that failed are among further ones
  failed-among : {A : Type 0} (done more : List RowPut) (e : Failed) (site now : S) → MakesPuts g {A = A} done (Err e) site now → MakesPuts g {A = A} (done ++ more) (Err e) site now
  failed-among done more e site now makes = record {
    nothing = λ none. makes.nothing (front-none done more none);
    made = λ told. tt;
    certain = λ told. tt;
    any_moment = λ told. among_more g done more (Err e) site now makes told;
    cause = makes.cause;
  }

  pub delivered : {A : Type 0} (put : LogRecord → Option RowPut) (heard : List Heard) (records : List LogRecord) (old new : CompensatorState) (site after : S) (result : Result A Failed) → Delivers g put heard records result old new site after → MakesPuts g (filter_map put records) result site after
  delivered put heard records old new site after (Ok a) d = subst (λ (l : List LogRecord). MakesPuts g (filter_map put l) (Ok a) site after) (sym (d.split ∙ ap (λ (l : List LogRecord). d.told ++ l) d.all ∙ append-nil d.told)) d.puts
  delivered {A} put heard records old new site after (Err e) d =
      subst (λ (l : List RowPut). MakesPuts g {A = A} l (Err e) site after) (sym (ap (filter_map put) d.split ∙ filter_map-append put d.told d.left))
      (failed-among (filter_map put d.told) (filter_map put d.left) e site after d.puts)

  -- how far the phase has come: these are left
  pub record Delivering (clerk : ClerkView) (committed : Bool) (told : Compensators) (old : Vec Notice Global) (site : S) (left : List Registration) (after : Compensators) (now : Vec Notice Global) (mid : S) : Type 0 where
    pub done : List Registration
    pub split : registered_by clerk ≡ done ++ left
    pub distinct : are_distinct left ≡ true
    pub ready : All (λ (r : Registration). Hears 1 (count_of clerk r) r.resource told) left
    pub same : All (λ (r : Registration). named after r.resource ≡ named told r.resource) left
    pub forgets : All (λ (r : Registration). Hears 1 (count_of clerk r) r.resource after) left
    pub heard : now.items ≡ old.items ++ flat_map (phase_of clerk.lines clerk.attempt committed false) done
    pub room : vec_len now + sum_by (calls_of clerk) left ≤ vec_capacity now
    pub puts : MakesPuts g (flat_map (told_puts clerk told committed) done) (Ok (tt {0})) site mid

  pub delivering-begun : (clerk : ClerkView) (committed : Bool) (told : Compensators) (old : Vec Notice Global) (site : S) → IsOrderly clerk → CanHear 1 clerk told old → (g.told → (c : Image) → g.left_since site (g.moment site) c → g.may_leave site c)
      → Delivering clerk committed told old site (registered_by clerk) told old site
  delivering-begun clerk committed told old site so can now = record {
    done = [];
    split = refl;
    distinct = so.distinct;
    ready = can.each;
    same = λ i d lt. refl;
    forgets = can.each;
    heard = sym (append-nil old.items);
    room = omega (arith, can.room);
    puts = none_made g (tt {0}) site now;
  }

  told-same : (clerk : ClerkView) (committed : Bool) (told after : Compensators) (r : Registration) → named after r.resource ≡ named told r.resource → told_puts clerk after committed r ≡ told_puts clerk told committed r
  told-same clerk committed told after r same =
      ap (λ (o : Option CompensatorState). cond (has_phase (phase_flag committed) r.phases) (option_map_or (λ (s : CompensatorState). rules_puts s.rules committed (records_of clerk r.resource)) o []) []) same

  -- what one more puts, behind those before
  behind : {A : Type 0} (clerk : ClerkView) (committed : Bool) (told after : Compensators) (done : List Registration) (r : Registration) (result : Result A Failed) (site mid last : S) → named after r.resource ≡ named told r.resource
      → MakesPuts g (flat_map (told_puts clerk told committed) done) (Ok (tt {0})) site mid → MakesPuts g (told_puts clerk after committed r) result mid last → MakesPuts g (flat_map (told_puts clerk told committed) (done ++ r ∷ [])) result site last
  behind clerk committed told after done r result site mid last same before one =
      let f : Registration → List RowPut = told_puts clerk told committed in
      let own = subst (λ (l : List RowPut). MakesPuts g l result mid last) (told-same clerk committed told after r same) one in
      subst (λ (l : List RowPut). MakesPuts g l result site last)
      (sym (flat_map-append f done (r ∷ []) ∙ ap (λ (l : List RowPut). flat_map f done ++ l) (append-nil (f r))))
      (puts_on g (flat_map f done) (f r) (tt {0}) result site mid last before own)

  pub delivered-one : (clerk : ClerkView) (committed : Bool) (told : Compensators) (old : Vec Notice Global) (site : S) (r : Registration) (left : List Registration) (after : Compensators) (now : Vec Notice Global) (mid : S) (then : Compensators) (all : Vec Notice Global) (last : S)
      → Delivering clerk committed told old site (r ∷ left) after now mid → DeliversOne g clerk committed r (Ok (tt {0})) after now mid then all last → Delivering clerk committed told old site left then all last
  delivered-one clerk committed told old site r left after now mid then all last so one =
      let f : Registration → List Notice = phase_of clerk.lines clerk.attempt committed false in
      let parts = and_parts (not (list_any (λ (x : Registration). bytes_eq x.resource r.resource) left)) (are_distinct left) so.distinct in
      let apart = others-apart r.resource left (not-true (list_any (λ (x : Registration). bytes_eq x.resource r.resource) left) parts.0) in
      let same = All-head (λ (x : Registration). named after x.resource ≡ named told x.resource) r left so.same in
      let others = All-tail (λ (x : Registration). named after x.resource ≡ named told x.resource) r left so.same in
      let hears = All-tail (λ (x : Registration). Hears 1 (count_of clerk x) x.resource after) r left so.forgets in
      record {
        done = so.done ++ r ∷ [];
        split = so.split ∙ sym (append_assoc so.done (r ∷ []) left);
        distinct = parts.1;
        ready = All-tail (λ (x : Registration). Hears 1 (count_of clerk x) x.resource told) r left so.ready;
        same = λ i d lt. one.others (get_or left i d).resource (apart i d lt) ∙ others i d lt;
        forgets = λ i d lt.
            let h = hears i d lt in
            record { state = h.state; is = one.others (get_or left i d).resource (apart i d lt) ∙ h.is; calls = h.calls; forgets = omega (arith, h.forgets, one.forget) };
        heard = one.heard.items ∙ ap (λ (l : List Notice). l ++ f r) so.heard ∙ append_assoc old.items (flat_map f so.done) (f r)
            ∙ ap (λ (l : List Notice). old.items ++ l) (sym (flat_map-append f so.done (r ∷ []) ∙ ap (λ (l : List Notice). flat_map f so.done ++ l) (append-nil (f r))));
        room = omega (arith, so.room, one.heard.len, one.heard.capacity, fewer-notices clerk committed r, sum_by-cons (calls_of clerk) r left);
        puts = behind clerk committed told after so.done r (Ok (tt {0})) site mid last same so.puts one.puts;
      }

  delivery-failed : (clerk : ClerkView) (committed : Bool) (told : Compensators) (old : Vec Notice Global) (site : S) (r : Registration) (left : List Registration) (after : Compensators) (now : Vec Notice Global) (mid : S) (then : Compensators) (all : Vec Notice Global) (last : S) (e : Failed)
      → Delivering clerk committed told old site (r ∷ left) after now mid → DeliversOne g clerk committed r (Err e) after now mid then all last → MakesPuts g {A = Unit {0}} (flat_map (told_puts clerk told committed) (registered_by clerk)) (Err e) site last
  delivery-failed clerk committed told old site r left after now mid then all last e so one =
      let f : Registration → List RowPut = told_puts clerk told committed in
      let same = All-head (λ (x : Registration). named after x.resource ≡ named told x.resource) r left so.same in
      subst (λ (l : List RowPut). MakesPuts g {A = Unit {0}} l (Err e) site last)
      (sym (ap (flat_map f) (so.split ∙ sym (append_assoc so.done (r ∷ []) left)) ∙ flat_map-append f (so.done ++ r ∷ []) left))
      (failed-among (flat_map f (so.done ++ r ∷ [])) (flat_map f left) e site last (behind clerk committed told after so.done r (Err e) site mid last same so.puts one.puts))

  -- all puts, as the machine has them
  machine-puts : (result : Result (Unit {0}) Failed) (clerk : ClerkView) (committed : Bool) (told : Compensators) (site last : S) → All (λ (r : Registration). Hears 1 (count_of clerk r) r.resource told) (registered_by clerk)
      → MakesPuts g (flat_map (told_puts clerk told committed) (registered_by clerk)) result site last → (c : Catalogue) → IsMadeBy c told → AreRegistered c clerk → MakesPuts g (phase_puts c clerk.lines clerk.attempt committed) result site last
  machine-puts result clerk committed told site last hears makes c made are =
      subst (λ (l : List RowPut). MakesPuts g l result site last) (all-puts c clerk told committed (registered_by clerk) made are.phases are.each hears) makes

  shown-puts : (puts : List RowPut) (shown now : Image) (log : EntriesView) (clerk : ClerkView) (o : LogAndRows) → now ≡ after_puts puts shown → IsUnderway shown log clerk o → IsUnderway now log clerk (with_puts puts o)
  shown-puts puts shown now log clerk o is u = record {
    site = record {
      spelled = log-kept o.groups shown now (ap (λ (i : Image). i.crm_log) is ∙ after_puts-log puts shown) u.site.spelled;
      waits = u.site.waits;
      rows = ap (λ (i : Image). i.rows) is ∙ rows-after puts shown ∙ ap (rows_after puts) u.site.rows;
      gate = u.site.gate;
      size = u.site.size;
    };
    own = record { lines = u.own.lines; going = u.own.going };
  }

  pub all-delivered : (clerk : ClerkView) (committed : Bool) (told : Compensators) (old : Vec Notice Global) (site : S) (left : List Registration) (after : Compensators) (now : Vec Notice Global) (last : S) → CanHear 1 clerk told old → left ≡ []
      → Delivering clerk committed told old site left after now last → DeliversPhase g clerk committed (Ok (tt {0})) told old.items site now.items last
  all-delivered clerk committed told old site left after now last can none so =
      let a = clerk.attempt in
      let is : so.done ≡ registered_by clerk = sym (so.split ∙ ap (λ (l : List Registration). so.done ++ l) none ∙ append-nil so.done) in
      let makes = subst (λ (l : List Registration). MakesPuts g (flat_map (told_puts clerk told committed) l) (Ok (tt {0})) site last) is so.puts in
      let heard : now.items ≡ old.items ++ phases_of clerk.lines a committed false = so.heard ∙ ap (λ (l : List Registration). old.items ++ flat_map (phase_of clerk.lines a committed false) l) is in
      record {
        puts = machine-puts (Ok (tt {0})) clerk committed told site last can.each makes;
        heard = heard;
        stands = λ log stood. stands-put g (tt {0}) (flat_map (told_puts clerk told committed) (registered_by clerk)) log site last makes stood;
        shown = λ tells c made are log o u.
            let puts : phase_puts c clerk.lines a committed ≡ phase_puts c (lines_of o) a committed = ap (λ (l : List LogLine). phase_puts c l a committed) u.own.lines ∙ own-puts c (lines_of o) a committed in
            let ours = machine-puts (Ok (tt {0})) clerk committed told site last can.each makes c made are in
            let shown : g.shown last ≡ after_puts (phase_puts c (lines_of o) a committed) (g.shown site) = ours.made tells ∙ ap (λ (l : List RowPut). after_puts l (g.shown site)) puts in
            let notices : phases_of clerk.lines a committed false ≡ heard_in_phase a committed o = ap (λ (l : List LogLine). phases_of l a committed false) u.own.lines ∙ own-phases a (lines_of o) committed false in (
              shown-puts (phase_puts c (lines_of o) a committed) (g.shown site) (g.shown last) log clerk o shown u,
              heard ∙ ap (λ (l : List Notice). old.items ++ l) notices,
            );
        cause = so.puts.cause;
      }

  pub not-delivered : (clerk : ClerkView) (committed : Bool) (told : Compensators) (old : Vec Notice Global) (site : S) (r : Registration) (left : List Registration) (after : Compensators) (now : Vec Notice Global) (mid : S) (then : Compensators) (all : Vec Notice Global) (last : S) (e : Failed) → CanHear 1 clerk told old
      → Delivering clerk committed told old site (r ∷ left) after now mid → DeliversOne g clerk committed r (Err e) after now mid then all last → DeliversPhase g clerk committed (Err e) told old.items site all.items last
  not-delivered clerk committed told old site r left after now mid then all last e can so one =
      let makes = delivery-failed clerk committed told old site r left after now mid then all last e so one in
      record {
        puts = machine-puts (Err e) clerk committed told site last can.each makes;
        heard = tt;
        stands = λ log stood. tt;
        shown = λ tells c made are log o u. tt;
        cause = makes.cause;
      }

  -- the one at hand is the first of those that are left
  pub delivery-at-hand : (clerk : ClerkView) (committed : Bool) (told : Compensators) (old : Vec Notice Global) (site : S) (after : Compensators) (now : Vec Notice Global) (mid : S) (i : ℕ) (pairs : List (List ℕ × ℕ)) (p : List ℕ × ℕ)
      → Delivering clerk committed told old site (drop i (registered_by clerk)) after now mid → pairs ≡ pairs_of (registered_by clerk) → i < length pairs → p ≡ get_or pairs i p
      → Delivering clerk committed told old site (as_registration p ∷ drop (i + 1) (registered_by clerk)) after now mid
  delivery-at-hand clerk committed told old site after now mid i pairs p so are lt is =
      let regs = registered_by clerk in
      let inside : i < length regs = omega (arith, lt, ap length are, length-map regs as_pair) in
      let first = registered-at regs i p p inside (is ∙ ap (λ (l : List (List ℕ × ℕ)). get_or l i p) are) in
      subst (λ (l : List Registration). Delivering clerk committed told old site l after now mid) first so
    where
      as_pair : Registration → List ℕ × ℕ
      as_pair r = (r.resource, r.phases)

  -- what the one at hand needs of now
  pub delivery-hears : (clerk : ClerkView) (committed : Bool) (told : Compensators) (old : Vec Notice Global) (site : S) (r : Registration) (left : List Registration) (after : Compensators) (now : Vec Notice Global) (mid : S)
      → Delivering clerk committed told old site (r ∷ left) after now mid → Hears 1 (count_of clerk r) r.resource after
  delivery-hears clerk committed told old site r left after now mid so = All-head (λ (x : Registration). Hears 1 (count_of clerk x) x.resource after) r left so.forgets

  pub delivery-room : (clerk : ClerkView) (committed : Bool) (told : Compensators) (old : Vec Notice Global) (site : S) (r : Registration) (left : List Registration) (after : Compensators) (now : Vec Notice Global) (mid : S)
      → Delivering clerk committed told old site (r ∷ left) after now mid → vec_len now + (count_of clerk r + 2) ≤ vec_capacity now
  delivery-room clerk committed told old site r left after now mid so = omega (arith, so.room, sum_by-cons (calls_of clerk) r left)
