-- How a compensator goes on over the records of a phase.
use Rattle.std.proofs.Common.{◌≡◌, ◌∙◌, ℕ, ◌+◌, ◌-◌, List, [], ◌∷◌, ◌++◌, map, take, length, filter_map, Option, Result, Ok, Err, refl, sym, ap, subst, arith, append_assoc, append-nil, take_at, length-append}
use Rattle.std.proofs.lemmas.List.{map-append, length-map}
use Rattle.std.proofs.lemmas.List.Elements.{filter_map-append}
use Rattle.qc_base.specs.declared.log_line.LogRecord.{LogRecord}
use Rattle.qc_base.specs.declared.log_line.Heard.{Heard}
use Rattle.qc_site.specs.declared.site.Failed.{Failed}
use Rattle.qc_site.specs.declared.site.Site.{Ghosts}
use Rattle.qc_site.specs.Disk.{LeavesOnly}
use Rattle.crm_driver.specs.Puts.{RowPut, LeavesFront, MakesPuts}
use Rattle.crm_driver.specs.Compensators.{Rules, CompensatorState, hears, hears_record, hears_end}
use Rattle.crm_driver.specs.Phases.{Delivers}
use Rattle.crm_driver.proofs.Putting.{puts_on, among_more}

fewer : (n : ℕ) (xs ys : List Heard) → (n - length xs) - length ys ≡ n - length (xs ++ ys)
fewer n xs ys = omega (arith, length-append xs ys)

-- one hearing after another
pub hears-hears : (first more : List Heard) (before last : List LogRecord) (s : CompensatorState) → hears more last (hears first before s) ≡ hears (first ++ more) last s
hears-hears first more before last s = λ i. record s { heard = append_assoc s.heard first more i; delivered = last; spare = fewer s.spare first more i }

module _ (opening : Heard) (telling : LogRecord → Heard) where
  -- after the begin of a phase and these records
  abbrev pub so_far : List LogRecord → CompensatorState → CompensatorState
  so_far done s = hears (opening ∷ map telling done) done s

  entries_on : (done : List LogRecord) (r : LogRecord) → (opening ∷ map telling done) ++ telling r ∷ [] ≡ opening ∷ map telling (done ++ r ∷ [])
  entries_on done r = ap (λ (l : List Heard). opening ∷ l) (sym (map-append telling done (r ∷ [])))

  pub one_told : (done : List LogRecord) (r : LogRecord) (s : CompensatorState) → hears_record (telling r) r (so_far done s) ≡ so_far (done ++ r ∷ []) s
  one_told done r s = hears-hears (opening ∷ map telling done) (telling r ∷ []) done (done ++ r ∷ []) s ∙ ap (λ (l : List Heard). hears l (done ++ r ∷ []) s) (entries_on done r)

  -- the front of a phase up to some of its records
  front_heard : (closing : Heard) (told left : List LogRecord) → take (length told + 1) ((opening ∷ map telling (told ++ left)) ++ closing ∷ []) ≡ opening ∷ map telling told
  front_heard closing told left =
      ap (λ (l : List Heard). take (length told + 1) l) (ap (λ (l : List Heard). opening ∷ (l ++ closing ∷ [])) (map-append telling told left) ∙ ap (λ (l : List Heard). opening ∷ l) (append_assoc (map telling told) (map telling left) (closing ∷ [])))
      ∙ take_at (opening ∷ map telling told) (map telling left ++ closing ∷ []) (length told + 1) (omega (arith, length-map told telling))

  module _ {S : Type 0} (g : Ghosts S) (closing : Heard) (pick : Rules → LogRecord → Option RowPut) (old : CompensatorState) (site : S) where
    -- how far a phase has come
    pub record Underway (done : List LogRecord) (now : CompensatorState) (mid : S) : Type 0 where
      pub state : now ≡ so_far done old
      pub puts : MakesPuts g (filter_map (pick old.rules) done) (Ok (tt {0})) site mid

    -- what the next record puts, by the rules at first
    puts_of : {A : Type 0} (done : List LogRecord) (r : LogRecord) (now : CompensatorState) (result : Result A Failed) (mid after : S) → Underway done now mid → MakesPuts g (filter_map (pick now.rules) (r ∷ [])) result mid after → MakesPuts g (filter_map (pick old.rules) (r ∷ [])) result mid after
    puts_of done r now result mid after so then = subst (λ (x : Rules). MakesPuts g (filter_map (pick x) (r ∷ [])) result mid after) (ap (λ (s : CompensatorState). s.rules) so.state) then

    -- over those that were told
    puts_more : {A : Type 0} (done : List LogRecord) (r : LogRecord) (now : CompensatorState) (result : Result A Failed) (mid after : S) → Underway done now mid → MakesPuts g (filter_map (pick now.rules) (r ∷ [])) result mid after → MakesPuts g (filter_map (pick old.rules) (done ++ r ∷ [])) result site after
    puts_more {A = A} done r now result mid after so then =
        subst (λ (l : List RowPut). MakesPuts g l result site after) (sym (filter_map-append (pick old.rules) done (r ∷ [])))
        (puts_on g (filter_map (pick old.rules) done) (filter_map (pick old.rules) (r ∷ [])) (tt {0}) result site mid after so.puts (puts_of done r now result mid after so then))

    state_more : (done : List LogRecord) (r : LogRecord) (now new : CompensatorState) → now ≡ so_far done old → new ≡ hears_record (telling r) r now → new ≡ so_far (done ++ r ∷ []) old
    state_more done r now new state then = then ∙ ap (λ (s : CompensatorState). hears_record (telling r) r s) state ∙ one_told done r old

    -- a record more
    pub turn : (done : List LogRecord) (r : LogRecord) (now new : CompensatorState) (mid after : S) → Underway done now mid → new ≡ hears_record (telling r) r now → MakesPuts g {A = Unit {0}} (filter_map (pick now.rules) (r ∷ [])) (Ok (tt {0})) mid after → Underway (done ++ r ∷ []) new after
    turn done r now new mid after so told then = record { state = state_more done r now new so.state told; puts = puts_more done r now (Ok (tt {0})) mid after so then }

    -- the site failed at a record
    pub stopped : {A : Type 0} (records done rest : List LogRecord) (r : LogRecord) (e : Failed) (now new : CompensatorState) (mid after : S) → records ≡ (done ++ r ∷ []) ++ rest → Underway done now mid → new ≡ hears_record (telling r) r now → MakesPuts g {A = A} (filter_map (pick now.rules) (r ∷ [])) (Err e) mid after
        → Delivers g {A = A} (pick old.rules) ((opening ∷ map telling records) ++ closing ∷ []) records (Err e) old new site after
    stopped {A = A} records done rest r e now new mid after split so told then = record {
      told = done ++ r ∷ [];
      left = rest;
      split = split;
      all = search;
      whole = search;
      front = state_more done r now new so.state told ∙ ap (λ (l : List Heard). hears l (done ++ r ∷ []) old)
          (sym (front_heard closing (done ++ r ∷ []) rest) ∙ ap (λ (l : List LogRecord). take (length (done ++ r ∷ []) + 1) ((opening ∷ map telling l) ++ closing ∷ [])) (sym split));
      stopped = record { done = done; last = r; is = refl; mid = mid; before = so.puts; failed = puts_of done r now (Err e) mid after so then };
      puts = puts_more done r now (Err e) mid after so then;
    }

    -- the phase is over
    pub finished : (records : List LogRecord) (now new : CompensatorState) (mid : S) → Underway records now mid → new ≡ hears_end closing now
        → Delivers g {A = Unit {0}} (pick old.rules) ((opening ∷ map telling records) ++ closing ∷ []) records (Ok (tt {0})) old new site mid
    finished records now new mid so told = record {
      told = records;
      left = [];
      split = sym (append-nil records);
      all = refl;
      whole = told ∙ ap (λ (s : CompensatorState). hears_end closing s) so.state ∙ hears-hears (opening ∷ map telling records) (closing ∷ []) records records old;
      front = search;
      stopped = search;
      puts = so.puts;
    }

-- what a phase that was delivered did to the site, whole, and at each moment
module _ {S : Type 0} (g : Ghosts S) (put : LogRecord → Option RowPut) (heard : List Heard) (records : List LogRecord) (old new : CompensatorState) (site after : S) where
  pub delivered_whole : {A : Type 0} (a : A) → Delivers g put heard records (Ok a) old new site after → MakesPuts g (filter_map put records) (Ok a) site after
  delivered_whole a d = subst (λ (l : List LogRecord). MakesPuts g (filter_map put l) (Ok a) site after) (sym (d.split ∙ ap (λ (l : List LogRecord). d.told ++ l) d.all ∙ append-nil d.told)) d.puts

  pub delivered_moments : {A : Type 0} (result : Result A Failed) → Delivers g put heard records result old new site after → g.told → LeavesOnly g.moment g.left_since site after (LeavesFront (g.shown site).rows (filter_map put records) (g.may_leave site))
  delivered_moments result d told =
      subst (λ (l : List RowPut). LeavesOnly g.moment g.left_since site after (LeavesFront (g.shown site).rows l (g.may_leave site)))
      (sym (ap (λ (l : List LogRecord). filter_map put l) d.split ∙ filter_map-append put d.told d.left))
      (among_more g (filter_map put d.told) (filter_map put d.left) result site after d.puts told)
