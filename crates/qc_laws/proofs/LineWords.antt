-- What lines say of an attempt, where some stand behind others, and where they are those of a change.
use Rattle.std.proofs.Common.{◌≡◌, ◌∙◌, ℕ, ◌==◌, List, [], ◌∷◌, ◌++◌, Bool, true, false, not, cond, ◌&&◌, ◌||◌, filter_map, refl, ap, Some, None, eq-eqb}
use Rattle.std.specs.List.{list_any, list_all, cons_option}
use Rattle.std.proofs.lemmas.Bool.{and_from, and_parts, or_left, or_right}
use Rattle.std.proofs.lemmas.List.Folds.{list_any-append}
use Rattle.std.proofs.lemmas.List.Elements.{filter_map-append}
use Rattle.qc_base.specs.declared.log_line.LogLine.{LogLine}
use Rattle.qc_base.specs.declared.log_line.LogLine.TheVariants.{Opened, Registered, Written}
use Rattle.qc_base.specs.declared.log_line.LogRecord.{LogRecord}
use Rattle.qc_base.specs.LogLines.{Entry, Registration, opened_by, registered_by, written_by, forgets_entry, is_done_line, is_opened, is_done, registrations, entries}
use Rattle.qc_catalogue.specs.declared.catalogue.Resource.{Resource}
use Rattle.qc_machine.specs.OwnLines.{is_own}
use Rattle.qc_laws.specs.Logged.{opens_as}

pub or-false : (b : Bool) → (b || false) ≡ b
or-false true = refl
or-false false = refl

pub itself : (n : ℕ) → (n == n) ≡ true
itself n = eq-eqb n n refl

pub opened-append : (xs ys : List LogLine) (n : ℕ) → is_opened (xs ++ ys) n ≡ (is_opened xs n || is_opened ys n)
opened-append xs ys n = ap (list_any (λ k. k == n)) (filter_map-append opened_by xs ys) ∙ list_any-append (λ k. k == n) (filter_map opened_by xs) (filter_map opened_by ys)

pub done-append : (xs ys : List LogLine) (n : ℕ) → is_done (xs ++ ys) n ≡ (is_done xs n || is_done ys n)
done-append xs ys n = list_any-append (is_done_line n) xs ys

pub entries-append : (xs ys : List LogLine) (n : ℕ) → entries (xs ++ ys) n ≡ entries xs n ++ entries ys n
entries-append xs ys n = filter_map-append (written_by n) xs ys

pub registrations-append : (xs ys : List LogLine) (n : ℕ) → registrations (xs ++ ys) n ≡ registrations xs n ++ registrations ys n
registrations-append xs ys n = filter_map-append (registered_by n) xs ys

pub own-append : (n : ℕ) (xs ys : List LogLine) → list_all (is_own n) xs ≡ true → list_all (is_own n) ys ≡ true → list_all (is_own n) (xs ++ ys) ≡ true
own-append n [] ys e f = f
own-append n (x ∷ xs) ys e f = let parts = and_parts (is_own n x) _ e in and_from (is_own n x) _ parts.0 (own-append n xs ys parts.1 f)

-- the lines of a change, by whether its resource is registered and the attempt opened

abbrev pub lines_by : Bool → Bool → ℕ → ℕ → Resource → LogRecord → List LogLine
lines_by registered opened n id r rec =
    cond registered [] (cond opened [] (Opened n id ∷ []) ++ Registered n r.name r.phases ∷ []) ++ Written n r.name rec ∷ []

module _ (n id : ℕ) (r : Resource) (rec : LogRecord) where
  pub change-opened : (b a : Bool) → is_opened (lines_by b a n id r rec) n ≡ (not b && not a)
  change-opened true a = refl
  change-opened false true = refl
  change-opened false false = or_left (n == n) _ (itself n)

  pub change-undone : (b a : Bool) → is_done (lines_by b a n id r rec) n ≡ false
  change-undone true a = refl
  change-undone false true = refl
  change-undone false false = refl

  pub change-ids : (b a : Bool) → list_all (opens_as n id) (lines_by b a n id r rec) ≡ true
  change-ids true a = refl
  change-ids false true = refl
  change-ids false false = and_from (not (n == n) || (id == id)) true (or_right (not (n == n)) _ (itself id)) refl

  pub change-entries : (b a : Bool) → entries (lines_by b a n id r rec) n ≡ record { resource = r.name; entry = rec } ∷ []
  change-entries b a = by b a
    where
      one : cons_option {X = Entry} (cond (n == n) (Some (record { resource = r.name; entry = rec })) None) [] ≡ record { resource = r.name; entry = rec } ∷ []
      one = ap (λ t. cons_option {X = Entry} (cond t (Some (record { resource = r.name; entry = rec })) None) []) (itself n)

      by : (b a : Bool) → entries (lines_by b a n id r rec) n ≡ record { resource = r.name; entry = rec } ∷ []
      by true a = one
      by false true = one
      by false false = one

  pub change-forgets : (resource : List ℕ) (k : ℕ) (b a : Bool) → list_any (forgets_entry n resource k) (lines_by b a n id r rec) ≡ false
  change-forgets resource k true a = refl
  change-forgets resource k false true = refl
  change-forgets resource k false false = refl

  pub change-registers : (b a : Bool) → registrations (lines_by b a n id r rec) n ≡ cond b [] (record { resource = r.name; phases = r.phases } ∷ [])
  change-registers b a = by b a
    where
      one : cons_option {X = Registration} (cond (n == n) (Some (record { resource = r.name; phases = r.phases })) None) [] ≡ record { resource = r.name; phases = r.phases } ∷ []
      one = ap (λ t. cons_option {X = Registration} (cond t (Some (record { resource = r.name; phases = r.phases })) None) []) (itself n)

      by : (b a : Bool) → registrations (lines_by b a n id r rec) n ≡ cond b [] (record { resource = r.name; phases = r.phases } ∷ [])
      by true a = refl
      by false true = one
      by false false = one

  pub change-own : (b a : Bool) → list_all (is_own n) (lines_by b a n id r rec) ≡ true
  change-own true a = and_from (n == n) true (itself n) refl
  change-own false true = and_from (n == n) _ (itself n) (and_from (n == n) true (itself n) refl)
  change-own false false = and_from (n == n) _ (itself n) (and_from (n == n) _ (itself n) (and_from (n == n) true (itself n) refl))
