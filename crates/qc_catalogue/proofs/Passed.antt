-- What holds where a walk has passed.
use Rattle.std.proofs.Common.{◌≡◌, List, ℕ, [], ◌∷◌, ◌++◌, Bool, true, false, Option, Some, None, Ok, Err, refl, inl, inr, arith}
use Rattle.std.specs.Prelude.{unwrap_or}
use Rattle.std.specs.List.{list_all, list_any}
use Rattle.std.specs.Str.{bytes_eq}
use Rattle.std.proofs.lemmas.Bool.{and_parts, cases_Bool}
use Rattle.toml.specs.Data.{Members, no_members, member, as_table}
use Rattle.qc_catalogue.specs.declared.error.CatalogueError.{CatalogueError}
use Rattle.qc_catalogue.specs.declared.error.CatalogueError.TheVariants.{BadField}
use Rattle.qc_catalogue.specs.Findings.{Finding, broken, named, walked, with_id, rule, under, found_in_each, each, all_keys, in_table, entry, are_names, has_count, in_names}
use Rattle.qc_catalogue.specs.Rows.{members_of}
use Rattle.qc_catalogue.proofs.Findings.{Met, the_walk}

-- a walk over these findings has no refusal, behind some that came before
pub record Passed (found : List Finding) : Type 0 where
  pub before : Met
  pub after : Met
  pub clean : walked before found ≡ Ok after

not_passed : (e : CatalogueError) (met : Met) → Err e ≡ the_walk met → ⊥
not_passed e met h = grind arith

split : (met after : Met) (xs ys : List Finding) → walked met (xs ++ ys) ≡ Ok after → (mid : Met) × (walked met xs ≡ Ok mid) × (walked mid ys ≡ Ok after)
split met after [] ys h = (met, refl, h)
split met after (broken e ∷ xs) ys h = absurd (not_passed e after h)
split met after (named path id ∷ xs) ys h =
    elim (cases_Bool (list_any (bytes_eq id) met)) [
      | inl seen ↦ absurd (not_passed (BadField path) after (rw seen at h))
      | inr new ↦ rw new (split (with_id id met) after xs ys (rw new at h))
    ]

pub passed_parts : (xs ys : List Finding) → Passed (xs ++ ys) → Passed xs × Passed ys
passed_parts xs ys p =
    let (mid, first, second) = split p.before p.after xs ys p.clean in
    (record { before = p.before; after = mid; clean = first }, record { before = mid; after = p.after; clean = second })

pub not_broken : (e : CatalogueError) (rest : List Finding) → Passed (broken e ∷ rest) → ⊥
not_broken e rest p = not_passed e p.after p.clean

pub passed_rule : (b : Bool) (e : CatalogueError) → Passed (rule b e) → b ≡ true
passed_rule true e p = refl
passed_rule false e p = absurd (not_broken e [] p)

-- a table that has to be there is there
pub passed_table : (inside : List ℕ → Members → List Finding) (path : List ℕ) (o : Option Members) → Passed (in_table inside path o) → (ms : Members) × (o ≡ Some ms) × Passed (inside path ms)
passed_table inside path None p = absurd (not_broken (BadField path) [] p)
passed_table inside path (Some ms) p = (ms, refl, p)

-- entries, each of which is passed

passed_entry : {A : Type 0} (from : List ℕ → Members → A) (good : A → Bool) (inside : List ℕ → List ℕ → Members → List Finding) (path key : List ℕ) (o : Option Members)
    → ((p : List ℕ) (ms : Members) → Passed (inside key p ms) → good (from key ms) ≡ true) → Passed (in_table (inside key) (under path key) o) → good (from key (unwrap_or o no_members)) ≡ true
passed_entry from good inside path key None holds p = absurd (not_broken (BadField (under path key)) [] p)
passed_entry from good inside path key (Some ms) holds p = holds (under path key) ms p

passed_each : {A : Type 0} (from : List ℕ → Members → A) (good : A → Bool) (test : List ℕ → Bool) (inside : List ℕ → List ℕ → Members → List Finding) (path : List ℕ)
    → ((key p : List ℕ) (ms : Members) → test key ≡ true → Passed (inside key p ms) → good (from key ms) ≡ true)
    → (ms : Members) → all_keys test ms ≡ true → Passed (found_in_each (entry inside path) ms) → list_all good (each (λ key d. from key (members_of d)) ms) ≡ true
passed_each from good test inside path holds no_members keys p = refl
passed_each from good test inside path holds (member key d ms) keys p =
    let (is_key, more) = and_parts (test key) (all_keys test ms) keys in
    let (here, rest) = passed_parts (entry inside path key d) (found_in_each (entry inside path) ms) p in
    let first : good (from key (members_of d)) ≡ true = passed_entry from good inside path key (as_table d) (λ q inner. holds key q inner is_key) here in
    rw first (passed_each from good test inside path holds ms more rest)

pub passed_names : {A : Type 0} (from : List ℕ → Members → A) (good : A → Bool) (test : List ℕ → Bool) (least most : ℕ) (inside : List ℕ → List ℕ → Members → List Finding) (path : List ℕ) (o : Option Members)
    → ((key p : List ℕ) (ms : Members) → test key ≡ true → Passed (inside key p ms) → good (from key ms) ≡ true)
    → Passed (in_table (in_names test least most inside) path o) → list_all good (each (λ key d. from key (members_of d)) (unwrap_or o no_members)) ≡ true
passed_names from good test least most inside path None holds p = absurd (not_broken (BadField path) [] p)
passed_names from good test least most inside path (Some ms) holds p =
    elim (cases_Bool (are_names test least most ms)) [
      | inl are ↦ passed_each from good test inside path holds ms (and_parts (has_count least most ms) (all_keys test ms) are).1 (rw are at p)
      | inr others ↦ absurd (not_broken (BadField path) [] (rw others at p))
    ]
