-- The compensators and the notices that were made for an attempt are enough for two phases of its resources.
use Rattle.std.proofs.Common.{◌≡◌, ◌∙◌, ◌≤◌, ◌+◌, ◌*◌, ◌&&◌, ◌||◌, ℕ, List, [], ◌∷◌, length, Bool, true, false, cond, bytes_eq, Option, Some, None, option_map, is_some, Vec, Global, vec_capacity, refl, sym, ap, arith, All}
use Rattle.std.specs.Prelude.{find, sum_by}
use Rattle.std.specs.List.{cons_option, list_all, list_any}
use Rattle.std.proofs.lemmas.Bool.{and_parts, false≢true}
use Rattle.std.proofs.lemmas.List.Elements.{All-nil, All-cons}
use Rattle.std.proofs.lemmas.List.Sums.{sum_by-cons}
use Rattle.qc_base.specs.declared.log_line.Notice.{Notice}
use Rattle.qc_base.specs.LogLines.{Registration}
use Rattle.qc_catalogue.specs.declared.catalogue.Catalogue.{Catalogue}
use Rattle.qc_catalogue.specs.declared.catalogue.Resource.{Resource}
use Rattle.qc_catalogue.specs.Lookup.{resource_named}
use Rattle.crm_clerk.specs.Clerk.{ClerkView}
use Rattle.crm_driver.specs.Compensators.{CompensatorState}
use Rattle.qc_underway.specs.declared.compensators.Compensators.{Compensators}
use Rattle.qc_underway.specs.Compensators.{CanHear, Hears, Kept, all_records, calls_of, count_of, forget_room, is_kept_for, kept_for, kept_in, new_kept, registered_by, state_named}
use Rattle.qc_underway.proofs.Kept.{bytes-same, name-found}

-- whether a name is a resource's, and one of these
abbrev pub is_made : Catalogue → List (List ℕ) → List ℕ → Bool
is_made c names name = list_any (λ (n : List ℕ). bytes_eq n name) names && is_some (resource_named name c.resources)

-- one was made, with room for two phases
pub record IsMade (c : Catalogue) (names : List (List ℕ)) (records : ℕ) (name : List ℕ) : Type 0 where
  pub state : CompensatorState
  pub is : state_named name (kept_for c names records) ≡ Some state
  pub spare : state.spare ≡ 2 * (records + 2)

pub made-there : (c : Catalogue) (names : List (List ℕ)) (records : ℕ) (name : List ℕ) → list_any (λ (n : List ℕ). bytes_eq n name) names ≡ true → is_some (resource_named name c.resources) ≡ true → IsMade c names records name
made-there c [] records name among there = absurd (false≢true among)
made-there c (n ∷ names) records name among there = by (bytes_eq n name) refl among (λ further. made-there c names records name further there) (resource_named n c.resources) refl
  where
    calls : ℕ
    calls = 2 * (records + 2)

    rest : List Kept
    rest = kept_for c names records

    by : (b : Bool) → bytes_eq n name ≡ b → (b || list_any (λ (m : List ℕ). bytes_eq m name) names) ≡ true → (list_any (λ (m : List ℕ). bytes_eq m name) names ≡ true → IsMade c names records name)
        → (o : Option Resource) → resource_named n c.resources ≡ o → IsMade c (n ∷ names) records name
    by true own among further None none =
        let none_there : is_some (resource_named name c.resources) ≡ false = ap (λ (x : List ℕ). is_some (resource_named x c.resources)) (sym (bytes-same n name own)) ∙ ap (λ (o : Option Resource). is_some o) none in
        absurd (false≢true (sym none_there ∙ there))
    by true own among further (Some r) is =
        let same : bytes_eq r.name name ≡ true = ap (λ (x : List ℕ). bytes_eq x name) (name-found n c.resources r is) ∙ own in
        record {
          state = (new_kept calls r).state;
          is = ap (λ (o : Option Resource). state_named name (cons_option (option_map (new_kept calls) o) rest)) is
              ∙ ap (λ (b : Bool). option_map (λ (k : Kept). k.state) (cond b (Some (new_kept calls r)) (find (is_kept_for name) rest))) same;
          spare = refl;
        }
    by false apart among further None none =
        let one = further among in
        record { state = one.state; is = ap (λ (o : Option Resource). state_named name (cons_option (option_map (new_kept calls) o) rest)) none ∙ one.is; spare = one.spare }
    by false apart among further (Some r) is =
        let one = further among in
        let other : bytes_eq r.name name ≡ false = ap (λ (x : List ℕ). bytes_eq x name) (name-found n c.resources r is) ∙ apart in
        record {
          state = one.state;
          is = ap (λ (o : Option Resource). state_named name (cons_option (option_map (new_kept calls) o) rest)) is
              ∙ ap (λ (b : Bool). option_map (λ (k : Kept). k.state) (cond b (Some (new_kept calls r)) (find (is_kept_for name) rest))) other ∙ one.is;
          spare = one.spare;
        }

calls-counted : (clerk : ClerkView) (rs : List Registration) → sum_by (calls_of clerk) rs ≡ sum_by (count_of clerk) rs + 2 * length rs
calls-counted clerk [] = refl
calls-counted clerk (r ∷ rs) = omega (arith, calls-counted clerk rs, sum_by-cons (calls_of clerk) r rs, sum_by-cons (count_of clerk) r rs)

all-hear : (c : Catalogue) (names : List (List ℕ)) (records : ℕ) (told : Compensators) (clerk : ClerkView) (rs : List Registration) → kept_in told ≡ kept_for c names records → records ≤ forget_room told
    → sum_by (count_of clerk) rs ≤ records → list_all (λ (r : Registration). is_made c names r.resource) rs ≡ true → All (λ (r : Registration). Hears 2 (count_of clerk r) r.resource told) rs
all-hear c names records told clerk [] kept room few made = All-nil (λ (r : Registration). Hears 2 (count_of clerk r) r.resource told)
all-hear c names records told clerk (r ∷ rs) kept room few made =
    let parts = and_parts (is_made c names r.resource) (list_all (λ (x : Registration). is_made c names x.resource) rs) made in
    let own = and_parts (list_any (λ (n : List ℕ). bytes_eq n r.resource) names) (is_some (resource_named r.resource c.resources)) parts.0 in
    let one = made-there c names records r.resource own.0 own.1 in
    let sums = sum_by-cons (count_of clerk) r rs in
    All-cons (λ (x : Registration). Hears 2 (count_of clerk x) x.resource told) r rs
    (record {
      state = one.state;
      is = ap (state_named r.resource) kept ∙ one.is;
      calls = omega (arith, one.spare, few, sums);
      forgets = omega (arith, room, few, sums);
    })
    (all-hear c names records told clerk rs kept room (omega (arith, few, sums)) parts.1)

-- enough for so many resources with so many records together
pub can-hear-made : (c : Catalogue) (names : List (List ℕ)) (records resources : ℕ) (told : Compensators) (notices : Vec Notice Global) (clerk : ClerkView) → kept_in told ≡ kept_for c names records → records ≤ forget_room told
    → notices.items ≡ [] → 2 * (records + 2 * resources) ≤ vec_capacity notices → all_records clerk ≤ records → length (registered_by clerk) ≤ resources
    → list_all (λ (r : Registration). is_made c names r.resource) (registered_by clerk) ≡ true → CanHear 2 clerk told notices
can-hear-made c names records resources told notices clerk kept forgets none room few those made = record {
  each = all-hear c names records told clerk (registered_by clerk) kept forgets few made;
  room = omega (arith, room, few, those, calls-counted clerk (registered_by clerk), notices.ok.0, ap length none);
}
