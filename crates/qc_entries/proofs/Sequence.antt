-- Two values spelled one behind the other, and a value that narrower limits refuse.
use Rattle.std.proofs.Common.{◌≡◌, ℕ, List, ◌++◌, Bool, true, ◌&&◌, sym, ◌∙◌, ap, subst, append_assoc, Option, None}
use Rattle.std.proofs.lemmas.Bool.{and_parts}
use Rattle.qc_base.specs.Spelling.{Begins, NoneBegins, Reads, IsPrefixFree}

abbrev pub both : {A B : Type 0} → (A → Bool) → (B → Bool) → A × B → Bool
both within within' p = within p.0 && within' p.1

abbrev pub pair : {A B : Type 0} → (A → List ℕ) → (B → List ℕ) → A × B → List ℕ
pair spelled spelled' p = spelled p.0 ++ spelled' p.1

module _ {A B : Type 0} (within : A → Bool) (spelled : A → List ℕ) (within' : B → Bool) (spelled' : B → List ℕ) where
  -- where the first isn't there
  pub pair_none : (old : List ℕ) → NoneBegins within spelled old → NoneBegins (both within within') (pair spelled spelled') old
  pair_none old none value left limits e = none value.0 (spelled' value.1 ++ left) (and_parts (within value.0) (within' value.1) limits).0 (e ∙ append_assoc (spelled value.0) (spelled' value.1) left)

  -- where the second isn't there
  pub pair_none_behind : IsPrefixFree within spelled → (old mid : List ℕ) (a : A) → Begins within spelled old a mid → NoneBegins within' spelled' mid → NoneBegins (both within within') (pair spelled spelled') old
  pair_none_behind free old mid a first none value left limits e =
      let parts = and_parts (within value.0) (within' value.1) limits in
      let same = free a value.0 mid (spelled' value.1 ++ left) first.limits parts.0 (sym first.is ∙ e ∙ append_assoc (spelled value.0) (spelled' value.1) left) in
      none value.1 left parts.1 same.1

pub narrower_none : {A : Type 0} (within narrow : A → Bool) (spelled : A → List ℕ) → IsPrefixFree within spelled → ((a : A) → narrow a ≡ true → within a ≡ true) → (old mid : List ℕ) (a : A) → Begins within spelled old a mid → (narrow a ≡ true → ⊥) → NoneBegins narrow spelled old
narrower_none within narrow spelled free wider old mid a first refused value left limits e =
    let same = (free a value mid left first.limits (wider value limits) (sym first.is ∙ e)).0 in
    refused (ap narrow same ∙ limits)

pub reads_none : {A : Type 0} (within : A → Bool) (spelled : A → List ℕ) (old new : List ℕ) (found : Option A) → found ≡ None → NoneBegins within spelled old → Reads within spelled old new found
reads_none {A} within spelled old new found is none = subst (λ (o : Option A). Reads within spelled old new o) (sym is) none
