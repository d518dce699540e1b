-- Bytes that are exactly one spelling.
use Rattle.std.proofs.Common.{◌≡◌, ◌≢◌, ◌≤◌, ℕ, List, [], ◌++◌, Bool, true, length, take, drop, take-append-drop, sym, ◌∙◌, ap, arith}
use Rattle.std.proofs.lemmas.List.{append-nil, length-drop}
use Rattle.qc_base.specs.Spelling.{IsPrefixFree, NoneBegins, Spells}

module _ {A : Type 0} (within : A → Bool) (spelled : A → List ℕ) (bytes : List ℕ) where
  -- bytes that begin with no spelling are none
  pub not_begun : NoneBegins within spelled bytes → (value : A) → within value ≡ true → bytes ≢ spelled value
  not_begun none value limits is = none value [] limits (is ∙ sym (append-nil (spelled value)))

  -- nor are bytes that begin with a shorter one
  pub not_whole : IsPrefixFree within spelled → (size : ℕ) (read : A) → size ≤ length bytes → size ≢ length bytes → Spells within spelled (take size bytes) read → (value : A) → within value ≡ true → bytes ≢ spelled value
  not_whole free size read inside other spells value limits is =
      let begins : spelled read ++ drop size bytes ≡ spelled value ++ [] = ap (λ (l : List ℕ). l ++ drop size bytes) (sym spells.is) ∙ take-append-drop size bytes ∙ is ∙ sym (append-nil (spelled value)) in
      let left : drop size bytes ≡ [] = (free read value (drop size bytes) [] spells.limits limits begins).1 in
      other (omega (arith, inside, ap length left, length-drop size bytes))
