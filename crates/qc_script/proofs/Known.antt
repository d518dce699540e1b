-- Names that are known.
use Rattle.std.proofs.Common.{◌≡◌, ◌∙◌, ℕ, ◌<◌, List, length, get_or, true, Option, Some, None, sym, ap}
use Rattle.std.specs.List.{list_any}
use Rattle.std.specs.Str.{bytes_eq}
use Rattle.std.proofs.lemmas.Bool.{cond-true}
use Rattle.std.proofs.lemmas.List.Folds.{list_any_at}
use Rattle.std.proofs.lemmas.Slice.Eq.{bytes_eq-Decides}
use Rattle.qc_script.specs.Terms.{known}

pub known_at : (names : List (List ℕ)) (word name : List ℕ) (i : ℕ) → i < length names → get_or names i name ≡ name → bytes_eq name word ≡ true → Some name ≡ known names word
known_at names word name i lt there same =
    let found : list_any (λ (n : List ℕ). bytes_eq n word) names ≡ true = list_any_at (λ (n : List ℕ). bytes_eq n word) names i name lt (ap (λ (n : List ℕ). bytes_eq n word) there ∙ same) in
    ap (λ (n : List ℕ). Some n) ((bytes_eq-Decides name word).0 same) ∙ sym (cond-true (list_any (λ (n : List ℕ). bytes_eq n word) names) (Some word) None found)
