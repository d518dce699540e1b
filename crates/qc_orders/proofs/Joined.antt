-- Pieces with a separator between each two.
use Rattle.std.proofs.Common.{◌≡◌, ℕ, List, [], ◌∷◌, ◌++◌, map, flat_map, ap, sym, ◌∙◌, append_assoc}
use Rattle.std.proofs.lemmas.List.{append-nil}
use Rattle.qc_protocol.specs.Texts.{join_with}

-- a first piece, and the others each behind a separator
pub join_with-cons : {A : Type 0} (by : List ℕ) (text : A → List ℕ) (x : A) (xs : List A)
    → join_with by (map text (x ∷ xs)) ≡ text x ++ flat_map (λ y. by ++ text y) xs
join_with-cons by text x [] = sym (append-nil (text x))
join_with-cons by text x (y ∷ ys) =
    append_assoc (text x) by (join_with by (map text (y ∷ ys)))
    ∙ ap (λ rest. text x ++ (by ++ rest)) (join_with-cons by text y ys)
    ∙ ap (λ rest. text x ++ rest) (sym (append_assoc by (text y) (flat_map (λ z. by ++ text z) ys)))

pub joined_first : {A : Type 0} (by : List ℕ) (text : A → List ℕ) (xs : List A) (x : A) (rest : List A) → xs ≡ x ∷ rest
    → join_with by (map text xs) ≡ text x ++ flat_map (λ y. by ++ text y) rest
joined_first by text xs x rest is = ap (λ ys. join_with by (map text ys)) is ∙ join_with-cons by text x rest
