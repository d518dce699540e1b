-- An open gate has a group.
use Rattle.std.proofs.Common.{◌≡◌, ◌≢◌, ℕ, zero, ◌≤◌, List, [], ◌∷◌, ◌++◌, length, take, drop, sym, ◌∙◌, ap, arith, append_assoc, take-append-drop}
use Rattle.std.proofs.lemmas.List.{length-drop, length-take-le}
use Rattle.qc_frame.specs.Frame.{groups_past, group, size_bytes}
use Rattle.qc_frame.specs.Found.{OpenFor}
use Rattle.qc_frame.proofs.Groups.{groups_group}

pub some_group : (size : ℕ) (bytes : List ℕ) → OpenFor size bytes → groups_past zero bytes ≢ []
some_group size bytes found none =
    let p = take size found.more in
    let d = drop size found.more in
    let long : length p ≡ size = length-take-le size found.more (omega (arith, found.inside)) in
    let shape : bytes ≡ group p ++ d = found.is ∙ ap (λ (l : List ℕ). 1 ∷ (size_bytes size ++ l)) (sym (take-append-drop size found.more)) ∙ ap (λ n. 1 ∷ (size_bytes n ++ (p ++ d))) (sym long) ∙ ap (λ (l : List ℕ). 1 ∷ l) (sym (append_assoc (size_bytes (length p)) p d)) in
    let there : groups_past zero bytes ≡ p ∷ groups_past zero d = ap (λ (l : List ℕ). groups_past zero l) shape ∙ groups_group p d (omega (arith, long, found.some), omega (arith, long, found.most)) (omega (arith, length-drop size found.more, found.inside)) in
    not_nil p (groups_past zero d) (sym there ∙ none)
  where
    not_nil : (p : List ℕ) (rest : List (List ℕ)) → p ∷ rest ≡ [] → ⊥
    not_nil p rest e = cc
