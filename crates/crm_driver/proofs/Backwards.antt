-- A list from its end, one item more.
use Rattle.std.proofs.Common.{◌≡◌, ◌∙◌, ℕ, ◌+◌, ◌-◌, ◌<◌, ◌≤◌, List, [], ◌∷◌, ◌++◌, length, take, drop, reverse, get_or, sym, ap, arith, take-append-drop}
use Rattle.std.proofs.lemmas.List.{at_drop_more, reverse-append}

module _ {X : Type 0} (xs : List X) (n : ℕ) (x : X) (some : 0 < n) (inside : n ≤ length xs) (is : get_or xs (n - 1) x ≡ x) where
  here : drop (n - 1) xs ≡ x ∷ drop n xs
  here =
      let next : n - 1 + 1 ≡ n = omega (arith, some) in
      at_drop_more (λ (l : List X). l) xs (n - 1) x (omega (arith, some, inside)) ∙ ap (λ (e : X). e ∷ drop (n - 1 + 1) xs) is ∙ ap (λ (m : ℕ). x ∷ drop m xs) next

  pub one_back : reverse (drop (n - 1) xs) ≡ reverse (drop n xs) ++ x ∷ []
  one_back = ap (λ (l : List X). reverse l) here ∙ reverse-append (x ∷ []) (drop n xs)

  pub back_split : reverse xs ≡ (reverse (drop n xs) ++ x ∷ []) ++ reverse (take (n - 1) xs)
  back_split =
      ap (λ (l : List X). reverse l) (sym (take-append-drop (n - 1) xs)) ∙ reverse-append (take (n - 1) xs) (drop (n - 1) xs)
      ∙ ap (λ (l : List X). l ++ reverse (take (n - 1) xs)) one_back
