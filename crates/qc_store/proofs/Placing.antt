-- Loops over messages: one that changes the places of some, and one that looks for the first that passes.
use Rattle.std.proofs.Common.{◌≡◌, ◌∙◌, ℕ, ◌+◌, ◌<◌, Bool, true, false, List, [], ◌∷◌, ◌++◌, length, get_or, set, map, take, drop, find, None, Some, sym, ap, if◌then◌else◌}
use Rattle.std.proofs.lemmas.List.{take_more, get_or_default, take-append-drop}
use Rattle.std.proofs.lemmas.List.Edits.{map_over_more}
use Rattle.std.proofs.lemmas.List.Folds.{find-append}
use Rattle.std.specs.Option.{option_or}
use Rattle.qc_base.specs.declared.fact.Place.{Place}
use Rattle.qc_base.specs.declared.message.Message.{Message}

module _ (test : Message → Bool) (to : Message → Place) where
  abbrev pub place_of : Message → Message
  place_of m = if test m then record m { place = to m } else m

  abbrev pub HasPlaced : List Message → List Message → ℕ → Type 0
  HasPlaced xs ys i = ys ≡ map place_of (take i xs) ++ drop i xs

  module _ (xs ys : List Message) (i : ℕ) (d : Message) (lt : i < length xs) (inside : i < length ys) (done : HasPlaced xs ys i) where
    written : HasPlaced xs (set ys i (place_of (get_or ys i d))) (i + 1)
    written = map_over_more place_of xs ys i (get_or ys i d) lt done (get_or_default ys i d (get_or ys i d) inside)

    pub placed_here : (place : Place) → place ≡ to (get_or ys i d) → test (get_or ys i d) ≡ true → HasPlaced xs (set ys i (record (get_or ys i d) { place = place })) (i + 1)
    placed_here place e t =
        let x = get_or ys i d in
        ap (λ (p : Place). set ys i (record x { place = p })) e ∙ sym (ap (λ (b : Bool). set ys i (if b then record x { place = to x } else x)) t) ∙ written

    pub passed_here : test (get_or ys i d) ≡ false → HasPlaced xs (set ys i (get_or ys i d)) (i + 1)
    passed_here f =
        let x = get_or ys i d in
        sym (ap (λ (b : Bool). set ys i (if b then record x { place = to x } else x)) f) ∙ written

module _ {A : Type 0} (test : A → Bool) (xs : List A) (i : ℕ) (x : A) (lt : i < length xs) (is : x ≡ get_or xs i x) (none : find test (take i xs) ≡ None) where
  so_far : find test (take (i + 1) xs) ≡ find test (x ∷ [])
  so_far = ap (find test) (take_more xs i x lt ∙ ap (λ y. take i xs ++ y ∷ []) (sym is)) ∙ find-append test (take i xs) (x ∷ []) ∙ ap (λ o. option_or o (find test (x ∷ []))) none

  pub not_yet : test x ≡ false → find test (take (i + 1) xs) ≡ None
  not_yet f = so_far ∙ ap (λ (b : Bool). if b then Some x else None) f

  pub found_here : test x ≡ true → find test xs ≡ Some x
  found_here t =
      ap (find test) (sym (take-append-drop (i + 1) xs)) ∙ find-append test (take (i + 1) xs) (drop (i + 1) xs) ∙ ap (λ o. option_or o (find test (drop (i + 1) xs))) (so_far ∙ ap (λ (b : Bool). if b then Some x else None) t)
