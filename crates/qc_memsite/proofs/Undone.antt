-- A step more: undone, done again, and done again with its bytes turned round. What undoes a write and a cut.
use Rattle.std.proofs.Common.{◌≡◌, ◌⊎◌, inl, inr, ℕ, ◌+◌, ◌-◌, ◌≤◌, ◌<◌, min, List, [], ◌∷◌, ◌++◌, length, take, drop, refl, sym, ◌∙◌, ap, arith, true, false, cond, Bool, length-append, append_assoc}
use Rattle.std.proofs.lemmas.Bool.{cases_lt}
use Rattle.std.proofs.lemmas.List.{take_all, take_at, drop_at, take-append-drop, length-drop, length-take-le, drop-drop}
use Rattle.qc_site.specs.Disk.{written}
use Rattle.qc_memsite.specs.declared.step.Step.{Step}
use Rattle.qc_memsite.specs.Edits.{edited, edit_turned, undone_by, undone, done_again, turned_by}

pub undone_push : (steps : List Step) (x : Step) (shown : List ℕ) → undone (steps ++ x ∷ []) shown ≡ undone steps (undone_by x shown)
undone_push [] x shown = refl
undone_push (y ∷ steps) x shown = ap (undone_by y) (undone_push steps x shown)

again_push : (steps : List Step) (x : Step) (shown : List ℕ) → done_again (steps ++ x ∷ []) shown ≡ edited x.edit (done_again steps shown)
again_push [] x shown = refl
again_push (y ∷ steps) x shown = again_push steps x (edited y.edit shown)

turned_push : (steps : List Step) (x : Step) (shown image : List ℕ) → turned_by (steps ++ x ∷ []) shown image ≡ edit_turned x.edit (done_again steps shown) (turned_by steps shown image)
turned_push [] x shown image = refl
turned_push (y ∷ steps) x shown image = turned_push steps x (edited y.edit shown) (edit_turned y.edit shown image)

-- a step more of a file that showed the old bytes and shows the new ones
module _ (steps now : List Step) (x : Step) (old new : List ℕ) (is : now ≡ steps ++ x ∷ []) (back : undone_by x new ≡ old) (again : done_again steps (undone steps old) ≡ old) where
  settled_same : undone now new ≡ undone steps old
  settled_same = ap (λ (l : List Step). undone l new) is ∙ undone_push steps x new ∙ ap (undone steps) back

  pub again_now : edited x.edit old ≡ new → done_again now (undone now new) ≡ new
  again_now done = (λ i. done_again (is i) (settled_same i)) ∙ again_push steps x (undone steps old) ∙ ap (edited x.edit) again ∙ done

  turned_now : turned_by now (undone now new) (undone now new) ≡ edit_turned x.edit old (turned_by steps (undone steps old) (undone steps old))
  turned_now = (λ i. turned_by (is i) (settled_same i) (settled_same i)) ∙ turned_push steps x (undone steps old) (undone steps old) ∙ ap (λ (l : List ℕ). edit_turned x.edit l (turned_by steps (undone steps old) (undone steps old))) again

  pub left_now : (next : List ℕ → List ℕ) → ((i : List ℕ) → edit_turned x.edit old i ≡ next i) → (flips : Bool) → cond flips (turned_by now (undone now new) (undone now new)) (undone now new) ≡ cond flips (next (cond flips (turned_by steps (undone steps old) (undone steps old)) (undone steps old))) (cond flips (turned_by steps (undone steps old) (undone steps old)) (undone steps old))
  left_now next turns true = turned_now ∙ turns (turned_by steps (undone steps old) (undone steps old))
  left_now next turns false = settled_same

-- a file that is behind these bytes, cut to its length
front_of : (old rest all : List ℕ) → all ≡ old ++ rest → take (length old) all ≡ old
front_of old rest all is = ap (λ (l : List ℕ). take (length old) l) is ∙ take_at old rest (length old) refl

module _ (old : List ℕ) (at : ℕ) (bytes : List ℕ) (le : at ≤ length old) where
  front : length (take at old) ≡ at
  front = length-take-le at old le

  new_front : take at (written old at bytes) ≡ take at old
  new_front = ap (λ (l : List ℕ). take at l) (append_assoc (take at old) bytes (drop (at + length bytes) old)) ∙ take_at (take at old) (bytes ++ drop (at + length bytes) old) at front

  -- what was there fits into the bytes that were written
  inside : length bytes ≤ length (drop at old) → (was : List ℕ) → was ≡ take (length bytes) (drop at old) → (take at old ++ was) ++ drop (at + length was) (written old at bytes) ≡ old
  inside fits was is =
      let same : length was ≡ length bytes = ap length is ∙ length-take-le (length bytes) (drop at old) fits in
      let rest : drop (at + length bytes) (written old at bytes) ≡ drop (at + length bytes) old = drop_at (take at old ++ bytes) (drop (at + length bytes) old) (at + length bytes) (omega (arith, front, length-append (take at old) bytes)) in
      ap (λ n. (take at old ++ was) ++ drop (at + n) (written old at bytes)) same
      ∙ ap (λ (l : List ℕ). (take at old ++ was) ++ l) rest
      ∙ ap (λ (l : List ℕ). (take at old ++ l) ++ drop (at + length bytes) old) is
      ∙ append_assoc (take at old) (take (length bytes) (drop at old)) (drop (at + length bytes) old)
      ∙ ap (λ (l : List ℕ). take at old ++ (take (length bytes) (drop at old) ++ l)) (sym (drop-drop (length bytes) at old))
      ∙ ap (λ (l : List ℕ). take at old ++ l) (take-append-drop (length bytes) (drop at old))
      ∙ take-append-drop at old

  beyond : length (drop at old) ≤ length bytes → (was : List ℕ) → was ≡ drop at old → take at old ++ was ≡ old
  beyond past was is = ap (λ (l : List ℕ). take at old ++ l) is ∙ take-append-drop at old

  -- what undoes a write
  pub write_undone : (count : ℕ) (was : List ℕ) → count ≡ min (length bytes) (length old - at) → was ≡ take count (drop at old) → take (length old) (written (written old at bytes) at was) ≡ old
  write_undone count was counted is = by (cases_lt (length (drop at old)) (length bytes))
    where
      by : (length (drop at old) < length bytes) ⊎ (length bytes ≤ length (drop at old)) → take (length old) (written (written old at bytes) at was) ≡ old
      by (inr fits) =
          let n : count ≡ length bytes = omega (arith, counted, fits, length-drop at old) in
          let all : was ≡ take (length bytes) (drop at old) = is ∙ ap (λ m. take m (drop at old)) n in
          ap (λ (l : List ℕ). take (length old) ((l ++ was) ++ drop (at + length was) (written old at bytes))) new_front
          ∙ ap (λ (l : List ℕ). take (length old) l) (inside fits was all) ∙ take_all (length old) old (omega arith)
      by (inl past) =
          let n : length (drop at old) ≤ count = omega (arith, counted, past, length-drop at old) in
          let all : was ≡ drop at old = is ∙ take_all count (drop at old) n in
          ap (λ (l : List ℕ). take (length old) ((l ++ was) ++ drop (at + length was) (written old at bytes))) new_front
          ∙ front_of old (drop (at + length was) (written old at bytes)) ((take at old ++ was) ++ drop (at + length was) (written old at bytes)) (ap (λ (l : List ℕ). l ++ drop (at + length was) (written old at bytes)) (beyond (omega (arith, past)) was all))

-- what undoes a cut
pub cut_undone : (old : List ℕ) (len : ℕ) (was : List ℕ) → len ≤ length old → was ≡ drop len old → take (length old) (written (take len old) len was) ≡ old
cut_undone old len was le is =
    let front : length (take len old) ≡ len = length-take-le len old le in
    front_of old (drop (len + length was) (take len old)) (written (take len old) len was)
    (ap (λ (l : List ℕ). (l ++ was) ++ drop (len + length was) (take len old)) (take_all len (take len old) (omega (arith, front)))
    ∙ ap (λ (l : List ℕ). l ++ drop (len + length was) (take len old)) (ap (λ (l : List ℕ). take len old ++ l) is ∙ take-append-drop len old))
