-- Values read one after the other, as many as a count says.
use Rattle.std.proofs.Common.{◌≡◌, ◌≢◌, ℕ, ◌<◌, ◌+◌, List, ◌++◌, [], ◌∷◌, length, Bool, true, ◌&&◌, refl, sym, ◌∙◌, ap, arith, append_assoc, append-nil, length-append}
use Rattle.std.specs.List.{flat_map, list_all}
use Rattle.std.proofs.lemmas.Bool.{and_parts, and_from}
use Rattle.std.proofs.lemmas.List.Folds.{list_all-append}
use Rattle.std.proofs.lemmas.List.Concat.{flat_map-append}
use Rattle.qc_base.specs.Spelling.{Begins, NoneBegins, IsPrefixFree}

-- the bytes from the start on spell these values, and the rest is left
pub record Gathered {A : Type 0} (within : A → Bool) (spelled : A → List ℕ) (start left : List ℕ) (items : List A) (count : ℕ) : Type 0 where
  pub is : start ≡ flat_map spelled items ++ left
  pub limits : list_all within items ≡ true
  pub long : length items ≡ count

pub gathered_none_yet : {A : Type 0} (within : A → Bool) (spelled : A → List ℕ) (start : List ℕ) (items : List A) → items ≡ [] → Gathered within spelled start start items 0
gathered_none_yet within spelled start items e = record {
  is = sym (ap (λ xs. flat_map spelled xs ++ start) e);
  limits = ap (list_all within) e;
  long = ap length e;
}

pub gathered_more : {A : Type 0} (within : A → Bool) (spelled : A → List ℕ) (start left after : List ℕ) (items more : List A) (count : ℕ) (x : A) → Gathered within spelled start left items count → Begins within spelled left x after
    → more ≡ items ++ x ∷ [] → Gathered within spelled start after more (count + 1)
gathered_more within spelled start left after items more count x g b e = record {
  is = g.is ∙ ap (λ l. flat_map spelled items ++ l) b.is ∙ sym (append_assoc (flat_map spelled items) (spelled x) after)
      ∙ ap (λ l. flat_map spelled items ++ l ++ after) (sym (append-nil (spelled x))) ∙ ap (λ l. l ++ after) (sym (flat_map-append spelled items (x ∷ []))) ∙ ap (λ l. flat_map spelled l ++ after) (sym e);
  limits = ap (list_all within) e ∙ list_all-append within items (x ∷ []) ∙ and_from (list_all within items) (within x && true) g.limits (and_from (within x) true b.limits refl);
  long = omega (arith, ap length e, length-append items (x ∷ []), g.long);
}

-- where the next value isn't there, no list of more values is spelled
pub gathered_stops : {A : Type 0} (within : A → Bool) (spelled : A → List ℕ) → IsPrefixFree within spelled → (start left : List ℕ) (items : List A) (value : List A) (rest : List ℕ)
    → list_all within items ≡ true → start ≡ flat_map spelled items ++ left → NoneBegins within spelled left → list_all within value ≡ true → length items < length value → start ≢ flat_map spelled value ++ rest
gathered_stops within spelled free start left [] [] rest l is none w long e = absurd (omega arith)
gathered_stops within spelled free start left [] (y ∷ value) rest l is none w long e =
    none y (flat_map spelled value ++ rest) (and_parts (within y) (list_all within value) w).0 (sym is ∙ e ∙ append_assoc (spelled y) (flat_map spelled value) rest)
gathered_stops within spelled free start left (x ∷ items) [] rest l is none w long e = absurd (omega arith)
gathered_stops within spelled free start left (x ∷ items) (y ∷ value) rest l is none w long e =
    let step = sym (append_assoc (spelled x) (flat_map spelled items) left) ∙ sym is ∙ e ∙ append_assoc (spelled y) (flat_map spelled value) rest in
    let parts = free x y _ _ (and_parts (within x) (list_all within items) l).0 (and_parts (within y) (list_all within value) w).0 step in
    gathered_stops within spelled free (flat_map spelled items ++ left) left items value rest (and_parts (within x) (list_all within items) l).1 refl none (and_parts (within y) (list_all within value) w).1 (omega arith) parts.1

-- a count in front of what is spelled
pub counted_read : (count size : ℕ) (start whole : List ℕ) → count ≡ size → start ≡ whole → count ∷ start ≡ size ∷ whole
counted_read count size start whole c e = cc
