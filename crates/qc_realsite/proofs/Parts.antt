-- A read and a write in several parts.
use Rattle.std.proofs.Common.{◌≡◌, Some, None, IfSome, ℕ, ◌+◌, ◌<◌, ◌≤◌, List, ◌++◌, length, take, drop, Option, refl, sym, ◌∙◌, ap, subst, arith, append_assoc, length-append}
use Rattle.std.proofs.Math.Seq.{take-add, take-append-add, drop-append-add}
use Rattle.std.proofs.lemmas.List.{take_at, drop-drop, length-drop, length-take-le, take-append-le, append-nil, take-append-drop}
use borrow.Rule.Slice.PartMut.{put_mid, post_of}
use Rattle.qc_site.specs.Disk.{written}
use Rattle.qc_realsite.specs.Calls.{GivesSome, TakesSome}
use Rattle.qc_realsite.specs.Guards.{GivesAll}

-- the front of the buffer has the bytes from `at` on
pub record HasRead (at done : ℕ) (into bytes : List ℕ) : Type 0 where
  pub there : done ≤ length (drop at bytes)
  pub given : take done into ≡ take done (drop at bytes)

read_on : (at done n : ℕ) (into sub b : List ℕ) → done ≤ length into → take done into ≡ take done (drop at b) → take n sub ≡ take n (drop (at + done) b) → take (done + n) (take done into ++ sub) ≡ take (done + n) (drop at b)
read_on at done n into sub b fits front given =
    ap (λ (k : ℕ). take (k + n) (take done into ++ sub)) (sym (length-take-le done into fits))
    ∙ take-append-add (take done into) sub n
    ∙ ap (λ (l : List ℕ). l ++ take n sub) front
    ∙ ap (λ (l : List ℕ). take done (drop at b) ++ l) given
    ∙ ap (λ (l : List ℕ). take done (drop at b) ++ take n l) (sym (drop-drop done at b))
    ∙ sym (take-add done n (drop at b))

pub read_begun : (at : ℕ) (into : List ℕ) (o : Option (List ℕ)) → IfSome o (HasRead at 0 into)
read_begun at into (Some b) = record { there = omega arith; given = refl }
read_begun at into None = tt

-- one more read, into the rest of the buffer
pub read_step : (at done n k : ℕ) (into sub : List ℕ) (o : Option (List ℕ)) → done ≤ length into → n ≤ length sub → IfSome o (HasRead at done into) → IfSome o (GivesSome (at + done) n sub) → IfSome o (HasRead at (done + n) (put_mid done k into sub))
read_step at done n k into sub (Some b) fits few far more = record {
  there = omega (arith, far.there, more.there, length-drop (at + done) b, length-drop at b);
  given = read_on at done n into (sub ++ post_of done k into) b fits far.given (take-append-le n sub (post_of done k into) few ∙ more.given);
}
read_step at done n k into sub None fits few far more = tt

pub read_ended : (at done k : ℕ) (into sub : List ℕ) (o : Option (List ℕ)) → done < length into → 0 < length sub → IfSome o (HasRead at done into) → IfSome o (GivesSome (at + done) 0 sub) → IfSome o (GivesAll at (length into) done (put_mid done k into sub))
read_ended at done k into sub (Some b) short some far more = record {
  count = omega (arith, far.there, more.ended refl some, length-drop (at + done) b, length-drop at b);
  given = take_at (take done into) (sub ++ post_of done k into) done (length-take-le done into (omega arith)) ∙ far.given;
}
read_ended at done k into sub None short some far more = tt

pub read_full : (at done : ℕ) (into : List ℕ) (o : Option (List ℕ)) → done ≡ length into → IfSome o (HasRead at done into) → IfSome o (GivesAll at (length into) done into)
read_full at done into (Some b) full far = record { count = omega (arith, far.there, full); given = far.given }
read_full at done into None full far = tt

write_on : (at done n : ℕ) (bytes old : List ℕ) → at ≤ length old → done ≤ length bytes → written (written old at (take done bytes)) (at + done) (take n (drop done bytes)) ≡ written old at (take (done + n) bytes)
write_on at done n bytes old le fits =
    let A = take at old in
    let X = take done bytes in
    let Y = take n (drop done bytes) in
    let R = drop (at + length X) old in
    let seam : length (A ++ X) ≡ at + done = omega (arith, length-append A X, length-take-le at old le, length-take-le done bytes fits) in
    let front : take (at + done) (A ++ X ++ R) ≡ A ++ X = take_at (A ++ X) R (at + done) seam in
    let back : drop (at + done + length Y) (A ++ X ++ R) ≡ drop (at + length (X ++ Y)) old =
    ap (λ (k : ℕ). drop (k + length Y) (A ++ X ++ R)) (sym seam)
    ∙ drop-append-add (A ++ X) R (length Y)
    ∙ drop-drop (length Y) (at + length X) old
    ∙ ap (λ (k : ℕ). drop k old) (omega (arith, length-append X Y)) in
    ap (λ (l : List ℕ). l ++ Y ++ drop (at + done + length Y) (A ++ X ++ R)) front
    ∙ ap (λ (l : List ℕ). A ++ X ++ Y ++ l) back
    ∙ ap (λ (l : List ℕ). l ++ drop (at + length (X ++ Y)) old) (append_assoc A X Y)
    ∙ ap (λ (l : List ℕ). written old at l) (sym (take-add done n bytes))

write_none : (at : ℕ) (bytes old : List ℕ) → written old at (take 0 bytes) ≡ old
write_none at bytes old = ap (λ (l : List ℕ). l ++ drop (at + 0) old) (append-nil (take at old)) ∙ ap (λ (k : ℕ). take at old ++ drop k old) (omega arith) ∙ take-append-drop at old

length-behind : (at done : ℕ) (bytes old : List ℕ) → at ≤ length old → done ≤ length bytes → at + done ≤ length (written old at (take done bytes))
length-behind at done bytes old le fits = omega (arith, length-append (take at old ++ take done bytes) (drop (at + length (take done bytes)) old), length-append (take at old) (take done bytes), length-take-le at old le, length-take-le done bytes fits)

-- so far these were written
abbrev pub HasWritten : ℕ → ℕ → List ℕ → Option (List ℕ) → List ℕ → Type 0
HasWritten at done bytes now old = at ≤ length old → now ≡ Some (written old at (take done bytes))

pub write_begun : (at : ℕ) (bytes : List ℕ) (o : Option (List ℕ)) → IfSome o (HasWritten at 0 bytes o)
write_begun at bytes (Some old) = λ le. ap Some (sym (write_none at bytes old))
write_begun at bytes None = tt

pub write_step : (at done n : ℕ) (bytes : List ℕ) (o mid now : Option (List ℕ)) → done ≤ length bytes → IfSome o (HasWritten at done bytes mid) → IfSome mid (TakesSome (at + done) n (drop done bytes) now) → IfSome o (HasWritten at (done + n) bytes now)
write_step at done n bytes (Some old) mid now fits far more = λ le.
    let P : Option (List ℕ) → Type 0 = λ m. IfSome m (TakesSome (at + done) n (drop done bytes) now) in
    subst P (far le) more (length-behind at done bytes old le fits) ∙ ap Some (write_on at done n bytes old le fits)
write_step at done n bytes None mid now fits far more = tt
