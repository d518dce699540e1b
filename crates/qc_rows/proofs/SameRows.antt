-- Rows that are equal.
use Rattle.std.proofs.Common.{◌≡◌, ◌∙◌, true, false, ◌&&◌, refl, sym, true≢false}
use Rattle.std.specs.Str.{bytes_eq}
use Rattle.std.proofs.lemmas.Bool.{and_parts, and_from, false_from_ne_true}
use Rattle.std.proofs.lemmas.Slice.Eq.{bytes_eq-Decides}
use Rattle.qc_base.specs.declared.recording.Row.{Row}
use Rattle.qc_base.specs.declared.recording.Space.{Space}
use Rattle.qc_base.specs.declared.recording.Space.TheVariants.{Inside, Outside}
use Rattle.qc_base.specs.Rows.{space_eq, row_eq}
use Rattle.qc_rows.specs.Settling.{is_inside}

space-same : (a b : Space) → space_eq a b ≡ true → a ≡ b
space-same Inside Inside e = refl
space-same Outside Outside e = refl
space-same Inside Outside e = absurd (true≢false (sym e))
space-same Outside Inside e = absurd (true≢false (sym e))

pub row-same : (a b : Row) → row_eq a b ≡ true → a ≡ b
row-same a b e =
    let parts = and_parts (space_eq a.space b.space) _ e in
    let words = and_parts (bytes_eq a.name b.name) _ parts.1 in
    let s : a.space ≡ b.space = space-same a.space b.space parts.0 in
    let n : a.name ≡ b.name = (bytes_eq-Decides a.name b.name).0 words.0 in
    let k : a.key ≡ b.key = (bytes_eq-Decides a.key b.key).0 words.1 in
    λ i. record { space = s i; name = n i; key = k i }

-- two inside rows that differ, of one table, have different keys
pub keys-differ : (a b : Row) → is_inside a ≡ true → is_inside b ≡ true → row_eq a b ≡ false → bytes_eq a.name b.name ≡ true → bytes_eq a.key b.key ≡ false
keys-differ a b first second differ name =
    let spaces : space_eq a.space b.space ≡ true = λ i. space_eq (space-same a.space Inside first i) (space-same b.space Inside second i) in
    false_from_ne_true (bytes_eq a.key b.key) (λ key.
    true≢false (sym (and_from (space_eq a.space b.space) (bytes_eq a.name b.name && bytes_eq a.key b.key) spaces (and_from (bytes_eq a.name b.name) (bytes_eq a.key b.key) name key)) ∙ differ))
