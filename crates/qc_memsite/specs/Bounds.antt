-- No image has a file of more than 2^62 bytes.
use Rattle.std.proofs.Common.{◌≡◌, inl, inr, zero, suc, ℕ, ◌+◌, ◌≤◌, List, [], ◌∷◌, ◌++◌, length, take, drop, sym, ap, subst, arith, true, false, MatchBool, Bool, All, length-append}
use Rattle.std.proofs.lemmas.List.{length-take, length-drop}
use Rattle.qc_site.specs.Image.{Image, IsShort, bytes_of, with_bytes, with_row}
use Rattle.qc_site.specs.Disk.{Images, Cut, FileStep, Torn, OneStep, written}
use Rattle.qc_site.specs.declared.site.SiteFile.{SiteFile}
use Rattle.qc_site.specs.declared.site.SiteFile.TheVariants.{Journal, CrmLog, Snap}
use Rattle.qc_memsite.specs.Call.{Call, Wrote, CutTo, Synced, Put}
use Rattle.qc_memsite.specs.Calls.{after, Leaves, images_after, ImageOf, is_single}

-- where the bytes of a call end
abbrev pub end_of : Call → ℕ
end_of (Wrote file at bytes) = at + length bytes
end_of (CutTo file len) = 0
end_of (Synced file) = 0
end_of (Put resource key amount) = 0

short_file : (file : SiteFile) (image : Image) → IsShort image → length (bytes_of file image) ≤ 4611686018427387904
short_file Journal image short = short.journal
short_file CrmLog image short = short.crm_log
short_file Snap image short = short.snap

short_with : (file : SiteFile) (bytes : List ℕ) (image : Image) → IsShort image → length bytes ≤ 4611686018427387904 → IsShort (with_bytes file bytes image)
short_with Journal bytes image short le = record { journal = le; crm_log = short.crm_log; snap = short.snap }
short_with CrmLog bytes image short le = record { journal = short.journal; crm_log = le; snap = short.snap }
short_with Snap bytes image short le = record { journal = short.journal; crm_log = short.crm_log; snap = le }

written_short : (old : List ℕ) (at : ℕ) (new : List ℕ) → length old ≤ 4611686018427387904 → at + length new ≤ 4611686018427387904 → length (written old at new) ≤ 4611686018427387904
written_short old at new le end = omega (arith, length-append (take at old ++ new) (drop (at + length new) old), length-append (take at old) new, length-take at old, length-drop (at + length new) old)

cut_short : (len : ℕ) (old new : List ℕ) → length old ≤ 4611686018427387904 → Cut len old new → length new ≤ 4611686018427387904
cut_short len old new le cut = omega (arith, ap length cut.front, length-take (length new) old)

module _ (file : SiteFile) (d c : Image) (short : IsShort d) where
  by_step : (step : List ℕ → List ℕ → Type 0) → ((new : List ℕ) → step (bytes_of file d) new → length new ≤ 4611686018427387904) → FileStep file step d c → IsShort c
  by_step step le went = subst IsShort (sym went.is) (short_with file went.bytes d short (le went.bytes went.by))

  by_one : (at : ℕ) (bytes : List ℕ) → at + length bytes ≤ 4611686018427387904 → (new : List ℕ) → OneStep at bytes (bytes_of file d) new → length new ≤ 4611686018427387904
  by_one at bytes end new (inl same) = subst (λ (l : List ℕ). length l ≤ 4611686018427387904) (sym same) (short_file file d short)
  by_one at bytes end new (inr there) = subst (λ (l : List ℕ). length l ≤ 4611686018427387904) (sym there.1) (written_short (bytes_of file d) at bytes (short_file file d short) end)

  by_torn : (at n : ℕ) → at + n ≤ 4611686018427387904 → (new : List ℕ) → Torn at n (bytes_of file d) new → length new ≤ 4611686018427387904
  by_torn at n end new torn = omega (arith, torn.no_longer, short_file file d short)

  by_either : (b : Bool) (at : ℕ) (bytes : List ℕ) → at + length bytes ≤ 4611686018427387904 → MatchBool b (FileStep file (OneStep at bytes) d c) (FileStep file (Torn at (length bytes)) d c) → IsShort c
  by_either true at bytes end went = by_step (OneStep at bytes) (by_one at bytes end) went
  by_either false at bytes end went = by_step (Torn at (length bytes)) (by_torn at (length bytes) end) went

short_row : (r k : List ℕ) (amount : ℕ) (image : Image) → IsShort image → IsShort (with_row r k amount image)
short_row r k amount image short = record { journal = short.journal; crm_log = short.crm_log; snap = short.snap }

after_short : (x : Call) (s : Image) → IsShort s → end_of x ≤ 4611686018427387904 → IsShort (after x s)
after_short (Wrote file at v) s short end = short_with file (written (bytes_of file s) at v) s short (written_short (bytes_of file s) at v (short_file file s short) end)
after_short (CutTo file len) s short end = short_with file (take len (bytes_of file s)) s short (omega (arith, length-take len (bytes_of file s), short_file file s short))
after_short (Synced file) s short end = short
after_short (Put r k amount) s short end = short_row r k amount s short

leaves_short : (x : Call) (s d c : Image) → IsShort s → IsShort d → end_of x ≤ 4611686018427387904 → Leaves x s d c → IsShort c
leaves_short (Wrote file at v) s d c short before end (inl done) = subst IsShort (sym done.1) (short_with file (written (bytes_of file s) at v) d before (written_short (bytes_of file s) at v (short_file file s short) end))
leaves_short (Wrote file at v) s d c short before end (inr part) = by_either file d c before (is_single (bytes_of file s) at v) at v end part
leaves_short (CutTo file len) s d c short before end went = by_step file d c before (Cut len) (λ new cut. cut_short len (bytes_of file d) new (short_file file d before) cut) went
leaves_short (Synced file) s d c short before end went = subst IsShort (sym went.0) before
leaves_short (Put r k amount) s d c short before end went = subst IsShort (sym went) (short_row r k amount d before)

all_short : (calls : List Call) (s : Image) (images : Images) → IsShort s → ((d : Image) → images d → IsShort d) → All (λ x. end_of x ≤ 4611686018427387904) calls → (c : Image) → images_after calls s images c → IsShort c
all_short [] s images short each ends c image = each c image
all_short (x ∷ calls) s images short each ends c image =
    let end : end_of x ≤ 4611686018427387904 = ends zero x (omega arith) in
    all_short calls (after x s) (λ e. (d : Image) × images d × Leaves x s d e) (after_short x s short end) (λ e from. leaves_short x s from.0 e short (each from.0 from.1) end from.2) (λ i d lt. ends (suc i) d (omega (arith, lt))) c image

pub short_image : (first : Image) (calls : List Call) → IsShort first → All (λ x. end_of x ≤ 4611686018427387904) calls → (c : Image) → ImageOf first calls c → IsShort c
short_image first calls short ends c image = all_short calls first (λ d. d ≡ first) short (λ d is. subst IsShort (sym is) short) ends c image
