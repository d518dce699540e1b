-- Each image has the rows that are shown: a row is set at once.
use Rattle.std.proofs.Common.{◌≡◌, inl, inr, ℕ, List, [], ◌∷◌, refl, sym, ◌∙◌, ap, length, take, true, false, MatchBool, Bool}
use Rattle.qc_base.specs.Rows.{OutsideRows, set_row}
use Rattle.qc_site.specs.Image.{Image, bytes_of, with_bytes}
use Rattle.qc_site.specs.Disk.{Images, FileStep, Torn, OneStep, Cut, written}
use Rattle.qc_site.specs.declared.site.SiteFile.{SiteFile}
use Rattle.qc_site.specs.declared.site.SiteFile.TheVariants.{Journal, CrmLog, Snap}
use Rattle.qc_memsite.specs.Call.{Call, Wrote, CutTo, Synced, Put}
use Rattle.qc_memsite.specs.Calls.{after, shown_after, Leaves, images_after, ImageOf, is_single}

rows_with : (file : SiteFile) (bytes : List ℕ) (image : Image) → (with_bytes file bytes image).rows ≡ image.rows
rows_with Journal bytes image = refl
rows_with CrmLog bytes image = refl
rows_with Snap bytes image = refl

module _ (file : SiteFile) (d c : Image) where
  by_bytes : (bytes : List ℕ) → c ≡ with_bytes file bytes d → c.rows ≡ d.rows
  by_bytes bytes is = ap (λ (i : Image). i.rows) is ∙ rows_with file bytes d

  by_step : (step : List ℕ → List ℕ → Type 0) → FileStep file step d c → c.rows ≡ d.rows
  by_step step went = by_bytes went.bytes went.is

  by_either : (b : Bool) (one torn : List ℕ → List ℕ → Type 0) → MatchBool b (FileStep file one d c) (FileStep file torn d c) → c.rows ≡ d.rows
  by_either true one torn went = by_step one went
  by_either false one torn went = by_step torn went

after_call : (x : Call) (s d c : Image) → d.rows ≡ s.rows → Leaves x s d c → c.rows ≡ (after x s).rows
after_call (Wrote file at v) s d c same (inl done) = by_bytes file d c (written (bytes_of file s) at v) done.1 ∙ same ∙ sym (rows_with file (written (bytes_of file s) at v) s)
after_call (Wrote file at v) s d c same (inr part) = by_either file d c (is_single (bytes_of file s) at v) (OneStep at v) (Torn at (length v)) part ∙ same ∙ sym (rows_with file (written (bytes_of file s) at v) s)
after_call (CutTo file len) s d c same went = by_step file d c (Cut len) went ∙ same ∙ sym (rows_with file (take len (bytes_of file s)) s)
after_call (Synced file) s d c same went = ap (λ (i : Image). i.rows) went.0 ∙ same
after_call (Put r k amount) s d c same went = ap (λ (i : Image). i.rows) went ∙ ap (λ (rows : OutsideRows). set_row r k amount rows) same

same_rows : (calls : List Call) (s : Image) (images : Images) → ((d : Image) → images d → d.rows ≡ s.rows) → (c : Image) → images_after calls s images c → c.rows ≡ (shown_after calls s).rows
same_rows [] s images same c image = same c image
same_rows (x ∷ calls) s images same c image = same_rows calls (after x s) (λ e. (d : Image) × images d × Leaves x s d e) (λ e from. after_call x s from.0 e (same from.0 from.1) from.2) c image

pub shown_rows : (first : Image) (calls : List Call) (c : Image) → ImageOf first calls c → c.rows ≡ (shown_after calls first).rows
shown_rows first calls c image = same_rows calls first (λ d. d ≡ first) (λ d is. ap (λ (i : Image). i.rows) is) c image
