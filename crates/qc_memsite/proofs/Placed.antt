-- A file of a content goes on, and all else stays.
use Rattle.std.proofs.Common.{◌≡◌, ◌∙◌, ℕ, List, refl, ap, take, Bool, cond}
use Rattle.qc_base.specs.Rows.{set_row}
use Rattle.qc_site.specs.Image.{bytes_of, with_bytes}
use Rattle.qc_site.specs.Disk.{written}
use Rattle.qc_site.specs.declared.site.SiteFile.{SiteFile}
use Rattle.qc_site.specs.declared.site.SiteFile.TheVariants.{Journal, CrmLog, Snap}
use Rattle.qc_memsite.specs.declared.content.Content.{Content}
use Rattle.qc_memsite.specs.declared.file.MemFile.{MemFile}
use Rattle.qc_memsite.specs.declared.rows.RowList.{RowList}
use Rattle.qc_memsite.specs.Call.{Wrote, CutTo, Put}
use Rattle.qc_memsite.specs.Chosen.{write_left, file_left}
use Rattle.qc_memsite.specs.Contents.{image_of}
use Rattle.qc_memsite.specs.Left.{left_in, file_of, SameFile, Same, Goes}
use Rattle.qc_memsite.specs.Rows.{row_of}

abbrev pub with_file : SiteFile → MemFile → Content → Content
with_file Journal file old = record { journal = file; crm_log = old.crm_log; snap = old.snap; rows = old.rows }
with_file CrmLog file old = record { journal = old.journal; crm_log = file; snap = old.snap; rows = old.rows }
with_file Snap file old = record { journal = old.journal; crm_log = old.crm_log; snap = file; rows = old.rows }

shown_placed : (file : SiteFile) (new : MemFile) (old : Content) → image_of (with_file file new old) ≡ with_bytes file new.bytes.items (image_of old)
shown_placed Journal new old = refl
shown_placed CrmLog new old = refl
shown_placed Snap new old = refl

same_left : (file g : SiteFile) (new : MemFile) (old : Content) (flips : Bool) → left_in flips new ≡ left_in flips (file_of file old) → left_in flips (file_of g (with_file file new old)) ≡ left_in flips (file_of g old)
same_left Journal Journal new old flips is = is
same_left Journal CrmLog new old flips is = refl
same_left Journal Snap new old flips is = refl
same_left CrmLog Journal new old flips is = refl
same_left CrmLog CrmLog new old flips is = is
same_left CrmLog Snap new old flips is = refl
same_left Snap Journal new old flips is = refl
same_left Snap CrmLog new old flips is = refl
same_left Snap Snap new old flips is = is

same_shown : (file : SiteFile) (new : MemFile) (old : Content) → new.bytes.items ≡ (file_of file old).bytes.items → image_of (with_file file new old) ≡ image_of old
same_shown Journal new old is = ap (λ (l : List ℕ). with_bytes Journal l (image_of old)) is
same_shown CrmLog new old is = ap (λ (l : List ℕ). with_bytes CrmLog l (image_of old)) is
same_shown Snap new old is = ap (λ (l : List ℕ). with_bytes Snap l (image_of old)) is

pub stays : (file : SiteFile) (new : MemFile) (old : Content) → SameFile (file_of file old) new → Same old (with_file file new old)
stays file new old same = record { shown = same_shown file new old same.bytes; left = λ flips g. same_left file g new old flips (same.left flips) }

wrote_left : (file g : SiteFile) (new : MemFile) (old : Content) (at : ℕ) (bytes : List ℕ) (flips : Bool) → left_in flips new ≡ write_left flips (bytes_of file (image_of old)) (left_in flips (file_of file old)) at bytes
    → left_in flips (file_of g (with_file file new old)) ≡ file_left flips g (Wrote file at bytes) (bytes_of g (image_of old)) (left_in flips (file_of g old))
wrote_left Journal Journal new old at bytes flips is = is
wrote_left Journal CrmLog new old at bytes flips is = refl
wrote_left Journal Snap new old at bytes flips is = refl
wrote_left CrmLog Journal new old at bytes flips is = refl
wrote_left CrmLog CrmLog new old at bytes flips is = is
wrote_left CrmLog Snap new old at bytes flips is = refl
wrote_left Snap Journal new old at bytes flips is = refl
wrote_left Snap CrmLog new old at bytes flips is = refl
wrote_left Snap Snap new old at bytes flips is = is

pub wrote : (file : SiteFile) (new : MemFile) (old : Content) (at : ℕ) (bytes : List ℕ)
    → (new.bytes.items ≡ written (bytes_of file (image_of old)) at bytes) × ((flips : Bool) → left_in flips new ≡ write_left flips (bytes_of file (image_of old)) (left_in flips (file_of file old)) at bytes) → Goes (Wrote file at bytes) old (with_file file new old)
wrote file new old at bytes went = record { shown = shown_placed file new old ∙ ap (λ (l : List ℕ). with_bytes file l (image_of old)) went.0; left = λ flips g. wrote_left file g new old at bytes flips (went.1 flips) }

cut_left : (file g : SiteFile) (new : MemFile) (old : Content) (len : ℕ) (flips : Bool) → left_in flips new ≡ cond flips (take len (left_in flips (file_of file old))) (left_in flips (file_of file old))
    → left_in flips (file_of g (with_file file new old)) ≡ file_left flips g (CutTo file len) (bytes_of g (image_of old)) (left_in flips (file_of g old))
cut_left Journal Journal new old len flips is = is
cut_left Journal CrmLog new old len flips is = refl
cut_left Journal Snap new old len flips is = refl
cut_left CrmLog Journal new old len flips is = refl
cut_left CrmLog CrmLog new old len flips is = is
cut_left CrmLog Snap new old len flips is = refl
cut_left Snap Journal new old len flips is = refl
cut_left Snap CrmLog new old len flips is = refl
cut_left Snap Snap new old len flips is = is

pub cut : (file : SiteFile) (new : MemFile) (old : Content) (len : ℕ)
    → (new.bytes.items ≡ take len (bytes_of file (image_of old))) × ((flips : Bool) → left_in flips new ≡ cond flips (take len (left_in flips (file_of file old))) (left_in flips (file_of file old))) → Goes (CutTo file len) old (with_file file new old)
cut file new old len went = record { shown = shown_placed file new old ∙ ap (λ (l : List ℕ). with_bytes file l (image_of old)) went.0; left = λ flips g. cut_left file g new old len flips (went.1 flips) }

-- the rows go on
abbrev pub with_rows : RowList → Content → Content
with_rows rows old = record { journal = old.journal; crm_log = old.crm_log; snap = old.snap; rows = rows }

rows_left : (g : SiteFile) (rows : RowList) (old : Content) (flips : Bool) → left_in flips (file_of g (with_rows rows old)) ≡ left_in flips (file_of g old)
rows_left Journal rows old flips = refl
rows_left CrmLog rows old flips = refl
rows_left Snap rows old flips = refl

pub rows_stay : (rows : RowList) (old : Content) → rows.rows.items ≡ old.rows.rows.items → Same old (with_rows rows old)
rows_stay rows old is = record { shown = λ i. record (image_of old) { rows = λ r k. row_of (is i) r k }; left = λ flips g. rows_left g rows old flips }

pub put : (rows : RowList) (old : Content) (resource key : List ℕ) (amount : ℕ) → ((r k : List ℕ) → row_of rows.rows.items r k ≡ set_row resource key amount (λ s j. row_of old.rows.rows.items s j) r k) → Goes (Put resource key amount) old (with_rows rows old)
put rows old resource key amount is = record { shown = λ i. record (image_of old) { rows = λ r k. is r k i }; left = λ flips g. rows_left g rows old flips }
