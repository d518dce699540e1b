-- What an image has of a file: its bytes at the last sync, or with all that was done since turned round.
use Rattle.std.specs.Prelude.{◌≡◌, ℕ, List, Bool, if◌then◌else◌}
use Rattle.qc_site.specs.Image.{bytes_of}
use Rattle.qc_site.specs.declared.site.SiteFile.{SiteFile}
use Rattle.qc_site.specs.declared.site.SiteFile.TheVariants.{Journal, CrmLog, Snap}
use Rattle.qc_memsite.specs.declared.file.MemFile.{MemFile}
use Rattle.qc_memsite.specs.declared.content.Content.{Content}
use Rattle.qc_memsite.specs.declared.history.History.{History}
use Rattle.qc_memsite.specs.Call.{Call}
use Rattle.qc_memsite.specs.Calls.{after}
use Rattle.qc_memsite.specs.Contents.{image_of}
use Rattle.qc_memsite.specs.Chosen.{file_left, left_of}
use Rattle.qc_memsite.specs.Edits.{undone, turned_by}

-- the bytes at the last sync
abbrev pub settled : MemFile → List ℕ
settled file = undone file.steps.items file.bytes.items

abbrev pub left_in : Bool → MemFile → List ℕ
left_in flips file = if flips then turned_by file.steps.items (settled file) (settled file) else settled file

abbrev pub file_of : SiteFile → Content → MemFile
file_of Journal content = content.journal
file_of CrmLog content = content.crm_log
file_of Snap content = content.snap

-- as the calls of a history say
abbrev pub left_by : Bool → SiteFile → History → List ℕ
left_by flips file history = left_of flips file history.calls (bytes_of file (image_of history.first)) (bytes_of file (image_of history.first))

-- nothing has changed of what is shown, nor of what an image has
pub record SameFile (old new : MemFile) : Type 0 where
  pub bytes : new.bytes.items ≡ old.bytes.items
  pub left : (flips : Bool) → left_in flips new ≡ left_in flips old

pub record Same (old new : Content) : Type 0 where
  pub shown : image_of new ≡ image_of old
  pub left : (flips : Bool) (file : SiteFile) → left_in flips (file_of file new) ≡ left_in flips (file_of file old)

-- a call was made
pub record Goes (call : Call) (old new : Content) : Type 0 where
  pub shown : image_of new ≡ after call (image_of old)
  pub left : (flips : Bool) (file : SiteFile) → left_in flips (file_of file new) ≡ file_left flips file call (bytes_of file (image_of old)) (left_in flips (file_of file old))
