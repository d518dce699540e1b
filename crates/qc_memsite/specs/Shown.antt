-- What a site shows, what a crash may leave of it, and what was read.
use Rattle.std.specs.Prelude.{◌≡◌, ℕ, List, [], ◌∷◌, ◌++◌, length, if◌then◌else◌, ◌==◌}
use Rattle.qc_site.specs.Image.{Image}
use Rattle.qc_site.specs.Disk.{Images}
use Rattle.qc_site.specs.declared.site.SiteFile.{SiteFile}
use Rattle.qc_site.specs.declared.site.SiteFile.TheVariants.{Journal, CrmLog, Snap}
use Rattle.qc_memsite.specs.declared.kept.Kept.{Kept}
use Rattle.qc_memsite.specs.declared.memsite.Reads.{Reads}
use Rattle.qc_memsite.specs.Calls.{shown_after, ImageOf, SinceOf}
use Rattle.qc_memsite.specs.Contents.{image_of}
use Rattle.qc_memsite.specs.Call.{Call, file_code}

-- what a site was at first, and the calls that have changed it since
abbrev pub first_by : Kept → Image
first_by kept = image_of kept.history.first

abbrev pub calls_by : Kept → List Call
calls_by kept = kept.history.calls

-- what it shows, and what a crash may leave of it
abbrev pub shown_by : Kept → Image
shown_by kept = shown_after (calls_by kept) (first_by kept)

abbrev pub images_by : Kept → Images
images_by kept c = ImageOf (first_by kept) (calls_by kept) c

abbrev pub moment_by : Kept → ℕ
moment_by kept = length (calls_by kept)

abbrev pub since_by : Kept → ℕ → Images
since_by kept t c = SinceOf (first_by kept) (calls_by kept) t c

-- the reads of a file, and one more
abbrev pub reads_of : SiteFile → Reads → List (ℕ × ℕ)
reads_of Journal reads = reads.journal.items
reads_of CrmLog reads = reads.crm_log.items
reads_of Snap reads = reads.snap.items

abbrev pub noted : SiteFile → SiteFile → ℕ → ℕ → List (ℕ × ℕ) → List (ℕ × ℕ)
noted f file at count reads = if file_code f == file_code file then reads ++ (at, count) ∷ [] else reads

-- neither what is shown nor what a crash may leave has changed
pub record Unchanged (old new : Kept) : Type 0 where
  pub first : first_by new ≡ first_by old
  pub calls : calls_by new ≡ calls_by old
