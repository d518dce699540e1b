-- What is read of an image that a crash leaves in the midst of an effect of an early resource.
use Rattle.std.specs.Prelude.{◌≡◌, ℕ, List, [], ◌∷◌, ◌++◌, false}
use Rattle.qc_base.specs.LogLines.{Entry, is_forgotten, unforgotten}
use Rattle.qc_base.specs.declared.log_line.LogLine.{LogLine}
use Rattle.qc_base.specs.declared.log_line.LogRecord.{LogRecord}
use Rattle.qc_site.specs.Image.{Image}
use Rattle.qc_site.specs.declared.site.SiteFile.TheVariants.{CrmLog as the_file}
use Rattle.qc_entries.specs.Entries.{EntriesView}
use Rattle.qc_catalogue.specs.declared.catalogue.Resource.{Resource}
use Rattle.crm_log.specs.Log.{SpellsLog, LinesWait, all_lines}
use Rattle.crm_clerk.specs.Clerk.{ClerkView, next_record}
use Rattle.crm_clerk.specs.Staging.{staged_lines}
use Rattle.qc_worker.specs.Effects.{change_lines}

-- the record of a change, of its resource
abbrev pub change_entry : ClerkView → Resource → List ℕ → ℕ → ℕ → Entry
change_entry c r key old new = record { resource = r.name; entry = next_record c r.name key old new }

-- The lines of a change wait in the log, behind these that waited before; the file spells these groups. No line says
-- that a record is forgotten which isn't written yet.
pub record ChangeWaits (c : ClerkView) (r : Resource) (key : List ℕ) (old new : ℕ)
    (log : EntriesView) (before : List LogLine) (groups : List (List LogLine)) : Type 0 where
  pub file : log.log.file ≡ the_file
  pub start : log.log.start ≡ 16
  pub waits : LinesWait (staged_lines log (change_lines c r key old new)) (before ++ change_lines c r key old new)
  pub not_forgotten : is_forgotten (all_lines groups ++ before) c.attempt (change_entry c r key old new) ≡ false

-- The log of an image is read as lines which have this record among those of the resource that aren't forgotten, as the
-- last behind those that these lines have.
pub record RecordIsRead (attempt : ℕ) (resource : List ℕ) (r : LogRecord) (lines : List LogLine) (image : Image) : Type 0 where
  pub groups : List (List LogLine)
  pub spelled : SpellsLog image.crm_log groups
  pub last : unforgotten (all_lines groups) attempt resource ≡ unforgotten lines attempt resource ++ r ∷ []
