-- A whole site as data: three files and the rows outside them.
use Rattle.std.specs.Prelude.{ℕ, ◌≤◌, List, length}
use Rattle.qc_base.specs.Rows.{OutsideRows, set_row, put_row}
use Rattle.qc_site.specs.declared.site.SiteFile.{SiteFile}
use Rattle.qc_site.specs.declared.site.SiteFile.TheVariants.{Journal, CrmLog, Snap}

pub record Image : Type 0 where
  pub journal : List ℕ
  pub crm_log : List ℕ
  pub snap : List ℕ
  pub rows : OutsideRows

-- no file has more than 2^62 bytes
pub record IsShort (image : Image) : Type 0 where
  pub journal : length image.journal ≤ 4611686018427387904
  pub crm_log : length image.crm_log ≤ 4611686018427387904
  pub snap : length image.snap ≤ 4611686018427387904

abbrev pub bytes_of : SiteFile → Image → List ℕ
bytes_of Journal image = image.journal
bytes_of CrmLog image = image.crm_log
bytes_of Snap image = image.snap

-- the image with these bytes in the place of one file's
abbrev pub with_bytes : SiteFile → List ℕ → Image → Image
with_bytes Journal bytes image = record image { journal = bytes }
with_bytes CrmLog bytes image = record image { crm_log = bytes }
with_bytes Snap bytes image = record image { snap = bytes }

-- the image with this amount in one row
abbrev pub with_row : List ℕ → List ℕ → ℕ → Image → Image
with_row resource key amount image = record image { rows = set_row resource key amount image.rows }

-- the image with this amount in one row, if the row is there
abbrev pub with_put : List ℕ → List ℕ → ℕ → Image → Image
with_put resource key amount image = record image { rows = put_row resource key amount image.rows }
