-- One file of an image, or one row.
use Rattle.std.proofs.Common.{◌≡◌, ◌≤◌, refl, List, ℕ, length}
use Rattle.qc_site.specs.Image.{Image, IsShort, bytes_of, with_bytes}
use Rattle.qc_site.specs.declared.site.SiteFile.{SiteFile}
use Rattle.qc_site.specs.declared.site.SiteFile.TheVariants.{Journal, CrmLog, Snap}

pub bytes_of-with_bytes : (file : SiteFile) (bytes : List ℕ) (image : Image) → bytes_of file (with_bytes file bytes image) ≡ bytes
bytes_of-with_bytes Journal bytes image = refl
bytes_of-with_bytes CrmLog bytes image = refl
bytes_of-with_bytes Snap bytes image = refl

pub with_bytes-same : (file : SiteFile) (image : Image) → with_bytes file (bytes_of file image) image ≡ image
with_bytes-same Journal image = refl
with_bytes-same CrmLog image = refl
with_bytes-same Snap image = refl

pub with_bytes-with_bytes : (file : SiteFile) (later bytes : List ℕ) (image : Image) → with_bytes file later (with_bytes file bytes image) ≡ with_bytes file later image
with_bytes-with_bytes Journal later bytes image = refl
with_bytes-with_bytes CrmLog later bytes image = refl
with_bytes-with_bytes Snap later bytes image = refl

pub short_file : (file : SiteFile) (image : Image) → IsShort image → length (bytes_of file image) ≤ 4611686018427387904
short_file Journal image short = short.journal
short_file CrmLog image short = short.crm_log
short_file Snap image short = short.snap
