-- The names of a site's files.
use Rattle.std.specs.Prelude.{ℕ, List, codes}
use Rattle.qc_site.specs.declared.site.SiteFile.{SiteFile}
use Rattle.qc_site.specs.declared.site.SiteFile.TheVariants.{Journal, CrmLog, Snap}

abbrev pub file_name : SiteFile → List ℕ
file_name Journal = codes "journal"
file_name CrmLog = codes "crmlog"
file_name Snap = codes "snap"
