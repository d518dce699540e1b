-- A call that has changed a site, as data.
use Rattle.std.specs.Prelude.{◌≡◌, ℕ, List, [], refl, cond, ◌==◌}
use Rattle.std.specs.Coded.{Coded, code_by, coded×, coded_ℕ, coded_list}
use mathlib.Core.Path.{ap}
use Rattle.qc_site.specs.declared.site.SiteFile.{SiteFile}
use Rattle.qc_site.specs.declared.site.SiteFile.TheVariants.{Journal, CrmLog, Snap}

pub data Call : Type 0 where
  -- these bytes at this place
  Wrote : SiteFile → ℕ → List ℕ → Call
  -- to this length
  CutTo : SiteFile → ℕ → Call
  Synced : SiteFile → Call
  -- resource, key and amount
  Put : List ℕ → List ℕ → ℕ → Call

-- How the logic stores calls.
abbrev pub file_code : SiteFile → ℕ
file_code Journal = 0
file_code CrmLog = 1
file_code Snap = 2

abbrev file_at : ℕ → SiteFile
file_at n = cond (n == 0) Journal (cond (n == 1) CrmLog Snap)

pub file_at-file_code : (file : SiteFile) → file_at (file_code file) ≡ file
file_at-file_code Journal = refl
file_at-file_code CrmLog = refl
file_at-file_code Snap = refl

abbrev Parts : Type 0
Parts = ℕ × (ℕ × (ℕ × (List ℕ × List ℕ)))

abbrev to_parts : Call → Parts
to_parts (Wrote file at bytes) = (0, (file_code file, (at, (bytes, []))))
to_parts (CutTo file len) = (1, (file_code file, (len, ([], []))))
to_parts (Synced file) = (2, (file_code file, (0, ([], []))))
to_parts (Put resource key amount) = (3, (0, (amount, (resource, key))))

abbrev from_parts : Parts → Call
from_parts p = cond (p.0 == 0) (Wrote (file_at p.1.0) p.1.1.0 p.1.1.1.0) (cond (p.0 == 1) (CutTo (file_at p.1.0) p.1.1.0) (cond (p.0 == 2) (Synced (file_at p.1.0)) (Put p.1.1.1.0 p.1.1.1.1 p.1.1.0)))

pub from_parts-to_parts : (call : Call) → from_parts (to_parts call) ≡ call
from_parts-to_parts (Wrote file at bytes) = ap (λ f. Wrote f at bytes) (file_at-file_code file)
from_parts-to_parts (CutTo file len) = ap (λ f. CutTo f len) (file_at-file_code file)
from_parts-to_parts (Synced file) = ap Synced (file_at-file_code file)
from_parts-to_parts (Put resource key amount) = refl

abbrev pub calls_code : Coded (List Call)
calls_code = coded_list (code_by Parts (coded× coded_ℕ (coded× coded_ℕ (coded× coded_ℕ (coded× (coded_list coded_ℕ) (coded_list coded_ℕ))))) to_parts from_parts from_parts-to_parts)
