-- Why a recovery ended.
use Rattle.std.proofs.Common.{◌≡◌, ℕ, refl}
use Rattle.qc_site.specs.declared.site.SiteFile.{SiteFile}
use Rattle.qc_frame.specs.declared.error.LogError.{LogError}
use Rattle.qc_frame.specs.declared.error.LogError.TheVariants.{SiteFault, NotMade, Damaged, NoMemory}
use Rattle.qc_frame.specs.declared.error.Damage.{Damage}
use Rattle.qc_machine.specs.declared.error.OpenError.TheVariants.{SiteFault as site_fault, NotMade as not_made, NoCatalogue as no_first, Damaged as damaged}
use Rattle.qc_recovery.specs.Opening.{as_open_error, damage_in}

module _ (file : SiteFile) where
  pub by-fault : (e : LogError) → as_open_error file e ≡ site_fault → e ≡ SiteFault
  by-fault SiteFault is = refl
  by-fault NotMade is = absurd cc
  by-fault (Damaged at) is = absurd cc
  by-fault NoMemory is = absurd cc

  pub by-header : (e : LogError) → as_open_error file e ≡ not_made → e ≡ NotMade
  by-header SiteFault is = absurd cc
  by-header NotMade is = refl
  by-header (Damaged at) is = absurd cc
  by-header NoMemory is = absurd cc

  pub by-damage : (e : LogError) (d : Damage) → as_open_error file e ≡ damaged d → (at : ℕ) × (e ≡ Damaged at) × (d ≡ damage_in file at)
  by-damage SiteFault d is = absurd cc
  by-damage NotMade d is = absurd cc
  by-damage (Damaged at) d is = (at, refl, cc)
  by-damage NoMemory d is = absurd cc

  pub no-first : (e : LogError) → as_open_error file e ≡ no_first → ⊥
  no-first SiteFault is = cc
  no-first NotMade is = cc
  no-first (Damaged at) is = cc
  no-first NoMemory is = cc
