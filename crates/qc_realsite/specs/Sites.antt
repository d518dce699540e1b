-- A site over files, by the file that a call is of.
use Rattle.std.specs.Prelude.{◌≡◌, ℕ, ◌+◌, List, Some, None, true, false, is_some, IfOk, OnOk, OnErr, IsErrOf}
use Rattle.std.specs.declared.result.Result.{Result}
use Rattle.qc_base.specs.Rows.{OutsideRows, set_row, put_row}
use Rattle.qc_site.specs.declared.site.Failed.{Failed}
use Rattle.qc_site.specs.declared.site.RowFault.{RowFault}
use Rattle.qc_site.specs.declared.site.RowFault.TheVariants.{NoRow, Failed as RowFailed}
use Rattle.qc_site.specs.declared.site.SiteFile.{SiteFile}
use Rattle.qc_site.specs.declared.site.SiteFile.TheVariants.{Journal, CrmLog, Snap}
use Rattle.qc_site.specs.declared.keeper.Keeper.{Ghosts}
use Rattle.qc_site.specs.Causes.{HasCause}
use Rattle.qc_site.specs.Keepers.{Goes}
use Rattle.qc_realsite.specs.declared.guarded.Guarded.{Guarded}
use Rattle.qc_realsite.specs.declared.site.FileSite.{FileSite}

abbrev pub guarded_of : {F K : Type 0} → SiteFile → FileSite F K → Guarded F
guarded_of Journal site = site.journal
guarded_of CrmLog site = site.crm_log
guarded_of Snap site = site.snap

-- the site with this in the place of one file
abbrev pub with_guarded : {F K : Type 0} → SiteFile → Guarded F → FileSite F K → FileSite F K
with_guarded Journal guarded site = record site { journal = guarded }
with_guarded CrmLog guarded site = record site { crm_log = guarded }
with_guarded Snap guarded site = record site { snap = guarded }

-- a call of one file: it is this one, and all else stays
pub record OnFile {F K : Type 0} (file : SiteFile) (call : Guarded F → Guarded F → Type 0)
    (before now : FileSite F K) : Type 0 where
  pub by : call (guarded_of file before) (guarded_of file now)
  pub others : now ≡ with_guarded file (guarded_of file now) before

-- a call of a row leaves the files
abbrev pub KeepsFiles : {F K : Type 0} → FileSite F K → FileSite F K → Type 0
KeepsFiles before now = now ≡ record before { keeper = now.keeper }

module _ {F K : Type 0} (g : Ghosts K) where
  -- how often the files and the keeper of rows have failed
  abbrev pub faults_of : FileSite F K → ℕ
  faults_of site =
      site.journal.faults.count + (site.crm_log.faults.count + (site.snap.faults.count + g.faults site.keeper))

  abbrev pub FailsBy : FileSite F K → FileSite F K → Type 0 → Type 0
  FailsBy before now failed = HasCause (faults_of before) (faults_of now) failed

  -- the rows go on by this step, where the keeper tells them
  abbrev pub RowsGo : FileSite F K → FileSite F K → (OutsideRows → OutsideRows → Type 0) → Type 0
  RowsGo before now step = Goes (g.rows before.keeper) (g.rows now.keeper) step

  -- What a call of a row leaves: the files as they were, and the rows by what the keeper did. A failure changes none.

  pub record MakesRow (resource key : List ℕ) (amount : ℕ) (before now : FileSite F K)
      (result : Result (Unit {0}) Failed) : Type 0 where
    pub made : OnOk result (RowsGo before now (λ old new. new ≡ set_row resource key amount old))
    pub failed : OnErr result (RowsGo before now (λ old new. new ≡ old))
    pub files : KeepsFiles before now

  pub record FindsRow (resource key : List ℕ) (before now : FileSite F K) (result : Result ℕ RowFault) : Type 0 where
    pub found : IfOk result (λ n. RowsGo before now (λ old new. (old resource key ≡ Some n) × (new ≡ old)))
    pub no_row : IsErrOf result NoRow → RowsGo before now (λ old new. (old resource key ≡ None) × (new ≡ old))
    pub failed : IsErrOf result RowFailed → RowsGo before now (λ old new. new ≡ old)
    pub files : KeepsFiles before now

  pub record PutsRow (resource key : List ℕ) (amount : ℕ) (before now : FileSite F K)
      (result : Result (Unit {0}) RowFault) : Type 0 where
    pub put : OnOk result (RowsGo before now
        (λ old new. (is_some (old resource key) ≡ true) × (new ≡ put_row resource key amount old)))
    pub no_row : IsErrOf result NoRow → RowsGo before now
        (λ old new. (is_some (old resource key) ≡ false) × (new ≡ put_row resource key amount old))
    pub failed : IsErrOf result RowFailed → RowsGo before now (λ old new. new ≡ old)
    pub files : KeepsFiles before now
