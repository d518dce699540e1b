-- What a force keeps of a log, and what it adds to the lines that the file spells.
use Rattle.std.proofs.Common.{◌≡◌, ℕ, ◌≤◌, List, [], ◌∷◌, ◌++◌, length, refl, sym, ap, subst, arith}
use Rattle.std.specs.declared.result.Result.{Result}
use Rattle.std.specs.declared.result.Result.TheVariants.{Ok, Err}
use Rattle.std.specs.Prelude.{OnOk}
use Rattle.std.proofs.lemmas.Result.{on_ok_weaker}
use Rattle.qc_base.specs.declared.log_line.LogLine.{LogLine}
use Rattle.qc_site.specs.declared.site.Site.{Ghosts}
use Rattle.qc_site.specs.declared.site.SiteFile.TheVariants.{CrmLog}
use Rattle.qc_frame.specs.Calls.{Forces}
use Rattle.qc_frame.specs.Log.{LogView}
use Rattle.qc_entries.specs.Entries.{EntriesView}
use Rattle.crm_log.specs.Log.{IsLogOf, LinesWait}
use Rattle.crm_log.proofs.Spells.{log_more, some_wait}

pub force_keeps : {S : Type 0} (g : Ghosts S) {A E : Type 0} (result : Result A E) (log : LogView) (site : S) (new : LogView) (after : S) → Forces g result log site new after → (new.file ≡ log.file) × (new.start ≡ log.start)
force_keeps g (Err e) log site new after forces = (ap (λ (l : LogView). l.file) forces.failed, ap (λ (l : LogView). l.start) forces.failed)
force_keeps g (Ok x) log site new after forces = by log.payload refl
  where
    by : (payload : List ℕ) → log.payload ≡ payload → (new.file ≡ log.file) × (new.start ≡ log.start)
    by [] is = let same = (forces.nothing is).1 in (ap (λ (l : LogView). l.file) same, ap (λ (l : LogView). l.start) same)
    by (b ∷ rest) is = let moved = forces.moved (omega (arith, ap length is)) in (ap (λ (l : LogView). l.file) moved, ap (λ (l : LogView). l.start) moved)

pub forced_log : {S : Type 0} (g : Ghosts S) {A E : Type 0} (result : Result A E) (inside view : EntriesView) (site : S) (new : LogView) (after : S) (log : List (List LogLine)) (lines : List LogLine) → Forces g result inside.log site new after
    → inside ≡ view → inside.log.file ≡ CrmLog → inside.log.start ≡ 16 → g.told → LinesWait view lines → 1 ≤ length lines → IsLogOf (g.shown site) log → OnOk result (IsLogOf (g.shown after) (log ++ lines ∷ []))
forced_log g result inside view site new after log lines forces is file start told waits some had =
    let here : LinesWait inside lines = subst (λ (v : EntriesView). LinesWait v lines) (sym is) waits in
    on_ok_weaker result (λ made. log_more (g.shown site) (g.shown after) inside log lines file start here made had) (forces.made told (some_wait inside lines here some))
