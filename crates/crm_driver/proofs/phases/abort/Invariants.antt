use Rattle.std.proofs.Common.{drop, reverse}
use Rattle.qc_base.specs.declared.log_line.LogRecord.{LogRecord}
use Rattle.qc_base.specs.declared.log_line.Heard.TheVariants.{BeginAbort, AbortRecord, EndAbort}
use Rattle.crm_driver.specs.Compensators.{Rules}
use Rattle.crm_driver.proofs.Telling.{Underway}
use Rattle.crm_driver.proofs.phases.abort.Given as goal

abbrev pub invariant-loop-place : goal.invariant-loop-place
invariant-loop-place g l = Underway (BeginAbort l.recovery) (λ (r : LogRecord). AbortRecord r.seq) g.S.Site EndAbort (λ (r : Rules). r.abort_put)
    (g.C.Compensator.state l.fn.comp) l.fn.site (reverse (drop l.place l.records)) (g.C.Compensator.state l.comp) l.site
