use Rattle.std.proofs.Common.{take}
use Rattle.qc_base.specs.declared.log_line.LogRecord.{LogRecord}
use Rattle.qc_base.specs.declared.log_line.Heard.TheVariants.{BeginCommit, CommitRecord, EndCommit}
use Rattle.crm_driver.specs.Compensators.{Rules}
use Rattle.crm_driver.proofs.Telling.{Underway}
use Rattle.crm_driver.proofs.phases.commit.Given as goal

abbrev pub invariant-loop-record : goal.invariant-loop-record
invariant-loop-record g l = Underway (BeginCommit l.recovery) (λ (r : LogRecord). CommitRecord r.seq) g.S.Site EndCommit (λ (r : Rules). r.commit_put)
    (g.C.Compensator.state l.fn.comp) l.fn.site (take l.record-index l.records) (g.C.Compensator.state l.comp) l.site
