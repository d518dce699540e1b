use Rattle.std.proofs.Common.{◌≡◌, ◌+◌, ◌≤◌, ◌++◌, map, filter, take, vec_len, vec_capacity}
use Rattle.qc_base.specs.declared.log_line.LogRecord.{LogRecord}
use Rattle.qc_base.specs.declared.log_line.Heard.TheVariants.{BeginPrepare}
use Rattle.crm_driver.proofs.Telling.{so_far}
use Rattle.crm_driver.proofs.Answering.{asked}
use Rattle.crm_driver.proofs.phases.prepare.Given as goal

abbrev pub invariant-loop-record : goal.invariant-loop-record
invariant-loop-record g l =
    (g.C.Compensator.state l.comp ≡ so_far BeginPrepare (asked (g.C.Compensator.state l.fn.comp).rules.forgets) (take l.record-index l.records) (g.C.Compensator.state l.fn.comp))
    × (l.forget.items ≡ l.fn.forget.items ++ map (λ (r : LogRecord). r.seq) (filter (g.C.Compensator.state l.fn.comp).rules.forgets (take l.record-index l.records)))
    × (vec_len l.forget ≤ vec_len l.fn.forget + l.record-index) × (vec_capacity l.forget ≡ vec_capacity l.fn.forget)
