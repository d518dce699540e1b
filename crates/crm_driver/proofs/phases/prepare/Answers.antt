use Rattle.std.proofs.Common.{◌≡◌, ◌∙◌, List, take, ap, arith, take_all}
use Rattle.qc_base.specs.declared.log_line.LogRecord.{LogRecord}
use Rattle.qc_base.specs.declared.log_line.Heard.TheVariants.{BeginPrepare}
use Rattle.crm_driver.proofs.Telling.{so_far}
use Rattle.crm_driver.proofs.Answering.{asked, prepared}
use Rattle.crm_driver.proofs.phases.prepare.Goals as goal

pub returns-clause-heard : goal.returns-clause-heard
returns-clause-heard g c =
    let state = g.C.Compensator.state in
    let old = state c.args.comp.now in
    let records = c.args.records.now in
    let all : take c.loop-record.record-index records ≡ records = take_all c.loop-record.record-index records (omega arith) in
    prepared old.rules.forgets records c.end_prepare.result old (state c.loop-record.comp) (state c.end_prepare.new.self)
    (c.loop-record.invariant.0 ∙ ap (λ (l : List LogRecord). so_far BeginPrepare (asked old.rules.forgets) l old) all) c.end_prepare.ensures.heard
