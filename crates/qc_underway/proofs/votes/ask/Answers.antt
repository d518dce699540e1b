use Rattle.std.proofs.Common.{◌≡◌, ◌++◌, length, map, ap, arith, length-append}
use Rattle.qc_base.specs.LogLines.{prepare_heard}
use Rattle.crm_driver.specs.Compensators.{CompensatorState}
use Rattle.crm_driver.specs.RowRules.{state_of}
use Rattle.qc_underway.proofs.Asking.{length-prepared}
use Rattle.qc_underway.proofs.votes.ask.Goals as goal

pub tell-requires-clause-room : goal.tell-requires-clause-room
tell-requires-clause-room c =
    let old = state_of c.args.named.now.compensator in
    let records = c.args.records.now in
    let more = prepare_heard (map old.rules.forgets records) c.prepare-ready.result records in
    let heard : c.prepare-ready.new.comp.heard ≡ old.heard ++ more = ap (λ (s : CompensatorState). s.heard) c.prepare-ready.ensures.heard in
    omega (arith, c.requires.room, ap length heard, length-append old.heard more, length-prepared old.rules.forgets c.prepare-ready.result records, ap length c.heard-before.ensures)
