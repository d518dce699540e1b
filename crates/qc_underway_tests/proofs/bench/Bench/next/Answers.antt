use Rattle.std.proofs.Common.{Ok}
use Rattle.qc_underway.proofs.Orderly.{orderly-carried}
use Rattle.qc_underway_tests.proofs.bench.Bench.next.Goals as goal

pub returns-in-Ok-Ok : goal.returns-in-Ok-Ok
returns-in-Ok-Ok g c = λ running.
    let was = c.requires running in
    let old = c.args.self.now in
    let new = c.run_next.new in
    let ran = c.in-Ok-Ok.ensures in
    record {
      plays = ran.plays;
      phases = was.phases;
      stands = ran.runs.stands;
      room = ran.runs.room;
      orderly = orderly-carried g.S.Site c.args.catalogue.now new.attempt.play.effects (Ok c.in-Ok-Ok.field-0) old.clerk old.log old.site new.clerk new.log new.site ran.runs.carried was.orderly;
    }
