use Rattle.qc_players.proofs.Works.{failed-works, ran-works}
use Rattle.qc_players.proofs.attempts.work_on.Goals as goal

pub returns-in-Ok : goal.returns-in-Ok
returns-in-Ok c =
    ran-works c.args.catalogue.now c.args.attempt.now c.run_next.new.self c.requires.played c.in-Ok.ensures.plays c.told.result c.in-Ok.number c.in-Ok.ensures.ran c.told.ensures

pub returns-in-Err : goal.returns-in-Err
returns-in-Err c =
    failed-works c.args.catalogue.now c.args.attempt.now c.run_next.new.self c.requires.played c.in-Err.ensures.plays c.told-in-Err.result c.in-Err.field-0 c.in-Err.ensures.ran c.told-in-Err.ensures
