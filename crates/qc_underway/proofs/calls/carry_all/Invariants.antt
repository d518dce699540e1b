use Rattle.std.proofs.Common.{Ok, take, drop}
use Rattle.qc_underway.specs.Calls.{CarriesAll}
use Rattle.qc_underway.specs.Standing.{HasRoomForAll}
use Rattle.qc_underway.proofs.calls.carry_all.Given as goal

abbrev pub invariant-loop-effect : goal.invariant-loop-effect
invariant-loop-effect g l =
    CarriesAll g.S.Site l.catalogue (take l.effect-index l.effects) (Ok (tt {0})) l.fn.clerk l.fn.log l.fn.site l.clerk l.log l.site
    × HasRoomForAll l.catalogue (drop l.effect-index l.effects) l.clerk l.log
