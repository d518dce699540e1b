use Rattle.std.proofs.Common.{◌≡◌, ◌*◌, ◌≤ℤ◌, pos, ◌-ℤ◌, drop}
use Rattle.qc_play.specs.Board.{applied}
use Rattle.qc_play.specs.Play.{worth_from}
use Rattle.qc_play.proofs.worth.worth.Given as goal

abbrev pub invariant-loop-signed : goal.invariant-loop-signed
invariant-loop-signed l = (worth_from l.args (applied l.writes l.view) l.sum (drop l.signed-index l.terms) ≡ worth_from l.args (applied l.writes l.view) (pos 0) l.terms)
    × ((pos 0 -ℤ pos (l.signed-index * 1000000000000000)) ≤ℤ l.sum) × (l.sum ≤ℤ pos (l.signed-index * 1000000000000000))
