use Rattle.qc_underway.proofs.SetAside.{set-aside-lines, set-aside-room}
use Rattle.qc_underway.proofs.laws.what_is_set_aside_is_enough.Goals as goal

pub returns-clause-log : goal.returns-clause-log
returns-clause-log w = set-aside-lines

pub returns-clause-clerk : goal.returns-clause-clerk
returns-clause-clerk w = set-aside-room
