use Rattle.qc_drill.proofs.Beginnings.{front-on}
use Rattle.qc_drill.proofs.laws.lines_lose_no_fact.Goals as goal

pub returns : goal.returns
returns c = front-on
