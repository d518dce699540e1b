use Rattle.qc_play.proofs.CallCounts.{call-adds}
use Rattle.qc_play.proofs.CallLimits.{call-fits, call-forced}
use Rattle.qc_play.proofs.laws.a_call_stays_in_its_limits.Goals as goal

pub returns : goal.returns
returns c = record {
  range = λ script args play next view records e. let fit = call-fits script args play next view records e in (fit.view, fit.records, fit.effects);
  few = call-adds;
  forced = call-forced;
}
