use Rattle.qc_play.proofs.EffectLaws.{begun, call-leads}
use Rattle.qc_play.proofs.InsideRows.{call_leaves}
use Rattle.qc_play.proofs.Playing.{call_rows}
use Rattle.qc_play.proofs.laws.a_call_changes_what_it_says.Goals as goal

pub returns : goal.returns
returns c = record {
  rows = call_rows;
  inside = λ row is script args play next none e. call_leaves row is script args play next none e;
  begun = λ view. begun view;
  effects = λ first script args play next is e. let led = call-leads first script args play next is e in (led.leads, led.stands);
}
