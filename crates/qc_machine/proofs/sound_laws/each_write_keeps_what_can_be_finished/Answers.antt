use Rattle.qc_machine.proofs.Changed.{lines-left, fact-own, fact-beside, put-left, done-left}
use Rattle.qc_machine.proofs.sound_laws.each_write_keeps_what_can_be_finished.Goals as goal

pub returns : goal.returns
returns c = record {
  lines = λ h lines more a rows mine first now is own legal. lines-left h lines more a own legal rows mine first now is;
  fact = fact-own;
  fact_beside = fact-beside;
  put = put-left;
  done = λ h lines more a rows next is own legal. done-left h lines more a own legal rows next is;
}
