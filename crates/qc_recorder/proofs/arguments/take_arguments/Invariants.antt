use Rattle.std.proofs.Common.{◌≡◌, length, true}
use Rattle.std.specs.List.{list_all}
use Rattle.qc_base.specs.Spelling.{is_arg}
use Rattle.qc_recorder.proofs.Gathering.{IsGathered}
use Rattle.qc_recorder.proofs.arguments.take_arguments.Given as goal

abbrev pub invariant-loop-index : goal.invariant-loop-index
invariant-loop-index l = record {
  gathered : IsGathered l.call l.params l.args l.taken.items l.index;
  limits : list_all is_arg l.taken.items ≡ true;
  long : length l.taken.items ≡ l.index;
}
