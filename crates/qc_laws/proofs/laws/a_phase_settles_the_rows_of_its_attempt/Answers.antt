use Rattle.qc_laws.proofs.PhaseOf.{end-finishable, going-finishable, phase-finishes, phase-others, phase-own}
use Rattle.qc_laws.proofs.laws.a_phase_settles_the_rows_of_its_attempt.Goals as goal

pub returns : goal.returns
returns m = record {
  going = going-finishable;
  ended = end-finishable;
  own = phase-own;
  others = phase-others;
  finished = phase-finishes;
}
