use Rattle.qc_base.specs.Spelling.{spelled_call, is_call}
use Rattle.qc_base.proofs.Gathered.{Gathered}
use Rattle.qc_base.proofs.recording_reader.read_calls.Given as goal

abbrev pub invariant-loop : goal.invariant-loop
invariant-loop l = Gathered is_call spelled_call l.initial.reader l.reader l.calls.items l.counter
