use Rattle.qc_base.specs.Spelling.{spelled_arg, is_arg}
use Rattle.qc_base.proofs.Gathered.{Gathered}
use Rattle.qc_base.proofs.recording_reader.read_args.Given as goal

abbrev pub invariant-loop : goal.invariant-loop
invariant-loop l = Gathered is_arg spelled_arg l.initial.reader l.reader l.args.items l.counter
