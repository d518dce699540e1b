use Rattle.qc_base.specs.Spelling.{eight_bytes, is_id}
use Rattle.qc_base.proofs.Gathered.{Gathered}
use Rattle.qc_journal.proofs.fact_reader.ids_from.Given as goal

abbrev pub invariant-loop : goal.invariant-loop
invariant-loop l = Gathered is_id eight_bytes l.initial.reader l.reader l.ids.items l.counter
