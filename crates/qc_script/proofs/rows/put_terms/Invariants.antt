use Rattle.std.proofs.Common.{◌≡◌, drop}
use Rattle.qc_script.specs.Naming.{rows_with, rows_of_terms}
use Rattle.qc_script.proofs.rows.put_terms.Given as goal

abbrev pub invariant-loop-term : goal.invariant-loop-term
invariant-loop-term l = rows_with l.rows.items (rows_of_terms l.args (drop l.term-index l.terms)) ≡ rows_with l.fn.rows.items (rows_of_terms l.args l.terms)
