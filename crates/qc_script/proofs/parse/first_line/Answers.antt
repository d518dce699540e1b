use Rattle.std.proofs.Common.{arith}
use Rattle.qc_script.proofs.FirstLine.{line_cut, line_whole}
use Rattle.qc_script.proofs.parse.first_line.Goals as goal

pub returns-then-end-text-clause-lines : goal.returns-then-end-text-clause-lines
returns-then-end-text-clause-lines c = line_whole c.args.text.now c.line_end-end.result c.line_end-end.ensures.value (omega arith)

pub returns-clause-lines : goal.returns-clause-lines
returns-clause-lines c = line_cut c.args.text.now c.line_end-end.result c.line_end-end.ensures.value (omega arith)
