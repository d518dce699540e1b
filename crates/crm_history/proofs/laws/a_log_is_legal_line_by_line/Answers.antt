use Rattle.std.proofs.Common.{[]}
use Rattle.crm_history.proofs.Legal.{follow-more}
use Rattle.crm_history.proofs.laws.a_log_is_legal_line_by_line.Goals as goal

pub returns : goal.returns
returns c = λ catalogue sent ended lines line. follow-more catalogue sent ended [] lines line
