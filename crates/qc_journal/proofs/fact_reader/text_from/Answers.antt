use Rattle.std.proofs.Common.{ap}
use Rattle.qc_journal.specs.Parts.{is_text_of, spelled_text}
use Rattle.std.specs.Option.{option_copied}
use Rattle.qc_entries.proofs.Sequence.{reads_none}
use Rattle.qc_journal.proofs.Refused.{text_long, text_short}
use Rattle.qc_journal.proofs.fact_reader.text_from.Goals as goal

pub returns-then-size-gt1048576 : goal.returns-then-size-gt1048576
returns-then-size-gt1048576 c = text_long _ _ c.in_ok-size.size c.in_ok-size.ensures c.if-size-gt1048576.true

pub returns-in_err-text : goal.returns-in_err-text
returns-in_err-text c = reads_none is_text_of spelled_text _ _ _ (ap (λ o. option_copied o) c.from_residual-in_err-text.ensures) (text_short _ _ c.in_ok-size.size c.in_ok-size.ensures c.in_err-text.ensures)
