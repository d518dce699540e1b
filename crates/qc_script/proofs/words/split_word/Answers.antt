use Rattle.std.proofs.Common.{sym, ◌∙◌}
use Rattle.qc_script.proofs.Gaps.{first_word, no_word}
use Rattle.qc_script.proofs.words.split_word.Goals as goal

pub returns-then-is_empty : goal.returns-then-is_empty
returns-then-is_empty c = no_word c.args.line.now c.behind_spaces-line.result.now c.behind_spaces-line.ensures.words (sym c.is_empty.ensures ∙ c.if-is_empty.true)

pub returns : goal.returns
returns c = first_word c.args.line.now c.behind_spaces-line.result.now c.word_end-end.result c.behind_spaces-line.ensures.words c.behind_spaces-line.ensures.starts (sym c.is_empty.ensures ∙ c.if-is_empty.false) c.word_end-end.ensures.value
