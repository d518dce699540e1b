use Rattle.std.proofs.Common.{◌≡◌, ◌≢◌, true, length, sym, subst, rules}
use Rattle.std.specs.Option.{IfNone}
use Rattle.qc_base.specs.Spelling.{spelled_line, is_line}
use Rattle.qc_base.specs.declared.log_line.LogLine.{LogLine}
use Rattle.qc_base.proofs.LogSpellings.{line-free}
use Rattle.qc_entries.proofs.Whole.{not_begun, not_whole}
use Rattle.crm_log.proofs.line_reader.whole_line.Goals as goal

pub returns-in_err-line-clause-none : goal.returns-in_err-line-clause-none
returns-in_err-line-clause-none c =
    let bytes = c.args.bytes.now in
    subst (λ o. IfNone o ((line : LogLine) → is_line line ≡ true → bytes ≢ spelled_line line)) (sym c.from_residual.ensures) (not_begun is_line spelled_line bytes c.in_err-line.ensures)

pub returns-else-size-bytes-clause-none : goal.returns-else-size-bytes-clause-none
returns-else-size-bytes-clause-none c =
    let bytes = c.args.bytes.now in
    let other : c.in_ok-line.size ≢ length bytes = search rules in
    not_whole is_line spelled_line bytes line-free c.in_ok-line.size c.in_ok-line.line c.in_ok-line.ensures.0 other c.in_ok-line.ensures.1
