use Rattle.std.proofs.Common.{◌≡◌, ◌∙◌, Ok, Err, sym, ap, arith, rules}
use Rattle.qc_script.specs.Reading.{HasRead}
use Rattle.qc_script.specs.Scripts.{lines}
use Rattle.qc_script.proofs.LinesRead.{script_read, refused_by, refused_long}
use Rattle.qc_script.proofs.parse.parse_script.Goals as goal

pub returns-then-text-gt4096-clause-refused : goal.returns-then-text-gt4096-clause-refused
returns-then-text-gt4096-clause-refused c = λ line is. refused_long c.args.text.now c.args.params.now c.args.names.now line (omega arith) is

pub returns-in-Ok-over-clause-script : goal.returns-in-Ok-over-clause-script
returns-in-Ok-over-clause-script c =
    let read : HasRead (lines c.args.names.now c.args.params.now c.args.text.now) (Ok c.in-Ok.steps.items) = search rules in
    let same : c.in-Ok-over.script ≡ c.in-Ok.steps.items = search rules in
    script_read c.args.text.now c.args.params.now c.args.names.now c.in-Ok.steps.items (omega arith) read ∙ ap (λ s. Ok s) (sym same)

pub returns-in-Err-clause-refused : goal.returns-in-Err-clause-refused
returns-in-Err-clause-refused c = λ line is.
    let read : HasRead (lines c.args.names.now c.args.params.now c.args.text.now) (Err c.in-Err.error) = search rules in
    refused_by c.args.text.now c.args.params.now c.args.names.now c.in-Err.error line (omega arith) read is
