use Rattle.std.proofs.Common.{◌≡◌, ◌∙◌, List, ◌∷◌, Some, sym, ap, rules}
use Rattle.qc_script.specs.declared.step.Line.{Line}
use Rattle.qc_script.specs.Lines.{line_of}
use Rattle.qc_script.specs.Reading.{lines_left, rest_size}
use Rattle.qc_script.specs.Scripts.{lines}
use Rattle.qc_script.proofs.LinesRead.{lines_cut, read_stopped}
use Rattle.qc_script.proofs.parse.read_steps.Goals as goal

pub returns-in-Err-clause-read : goal.returns-in-Err-clause-read
returns-in-Err-clause-read c =
    let names = c.args.names.now in
    let params = c.args.params.now in
    let ls : List Line = lines_left names params c.first_line.result.1 in
    let there : c.loop-left.left ≡ Some c.in-Some.rest = search rules in
    let read : c.in-Ok.line ≡ line_of names params c.first_line.result.0.now = search rules in
    let cut : lines_left names params c.loop-left.left ≡ c.in-Ok.line ∷ ls =
    ap (lines_left names params) there ∙ lines_cut names params c.in-Some.rest.now c.first_line.result.0.now c.first_line.result.1 c.first_line.ensures.lines ∙ ap (λ (l : Line). l ∷ ls) (sym read) in
    read_stopped (lines names params c.args.text.now) (lines_left names params c.loop-left.left) ls c.in-Ok.line c.loop-left.number c.loop-left.reading.steps.items c.add_line.new.self.steps.items
    c.loop-left.reading.when c.add_line.new.self.when (rest_size c.loop-left.left) c.in-Err.error c.loop-left.invariant cut (c.in-Err.ensures.told ls)
