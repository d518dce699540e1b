use Rattle.std.proofs.Common.{◌≡◌, subst, rules}
use Rattle.qc_script.specs.declared.step.Line.{Line}
use Rattle.qc_script.specs.declared.step.Line.TheVariants.{Step as line_step}
use Rattle.qc_script.specs.Reading.{Adds}
use Rattle.qc_script.proofs.parse.Reading.add_line.Goals as goal

pub returns-in-Step-clause-told : goal.returns-in-Step-clause-told
returns-in-Step-clause-told c = λ ls.
    let same : line_step c.in-Step.step ≡ c.args.line = search rules in
    subst (λ (l : Line). Adds c.args.number l c.args.self.now.steps.items c.args.self.now.when c.add.new.self.steps.items c.add.new.self.when ls c.add.result) same (c.add.ensures.told ls)
