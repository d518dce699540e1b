use Rattle.std.proofs.Common.{rules, ◌≡◌, ◌-◌, ◌∙◌, take, drop, length, arith}
use Rattle.std.proofs.lemmas.List.{take_all, length-drop}
use Rattle.qc_memsite.proofs.Undone.{cut_undone}
use Rattle.qc_memsite.proofs.step.Step.cut.Goals as goal

pub returns-clause-undone : goal.returns-clause-undone
returns-clause-undone c =
    let file = c.args.file.now in
    let is : c.in_ok-was.was'.items ≡ take (length file - c.args.len) (drop c.args.len file) = search rules in
    cut_undone file c.args.len c.in_ok-was.was'.items c.requires (is ∙ take_all (length file - c.args.len) (drop c.args.len file) (omega (arith, length-drop c.args.len file)))
