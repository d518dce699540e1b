use Rattle.std.proofs.Common.{rules, ◌≡◌, take, drop}
use Rattle.qc_memsite.proofs.Undone.{write_undone}
use Rattle.qc_memsite.proofs.step.Step.write.Goals as goal

pub returns-clause-undone : goal.returns-clause-undone
returns-clause-undone c =
    let is : c.in_ok-was.was'.items ≡ take c.min-count.result (drop c.args.at c.args.file.now) = search rules in
    write_undone c.args.file.now c.args.at c.args.bytes.now c.requires c.min-count.result c.in_ok-was.was'.items c.min-count.ensures is
