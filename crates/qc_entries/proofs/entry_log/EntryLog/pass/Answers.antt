use Rattle.std.proofs.Common.{drop, length, ap, sym, ◌∙◌, arith}
use Rattle.std.proofs.lemmas.List.{drop-drop, length-drop}
use Rattle.qc_entries.specs.Entries.{EntriesView}
use Rattle.qc_entries.proofs.entry_log.EntryLog.pass.Goals as goal

pub overflow_add-self : goal.overflow_add-self
overflow_add-self c = omega (arith, c.requires, ap (λ (v : EntriesView). length v.left) c.self.view_is, length-drop c.self.inside.passed c.self.inside.group, c.self.invariant.1)

pub returns : goal.returns
returns c =
    let left = drop-drop c.args.count c.self.inside.passed c.self.inside.group in
    (λ i. record { log = c.self.inside.log; left = sym left i }) ∙ ap (λ (v : EntriesView). record v { left = drop c.args.count v.left }) c.self.view_is
