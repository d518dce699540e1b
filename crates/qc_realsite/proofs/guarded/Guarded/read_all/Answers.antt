use Rattle.std.proofs.Common.{rules, ◌+◌, ◌-◌, length, IfSome, List, Option, ℕ, subst}
use Rattle.qc_realsite.specs.Calls.{GivesSome}
use Rattle.qc_realsite.proofs.Parts.{read_step}
use Rattle.qc_realsite.proofs.guarded.Guarded.read_all.Goals as goal

pub loop-done-preserved : goal.loop-done-preserved
loop-done-preserved g c =
    let done = c.loop-done.done in
    let n = c.in_ok-count.count in
    let into = c.loop-done.into in
    let sub = c.read_some.new.into in
    let invariant = c.loop-done.invariant in
    let P : Option (List ℕ) → Type 0 = λ o. IfSome o (GivesSome (c.args.at + done) n sub) in
    let given = subst P invariant.2 c.in_ok-count.ensures.given in
    let far = invariant.6 in
    (search rules, search rules, search rules, search rules, search rules, search rules, read_step c.args.at done n (length into - done) into sub (g.F.RawFile.holds c.args.self.now.file) (search rules) (search rules) far given)
