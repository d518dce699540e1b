use Rattle.std.proofs.Common.{rules, ◌+◌, IfSome, List, ℕ, subst}
use Rattle.std.proofs.lemmas.List.{take_rest}
use Rattle.qc_realsite.specs.Calls.{TakesSome}
use Rattle.qc_realsite.proofs.Parts.{write_step}
use Rattle.qc_realsite.proofs.guarded.Guarded.write_all.Goals as goal

pub loop-done-preserved : goal.loop-done-preserved
loop-done-preserved g c =
    let done = c.loop-done.done in
    let n = c.in_ok-done.field-0 in
    let bytes = c.args.bytes.now in
    let mid = g.F.RawFile.holds c.loop-done.self.file in
    let now = g.F.RawFile.holds c.write_some.new.file in
    let P : List ℕ → Type 0 = λ l. IfSome mid (TakesSome (c.args.at + done) n l now) in
    let more = subst P (take_rest bytes done) c.in_ok-done.ensures.taken in
    (search rules, search rules, search rules, search rules, write_step c.args.at done n bytes (g.F.RawFile.holds c.args.self.now.file) mid now (search rules) c.loop-done.invariant.4 more)
