use Rattle.std.proofs.Common.{◌≡◌, ◌∙◌, ap, arith, length, None}
use Rattle.std.proofs.lemmas.List.{length-replicate}
use Rattle.qc_hub.proofs.clients.Clients.make.Goals as goal

pub invariant_of-result : goal.invariant_of-result
invariant_of-result c =
    let all : c.loop.counter ≡ 16 = omega (arith, c.loop-test.false, c.loop.auto.counter-end) in
    ap length c.loop.invariant ∙ length-replicate c.loop.counter None ∙ all
