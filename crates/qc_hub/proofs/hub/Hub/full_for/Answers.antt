use Rattle.std.proofs.Common.{◌∙◌, ap, arith, Some, ◌*◌, ◌+◌}
use Rattle.qc_hub.specs.declared.hub.Hub.{Hub}
use Rattle.qc_protocol.specs.declared.reply.Refusal.TheVariants.{Full}
use Rattle.qc_hub.proofs.Room.{journal-always-full}
use Rattle.qc_hub.proofs.hub.Hub.full_for.Goals as goal

pub returns-in-None : goal.returns-in-None
returns-in-None c s h =
    let hub : Hub = c.args.self.now in
    ap (λ n. Some (Full n)) c.length.ensures ∙ journal-always-full hub s h (c.args.facts * (22 + c.args.named) + 8 * c.args.ids) (omega (arith, c.if-prove.false, c.in-None.ensures))
