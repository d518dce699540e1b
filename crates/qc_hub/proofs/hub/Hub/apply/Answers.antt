use Rattle.std.proofs.Common.{◌∙◌, sym}
use Rattle.qc_protocol.specs.declared.order.Act.TheVariants.{OpenSlot, Send, Take, Play, Move, Switch, Queues, Table, Outside}
use Rattle.qc_hub.proofs.Calling.{of_order}
use Rattle.qc_hub.proofs.InMemory.{in_memory}
use Rattle.qc_hub.proofs.hub.Hub.apply.Goals as goal

pub returns-in-OpenSlot : goal.returns-in-OpenSlot
returns-in-OpenSlot g c =
    of_order g.S.Site c.args.order.now.at _ _ (c.in-OpenSlot.is ∙ (λ i. OpenSlot c.in-OpenSlot.client ((sym c.as_slice.ensures) i) ((sym c.as_slice-in-OpenSlot.ensures) i))) _ c.args.self.now _ _ _
    (in_memory g.S.Site c.args.order.now.at _ c.args.self.now _ c.args.site.now _ (g.met.S.Site.only_now c.args.site.now) c.requires c.open_client.ensures)

pub returns-in-CallSlot : goal.returns-in-CallSlot
returns-in-CallSlot g c =
    of_order g.S.Site c.args.order.now.at _ _ c.in-CallSlot.is _ c.args.self.now _ _ _
    (in_memory g.S.Site c.args.order.now.at _ c.args.self.now _ c.args.site.now _ (g.met.S.Site.only_now c.args.site.now) c.requires c.call_client.ensures)

pub returns-in-CommitSlot : goal.returns-in-CommitSlot
returns-in-CommitSlot g c =
    of_order g.S.Site c.args.order.now.at _ _ c.in-CommitSlot.is _ c.args.self.now _ _ _
    c.commit_client.ensures

pub returns-in-CancelSlot : goal.returns-in-CancelSlot
returns-in-CancelSlot g c =
    of_order g.S.Site c.args.order.now.at _ _ c.in-CancelSlot.is _ c.args.self.now _ _ _
    (in_memory g.S.Site c.args.order.now.at _ c.args.self.now _ c.args.site.now _ (g.met.S.Site.only_now c.args.site.now) c.requires c.cancel_client.ensures)

pub returns-in-Send : goal.returns-in-Send
returns-in-Send g c =
    of_order g.S.Site c.args.order.now.at _ _ (c.in-Send.is ∙ (λ i. Send ((sym c.as_slice-in-Send.ensures) i) ((sym c.as_slice-in-Send-2.ensures) i) ((sym c.as_slice-in-Send-3.ensures) i))) _ c.args.self.now _ _ _
    c.send.ensures

pub returns-in-Take : goal.returns-in-Take
returns-in-Take g c =
    of_order g.S.Site c.args.order.now.at _ _ (c.in-Take.is ∙ (λ i. Take c.in-Take.player ((sym c.as_slice-in-Take.ensures) i))) _ c.args.self.now _ _ _
    c.take.ensures

pub returns-in-Work : goal.returns-in-Work
returns-in-Work g c =
    of_order g.S.Site c.args.order.now.at _ _ c.in-Work.is _ c.args.self.now _ _ _
    c.work.ensures.carried

pub returns-in-End : goal.returns-in-End
returns-in-End g c =
    of_order g.S.Site c.args.order.now.at _ _ c.in-End.is _ c.args.self.now _ _ _
    c.end.ensures.carried

pub returns-in-Phase : goal.returns-in-Phase
returns-in-Phase g c =
    of_order g.S.Site c.args.order.now.at _ _ c.in-Phase.is _ c.args.self.now _ _ _
    c.phase.ensures.carried

pub returns-in-Play : goal.returns-in-Play
returns-in-Play g c =
    of_order g.S.Site c.args.order.now.at _ _ (c.in-Play.is ∙ (λ i. Play c.in-Play.player ((sym c.as_slice-in-Play.ensures) i))) _ c.args.self.now _ _ _
    c.play.ensures

pub returns-in-Move : goal.returns-in-Move
returns-in-Move g c =
    of_order g.S.Site c.args.order.now.at _ _ (c.in-Move.is ∙ (λ i. Move ((sym c.as_slice-in-Move.ensures) i) ((sym c.as_slice-in-Move-2.ensures) i) c.in-Move.batch)) _ c.args.self.now _ _ _
    c.move_messages.ensures

pub returns-in-Switch : goal.returns-in-Switch
returns-in-Switch g c =
    of_order g.S.Site c.args.order.now.at _ _ (c.in-Switch.is ∙ (λ i. Switch ((sym c.as_slice-in-Switch.ensures) i) c.in-Switch.on)) _ c.args.self.now _ _ _
    c.switch_app.ensures

pub returns-in-Queues : goal.returns-in-Queues
returns-in-Queues g c =
    of_order g.S.Site c.args.order.now.at _ _ (c.in-Queues.is ∙ (λ i. Queues ((sym c.as_slice-in-Queues.ensures) i))) _ c.args.self.now _ _ _
    (in_memory g.S.Site c.args.order.now.at _ c.args.self.now _ c.args.site.now _ (g.met.S.Site.only_now c.args.site.now) c.requires c.queues.ensures)

pub returns-in-Table : goal.returns-in-Table
returns-in-Table g c =
    of_order g.S.Site c.args.order.now.at _ _ (c.in-Table.is ∙ (λ i. Table ((sym c.as_slice-in-Table.ensures) i))) _ c.args.self.now _ _ _
    (in_memory g.S.Site c.args.order.now.at _ c.args.self.now _ c.args.site.now _ (g.met.S.Site.only_now c.args.site.now) c.requires c.table.ensures)

pub returns-in-Outside : goal.returns-in-Outside
returns-in-Outside g c =
    of_order g.S.Site c.args.order.now.at _ _ (c.in-Outside.is ∙ (λ i. Outside ((sym c.as_slice-in-Outside.ensures) i))) _ c.args.self.now _ _ _
    c.outside.ensures
