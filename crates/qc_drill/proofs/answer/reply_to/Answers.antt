use Rattle.std.proofs.Common.{◌≡◌, ◌∙◌, refl, sym, ap, subst, inl, Ok, Err}
use Rattle.std.specs.Prelude.{Result}
use Rattle.qc_protocol.specs.declared.order.Order.{Order}
use Rattle.qc_protocol.specs.declared.reply.Refusal.{Refusal}
use Rattle.qc_protocol.specs.declared.reply.Refusal.TheVariants.{LineTooLong as TooLong, Malformed as NoOrder}
use Rattle.qc_protocol.specs.declared.order.Member.{Member}
use Rattle.qc_protocol.specs.declared.reply.Reply.TheVariants.{Refused}
use Rattle.qc_orders.specs.declared.error.OrderError.{OrderError}
use Rattle.qc_orders.specs.declared.error.OrderError.TheVariants.{LineTooLong, Malformed}
use Rattle.qc_orders.specs.Orders.{TellsLine}
use Rattle.qc_hub.specs.Calls.{StepsBy}
use Rattle.qc_machine.specs.Step.{step}
use Rattle.qc_hub.proofs.Calling.{handed_on, starved}
use Rattle.qc_hub.proofs.Later.{took-nothing}
use Rattle.qc_drill.specs.Drill.{asked, asked_at, asked_step, line_step}
use Rattle.qc_drill.proofs.Orders.{asked-short, asked-long, refused-line}
use Rattle.qc_drill.proofs.answer.reply_to.Goals as goal

pub returns-in-Ok : goal.returns-in-Ok
returns-in-Ok g c =
    let is : asked c.args.line.now ≡ Ok c.in-Ok.order = asked-short c.args.line.now (Ok c.in-Ok.order) c.in-Ok.ensures.0 c.in-Ok.ensures.1 in
    let P : Result Order Refusal → Type 0 = λ a. StepsBy g.S.Site (asked_at a) (λ s. line_step s c.args.line.now) c.apply.result c.args.hub.now c.args.site.now c.apply.new.self c.apply.new.site in
    subst P (sym is)
    (handed_on g.S.Site c.in-Ok.order.at (λ s. line_step s c.args.line.now) (λ s. step s c.in-Ok.order) _ _ _ _ _
    (λ s h. ap (asked_step s) is) c.apply.ensures)

pub returns-in-Err-LineTooLong : goal.returns-in-Err-LineTooLong
returns-in-Err-LineTooLong g c =
    let is : c.read_order.result ≡ Err LineTooLong = c.in-Err-LineTooLong.is ∙ ap (λ (e : OrderError). Err e) c.in-Err-LineTooLong.field-0-is in
    let tells : TellsLine (Err LineTooLong) c.args.line.now = subst (λ (r : Result Order OrderError). TellsLine r c.args.line.now) is c.read_order.ensures in
    refused-line g.S.Site c.args.line.now TooLong c.args.hub.now c.args.site.now (λ i told left. g.met.S.Site.only_now c.args.site.now i told left) c.requires (asked-long c.args.line.now tells)

pub returns-in-Err-Malformed : goal.returns-in-Err-Malformed
returns-in-Err-Malformed g c =
    let m = c.in-Err-Malformed.member in
    let is : c.read_order.result ≡ Err (Malformed m) = c.in-Err-Malformed.is ∙ ap (λ (e : OrderError). Err e) c.in-Err-Malformed.field-0-is in
    let tells : TellsLine (Err (Malformed m)) c.args.line.now = subst (λ (r : Result Order OrderError). TellsLine r c.args.line.now) is c.read_order.ensures in
    subst (λ (x : Member). StepsBy g.S.Site (asked_at (asked c.args.line.now)) (λ s. line_step s c.args.line.now) (Ok (Refused (NoOrder x))) c.args.hub.now c.args.site.now c.args.hub.now c.args.site.now) (sym c.in-Err-Malformed.member-is)
    (refused-line g.S.Site c.args.line.now (NoOrder m) c.args.hub.now c.args.site.now (λ i told left. g.met.S.Site.only_now c.args.site.now i told left) c.requires (asked-short c.args.line.now (Err m) tells.0 tells.1))

pub returns-in-Err-NoMemory : goal.returns-in-Err-NoMemory
returns-in-Err-NoMemory g c = starved g.S.Site _ (λ s. line_step s c.args.line.now) _ c.args.hub.now c.args.hub.now c.args.site.now (λ i told left. g.met.S.Site.only_now c.args.site.now i told left) c.requires (inl (took-nothing c.args.hub.now)) refl
