use Rattle.std.proofs.Common.{◌≡◌, ◌+◌, drop, Result, Err, sym, subst, arith, rules}
use Rattle.qc_site.specs.declared.site.Failed.{Failed}
use Rattle.qc_underway.specs.Compensators.{registered_by}
use Rattle.qc_underway.specs.Phase.{DeliversPhase}
use Rattle.qc_underway.specs.Votes.{as_registration}
use Rattle.qc_underway.proofs.Asking.{all-behind}
use Rattle.qc_underway.proofs.Delivering.{all-delivered, delivered-one, delivering-begun, delivery-at-hand, delivery-hears, delivery-room, not-delivered}
use Rattle.qc_underway.proofs.phase.deliver.Goals as goal

pub loop-registered-init : goal.loop-registered-init
loop-registered-init g c =
    delivering-begun g.S.Site c.args.clerk.now c.args.committed c.args.told.now c.args.notices.now c.args.site.now c.requires.orderly c.requires.hears (λ told image left. g.met.S.Site.only_now c.args.site.now image told left)

pub deliver_registered-requires-clause-hears : goal.deliver_registered-requires-clause-hears
deliver_registered-requires-clause-hears g c =
    let site = g.S.Site in
    let l = c.loop-registered in
    let clerk = c.args.clerk.now in
    let committed = c.args.committed in
    let told = c.args.told.now in
    let old = c.args.notices.now in
    let regs = registered_by clerk in
    let pairs = c.registered-registered-items.result.now in
    let p = c.registered-item.result in
    let left = drop (l.registered-index + 1) regs in
    let so = delivery-at-hand site clerk committed told old c.args.site.now l.told l.notices l.site l.registered-index pairs p l.invariant c.registered-registered-items.ensures (omega (arith, c.loop-registered-test.true)) c.registered-item.is in
    delivery-hears site clerk committed told old c.args.site.now (as_registration p) left l.told l.notices l.site so

pub deliver_registered-requires-clause-room : goal.deliver_registered-requires-clause-room
deliver_registered-requires-clause-room g c =
    let site = g.S.Site in
    let l = c.loop-registered in
    let clerk = c.args.clerk.now in
    let committed = c.args.committed in
    let told = c.args.told.now in
    let old = c.args.notices.now in
    let regs = registered_by clerk in
    let pairs = c.registered-registered-items.result.now in
    let p = c.registered-item.result in
    let left = drop (l.registered-index + 1) regs in
    let so = delivery-at-hand site clerk committed told old c.args.site.now l.told l.notices l.site l.registered-index pairs p l.invariant c.registered-registered-items.ensures (omega (arith, c.loop-registered-test.true)) c.registered-item.is in
    delivery-room site clerk committed told old c.args.site.now (as_registration p) left l.told l.notices l.site so

pub returns-in_err-deliver_registered : goal.returns-in_err-deliver_registered
returns-in_err-deliver_registered g c =
    let site = g.S.Site in
    let l = c.loop-registered in
    let clerk = c.args.clerk.now in
    let committed = c.args.committed in
    let told = c.args.told.now in
    let old = c.args.notices.now in
    let regs = registered_by clerk in
    let pairs = c.registered-registered-items.result.now in
    let p = c.registered-item.result in
    let left = drop (l.registered-index + 1) regs in
    let so = delivery-at-hand site clerk committed told old c.args.site.now l.told l.notices l.site l.registered-index pairs p l.invariant c.registered-registered-items.ensures (omega (arith, c.loop-registered-test.true)) c.registered-item.is in
    let new = c.deliver_registered.new in
    let e = c.in_err-deliver_registered.field-0.0 in
    let failed = not-delivered site clerk committed told old c.args.site.now (as_registration p) left l.told l.notices l.site new.told new.notices new.site e c.requires.hears so c.in_err-deliver_registered.ensures in
    let is : c.from_residual.result ≡ Err e = search rules in
    subst (λ (r : Result (Unit {0}) Failed). DeliversPhase site clerk committed r told old.items c.args.site.now new.notices.items new.site) (sym is) failed

pub loop-registered-preserved : goal.loop-registered-preserved
loop-registered-preserved g c =
    let site = g.S.Site in
    let l = c.loop-registered in
    let clerk = c.args.clerk.now in
    let committed = c.args.committed in
    let told = c.args.told.now in
    let old = c.args.notices.now in
    let regs = registered_by clerk in
    let pairs = c.registered-registered-items.result.now in
    let p = c.registered-item.result in
    let left = drop (l.registered-index + 1) regs in
    let so = delivery-at-hand site clerk committed told old c.args.site.now l.told l.notices l.site l.registered-index pairs p l.invariant c.registered-registered-items.ensures (omega (arith, c.loop-registered-test.true)) c.registered-item.is in
    let new = c.deliver_registered.new in
    delivered-one site clerk committed told old c.args.site.now (as_registration p) left l.told l.notices l.site new.told new.notices new.site so c.in_ok-deliver_registered.ensures

pub returns : goal.returns
returns g c =
    let site = g.S.Site in
    let l = c.loop-registered in
    let clerk = c.args.clerk.now in
    let committed = c.args.committed in
    let told = c.args.told.now in
    let old = c.args.notices.now in
    let regs = registered_by clerk in
    let pairs = c.registered-registered-items.result.now in
    let none = all-behind regs pairs l.registered-index c.registered-registered-items.ensures (omega (arith, c.loop-registered-test.false)) in
    all-delivered site clerk committed told old c.args.site.now (drop l.registered-index regs) l.told l.notices l.site c.requires.hears none l.invariant
