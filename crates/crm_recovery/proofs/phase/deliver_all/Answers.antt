use Rattle.std.proofs.Common.{◌≡◌, ◌<◌, ◌+◌, List, [], ◌∷◌, map, drop, length, slice_index_or, slice_set, vec_len, vec_capacity, Result, Err, refl, sym, ap, subst, arith, rules, append-nil, All}
use Rattle.std.proofs.lemmas.List.{drop_more, drop-set-lt}
use Rattle.std.proofs.lemmas.List.Elements.{All-head}
use Rattle.std.specs.List.{flat_map}
use Rattle.qc_site.specs.declared.site.Failed.{Failed}
use Rattle.crm_driver.specs.Puts.{MakesPuts}
use Rattle.crm_driver.proofs.Putting.{none_made}
use Rattle.crm_recovery.specs.Tellings.{Plan, IsReady, plan_of, plan_puts}
use Rattle.crm_recovery.proofs.Delivering.{Delivering, delivered-one, delivery-failed}
use Rattle.crm_recovery.proofs.phase.deliver_all.Goals as goal

pub loop-place-init : goal.loop-place-init
loop-place-init g c = record {
  done = [];
  split = refl;
  ready = c.requires.ready;
  told = sym (append-nil c.args.notices.now.items);
  room = c.requires.room;
  puts = none_made g.S.Site (tt {0}) c.args.site.now (λ told i left. g.met.S.Site.only_now c.args.site.now i told left);
}

pub deliver_one-requires-clause-ready : goal.deliver_one-requires-clause-ready
deliver_one-requires-clause-ready g c =
    let loop = c.loop-place in
    let t = slice_index_or loop.tellings loop.place c.index-tellings-place.result in
    let inside : loop.place < length loop.tellings = omega (arith, c.loop-place-test.true, loop.auto.tellings) in
    let front : map plan_of (drop loop.place loop.tellings) ≡ plan_of t ∷ map plan_of (drop (loop.place + 1) loop.tellings) = ap (map plan_of) (drop_more loop.tellings loop.place c.index-tellings-place.result inside) in
    All-head IsReady (plan_of t) (map plan_of (drop (loop.place + 1) loop.tellings)) (subst (λ (l : List Plan). All IsReady l) front loop.invariant.ready)

pub returns-in_err-deliver_one-clause-puts : goal.returns-in_err-deliver_one-clause-puts
returns-in_err-deliver_one-clause-puts g c =
    let loop = c.loop-place in
    let t = slice_index_or loop.tellings loop.place c.index-tellings-place.result in
    let inside : loop.place < length loop.tellings = omega (arith, c.loop-place-test.true, loop.auto.tellings) in
    let left = map plan_of (drop (loop.place + 1) loop.tellings) in
    let all = map plan_of c.args.tellings.now in
    let front : map plan_of (drop loop.place loop.tellings) ≡ plan_of t ∷ left = ap (map plan_of) (drop_more loop.tellings loop.place c.index-tellings-place.result inside) in
    let so = subst (λ (l : List Plan). Delivering g.S.Site c.args.committed all c.args.notices.now.items c.args.site.now l loop.notices.items (vec_len loop.notices) (vec_capacity loop.notices) loop.site) front loop.invariant in
    let e : Failed = c.in_err-deliver_one.field-0.0 in
    let is : c.from_residual.result ≡ Err e = search rules in
    subst (λ (r : Result Unit Failed). MakesPuts g.S.Site {A = Unit {0}} (flat_map (plan_puts c.args.committed) all) r c.args.site.now c.deliver_one.new.site) (sym is)
    (delivery-failed g.S.Site c.args.committed all c.args.notices.now.items c.args.site.now (plan_of t) left loop.notices.items (vec_len loop.notices) (vec_capacity loop.notices) loop.site c.deliver_one.new.site e so c.in_err-deliver_one.ensures.puts)

pub loop-place-preserved : goal.loop-place-preserved
loop-place-preserved g c =
    let loop = c.loop-place in
    let t = slice_index_or loop.tellings loop.place c.index-tellings-place.result in
    let now = c.deliver_one.new.telling in
    let inside : loop.place < length loop.tellings = omega (arith, c.loop-place-test.true, loop.auto.tellings) in
    let left = map plan_of (drop (loop.place + 1) loop.tellings) in
    let all = map plan_of c.args.tellings.now in
    let front : map plan_of (drop loop.place loop.tellings) ≡ plan_of t ∷ left = ap (map plan_of) (drop_more loop.tellings loop.place c.index-tellings-place.result inside) in
    let so = subst (λ (l : List Plan). Delivering g.S.Site c.args.committed all c.args.notices.now.items c.args.site.now l loop.notices.items (vec_len loop.notices) (vec_capacity loop.notices) loop.site) front loop.invariant in
    let same : map plan_of (drop (loop.place + 1) (slice_set loop.tellings loop.place now)) ≡ left = ap (map plan_of) (drop-set-lt (loop.place + 1) loop.tellings loop.place now (omega arith)) in
    let new = c.deliver_one.new.notices in
    subst (λ (l : List Plan). Delivering g.S.Site c.args.committed all c.args.notices.now.items c.args.site.now l new.items (vec_len new) (vec_capacity new) c.deliver_one.new.site) (sym same)
    (delivered-one g.S.Site c.args.committed all c.args.notices.now.items c.args.site.now (plan_of t) left loop.notices.items new.items (vec_len loop.notices) (vec_len new) (vec_capacity loop.notices) (vec_capacity new) loop.site c.deliver_one.new.site so
    c.in_ok-deliver_one.ensures.puts c.in_ok-deliver_one.ensures.told c.in_ok-deliver_one.ensures.len c.in_ok-deliver_one.ensures.capacity)
