use Rattle.std.proofs.Common.{◌≡◌, ◌∙◌, ◌*◌, ◌+◌, ◌≤◌, List, length, true, false, Some, None, refl, sym, ap, subst, arith, rules}
use Rattle.std.proofs.lemmas.Result.{on_ok_weaker}
use Rattle.std.specs.Vec.{with_item}
use Rattle.qc_base.specs.declared.log_line.LogRecord.{LogRecord}
use Rattle.qc_base.specs.declared.log_line.Notice.{Notice}
use Rattle.qc_base.specs.LogLines.{has_phase, notices_to, phase_of}
use Rattle.crm_driver.specs.Puts.{RowPut, MakesPuts}
use Rattle.crm_recovery.specs.Tellings.{phase_flag}
use Rattle.qc_underway.specs.declared.compensators.Named.{Named}
use Rattle.qc_underway.specs.Compensators.{TellsMore, hears_more, kept_of, place_from, records_of}
use Rattle.qc_underway.specs.Phase.{phase_heard, phase_order, rules_puts, told_puts}
use Rattle.qc_underway.specs.Votes.{as_registration}
use Rattle.qc_underway.proofs.Delivering.{phase-notices, puts-by}
use Rattle.qc_underway.proofs.Kept.{hears-alone, not-nobody, spare-at, stands-there}
use Rattle.qc_underway.proofs.phase.deliver_registered.Goals as goal

pub returns-in_default : goal.returns-in_default
returns-in_default g c =
    let name = c.args.registered.now.0 in
    let told = c.args.told.now in
    let none : place_from 0 name told.each.items ≡ None = ap (λ (l : List Named). place_from 0 name l) (sym c.deref.ensures.value) ∙ sym c.place_of.ensures ∙ c.in_default.is in
    absurd (not-nobody 1 (length (records_of c.args.clerk.now name)) name told c.requires.hears none)

pub index_mut-requires : goal.index_mut-requires
index_mut-requires g c =
    let name = c.args.registered.now.0 in
    let told = c.args.told.now in
    let at : place_from 0 name told.each.items ≡ Some c.in-Some.place = ap (λ (l : List Named). place_from 0 name l) (sym c.deref.ensures.value) ∙ sym c.place_of.ensures ∙ c.in-Some.is in
    omega (arith, (stands-there name told.each.items c.in-Some.place at).inside, told.each.ok.0)

pub deliver_one-requires-clause-calls : goal.deliver_one-requires-clause-calls
deliver_one-requires-clause-calls g c =
    let name = c.args.registered.now.0 in
    let told = c.args.told.now in
    let count = length (records_of c.args.clerk.now name) in
    let was = c.index_mut.result.now in
    let at : place_from 0 name told.each.items ≡ Some c.in-Some.place = ap (λ (l : List Named). place_from 0 name l) (sym c.deref.ensures.value) ∙ sym c.place_of.ensures ∙ c.in-Some.is in
    let spare : 1 * (count + 2) ≤ (kept_of was).state.spare = (spare-at 1 count name told c.in-Some.place was at c.index_mut.ensures.value c.requires.hears).0 in
    omega (arith, spare, ap length c.records.ensures)

pub returns : goal.returns
returns g c =
    let site = g.S.Site in
    let clerk = c.args.clerk.now in
    let told = c.args.told.now in
    let committed = c.args.committed in
    let r = as_registration c.args.registered.now in
    let name = r.resource in
    let records = records_of clerk name in
    let was = c.index_mut.result.now in
    let place = c.in-Some.place in
    let result = c.deliver_one.result in
    let ru = (kept_of was).state.rules in
    let at : place_from 0 name told.each.items ≡ Some place = ap (λ (l : List Named). place_from 0 name l) (sym c.deref.ensures.value) ∙ sym c.place_of.ensures ∙ c.in-Some.is in
    let own : was.name ≡ name = ap (λ (x : Named). x.name) c.index_mut.ensures.value ∙ (stands-there name told.each.items place at).own was in
    let has : has_phase (phase_flag committed) r.phases ≡ true = search rules in
    let found = (spare-at 1 (length records) name told place was at c.index_mut.ensures.value c.requires.hears).1 in
    let puts : rules_puts ru committed c.records.result.now ≡ told_puts clerk told committed r = ap (rules_puts ru committed) c.records.ensures ∙ sym (puts-by clerk told committed r (kept_of was).state has found) in
    let notices : notices_to was.name (phase_heard committed c.records.result.now) ≡ phase_of clerk.lines clerk.attempt committed false r
    = (λ i. notices_to (own i) (phase_heard committed (c.records.ensures i))) ∙ sym (phase-notices clerk committed r has) in
    record {
      puts = subst (λ (l : List RowPut). MakesPuts site l result c.args.site.now c.deliver_one.new.site) puts c.deliver_one.ensures.puts;
      heard = on_ok_weaker result (λ tells. subst (λ (l : List Notice). TellsMore l c.args.notices.now c.deliver_one.new.notices) notices tells) c.deliver_one.ensures.notices;
      others = on_ok_weaker result (λ kept other apart.
          let same : (kept_of c.deliver_one.new.named) ≡ hears_more (phase_heard committed records) (phase_order committed records) (kept_of was) = kept ∙ ap (λ (l : List LogRecord). hears_more (phase_heard committed l) (phase_order committed l) (kept_of was)) c.records.ensures in
          let one = hears-alone name told place (with_item told.each place c.deliver_one.new.named) told.forget was c.deliver_one.new.named (phase_heard committed records) (phase_order committed records) at refl c.index_mut.ensures.value same refl in
          one.others other apart) c.deliver_one.ensures.named;
      forget = on_ok_weaker result (λ kept. refl) c.deliver_one.ensures.named;
    }
