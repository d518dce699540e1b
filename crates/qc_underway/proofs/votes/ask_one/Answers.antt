use Rattle.std.proofs.Common.{◌≡◌, ◌∙◌, ◌*◌, ◌+◌, ◌≤◌, ℕ, List, length, map, filter, Some, None, refl, sym, ap, subst, arith}
use Rattle.qc_base.specs.declared.log_line.LogLine.{LogLine}
use Rattle.qc_base.specs.declared.log_line.LogRecord.{LogRecord}
use Rattle.qc_base.specs.declared.log_line.Notice.{Notice}
use Rattle.qc_base.specs.LogLines.{notices_to}
use Rattle.qc_machine.specs.Preparing.{answered_lines}
use Rattle.crm_clerk.specs.Calls.{HasStaged}
use Rattle.qc_underway.specs.declared.compensators.Named.{Named}
use Rattle.qc_underway.specs.Compensators.{TellsMore, hears_more, kept_of, place_from, records_of}
use Rattle.qc_underway.specs.Votes.{CanForget, asked_heard, forgot_all}
use Rattle.qc_underway.proofs.Asking.{fewer-chosen}
use Rattle.qc_underway.proofs.Forgetting.{by-numbers, can-answer}
use Rattle.qc_underway.proofs.Kept.{hears-alone, not-nobody, spare-at, stands-there}
use Rattle.qc_underway.proofs.votes.ask_one.Goals as goal

pub returns-in_default : goal.returns-in_default
returns-in_default c =
    let name = c.args.resource.now in
    let told = c.args.told.now in
    let none : place_from 0 name told.each.items ≡ None = ap (λ (l : List Named). place_from 0 name l) (sym c.deref.ensures.value) ∙ sym c.place_of.ensures ∙ c.in_default.is in
    absurd (not-nobody 1 (length (records_of c.args.clerk.now name)) name told c.requires.hears none)

pub index_mut-requires : goal.index_mut-requires
index_mut-requires c =
    let name = c.args.resource.now in
    let told = c.args.told.now in
    let at : place_from 0 name told.each.items ≡ Some c.in-Some.place = ap (λ (l : List Named). place_from 0 name l) (sym c.deref.ensures.value) ∙ sym c.place_of.ensures ∙ c.in-Some.is in
    omega (arith, (stands-there name told.each.items c.in-Some.place at).inside, told.each.ok.0)

pub ask-ready-requires-clause-calls : goal.ask-ready-requires-clause-calls
ask-ready-requires-clause-calls c =
    let name = c.args.resource.now in
    let told = c.args.told.now in
    let count = length (records_of c.args.clerk.now name) in
    let was = c.index_mut.result.now in
    let at : place_from 0 name told.each.items ≡ Some c.in-Some.place = ap (λ (l : List Named). place_from 0 name l) (sym c.deref.ensures.value) ∙ sym c.place_of.ensures ∙ c.in-Some.is in
    let spare : 1 * (count + 2) ≤ (kept_of was).state.spare = (spare-at 1 count name told c.in-Some.place was at c.index_mut.ensures.value c.requires.hears).0 in
    omega (arith, spare, ap length c.records.ensures)

pub forget_all-requires-clause-there : goal.forget_all-requires-clause-there
forget_all-requires-clause-there c =
    let clerk = c.args.clerk.now in
    let name = c.args.resource.now in
    let records = records_of clerk name in
    let forgets = (kept_of c.index_mut.result.now).state.rules.forgets in
    let is : c.as_slice.result.now ≡ map (λ (r : LogRecord). r.seq) (filter forgets records)
    = c.as_slice.ensures.value ∙ c.ask-ready.ensures.forget ∙ ap (λ (l : List LogRecord). map (λ (r : LogRecord). r.seq) (filter forgets l)) c.records.ensures in
    subst (λ (l : List ℕ). CanForget records 1 l) (sym is) (can-answer clerk name forgets c.requires.orderly)

pub forget_all-requires-clause-room : goal.forget_all-requires-clause-room
forget_all-requires-clause-room c =
    let clerk = c.args.clerk.now in
    let name = c.args.resource.now in
    let records = records_of clerk name in
    let forgets = (kept_of c.index_mut.result.now).state.rules.forgets in
    let is : c.as_slice.result.now ≡ map (λ (r : LogRecord). r.seq) (filter forgets records)
    = c.as_slice.ensures.value ∙ c.ask-ready.ensures.forget ∙ ap (λ (l : List LogRecord). map (λ (r : LogRecord). r.seq) (filter forgets l)) c.records.ensures in
    let less : length c.as_slice.result.now ≤ length records = omega (arith, ap length is, fewer-chosen forgets records) in
    record { ended = c.requires.log.ended; room = omega (arith, c.requires.log.room, less); fits = omega (arith, c.requires.log.fits, less) }

pub returns : goal.returns
returns c =
    let clerk = c.args.clerk.now in
    let told = c.args.told.now in
    let name = c.args.resource.now in
    let a = clerk.attempt in
    let records = records_of clerk name in
    let count = length records in
    let was = c.index_mut.result.now in
    let place = c.in-Some.place in
    let rules = (kept_of was).state.rules in
    let at : place_from 0 name told.each.items ≡ Some place = ap (λ (l : List Named). place_from 0 name l) (sym c.deref.ensures.value) ∙ sym c.place_of.ensures ∙ c.in-Some.is in
    let own : was.name ≡ name = ap (λ (x : Named). x.name) c.index_mut.ensures.value ∙ (stands-there name told.each.items place at).own was in
    let is : c.as_slice.result.now ≡ map (λ (r : LogRecord). r.seq) (filter rules.forgets records)
    = c.as_slice.ensures.value ∙ c.ask-ready.ensures.forget ∙ ap (λ (l : List LogRecord). map (λ (r : LogRecord). r.seq) (filter rules.forgets l)) c.records.ensures in
    let lines : forgot_all a name c.as_slice.result.now ≡ answered_lines a name rules.forgets records = ap (forgot_all a name) is ∙ by-numbers a name (filter rules.forgets records) in
    let notices : notices_to was.name (asked_heard rules c.records.result.now) ≡ notices_to name (asked_heard rules records) = λ i. notices_to (own i) (asked_heard rules (c.records.ensures i)) in
    let kept = c.ask-ready.ensures.named ∙ ap (λ (l : List LogRecord). hears_more (asked_heard rules l) l (kept_of was)) c.records.ensures in
    record {
      state = (kept_of was).state;
      is = (spare-at 1 count name told place was at c.index_mut.ensures.value c.requires.hears).1;
      answer = c.ask-ready.ensures.answer ∙ ap rules.ready c.records.ensures;
      staged = subst (λ (l : List LogLine). HasStaged l 0 clerk c.args.log.now c.forget_all.new.clerk c.forget_all.new.log) lines c.forget_all.ensures;
      heard = subst (λ (l : List Notice). TellsMore l c.args.notices.now c.ask-ready.new.notices) notices c.ask-ready.ensures.notices;
      hears = hears-alone name told place _ c.ask-ready.new.forget was c.ask-ready.new.named (asked_heard rules records) records at refl c.index_mut.ensures.value kept c.ask-ready.ensures.capacity;
    }
