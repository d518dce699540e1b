use Rattle.std.proofs.Common.{◌≡◌, ◌-◌, ◌<◌, ◌≤◌, List, length, take, drop, reverse, get_or, Err, sym, subst, arith, rules}
use Rattle.qc_base.specs.declared.log_line.LogRecord.{LogRecord}
use Rattle.qc_base.specs.declared.log_line.Heard.TheVariants.{BeginAbort, AbortRecord, EndAbort}
use Rattle.qc_base.specs.LogLines.{abort_heard}
use Rattle.qc_site.specs.declared.site.Failed.{Failed}
use Rattle.crm_driver.specs.Compensators.{Rules}
use Rattle.crm_driver.specs.Phases.{Delivers}
use Rattle.crm_driver.proofs.Backwards.{one_back, back_split}
use Rattle.crm_driver.proofs.Telling.{Underway, turn, stopped}
use Rattle.crm_driver.proofs.phases.abort.Goals as goal

pub loop-place-preserved : goal.loop-place-preserved
loop-place-preserved g c =
    let site = g.S.Site in
    let state = g.C.Compensator.state in
    let records = c.args.records.now in
    let n = c.loop-place.place in
    let item = c.index-records-place.result in
    let some : 0 < n = omega arith in
    let inside : n ≤ length records = omega arith in
    let here : get_or records (n - 1) item ≡ item = sym c.index-records-place.is in
    let entry = λ (r : LogRecord). AbortRecord r.seq in
    let pick = λ (r : Rules). r.abort_put in
    subst (λ (l : List LogRecord). Underway (BeginAbort c.args.recovery) entry site EndAbort pick (state c.args.comp.now) c.args.site.now l (state c.abort_record.new.self) c.abort_record.new.site) (sym (one_back records n item some inside here))
    (turn (BeginAbort c.args.recovery) entry site EndAbort pick (state c.args.comp.now) c.args.site.now (reverse (drop n records)) item (state c.loop-place.comp) (state c.abort_record.new.self) c.loop-place.site c.abort_record.new.site
    c.loop-place.invariant c.abort_record.ensures.heard c.in_ok-abort_record.ensures.puts)

pub returns-in_err-abort_record : goal.returns-in_err-abort_record
returns-in_err-abort_record g c =
    let site = g.S.Site in
    let state = g.C.Compensator.state in
    let records = c.args.records.now in
    let n = c.loop-place.place in
    let item = c.index-records-place.result in
    let some : 0 < n = omega arith in
    let inside : n ≤ length records = omega arith in
    let here : get_or records (n - 1) item ≡ item = sym c.index-records-place.is in
    let entry = λ (r : LogRecord). AbortRecord r.seq in
    let pick = λ (r : Rules). r.abort_put in
    let e : Failed = c.in_err-abort_record.field-0.0 in
    let is : c.from_residual.result ≡ Err e = search rules in
    subst (λ r. Delivers site {A = Unit {0}} (state c.args.comp.now).rules.abort_put (abort_heard c.args.recovery records) (reverse records) r (state c.args.comp.now) (state c.abort_record.new.self) c.args.site.now c.abort_record.new.site) (sym is)
    (stopped (BeginAbort c.args.recovery) entry site EndAbort pick (state c.args.comp.now) c.args.site.now (reverse records) (reverse (drop n records)) (reverse (take (n - 1) records)) item e (state c.loop-place.comp) (state c.abort_record.new.self) c.loop-place.site c.abort_record.new.site
    (back_split records n item some inside here) c.loop-place.invariant c.abort_record.ensures.heard c.in_err-abort_record.ensures.puts)
