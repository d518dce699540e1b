use Rattle.std.proofs.Common.{◌≡◌, ◌∙◌, ◌+◌, ◌<◌, List, [], ◌∷◌, ◌++◌, length, take, drop, get_or, Err, sym, ap, subst, arith, rules, take-append-drop}
use Rattle.std.proofs.lemmas.Grind.{take_at_read}
use Rattle.qc_base.specs.declared.log_line.LogRecord.{LogRecord}
use Rattle.qc_base.specs.declared.log_line.Heard.TheVariants.{BeginCommit, CommitRecord, EndCommit}
use Rattle.qc_base.specs.LogLines.{commit_heard}
use Rattle.qc_site.specs.declared.site.Failed.{Failed}
use Rattle.crm_driver.specs.Compensators.{Rules}
use Rattle.crm_driver.specs.Phases.{Delivers}
use Rattle.crm_driver.proofs.Telling.{Underway, turn, stopped}
use Rattle.crm_driver.proofs.phases.commit.Goals as goal

pub loop-record-preserved : goal.loop-record-preserved
loop-record-preserved g c =
    let site = g.S.Site in
    let state = g.C.Compensator.state in
    let records = c.args.records.now in
    let i = c.loop-record.record-index in
    let item = c.record-item.result in
    let inside : i < length records = omega arith in
    let here : get_or records i item ≡ item = sym c.record-item.is in
    let front : take (i + 1) records ≡ take i records ++ item ∷ [] = (take_at_read records i item inside).1 ∙ ap (λ (e : LogRecord). take i records ++ e ∷ []) here in
    let entry = λ (r : LogRecord). CommitRecord r.seq in
    let pick = λ (r : Rules). r.commit_put in
    subst (λ (l : List LogRecord). Underway (BeginCommit c.args.recovery) entry site EndCommit pick (state c.args.comp.now) c.args.site.now l (state c.commit_record.new.self) c.commit_record.new.site) (sym front)
    (turn (BeginCommit c.args.recovery) entry site EndCommit pick (state c.args.comp.now) c.args.site.now (take i records) item (state c.loop-record.comp) (state c.commit_record.new.self) c.loop-record.site c.commit_record.new.site
    c.loop-record.invariant c.commit_record.ensures.heard c.in_ok-commit_record.ensures.puts)

pub returns-in_err-commit_record : goal.returns-in_err-commit_record
returns-in_err-commit_record g c =
    let site = g.S.Site in
    let state = g.C.Compensator.state in
    let records = c.args.records.now in
    let i = c.loop-record.record-index in
    let item = c.record-item.result in
    let inside : i < length records = omega arith in
    let here : get_or records i item ≡ item = sym c.record-item.is in
    let front : take (i + 1) records ≡ take i records ++ item ∷ [] = (take_at_read records i item inside).1 ∙ ap (λ (e : LogRecord). take i records ++ e ∷ []) here in
    let entry = λ (r : LogRecord). CommitRecord r.seq in
    let pick = λ (r : Rules). r.commit_put in
    let split : records ≡ (take i records ++ item ∷ []) ++ drop (i + 1) records = sym (take-append-drop (i + 1) records) ∙ ap (λ (l : List LogRecord). l ++ drop (i + 1) records) front in
    let e : Failed = c.in_err-commit_record.field-0.0 in
    let is : c.from_residual.result ≡ Err e = search rules in
    subst (λ r. Delivers site {A = Unit {0}} (state c.args.comp.now).rules.commit_put (commit_heard c.args.recovery records) records r (state c.args.comp.now) (state c.commit_record.new.self) c.args.site.now c.commit_record.new.site) (sym is)
    (stopped (BeginCommit c.args.recovery) entry site EndCommit pick (state c.args.comp.now) c.args.site.now records (take i records) (drop (i + 1) records) item e (state c.loop-record.comp) (state c.commit_record.new.self) c.loop-record.site c.commit_record.new.site
    split c.loop-record.invariant c.commit_record.ensures.heard c.in_err-commit_record.ensures.puts)
