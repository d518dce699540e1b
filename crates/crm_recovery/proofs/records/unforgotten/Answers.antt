use Rattle.std.proofs.Common.{◌≡◌, ◌∙◌, ◌<◌, List, length, take, filter_map, Option, Some, None, sym, ap, arith, take_all, append-nil, Vec, Global}
use Rattle.qc_base.specs.declared.log_line.LogLine.{LogLine}
use Rattle.qc_base.specs.declared.log_line.LogRecord.{LogRecord}
use Rattle.crm_recovery.specs.Tellings.{kept_by}
use Rattle.crm_recovery.proofs.Picked.{kept-unforgotten, picked-one}
use Rattle.crm_recovery.proofs.records.unforgotten.Goals.{in-Some+in-Ok, in_default}
use Rattle.crm_recovery.proofs.records.unforgotten.Goals as goal

pub loop-line-preserved : goal.loop-line-preserved
loop-line-preserved c =
    let lines = c.args.lines.now in
    let h : LogLine → Option LogRecord = kept_by lines c.args.attempt c.args.resource.now in
    let i = c.loop-line.line-index in
    let line = c.line-item.result in
    let inside : i < length lines = omega (arith, c.loop-line-test.true) in
    elim c.match-kept_by.branch [
      | in-Some+in-Ok w ↦ ap (λ (v : Vec LogRecord Global). v.items) w.records-is ∙ w.in-Ok.ensures.items ∙ picked-one h lines i line (Some w.in-Some.entry) c.loop-line.records.items inside c.line-item.is (sym c.kept_by.ensures ∙ w.in-Some.is) c.loop-line.invariant
      | in_default w ↦ ap (λ (v : Vec LogRecord Global). v.items) w.records-is ∙ sym (append-nil c.loop-line.records.items) ∙ picked-one h lines i line None c.loop-line.records.items inside c.line-item.is (sym c.kept_by.ensures ∙ w.in_default.is) c.loop-line.invariant
    ]

pub returns : goal.returns
returns c =
    let lines = c.args.lines.now in
    let all : take c.loop-line.line-index lines ≡ lines = take_all c.loop-line.line-index lines (omega arith) in
    c.loop-line.invariant ∙ ap (λ (l : List LogLine). filter_map (kept_by lines c.args.attempt c.args.resource.now) l) all ∙ kept-unforgotten lines c.args.attempt c.args.resource.now
