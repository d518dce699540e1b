use Rattle.std.proofs.Common.{◌∙◌, Bool, cond, Some, None, sym, ap}
use Rattle.qc_base.specs.declared.log_line.LogLine.{LogLine}
use Rattle.crm_recovery.specs.Tellings.{kept_by}
use Rattle.crm_recovery.proofs.records.kept_by.Goals as goal

pub returns-then-is_kept : goal.returns-then-is_kept
returns-then-is_kept c =
    sym (ap (λ (l : LogLine). kept_by c.args.lines.now c.args.attempt c.args.resource.now l) c.in-Written.is
    ∙ ap (λ (b : Bool). cond b (Some c.in-Written.entry) None) (sym c.is_kept.ensures ∙ c.if-is_kept.true))

pub returns-else-is_kept : goal.returns-else-is_kept
returns-else-is_kept c =
    sym (ap (λ (l : LogLine). kept_by c.args.lines.now c.args.attempt c.args.resource.now l) c.in-Written.is
    ∙ ap (λ (b : Bool). cond b (Some c.in-Written.entry) None) (sym c.is_kept.ensures ∙ c.if-is_kept.false))
