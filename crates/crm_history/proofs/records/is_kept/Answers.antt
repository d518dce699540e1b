use Rattle.std.proofs.Common.{◌≡◌, ◌∙◌, Bool, true, false, not, ◌&&◌, ap, sym}
use Rattle.std.specs.List.{list_any}
use Rattle.qc_base.specs.LogLines.{forgets_entry}
use Rattle.crm_history.specs.Lines.{writes_seq}
use Rattle.crm_history.proofs.Lines.{kept-is}
use Rattle.crm_history.proofs.records.is_kept.Goals as goal

pub returns-then-is_written : goal.returns-then-is_written
returns-then-is_written c =
    let forgotten : Bool = list_any (forgets_entry c.args.attempt c.args.resource.now c.args.seq) c.args.lines.now in
    let written : list_any (writes_seq c.args.attempt c.args.resource.now c.args.seq) c.args.lines.now ≡ true = sym c.is_written.ensures ∙ c.if-is_written.true in
    ap not c.is_forgotten.ensures ∙ sym (ap (λ (b : Bool). b && not forgotten) written) ∙ kept-is c.args.attempt c.args.resource.now c.args.seq c.args.lines.now

pub returns-else-is_written : goal.returns-else-is_written
returns-else-is_written c =
    let forgotten : Bool = list_any (forgets_entry c.args.attempt c.args.resource.now c.args.seq) c.args.lines.now in
    let written : list_any (writes_seq c.args.attempt c.args.resource.now c.args.seq) c.args.lines.now ≡ false = sym c.is_written.ensures ∙ c.if-is_written.false in
    c.if-is_written.false ∙ sym (ap (λ (b : Bool). b && not forgotten) written) ∙ kept-is c.args.attempt c.args.resource.now c.args.seq c.args.lines.now
