use Rattle.std.proofs.Common.{◌≡◌, ◌∙◌, ◌==◌, List, true, sym, ap, subst, arith}
use Rattle.std.specs.List.{list_any}
use Rattle.qc_base.specs.LogLines.{unforgotten}
use Rattle.qc_base.specs.declared.log_line.LogRecord.{LogRecord}
use Rattle.qc_base.specs.declared.log_line.LogLine.{LogLine}
use Rattle.crm_clerk.specs.Accounts.{Account, BookView, with_account, without}
use Rattle.crm_clerk.specs.Clerk.{ClerkView, records_in}
use Rattle.crm_clerk.specs.Keeps.{Keeps}
use Rattle.crm_clerk.proofs.Keeping.{keeps-forgot}
use Rattle.crm_clerk.proofs.Numbered.{there-below}
use Rattle.crm_clerk.proofs.Said.{is_named, unforgotten-those}
use Rattle.crm_clerk.proofs.clerk.Clerk.forget.Goals as goal

pub invariant_of-self : goal.invariant_of-self
invariant_of-self c =
    let k = c.self.inside in
    let resource = c.args.resource.now in
    let v : ClerkView = record { attempt = k.attempt; id = k.id; lines = k.lines.lines; room = k.book.room } in
    let view : v ≡ c.args.self.now = c.self.view_is in
    let there : list_any (λ (r : LogRecord). r.seq == c.args.seq) (unforgotten k.lines.lines k.attempt resource) ≡ true =
    ap (λ (x : ClerkView). list_any (λ (r : LogRecord). r.seq == c.args.seq) (unforgotten x.lines x.attempt resource)) view ∙ c.requires.there in
    let among = ap (λ (l : List LogRecord). list_any (λ (r : LogRecord). r.seq == c.args.seq) l) (sym (unforgotten-those k.lines.lines k.attempt resource)) ∙ there in
    let below = there-below (is_named k.lines.lines k.attempt resource) 1 c.args.seq (records_in k.lines.lines k.attempt resource) (c.self.invariant.numbered resource) among in
    let kept = keeps-forgot k.attempt k.lines.lines k.book.accounts resource c.args.seq c.self.invariant (omega (arith, below)) in
    subst (λ (l : List Account). Keeps k.attempt c.stage.new.lines.lines l) (sym (ap (λ (b : BookView). b.accounts) c.forget.ensures))
    (subst (λ (l : List LogLine). Keeps k.attempt l (with_account resource (without c.args.seq) k.book.accounts)) (sym c.stage.ensures.lines) kept)
