use Rattle.std.proofs.Common.{◌∙◌, ap}
use Rattle.qc_base.specs.LogLines.{unforgotten}
use Rattle.crm_clerk.specs.Clerk.{ClerkView}
use Rattle.crm_clerk.proofs.Keeping.{records-told}
use Rattle.crm_clerk.proofs.clerk.Clerk.records.Goals as goal

pub returns : goal.returns
returns c =
    let k = c.self.inside in
    c.records.ensures
    ∙ records-told k.attempt k.lines.lines k.book.accounts c.args.resource.now c.self.invariant
    ∙ ap (λ (v : ClerkView). unforgotten v.lines v.attempt c.args.resource.now) c.self.view_is
