use Rattle.std.proofs.Common.{◌∙◌, ap, map, List, ℕ}
use Rattle.qc_base.specs.LogLines.{Registration, registrations}
use Rattle.crm_clerk.specs.Accounts.{Account}
use Rattle.crm_clerk.specs.Clerk.{ClerkView}
use Rattle.crm_clerk.proofs.Keeping.{pairs-told}
use Rattle.crm_clerk.proofs.clerk.Clerk.registered.Goals as goal

pub returns : goal.returns
returns c =
    let k = c.self.inside in
    c.registered.ensures
    ∙ ap (map {B = List ℕ × ℕ} (λ (a : Account). (a.resource, a.phases))) c.self.invariant.kept
    ∙ pairs-told k.lines.lines k.attempt (registrations k.lines.lines k.attempt)
    ∙ ap (λ (v : ClerkView). map {B = List ℕ × ℕ} (λ (r : Registration). (r.resource, r.phases)) (registrations v.lines v.attempt)) c.self.view_is
