use Rattle.std.proofs.Common.{◌≡◌, ◌∙◌, ℕ, ◌+◌, ◌-◌, ◌≤◌, [], ◌∷◌, length, refl, sym, ap, subst, arith}
use Rattle.qc_entries.specs.Entries.{EntriesView}
use Rattle.crm_clerk.specs.Clerk.{ClerkView, registering_lines, writing_lines, forgot_line, forgetting_lines}
use Rattle.crm_clerk_tests.specs.Desk.{IsReady}
use Rattle.crm_clerk_tests.proofs.Ready.{registering-length, forgetting-length, ready-after, ready-staged}
use Rattle.crm_clerk_tests.proofs.desk.Desk.register.Goals as goal

pub returns-clause-ready : goal.returns-clause-ready
returns-clause-ready g c =
    let d = c.args.self.now in
    let calls : ℕ = d.calls - 1 in
    let back : d.calls ≡ calls + 1 = omega (arith, c.requires.some) in
    let ready : IsReady g.S.Site d.site d.log d.clerk (calls + 1) = subst (λ (n : ℕ). IsReady g.S.Site d.site d.log d.clerk n) back c.requires.ready in
    ready-after g.S.Site c.register.result (registering_lines d.clerk c.args.resource.now c.args.phases) 1 d.clerk c.register.new.self d.log c.register.new.log d.site calls c.register.ensures.stages (registering-length d.clerk c.args.resource.now c.args.phases) (omega arith) ready
