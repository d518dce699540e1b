use Rattle.std.proofs.Common.{◌≡◌, ◌∙◌, ℕ, ◌+◌, ◌-◌, ◌≤◌, [], ◌∷◌, length, refl, sym, ap, subst, arith}
use Rattle.qc_entries.specs.Entries.{EntriesView}
use Rattle.crm_clerk.specs.Clerk.{ClerkView, registering_lines, writing_lines, forgot_line, forgetting_lines}
use Rattle.crm_clerk_tests.specs.Desk.{IsReady}
use Rattle.crm_clerk_tests.proofs.Ready.{registering-length, forgetting-length, ready-after, ready-staged}
use Rattle.crm_clerk_tests.proofs.desk.Desk.forget_last.Goals as goal

pub returns-clause-ready : goal.returns-clause-ready
returns-clause-ready g c =
    let d = c.args.self.now in
    let calls : ℕ = d.calls - 1 in
    let back : d.calls ≡ calls + 1 = omega (arith, c.requires.some) in
    let ready : IsReady g.S.Site d.site d.log d.clerk (calls + 1) = subst (λ (n : ℕ). IsReady g.S.Site d.site d.log d.clerk n) back c.requires.ready in
    ready-after g.S.Site c.forget_last.result (forgetting_lines d.clerk c.args.resource.now) 0 d.clerk c.forget_last.new.self d.log c.forget_last.new.log d.site calls c.forget_last.ensures.stages (forgetting-length d.clerk c.args.resource.now) (omega arith) ready
