use Rattle.std.proofs.Common.{◌≡◌, ◌∙◌, Bool, false, cond, Result, Ok, Err, sym, ap, subst}
use Rattle.std.specs.Prelude.{OnOk}
use Rattle.qc_base.specs.LogLines.{is_registered}
use Rattle.crm_clerk.specs.declared.error.ClerkError.{ClerkError}
use Rattle.crm_clerk.specs.declared.error.ClerkError.TheVariants.{AlreadyRegistered}
use Rattle.crm_clerk.specs.Calls.{HasStaged}
use Rattle.crm_clerk.specs.Clerk.{ClerkView, registering_lines}
use Rattle.qc_worker.proofs.Written.{now-registered}
use Rattle.qc_worker.proofs.carrying.register_first.Goals as goal

pub returns-clause-there : goal.returns-clause-there
returns-clause-there c =
    let clerk = c.args.clerk.now in
    let name = c.args.resource.now.name in
    let phases = c.args.resource.now.phases in
    let stranger : is_registered clerk.lines clerk.attempt name ≡ false = sym c.has_registered.ensures ∙ c.if-has_registered.false in
    let answer : Bool → Result Unit ClerkError = λ b. cond b (Err AlreadyRegistered) (Ok (tt {0})) in
    let ok : c.register.result ≡ Ok (tt {0}) = c.register.ensures.answer ∙ ap answer stranger in
    let P : Result Unit ClerkError → Type 0 = λ r. OnOk r (HasStaged (registering_lines clerk name phases) 1 clerk c.args.log.now c.register.new.self c.register.new.log) in
    let staged : HasStaged (registering_lines clerk name phases) 1 clerk c.args.log.now c.register.new.self c.register.new.log = subst P ok c.register.ensures.stages.staged in
    ap (λ (v : ClerkView). is_registered v.lines v.attempt name) staged.clerk ∙ now-registered clerk name phases
