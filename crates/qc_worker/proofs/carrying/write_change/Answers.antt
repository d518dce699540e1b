use Rattle.std.proofs.Common.{◌≡◌, ◌∙◌, ℕ, ◌+◌, length, Bool, cond, Result, Ok, Err, ap, subst}
use Rattle.std.specs.Prelude.{OnOk}
use Rattle.crm_clerk.specs.declared.error.ClerkError.{ClerkError}
use Rattle.crm_clerk.specs.declared.error.ClerkError.TheVariants.{NotRegistered}
use Rattle.crm_clerk.specs.Calls.{HasStaged}
use Rattle.crm_clerk.specs.Clerk.{records_in, writing_lines}
use Rattle.qc_worker.proofs.Written.{change-staged}
use Rattle.qc_worker.proofs.carrying.write_change.Goals as goal

pub returns-clause-written : goal.returns-clause-written
returns-clause-written c =
    let mid = c.register_first.new.clerk in
    let between = c.register_first.new.log in
    let name = c.args.resource.now.name in
    let key = c.args.key.now in
    let n = length (records_in mid.lines mid.attempt name) + 1 in
    let answer : Bool → Result ℕ ClerkError = λ b. cond b (Ok n) (Err NotRegistered) in
    let ok : c.write_record.result ≡ Ok n = c.write_record.ensures.answer ∙ ap answer c.register_first.ensures.there in
    let P : Result ℕ ClerkError → Type 0 = λ r. OnOk r (HasStaged (writing_lines mid name key c.args.old c.args.new) 1 mid between c.write_record.new.self c.write_record.new.log) in
    change-staged c.args.clerk.now mid c.write_record.new.self c.args.resource.now key c.args.old c.args.new c.args.log.now between c.write_record.new.log c.register_first.ensures.written (subst P ok c.write_record.ensures.stages.staged)
