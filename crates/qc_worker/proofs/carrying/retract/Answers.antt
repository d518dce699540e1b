use Rattle.std.proofs.Common.{◌≡◌, ◌∙◌, Option, Some, None, Result, Ok, Err, Bor, is_some, option_map, refl, sym, ap, subst, rules}
use Rattle.std.proofs.lemmas.Bool.{false≢true}
use Rattle.qc_base.specs.declared.log_line.LogRecord.{LogRecord}
use Rattle.qc_site.specs.declared.site.Failed.{Failed}
use Rattle.crm_clerk.specs.Calls.{HasStaged}
use Rattle.crm_clerk.specs.Clerk.{forgot_lines, forgetting_lines, last_kept}
use Rattle.crm_driver.specs.Puts.{MakesPuts}
use Rattle.qc_worker.specs.Calls.{PutsThenWrites}
use Rattle.qc_worker.specs.Effects.{puts_back, retract_puts}
use Rattle.qc_worker.proofs.Logged.{written-behind}
use Rattle.qc_worker.proofs.carrying.retract.Goals as goal

pub returns-in_default : goal.returns-in_default
returns-in_default g c =
    let clerk = c.args.clerk.now in
    let none : None ≡ last_kept clerk.lines clerk.attempt c.args.resource.now.name = sym (ap (option_map (λ (r : Bor LogRecord). r.now)) c.in_default.is) ∙ c.last.ensures.last in
    absurd (false≢true (ap (λ (o : Option LogRecord). is_some o) none ∙ c.requires.last))

pub returns-in_err-put_back : goal.returns-in_err-put_back
returns-in_err-put_back g c =
    let clerk = c.args.clerk.now in
    let resource = c.args.resource.now in
    let log = c.args.log.now in
    let site = c.args.site.now in
    let after = c.put_back.new.site in
    let kept : Some c.in-Some.last.now ≡ last_kept clerk.lines clerk.attempt resource.name = sym (ap (option_map (λ (r : Bor LogRecord). r.now)) c.in-Some.is) ∙ c.last.ensures.last in
    let e : Failed = c.in_err-put_back.field-0.0 in
    let is : c.from_residual.result ≡ Err e = search rules in
    let puts = retract_puts clerk resource in
    let lines = forgetting_lines clerk resource.name in
    let P : Option LogRecord → Type 0 = λ o. MakesPuts g.S.Site {A = Unit {0}} (puts_back resource o) (Err e) site after in
    let makes : MakesPuts g.S.Site {A = Unit {0}} puts (Err e) site after = subst P kept c.in_err-put_back.ensures in
    let Q : Result Unit Failed → Type 0 = λ r. PutsThenWrites g.S.Site {A = Unit {0}} puts lines 0 r clerk log site clerk log after in
    let stopped : Q (Err e) = record { makes = makes; written = tt; unwritten = (refl, refl); stands = tt } in
    subst Q (sym is) stopped

pub returns : goal.returns
returns g c =
    let clerk = c.args.clerk.now in
    let resource = c.args.resource.now in
    let log = c.args.log.now in
    let site = c.args.site.now in
    let after = c.put_back.new.site in
    let kept : Some c.in-Some.last.now ≡ last_kept clerk.lines clerk.attempt resource.name = sym (ap (option_map (λ (r : Bor LogRecord). r.now)) c.in-Some.is) ∙ c.last.ensures.last in
    let P : Option LogRecord → Type 0 = λ o. MakesPuts g.S.Site {A = Unit {0}} (puts_back resource o) (Ok (tt {0})) site after in
    let makes : MakesPuts g.S.Site {A = Unit {0}} (retract_puts clerk resource) (Ok (tt {0})) site after = subst P kept c.in_ok-put_back.ensures in
    let Q : Option LogRecord → Type 0 = λ o. HasStaged (forgot_lines clerk resource.name o) 0 clerk log c.forget.new.self c.forget.new.log in
    let staged : HasStaged (forgetting_lines clerk resource.name) 0 clerk log c.forget.new.self c.forget.new.log = subst Q kept c.forget.ensures in
    written-behind g.S.Site (tt {0}) (retract_puts clerk resource) (forgetting_lines clerk resource.name) 0 clerk c.forget.new.self log c.forget.new.log site after makes staged c.requires.stands
