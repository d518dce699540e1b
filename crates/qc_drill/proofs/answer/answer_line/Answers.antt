use Rattle.std.proofs.Common.{◌≡◌, ℕ, Err, sym, ◌∙◌, subst, rules}
use Rattle.std.specs.Prelude.{Result, Vec}
use Rattle.std.specs.declared.alloc.Global.{Global}
use Rattle.qc_hub.specs.declared.error.HubError.{HubError}
use Rattle.qc_drill.specs.Calls.{AnswersFrom}
use Rattle.qc_drill.proofs.Orders.{line-told, line-untold, line-failed, blank-line}
use Rattle.qc_drill.proofs.answer.answer_line.Goals as goal

pub returns-in_err-reply-clause-answers : goal.returns-in_err-reply-clause-answers
returns-in_err-reply-clause-answers g c = λ told s h site.
    let e : HubError = c.in_err-reply.field-0.0 in
    let is : c.from_residual.result ≡ Err e = search rules in
    subst (λ (r : Result (Vec ℕ Global) HubError). AnswersFrom g.S.Site s c.args.line.now r c.args.site.now c.reply_to.new.hub c.reply_to.new.site) (sym is)
    (line-failed g.S.Site s c.args.line.now _ _ _ (sym c.is_blank.ensures ∙ c.if-is_blank.false) e site (c.in_err-reply.ensures.told told s h site))

pub returns-in-Ok-clause-answers : goal.returns-in-Ok-clause-answers
returns-in-Ok-clause-answers g c = λ told s h site.
    line-told g.S.Site s c.args.line.now _ _ _ (sym c.is_blank.ensures ∙ c.if-is_blank.false) c.in_ok-reply.reply c.in-Ok.text c.in-Ok.ensures (c.in_ok-reply.ensures.told told s h site)

pub returns-clause-answers : goal.returns-clause-answers
returns-clause-answers g c = λ told s h site.
    line-untold g.S.Site s c.args.line.now _ _ _ (sym c.is_blank.ensures ∙ c.if-is_blank.false) c.in_ok-reply.reply (c.in_ok-reply.ensures.told told s h site)

pub returns-then-is_blank-clause-answers : goal.returns-then-is_blank-clause-answers
returns-then-is_blank-clause-answers g c = λ told s h site.
    blank-line g.S.Site s c.args.line.now c.new.result c.args.hub.now c.args.site.now (λ i left. g.met.S.Site.only_now c.args.site.now i told left) c.requires told h site (sym c.is_blank.ensures ∙ c.if-is_blank.true) (search rules)
