use Rattle.std.proofs.Common.{◌≡◌, ◌∙◌, List, [], ℕ, drop, rules}
use Rattle.std.proofs.lemmas.List.{drop_all}
use Rattle.crm_log.proofs.Held.{unfinished_are}
use Rattle.crm_log.proofs.attempts.unfinished.Goals as goal

pub returns : goal.returns
returns c =
    let lines = c.args.lines.now in
    let keys : List ℕ = c.loop-line-2.open.keys in
    let items : c.loop-attempt.attempts.items ≡ keys = search rules in
    let none : drop c.loop-line-2.line-index lines ≡ [] = drop_all c.loop-line-2.line-index lines c.loop-line-2-test.false in
    items ∙ unfinished_are lines (drop c.loop-line-2.line-index lines) keys none c.loop-line-2.invariant.1 c.loop-line-2.invariant.0
