use Rattle.std.proofs.Common.{◌≡◌, ◌∙◌, ◌++◌, ◌∷◌, [], List, Some, sym, ap, rules}
use Rattle.qc_play.specs.declared.effect.Effect.{Effect}
use Rattle.qc_play.specs.declared.effect.Effect.TheVariants.{Retract}
use Rattle.qc_play.specs.Play.{Play, kept_last}
use Rattle.qc_play.proofs.Boards.{same_play, row_retracted}
use Rattle.qc_play.proofs.board.Board.retract.Goals as goal

pub returns-clause-told : goal.returns-clause-told
returns-clause-told c =
    let b = c.args.self.now in
    let view = c.args.view.now in
    let new = c.forget.new.self in
    let last : kept_last c.args.resource.now b.records.items ≡ Some c.in-Some.entry = search rules in
    row_retracted view b.writes.items b.records.items b.forced b.effects.items c.args.resource.now c.in-Some.entry last
    ∙ ap (λ (p : Play). Some p) (sym (same_play view new.writes.items _ new.records.items _ new.forced b.forced c.push_reserved-2.new.self.items _
    (c.forget.ensures.writes ∙ c.push_reserved.ensures.items) c.forget.ensures.records c.forget.ensures.forced
    (c.push_reserved-2.ensures.items ∙ ap (λ (es : List Effect). es ++ Retract c.args.resource.now ∷ []) c.forget.ensures.effects)))
