use Rattle.std.proofs.Common.{◌≡◌, ◌∙◌, List, Option, Some, sym, ap, rules}
use Rattle.qc_base.specs.declared.recording.Row.{Row}
use Rattle.qc_play.specs.Board.{Write, applied, play_of}
use Rattle.qc_play.specs.Play.{amount_of, new_amount, change_row}
use Rattle.qc_play.proofs.Boards.{play, row_changed}
use Rattle.qc_play.proofs.board.Board.change.Goals as goal

pub returns-clause-told : goal.returns-clause-told
returns-clause-told c =
    let b = c.args.self.now in
    let view = c.args.view.now in
    let old = amount_of c.in-Some.row (applied b.writes.items view) in
    let gets : new_amount c.args.change c.args.number old ≡ Some c.in-Some-new_amount.new = search rules in
    ap (λ (o : Option Row). change_row o c.args.change c.args.number (play_of view b)) c.in-Some.is
    ∙ row_changed view b.writes.items b.records.items b.forced b.effects.items c.in-Some.row c.args.change c.args.number c.in-Some-new_amount.new gets
    ∙ ap (λ (ws : List Write). Some (play view ws b.records.items b.forced b.effects.items)) (sym c.push_reserved.ensures.items)
