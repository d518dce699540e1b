use Rattle.std.proofs.Common.{◌≡◌, ◌∙◌, Option, Some, sym, ap, rules}
use Rattle.qc_base.specs.declared.recording.Row.{Row}
use Rattle.qc_play.specs.Board.{applied, play_of}
use Rattle.qc_play.specs.Play.{Play, amount_of, new_amount, change_outside}
use Rattle.qc_play.proofs.Boards.{same_play, outside_changed}
use Rattle.qc_play.proofs.board.Board.change_outside.Goals as goal

pub returns-clause-told : goal.returns-clause-told
returns-clause-told c =
    let b = c.args.self.now in
    let view = c.args.view.now in
    let row = c.in-Some.row in
    let old = c.in-Some-look_up.old in
    let new = c.in-Some-new_amount.new in
    let made = c.add_record in
    let had : amount_of row (applied b.writes.items view) ≡ Some old = search rules in
    let gets : new_amount c.args.change c.args.number (Some old) ≡ Some new = search rules in
    ap (λ (o : Option Row). change_outside o c.args.change c.args.number (play_of view b)) c.in-Some.is
    ∙ outside_changed view b.writes.items b.records.items b.forced b.effects.items row c.args.change c.args.number old new had gets
    ∙ ap (λ (p : Play). Some p) (sym (same_play view made.new.self.writes.items _ made.new.self.records.items _ made.new.self.forced b.forced made.new.self.effects.items _
    (made.ensures.writes ∙ c.push_reserved.ensures.items) made.ensures.records made.ensures.forced made.ensures.effects))
