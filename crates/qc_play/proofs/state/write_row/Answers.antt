use Rattle.std.proofs.Common.{◌≡◌, ◌∙◌, ℕ, ◌+◌, ◌<◌, List, ◌++◌, Bool, true, false, cond, Some, length, get_or, set, take, drop, sym, ap, rules}
use Rattle.std.proofs.lemmas.List.Edits.{map_over_more}
use Rattle.qc_base.specs.declared.recording.Row.{Row}
use Rattle.qc_base.specs.Rows.{row_eq}
use Rattle.qc_play.specs.Play.{Seen, with_amount}
use Rattle.qc_play.proofs.state.write_row.Goals as goal
use Rattle.qc_play.proofs.state.write_row.Goals.{then-same_row, else-same_row}

abbrev given : Row → ℕ → Seen → Seen
given row n s = cond (row_eq s.0 row) ((s.0, Some n)) s

given_by : (row : Row) (n : ℕ) (s : Seen) (b : Bool) → row_eq s.0 row ≡ b → given row n s ≡ (s.0, cond b (Some n) s.1)
given_by row n s true e = ap (λ (b : Bool). cond b ((s.0, Some n)) s) e
given_by row n s false e = ap (λ (b : Bool). cond b ((s.0, Some n)) s) e

put_more : (row : Row) (n : ℕ) (xs ys new : List Seen) (i : ℕ) (s : Seen) (b : Bool) → i < length xs → ys ≡ with_amount row n (take i xs) ++ drop i xs → s ≡ get_or ys i s
    → row_eq (get_or ys i s).0 row ≡ b → new ≡ set ys i ((get_or ys i s).0, cond b (Some n) (get_or ys i s).1) → new ≡ with_amount row n (take (i + 1) xs) ++ drop (i + 1) xs
put_more row n xs ys new i s b within so_far is same e =
    e ∙ sym (ap (λ (t : Seen). set ys i t) (given_by row n (get_or ys i s) b same))
    ∙ ap (λ (t : Seen). set ys i (given row n t)) (sym is)
    ∙ map_over_more (given row n) xs ys i s within so_far is

pub loop-seen-preserved : goal.loop-seen-preserved
loop-seen-preserved c =
    let loop = c.loop-seen in
    elim c.if-same_row.branch [
      | then-same_row w ↦ put_more c.args.row.now c.args.amount c.args.view.now loop.view c.if-same_row.view loop.seen-index c.seen-item.result true (search rules) loop.invariant c.seen-item.is (sym c.same_row.ensures ∙ w.if-same_row.true) w.view-is
      | else-same_row w ↦ put_more c.args.row.now c.args.amount c.args.view.now loop.view c.if-same_row.view loop.seen-index c.seen-item.result false (search rules) loop.invariant c.seen-item.is (sym c.same_row.ensures ∙ w.if-same_row.false) w.view-is
    ]
