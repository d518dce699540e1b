use Rattle.std.proofs.Common.{◌≡◌, ◌∙◌, ℕ, ◌+◌, ◌<◌, ◌==◌, List, ◌++◌, Bool, true, false, cond, ◌&&◌, length, get_or, set, take, drop, sym, ap, rules}
use Rattle.std.proofs.lemmas.List.Edits.{map_over_more}
use Rattle.qc_play.specs.declared.record.PlayRecord.{PlayRecord}
use Rattle.qc_play.specs.Play.{is_of, forget}
use Rattle.qc_play.proofs.OuterLaws.{marked}
use Rattle.qc_play.proofs.board.Board.forget.Goals as goal
use Rattle.qc_play.proofs.board.Board.forget.Goals.{then-is_numbered, else-is_numbered}

abbrev tells : List ℕ → ℕ → PlayRecord → Bool
tells resource seq r = is_of resource r && (r.entry.seq == seq)

marks_more : (resource : List ℕ) (seq : ℕ) (xs ys new : List PlayRecord) (i : ℕ) (r : PlayRecord) (b : Bool) → i < length xs → ys ≡ forget resource seq (take i xs) ++ drop i xs → r ≡ get_or ys i r
    → tells resource seq (get_or ys i r) ≡ b → new ≡ set ys i (cond b (record (get_or ys i r) { forgotten = true }) (get_or ys i r)) → new ≡ forget resource seq (take (i + 1) xs) ++ drop (i + 1) xs
marks_more resource seq xs ys new i r b within so_far is same e =
    e ∙ sym (ap (λ (b : Bool). set ys i (cond b (record (get_or ys i r) { forgotten = true }) (get_or ys i r))) same)
    ∙ ap (λ (x : PlayRecord). set ys i (marked resource seq x)) (sym is)
    ∙ map_over_more (marked resource seq) xs ys i r within so_far is

pub loop-record-preserved : goal.loop-record-preserved
loop-record-preserved c =
    let loop = c.loop-record in
    let all = c.args.self.now.records.items in
    elim c.if-is_numbered.branch [
      | then-is_numbered w ↦ marks_more c.args.resource.now c.args.seq all loop.record-items c.if-is_numbered.record-items loop.record-index c.record-item.result true (search rules) loop.invariant c.record-item.is (sym c.is_numbered.ensures ∙ w.if-is_numbered.true) w.record-items-is
      | else-is_numbered w ↦ marks_more c.args.resource.now c.args.seq all loop.record-items c.if-is_numbered.record-items loop.record-index c.record-item.result false (search rules) loop.invariant c.record-item.is (sym c.is_numbered.ensures ∙ w.if-is_numbered.false) w.record-items-is
    ]
