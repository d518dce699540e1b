use Rattle.std.proofs.Common.{◌≡◌, ◌∙◌, ℕ, ◌+◌, ◌<◌, List, ◌++◌, Bool, true, false, cond, length, get_or, set, take, drop, refl, sym, ap, rules}
use Rattle.std.specs.Str.{bytes_eq}
use Rattle.std.proofs.lemmas.List.Edits.{map_over_more}
use Rattle.qc_base.specs.declared.recording.Row.{Row}
use Rattle.qc_rows.specs.Tables.{TableRows}
use Rattle.qc_rows.specs.Places.{written, written_row}
use Rattle.qc_rows.proofs.tables.write_row.Goals as goal
use Rattle.qc_rows.proofs.tables.write_row.Goals.{then-is_named, else-is_named}

abbrev there : Row → ℕ → TableRows → TableRows
there row n t = record t { rows = written row.key n t.rows }

abbrev given : Row → ℕ → TableRows → TableRows
given row n t = cond (bytes_eq t.name row.name) (there row n t) t

put_more : (row : Row) (n : ℕ) (xs ys new : List TableRows) (i : ℕ) (t x : TableRows) (b : Bool) → i < length xs → ys ≡ written_row row n (take i xs) ++ drop i xs → t ≡ get_or ys i t
    → bytes_eq (get_or ys i t).name row.name ≡ b → x ≡ cond b (there row n (get_or ys i t)) (get_or ys i t) → new ≡ set ys i x → new ≡ written_row row n (take (i + 1) xs) ++ drop (i + 1) xs
put_more row n xs ys new i t x b within so_far is same put e =
    e ∙ ap (λ (x : TableRows). set ys i x) (put ∙ sym (ap (λ (b : Bool). cond b (there row n (get_or ys i t)) (get_or ys i t)) same))
    ∙ ap (λ (t : TableRows). set ys i (given row n t)) (sym is)
    ∙ map_over_more (given row n) xs ys i t within so_far is

pub loop-table-preserved : goal.loop-table-preserved
loop-table-preserved c =
    let loop = c.loop-table in
    elim c.if-is_named.branch [
      | then-is_named w ↦ put_more c.args.row.now c.args.amount c.args.tables.now loop.tables c.if-is_named.tables loop.table-index c.table-item.result w.write.new.self true (search rules) loop.invariant c.table-item.is (sym c.is_named.ensures ∙ w.if-is_named.true) w.write.ensures w.tables-is
      | else-is_named w ↦ put_more c.args.row.now c.args.amount c.args.tables.now loop.tables c.if-is_named.tables loop.table-index c.table-item.result _ false (search rules) loop.invariant c.table-item.is (sym c.is_named.ensures ∙ w.if-is_named.false) refl w.tables-is
    ]
