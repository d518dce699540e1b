use Rattle.std.proofs.Common.{◌≡◌, ◌∙◌, ℕ, ◌+◌, ◌<◌, List, ◌++◌, Bool, true, false, cond, length, get_or, set, take, drop, sym, ap, rules}
use Rattle.std.specs.Str.{bytes_eq}
use Rattle.std.proofs.lemmas.List.Edits.{map_over_more}
use Rattle.qc_rows.specs.Places.{written}
use Rattle.qc_rows.proofs.table.write_amount.Goals as goal
use Rattle.qc_rows.proofs.table.write_amount.Goals.{then-has_key, else-has_key}

abbrev given : List ℕ → ℕ → List ℕ × ℕ → List ℕ × ℕ
given key n r = cond (bytes_eq r.0 key) ((r.0, n)) r

given_by : (key : List ℕ) (n : ℕ) (r : List ℕ × ℕ) (b : Bool) → bytes_eq r.0 key ≡ b → given key n r ≡ (r.0, cond b n r.1)
given_by key n r true e = ap (λ (b : Bool). cond b ((r.0, n)) r) e
given_by key n r false e = ap (λ (b : Bool). cond b ((r.0, n)) r) e

put_more : (key : List ℕ) (n : ℕ) (xs ys new : List (List ℕ × ℕ)) (i : ℕ) (r : List ℕ × ℕ) (b : Bool) → i < length xs → ys ≡ written key n (take i xs) ++ drop i xs → r ≡ get_or ys i r
    → bytes_eq (get_or ys i r).0 key ≡ b → new ≡ set ys i ((get_or ys i r).0, cond b n (get_or ys i r).1) → new ≡ written key n (take (i + 1) xs) ++ drop (i + 1) xs
put_more key n xs ys new i r b within so_far is same e =
    e ∙ sym (ap (λ (t : List ℕ × ℕ). set ys i t) (given_by key n (get_or ys i r) b same))
    ∙ ap (λ (t : List ℕ × ℕ). set ys i (given key n t)) (sym is)
    ∙ map_over_more (given key n) xs ys i r within so_far is

pub loop-row-preserved : goal.loop-row-preserved
loop-row-preserved c =
    let loop = c.loop-row in
    elim c.if-has_key.branch [
      | then-has_key w ↦ put_more c.args.key.now c.args.amount c.args.rows.now loop.rows c.if-has_key.rows loop.row-index c.row-item.result true (search rules) loop.invariant c.row-item.is (sym c.has_key.ensures ∙ w.if-has_key.true) w.rows-is
      | else-has_key w ↦ put_more c.args.key.now c.args.amount c.args.rows.now loop.rows c.if-has_key.rows loop.row-index c.row-item.result false (search rules) loop.invariant c.row-item.is (sym c.has_key.ensures ∙ w.if-has_key.false) w.rows-is
    ]
