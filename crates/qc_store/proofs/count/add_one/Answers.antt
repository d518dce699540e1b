use Rattle.std.proofs.Common.{◌≡◌, ◌∙◌, get_or, find, true, false, None, sym, ap, arith, rules}
use Rattle.std.proofs.lemmas.List.{take_all}
use Rattle.qc_store.proofs.Tallying.{is_of, adds_here, counts_here, keeps_here, none_here, with_one_none}
use Rattle.qc_store.proofs.count.add_one.Goals as goal

pub overflow_add-tally : goal.overflow_add-tally
overflow_add-tally c =
    let app = c.args.app.now in
    let xs = c.args.tallies.now in
    let ys = c.loop-tally.tallies in
    let x = get_or ys c.loop-tally.tally-index c.tally-item.result in
    let here : is_of app x ≡ true = search rules in
    let count = counts_here app xs ys c.loop-tally.tally-index c.tally-item.result (omega arith) c.loop-tally.invariant.same c.loop-tally.invariant.none here in
    omega (arith, count)

pub returns-then-eq : goal.returns-then-eq
returns-then-eq c =
    let app = c.args.app.now in
    let x = get_or c.loop-tally.tallies c.loop-tally.tally-index c.tally-item.result in
    let here : is_of app x ≡ true = search rules in
    adds_here app c.args.tallies.now c.loop-tally.tallies c.loop-tally.tally-index c.tally-item.result (omega arith) c.loop-tally.invariant.same c.loop-tally.invariant.none here

pub loop-tally-preserved : goal.loop-tally-preserved
loop-tally-preserved c =
    let app = c.args.app.now in
    let x = get_or c.loop-tally.tallies c.loop-tally.tally-index c.tally-item.result in
    let other : is_of app x ≡ false = search rules in record {
      same = keeps_here app c.args.tallies.now c.loop-tally.tallies c.loop-tally.tally-index c.tally-item.result (omega arith) c.loop-tally.invariant.same c.loop-tally.invariant.none;
      none = none_here app c.args.tallies.now c.loop-tally.tallies c.loop-tally.tally-index c.tally-item.result (omega arith) c.loop-tally.invariant.same c.loop-tally.invariant.none other;
    }

pub returns : goal.returns
returns c =
    let xs = c.args.tallies.now in
    let none : find (is_of c.args.app.now) xs ≡ None = ap (find (is_of c.args.app.now)) (sym (take_all c.loop-tally.tally-index xs c.loop-tally-test.false)) ∙ c.loop-tally.invariant.none in
    c.loop-tally.invariant.same ∙ sym (with_one_none c.args.app.now xs none)
