use Rattle.std.proofs.Common.{◌≡◌, ◌∙◌, ℕ, ◌+◌, ◌-◌, ◌*◌, ◌<◌, drop, get_or, sym, arith}
use Rattle.qc_script.specs.Terms.{value_from}
use Rattle.qc_script.proofs.Numbers.{value_grows, value_step}
use Rattle.qc_script.proofs.terms.value_of.Goals as goal

pub returns-then-value-gt1000000000000000 : goal.returns-then-value-gt1000000000000000
returns-then-value-gt1000000000000000 c =
    let digits = c.args.digits.now in
    let i = c.loop-digit.digit-index in
    let n : ℕ = c.loop-digit.value * 10 + (get_or digits i 0 - 48) in
    let big : 1000000000000000 < n = omega arith in
    let rest : value_from n (drop (i + 1) digits) ≡ value_from 0 digits = sym (value_step c.loop-digit.value digits i (omega arith)) ∙ c.loop-digit.invariant.0 in
    omega (arith, value_grows n (drop (i + 1) digits))
