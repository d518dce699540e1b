use Rattle.std.proofs.Common.{◌≡◌, ◌≤◌, drop, true}
use Rattle.std.specs.List.{list_all}
use Rattle.qc_base.specs.Names.{is_digit}
use Rattle.qc_script.specs.Terms.{value_from}
use Rattle.qc_script.proofs.terms.value_of.Given as goal

abbrev pub invariant-loop-digit : goal.invariant-loop-digit
invariant-loop-digit l = (value_from l.value (drop l.digit-index l.digits) ≡ value_from 0 l.digits) × (l.value ≤ 1000000000000000) × (list_all is_digit (drop l.digit-index l.digits) ≡ true)
