use Rattle.std.proofs.Common.{◌≡◌, drop}
use Rattle.crm_driver.specs.Ready.{last_ones_within}
use Rattle.crm_driver.proofs.ready.last_ones_within.Given as goal

abbrev pub invariant-loop-place : goal.invariant-loop-place
invariant-loop-place l = last_ones_within l.bounds (drop l.place l.records) ≡ last_ones_within l.bounds l.records
