use Rattle.std.proofs.Common.{◌≡◌, drop, take, sum_by}
use Rattle.crm_clerk.specs.Places.{kept_of, place_from}
use Rattle.crm_clerk.proofs.book.place_of.Given as goal

abbrev pub invariant-loop-index : goal.invariant-loop-index
invariant-loop-index l = record {
  same : place_from l.index l.start l.resource (drop l.index l.registered) (drop l.index l.counts) ≡ place_from 0 0 l.resource l.registered l.counts;
  so_far : l.start ≡ sum_by kept_of (take l.index l.counts);
}
