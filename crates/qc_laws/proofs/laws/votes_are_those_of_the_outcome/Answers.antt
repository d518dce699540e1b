use Rattle.qc_laws.proofs.Forgetting.{end-forgets, end-leaves}
use Rattle.qc_laws.proofs.Votes.{held-stands, outcome-stands, votes-stand, why-stands}
use Rattle.qc_laws.proofs.laws.votes_are_those_of_the_outcome.Goals as goal

pub returns : goal.returns
returns m = record {
  refuser = votes-stand;
  why = why-stands;
  left = held-stands;
  decided = outcome-stands;
  forgets = λ c x. let is = end-forgets c x in record { more = is.more; lines = is.lines; only = is.only; same_rows = is.same_rows };
  leaves = end-leaves;
}
