use Rattle.qc_txn.proofs.Ending.{ends, first_refuser}
use Rattle.qc_txn.proofs.laws.an_attempt_ends_by_its_outcome.Goals as goal

pub returns-clause-votes : goal.returns-clause-votes
returns-clause-votes c = first_refuser

pub returns-clause-outcome : goal.returns-clause-outcome
returns-clause-outcome c = ends
