use Rattle.std.proofs.Common.{◌≡◌, drop}
use Rattle.qc_txn.specs.Ends.{votes_of}
use Rattle.qc_history.specs.Votes.{heard_out}
use Rattle.qc_history.proofs.votes.vote_all.Given as goal

abbrev pub invariant-loop-name : goal.invariant-loop-name
invariant-loop-name l = record l.attempt { refuser = votes_of l.catalogue l.attempt.play.records (drop l.name-index l.name-items) l.attempt.refuser } ≡ heard_out l.catalogue l.fn.attempt
