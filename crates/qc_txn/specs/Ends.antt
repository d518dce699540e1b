-- An attempt from its first call to its end.
use Rattle.std.specs.Prelude.{◌≡◌, ◌⊎◌, ℕ, List, [], ◌∷◌, not, Option}
use Rattle.qc_play.specs.declared.record.PlayRecord.{PlayRecord}
use Rattle.qc_catalogue.specs.declared.catalogue.Catalogue.{Catalogue}
use Rattle.qc_txn.specs.Attempt.{AttemptView, FailsCall, RunsCall, voted, why_at_end}
use Rattle.qc_txn.specs.Outcome.{Outcome, ended, not_ready, votes_no}
use Rattle.qc_txn.specs.Parts.{Part}

-- calls that run one after another, the last of them perhaps failing
abbrev pub PlaysAll : List Part → AttemptView → AttemptView → Type 0
PlaysAll [] old new = new ≡ old
PlaysAll (p ∷ parts) old new =
    ((next : AttemptView) × (number : ℕ) × RunsCall p old next number × PlaysAll parts next new)
    ⊎ ((step : ℕ) × FailsCall p old new step)

-- the votes of resources by their records, one after another
abbrev pub votes_of : Catalogue → List PlayRecord → List (List ℕ) → Option (List ℕ) → Option (List ℕ)
votes_of c records [] refuser = refuser
votes_of c records (name ∷ names) refuser = votes_of c records names (voted name (not (votes_no c records name)) refuser)

-- how an attempt ends by the votes of the resources that it changed
abbrev pub end_of : Catalogue → AttemptView → Outcome
end_of c a = ended a.play (why_at_end (record a { refuser = not_ready c a.play.records }))
