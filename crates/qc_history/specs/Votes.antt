-- The votes of the resources that an attempt changed outside.
use Rattle.std.specs.Prelude.{ℕ, List, [], map}
use Rattle.qc_script.specs.Naming.{names_with}
use Rattle.qc_catalogue.specs.declared.catalogue.Catalogue.{Catalogue}
use Rattle.qc_play.specs.declared.record.PlayRecord.{PlayRecord}
use Rattle.qc_txn.specs.Attempt.{AttemptView}
use Rattle.qc_txn.specs.Ends.{votes_of}

-- the resources that these records are of, in order of their first ones
abbrev pub names_changed : List PlayRecord → List (List ℕ)
names_changed records = names_with [] (map (λ (r : PlayRecord). r.resource) records)

-- an attempt whose resources have all voted, one after another
abbrev pub heard_out : Catalogue → AttemptView → AttemptView
heard_out c a = record a { refuser = votes_of c a.play.records (names_changed a.play.records) a.refuser }
