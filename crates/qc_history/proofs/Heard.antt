-- Resources that vote one after another.
use Rattle.std.proofs.Common.{◌≡◌, ◌∙◌, ℕ, ◌+◌, ◌<◌, List, ◌∷◌, Bool, not, length, drop, get_or, sym, ap}
use Rattle.std.proofs.lemmas.List.{drop_more}
use Rattle.qc_catalogue.specs.declared.catalogue.Catalogue.{Catalogue}
use Rattle.qc_txn.specs.Attempt.{AttemptView, voted}
use Rattle.qc_txn.specs.Ends.{votes_of}
use Rattle.qc_txn.specs.Outcome.{votes_no}

-- an attempt after the votes of these resources
abbrev pub heard_by : Catalogue → List (List ℕ) → AttemptView → AttemptView
heard_by c names a = record a { refuser = votes_of c a.play.records names a.refuser }

-- the next one votes
pub heard-next : (c : Catalogue) (names : List (List ℕ)) (i : ℕ) (name : List ℕ) (ready : Bool) (old new : AttemptView) → i < length names → name ≡ get_or names i name → ready ≡ not (votes_no c old.play.records name)
    → new ≡ record old { refuser = voted name ready old.refuser } → heard_by c (drop (i + 1) names) new ≡ heard_by c (drop i names) old
heard-next c names i name ready old new within at tells is =
    ap (heard_by c (drop (i + 1) names)) is
    ∙ ap (λ (b : Bool). record old { refuser = votes_of c old.play.records (drop (i + 1) names) (voted name b old.refuser) }) tells
    ∙ ap (λ (n : List ℕ). heard_by c (n ∷ drop (i + 1) names) old) at
    ∙ sym (ap (λ (l : List (List ℕ)). heard_by c l old) (drop_more names i name within))
