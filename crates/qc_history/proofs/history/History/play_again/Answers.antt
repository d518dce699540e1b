use Rattle.std.proofs.Common.{◌≡◌, ◌∙◌, drop, sym, ap, subst}
use Rattle.qc_catalogue.specs.declared.catalogue.Catalogue.{Catalogue}
use Rattle.qc_txn.specs.Attempt.{AttemptView, decided}
use Rattle.qc_txn.specs.Ends.{PlaysAll}
use Rattle.qc_txn.specs.Parts.{parts_of}
use Rattle.qc_history.specs.Playing.{IsPlayedAgain}
use Rattle.qc_history.specs.Votes.{heard_out}
use Rattle.qc_history.proofs.Again.{played-again}
use Rattle.qc_history.proofs.history.History.play_again.Goals as goal

pub returns : goal.returns
returns c =
    let a : AttemptView = c.in_ok-attempt.attempt in
    let last : AttemptView = c.run_left.new.self in
    let ran = subst (λ (k : Catalogue). PlaysAll (drop a.calls (parts_of k a.recording a.kind)) a last) c.catalogue.ensures c.run_left.ensures.ran in
    let heard : c.vote_all.new.attempt ≡ heard_out c.args.self.now.catalogue last = c.in_ok-vote_all.ensures ∙ ap (λ (k : Catalogue). heard_out k last) c.catalogue-2.ensures in
    subst (IsPlayedAgain c.args.self.now c.args.id c.args.number) (sym (c.decide.ensures.decided ∙ ap decided heard))
    (played-again c.args.self.now c.args.id c.args.number a last c.in_ok-attempt.ensures ran c.requires)
