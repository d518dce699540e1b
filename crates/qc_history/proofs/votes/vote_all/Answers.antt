use Rattle.std.proofs.Common.{◌≡◌, ◌∙◌, ◌<◌, List, not, length, ap, arith}
use Rattle.qc_play.specs.Play.{Play}
use Rattle.qc_play.specs.declared.record.PlayRecord.{PlayRecord}
use Rattle.qc_txn.specs.Outcome.{votes_no}
use Rattle.qc_history.proofs.Heard.{heard-next}
use Rattle.qc_history.proofs.votes.vote_all.Goals as goal

pub loop-name-preserved : goal.loop-name-preserved
loop-name-preserved c =
    let loop = c.loop-name in
    let catalogue = c.args.catalogue.now in
    let names = c.deref-name-items.result.now in
    let within : loop.name-index < length names = omega (arith, c.loop-name-test.true) in
    let tells : c.in_ok-ready.ready ≡ not (votes_no catalogue loop.attempt.play.records c.name-item.result) =
    c.in_ok-ready.ensures ∙ ap (λ (l : List PlayRecord). not (votes_no catalogue l c.name-item.result)) (c.records-in-loop-name.ensures ∙ ap (λ (p : Play). p.records) c.state-in-loop-name.ensures.play)
    in
    heard-next catalogue names loop.name-index c.name-item.result c.in_ok-ready.ready loop.attempt c.vote.new.self within c.name-item.is tells c.vote.ensures ∙ loop.invariant
