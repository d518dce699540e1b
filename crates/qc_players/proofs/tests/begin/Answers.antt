use Rattle.std.proofs.Common.{◌≡◌, subst, sym, arith}
use Rattle.qc_base.specs.declared.fact.Kind.TheVariants.{Normal}
use Rattle.qc_txn.specs.Attempt.{PlaysBy, begun, effects_in}
use Rattle.qc_txn.specs.Parts.{parts_of}
use Rattle.qc_players.specs.Players.{IsPlayedBy}
use Rattle.qc_players.proofs.Works.{begun-played}
use Rattle.qc_players.proofs.tests.begin.Goals as goal

pub returns-in-Ok : goal.returns-in-Ok
returns-in-Ok c =
    let catalogue = c.args.catalogue.now in
    let recording = c.in_ok-recording.recording in
    let state = c.in_ok-state.state in
    let inside : effects_in (parts_of catalogue recording Normal) ≡ 0 = omega (arith, c.effects_of.ensures, c.if-effects_of-gt0.false) in
    let is : c.in-Ok.attempt ≡ begun 7 4 Normal recording state = c.in-Ok.ensures.begun in
    subst (IsPlayedBy catalogue) (sym is) (begun-played catalogue 7 4 Normal recording state (subst (PlaysBy catalogue) is c.in-Ok.ensures.plays) inside c.in_ok-state.ensures)
