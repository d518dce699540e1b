use Rattle.std.proofs.Common.{◌≡◌, List, [], ◌∷◌, false, not, refl, sym, ap, subst, Option}
use Rattle.std.specs.List.{list_any}
use Rattle.qc_base.specs.declared.recording.Row.{Row}
use Rattle.qc_play.specs.Play.{rows_in}
use Rattle.qc_rows.specs.Holdings.{is_row_held}
use Rattle.qc_machine.specs.Sites.{no_players}
use Rattle.qc_machine.specs.State.{HeldAttempt}
use Rattle.qc_players.specs.Players.{ArePlayedBy, IsApart, held_of}
use Rattle.qc_players.proofs.Slots.{none-played, put-played}
use Rattle.qc_players.proofs.tests.holding.Goals as goal

-- beside no attempt each may be held
none-held : (rows : List Row) → list_any (is_row_held []) rows ≡ false
none-held [] = refl
none-held (row ∷ rows) = none-held rows

alone : (a : HeldAttempt) → IsApart no_players a
alone a = record { message = refl; rows = ap not (none-held (rows_in a.play.view)); number = refl }

pub hold-requires-clause-apart : goal.hold-requires-clause-apart
hold-requires-clause-apart c = subst (λ (players : List (Option HeldAttempt)). IsApart players (held_of c.in_ok-attempt.attempt)) (sym c.in-Ok.ensures) (alone (held_of c.in_ok-attempt.attempt))

pub returns-in-Ok-hold : goal.returns-in-Ok-hold
returns-in-Ok-hold c =
    let catalogue = c.args.catalogue.now in
    subst (ArePlayedBy catalogue) (sym c.in-Ok-hold.ensures.held)
    (put-played catalogue c.in-Ok.players 3 c.in_ok-attempt.attempt (none-played catalogue c.in-Ok.players c.in-Ok.ensures) c.in_ok-attempt.ensures)
