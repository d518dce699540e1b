-- Attempts that players begin.
use Rattle.std.proofs.Common.{◌≡◌, ◌∙◌, ℕ, ◌==◌, List, false, not, cond, length, map, filter_map, refl, sym, ap, subst, arith, eqb-true, Option, Some, None, Ok}
use Rattle.qc_base.specs.declared.message.Message.{Message}
use Rattle.qc_base.specs.declared.recording.Row.{Row}
use Rattle.qc_base.specs.Messages.{message_of}
use Rattle.qc_protocol.specs.declared.order.Act.{Act}
use Rattle.qc_protocol.specs.declared.reply.Refusal.{Refusal}
use Rattle.qc_protocol.specs.declared.reply.Reply.TheVariants.{Refused}
use Rattle.qc_history.specs.Playing.{BeginsOn, begun_on}
use Rattle.qc_listener.specs.Choice.{kind_at}
use Rattle.qc_play.specs.Play.{rows_in}
use Rattle.qc_rows.specs.Holdings.{Holding, are_free, is_held}
use Rattle.qc_txn.specs.Attempt.{AttemptView, count_of, effects_in, stage_after, PlaysBy}
use Rattle.qc_txn.specs.Outcome.{new_play}
use Rattle.qc_catalogue.specs.declared.catalogue.Catalogue.{Catalogue}
use Rattle.qc_txn.specs.Parts.{Part, is_playable, parts_of, rows_of_attempt}
use Rattle.qc_txn.proofs.PartsAt.{count_is}
use Rattle.qc_machine.specs.Attempts.{chosen_message, holding_of, next_attempt}
use Rattle.qc_machine.specs.History.{attempt_of, by_text, settled_amount, view_at}
use Rattle.qc_machine.specs.Refuse.{is_of_line}
use Rattle.qc_machine.specs.State.{State, HeldAttempt, at_moment, held_attempts}
use Rattle.qc_machine.specs.Step.{answer, refusal, step}
use Rattle.qc_machine.specs.Steps.{stays}
use Rattle.qc_machine.proofs.Ended.{rows-of-view}
use Rattle.qc_machine.proofs.Keeping.{settled-orderly}
use Rattle.qc_machine.proofs.PlayerSlots.{any-map, greatest-append, past-greatest}
use Rattle.qc_machine.proofs.Taken.{IsChosen, chosen-is}
use Rattle.qc_players.specs.Players.{IsApart, IsPlayedBy, has_number, held_of, holdings_in, players_of}
use Rattle.qc_players.proofs.Works.{begun-played}
use Rattle.qc_hub.specs.declared.hub.Hub.{Hub}
use Rattle.qc_hub.specs.Stands.{IsHubOf}
use Rattle.qc_hub.specs.Taking.{Chooses, IsTaken, Numbers}
use Rattle.qc_machine.proofs.Bools.{and-right}
use Rattle.qc_hub.proofs.Taken.{can-play, playable, take-behind}

-- a step that is refused
pub step-refused : (s : State) (at : ℕ) (act : Act) (r : Refusal) → refusal (at_moment at s) act ≡ Some r → step s (record { at = at; act = act }) ≡ stays (cond (is_of_line r) s (at_moment at s)) (Refused r)
unfolding step
step-refused s at act r is = ap (λ (o : Option Refusal). answer s (at_moment at s) act o) is

-- an attempt that begins on the message that was chosen, with the number that was found
module _ (hub : Hub) (s : State) (h : IsHubOf hub s) (n : ℕ) (app : List ℕ) (id number : ℕ) (chose : Chooses s n app (Ok id)) (numbered : (app : List ℕ) (m : Message) → chosen_message s app ≡ Some m → m.id ≡ id → Numbers s m (Ok number))
    (a : AttemptView) (begins : BeginsOn hub.history id number a) where
  abbrev m : Message
  m = chose.0

  chosen : chosen_message s app ≡ Some m
  chosen = chose.2

  same : m.id ≡ id
  same = chose.3

  numbers : Numbers s m (Ok number)
  numbers = numbered app m chosen same

  found : message_of id s.history.messages ≡ Some m
  found = ap (λ (k : ℕ). message_of k s.history.messages) (sym same) ∙ (chosen-is s app m (settled-orderly by_text s h.settled) chosen).found

  message_is : begins.message ≡ m
  message_is = let both : Some begins.message ≡ Some m = sym begins.found ∙ ap (message_of id) h.history.messages ∙ found in cc

  is : a ≡ begun_on s.history.catalogue s.history.tables s.history.outside number m
  is = begins.is ∙ (λ i. begun_on (h.history.catalogue i) (h.history.tables i) (h.history.outside i) number (message_is i))

  counted : count_of m.recording (kind_at m.place) ≡ length (parts_of s.history.catalogue m.recording (kind_at m.place))
  counted = sym (count_is s.history.catalogue m.recording (kind_at m.place) (playable hub s h app m id chosen same numbers.0))

  abbrev parts : List Part
  parts = parts_of s.history.catalogue m.recording (kind_at m.place)

  -- it changes nothing outside
  quiet : effects_in parts ≡ 0
  quiet = eqb-true _ 0 (and-right (is_playable s.history.catalogue m.recording (kind_at m.place)) _ (can-play hub s h app m id chosen same numbers.0))

  pub begun-taken : IsTaken s n app (held_of a)
  begun-taken = record {
    free = take-behind s n app m None chose.1 chosen numbers.0;
    message = m;
    chosen = chosen;
    is = ap held_of is ∙ (λ i. record (held_of (begun_on s.history.catalogue s.history.tables s.history.outside number m)) { attempt = numbers.1 i; stage = stage_after 0 (counted i) });
  }

  pub begun-plays : IsPlayedBy hub.history.catalogue a
  begun-plays =
      subst (IsPlayedBy hub.history.catalogue) (sym is)
      (begun-played hub.history.catalogue m.id number (kind_at m.place) m.recording (record { play = new_play (view_at s.history m.recording (kind_at m.place)); room = effects_in parts })
      (subst (PlaysBy hub.history.catalogue) is begins.plays) (ap (λ (c : Catalogue). effects_in (parts_of c m.recording (kind_at m.place))) h.history.catalogue ∙ quiet) refl)

-- it may be held beside the others
module _ (hub : Hub) (s : State) (h : IsHubOf hub s) (n : ℕ) (app : List ℕ) (a : AttemptView) (taken : IsTaken s n app (held_of a)) where
  abbrev on : Message
  on = taken.message

  choice : IsChosen s on
  choice = chosen-is s app on (settled-orderly by_text s h.settled) taken.chosen

  abbrev mine : List Row
  mine = rows_of_attempt s.history.catalogue on.recording (kind_at on.place)

  rows_same : rows_in a.play.view ≡ mine
  rows_same = ap (λ (x : HeldAttempt). rows_in x.play.view) taken.is ∙ rows-of-view (settled_amount s.history.tables s.history.outside) mine

  number-new : has_number (next_attempt s) (holdings_in s.players) ≡ false
  number-new =
      let facts : List ℕ = filter_map attempt_of s.history.facts in
      let held : List ℕ = map (λ (x : HeldAttempt). x.attempt) (held_attempts s) in
      any-map (λ (x : Holding). x.attempt == next_attempt s) holding_of (held_attempts s)
      ∙ sym (any-map (λ (k : ℕ). k == next_attempt s) (λ (x : HeldAttempt). x.attempt) (held_attempts s))
      ∙ past-greatest (next_attempt s) held (omega (arith, greatest-append facts held))

  pub begun-apart : IsApart (players_of hub.players) (held_of a)
  begun-apart = record {
    message = (λ i. is_held (holdings_in (h.players i)) ((ap (λ (x : HeldAttempt). x.id) taken.is) i)) ∙ choice.free;
    rows = (λ i. are_free (holdings_in (h.players i)) (rows_same i)) ∙ ap not choice.rows;
    number = (λ i. has_number ((ap (λ (x : HeldAttempt). x.attempt) taken.is) i) (holdings_in (h.players i))) ∙ number-new;
  }
