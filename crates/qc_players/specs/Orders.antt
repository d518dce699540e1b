-- Orders on players: whether they are refused by the slot, and what they do.
use Rattle.std.specs.Prelude.{◌≡◌, ℕ, ◌-◌, List, [], ◌∷◌, length, Bool, Option, Some, Result}
use Rattle.qc_base.specs.declared.log_line.Stage.{Stage}
use Rattle.qc_base.specs.declared.log_line.Why.{Why}
use Rattle.qc_protocol.specs.declared.reply.Refusal.{Refusal}
use Rattle.qc_protocol.specs.declared.reply.Reply.{Reply}
use Rattle.qc_catalogue.specs.declared.catalogue.Catalogue.{Catalogue}
use Rattle.qc_txn.specs.Attempt.{AttemptView, result_by}
use Rattle.qc_machine.specs.Attempts.{parts_held}
use Rattle.qc_machine.specs.Playing.{after_work, ended_attempt, next_number, why_ended, work_reply}
use Rattle.qc_machine.specs.Refuse.{first_some}
use Rattle.qc_machine.specs.Slots.{can_end, has_calls, has_ended, idle, out_of_slots, player_busy, stage_unless}
use Rattle.qc_machine.specs.State.{HeldAttempt, set_slot}
use Rattle.qc_players.specs.declared.order.PlayerOrder.{PlayerOrder}
use Rattle.qc_players.specs.declared.order.PlayerOrder.TheVariants.{Work, End, Phase}
use Rattle.qc_players.specs.Players.{ArePlayedBy, IsPlayedBy, held_of, players_of}

-- the stages that an order is for
abbrev pub serves : PlayerOrder → Stage → Bool
serves Work stage = has_calls stage
serves End stage = can_end stage
serves Phase stage = has_ended stage

-- Why a player is refused an order by its slot alone: to take a message, or to go on with what it holds.

abbrev pub busy_for : ℕ → List (Option HeldAttempt) → Option Refusal
busy_for n players = first_some (out_of_slots n ∷ player_busy players n ∷ [])

abbrev pub unfit_for : PlayerOrder → ℕ → List (Option HeldAttempt) → Option Refusal
unfit_for order n players =
    first_some (out_of_slots n ∷ idle players n ∷ stage_unless (serves order) players n ∷ [])

-- what the next call makes of an attempt, and what is told of it

abbrev pub worked_by : Catalogue → HeldAttempt → HeldAttempt
worked_by c a = after_work (parts_held c a) a

abbrev pub told_by : Catalogue → HeldAttempt → Reply
told_by c a = work_reply (worked_by c a).why (next_number (parts_held c a) a) (length (parts_held c a) - (worked_by c a).calls)

-- An attempt runs its next call.
pub record WorksOn (c : Catalogue) (old new : AttemptView) (reply : Reply) : Type 0 where
  pub held : held_of new ≡ worked_by c (held_of old)
  pub told : reply ≡ told_by c (held_of old)
  pub played : IsPlayedBy c new

-- The player's attempt runs its next call.
pub record Works (c : Catalogue) (n : ℕ) (old new : List (Option AttemptView)) (reply : Reply) (a : HeldAttempt) : Type 0 where
  pub players : players_of new ≡ set_slot n (Some (worked_by c a)) (players_of old)
  pub told : reply ≡ told_by c a
  pub played : ArePlayedBy c new

-- The player's attempt ends.
pub record Ends (c : Catalogue) (n : ℕ) (old new : List (Option AttemptView)) (result : Result (Unit {0}) Why) (a : HeldAttempt) : Type 0 where
  pub players : players_of new ≡ set_slot n (Some (ended_attempt (why_ended c a) a)) (players_of old)
  pub told : result ≡ result_by (why_ended c a)
  pub played : ArePlayedBy c new
