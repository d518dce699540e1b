-- Attempts in slots that run their next call or end.
use Rattle.std.proofs.Common.{◌≡◌, ◌∙◌, ℕ, ◌-◌, List, slice_get, sym, ap, Option, Some, option_map}
use Rattle.std.specs.declared.result.Result.{Result}
use Rattle.std.proofs.lemmas.Option.{same_Some}
use Rattle.qc_base.specs.declared.log_line.Why.{Why}
use Rattle.qc_protocol.specs.declared.reply.Reply.{Reply}
use Rattle.qc_catalogue.specs.declared.catalogue.Catalogue.{Catalogue}
use Rattle.qc_txn.specs.Attempt.{AttemptView, decided, result_by, why_at_end}
use Rattle.qc_machine.specs.Playing.{ended_attempt, why_ended}
use Rattle.qc_machine.specs.State.{HeldAttempt, in_slot, set_slot}
use Rattle.qc_machine.proofs.Recorders.{in-slot}
use Rattle.qc_players.specs.Orders.{Ends, Works, WorksOn, told_by, worked_by}
use Rattle.qc_players.specs.Players.{ArePlayedBy, IsPlayedBy, held_of, players_of}
use Rattle.qc_players.proofs.Slots.{put-played, set-held, slot-held}
use Rattle.qc_players.proofs.Works.{ends-held, ends-played, why-same}

module _ (c : Catalogue) (slots : List (Option AttemptView)) (n : ℕ) (v : AttemptView) (at : slice_get slots (n - 1) ≡ Some (Some v)) (all : ArePlayedBy c slots) where
  pub plays-there : IsPlayedBy c v
  plays-there = all n v (in-slot slots n v at)

  module _ (a : HeldAttempt) (there : in_slot n (players_of slots) ≡ Some a) where
    -- the machine sees the attempt that is there
    same : held_of v ≡ a
    same = same_Some (held_of v) a (sym (slot-held slots n ∙ ap (option_map held_of) (in-slot slots n v at)) ∙ there)

    pub works-there : (new : AttemptView) (reply : Reply) → WorksOn c v new reply → Works c n slots (set_slot n (Some new) slots) reply a
    works-there new reply works = record {
      players = set-held slots n (Some new) ∙ ap (λ h. set_slot n (Some h) (players_of slots)) (works.held ∙ ap (worked_by c) same);
      told = works.told ∙ ap (told_by c) same;
      played = put-played c slots n new all works.played;
    }

    pub ends-there : (result : Result (Unit {0}) Why) → result ≡ result_by (why_at_end v) → Ends c n slots (set_slot n (Some (decided v)) slots) result a
    ends-there result told = record {
      players = set-held slots n (Some (decided v)) ∙ ap (λ h. set_slot n (Some h) (players_of slots)) (ends-held c v plays-there ∙ ap (λ h. ended_attempt (why_ended c h) h) same);
      told = told ∙ ap result_by (why-same c v plays-there ∙ ap (why_ended c) same);
      played = put-played c slots n (decided v) all (ends-played c v plays-there);
    }
