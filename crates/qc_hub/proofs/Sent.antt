-- The steps of orders that send, by what is recorded.
use Rattle.std.proofs.Common.{◌≡◌, ◌∙◌, ℕ, ◌≤◌, leb, List, [], ◌∷◌, length, false, refl, ap, arith, Option, Some, None, option_and_then, Ok, Err}
use Rattle.std.specs.declared.result.Result.{Result}
use Rattle.qc_base.specs.declared.recording.Call.{Call}
use Rattle.qc_base.specs.declared.recording.Recording.{Recording}
use Rattle.qc_base.specs.Messages.{live}
use Rattle.qc_protocol.specs.declared.order.Act.TheVariants.{CommitSlot, Send}
use Rattle.qc_protocol.specs.declared.order.RawCall.{RawCall}
use Rattle.qc_protocol.specs.declared.reply.Refusal.{Refusal}
use Rattle.qc_protocol.specs.declared.reply.Refusal.TheVariants.{Full, TooManyMessages}
use Rattle.qc_protocol.specs.declared.reply.Reply.TheVariants.{SentNothing, Refused}
use Rattle.qc_recorder.specs.Recording.{recorded}
use Rattle.qc_machine.specs.Recorded.{if_called, if_recorded, if_refused}
use Rattle.qc_machine.specs.Refuse.{first_some, is_of_line}
use Rattle.qc_machine.specs.Sending.{added, fact_sent, no_room_for, send_step, too_many}
use Rattle.qc_machine.specs.Slots.{out_of_slots, idle}
use Rattle.qc_machine.specs.State.{State, at_moment, in_slot, with_client}
use Rattle.qc_machine.specs.Step.{step, refusal}
use Rattle.qc_machine.specs.Steps.{stays}
use Rattle.qc_machine.proofs.Refusals.{IsOrders, first-is, first-none, first-order, none-order, recorded-order, refuse-order}
use Rattle.qc_machine.proofs.Steps.{step-refused-by, step-taken, refusal-send, refusal-commit}
use Rattle.qc_hub.specs.Calls.{committing, sending}
use Rattle.qc_hub.specs.Rooms.{unsent}

-- a recording with calls, or without

pub called-some : (r : Recording) → 1 ≤ length r.calls → if_called r ≡ Some r
called-some r some = by r.calls refl
  where
    by : (calls : List Call) → r.calls ≡ calls → (elim calls [ [] ↦ None | call ∷ more ↦ Some r ]) ≡ Some r
    by [] e = absurd (omega (arith, some, ap length e))
    by (call ∷ more) e = refl

pub called-none : (r : Recording) → length r.calls ≡ 0 → if_called r ≡ None
called-none r none = by r.calls refl
  where
    by : (calls : List Call) → r.calls ≡ calls → ◌≡◌ {A = Option Recording} (elim calls [ [] ↦ None | call ∷ more ↦ Some r ]) None
    by [] e = refl
    by (call ∷ more) e = absurd (omega (arith, none, ap length e))

-- why a message isn't sent, which no line is refused for
pub unsent-order : (s : State) (r : Recording) → IsOrders (unsent s r)
unsent-order s r =
    first-order (too_many s (Some r)) (no_room_for s (Some r) ∷ []) (refuse-order (leb s.limits.live (live s.history.messages)) (TooManyMessages s.limits.live) refl)
    (first-order (no_room_for s (Some r)) [] (refuse-order _ (Full s.journal.size) refl) none-order)

module _ (s : State) (at : ℕ) (app component : List ℕ) (calls : List RawCall) where
  abbrev then : State
  then = at_moment at s

  abbrev answer : Result Recording Refusal
  answer = recorded s.history.catalogue app component calls

  abbrev unless_sent : Option Recording → Option Refusal
  unless_sent o = first_some (None ∷ too_many then o ∷ no_room_for then o ∷ [])

  abbrev refused_by : Result Recording Refusal → Option Refusal
  refused_by a = first_some (if_refused a ∷ too_many then (if_recorded a) ∷ no_room_for then (if_recorded a) ∷ [])

  pub send-refused : (r : Refusal) → answer ≡ Err r → step s (sending at app component calls) ≡ stays then (Refused r)
  send-refused r is =
      step-refused-by s at (Send app component calls) r (refusal-send then app component calls ∙ ap refused_by is) (recorded-order s.history.catalogue app component calls r (ap (λ (a : Result Recording Refusal). if_refused a) is))

  pub send-nothing : (r : Recording) → answer ≡ Ok r → if_called r ≡ None → step s (sending at app component calls) ≡ stays then SentNothing
  send-nothing r is none =
      step-taken s at (Send app component calls) (refusal-send then app component calls ∙ ap refused_by is ∙ ap unless_sent none)
      ∙ ap (λ (a : Result Recording Refusal). send_step then (if_recorded a)) is ∙ ap (send_step then) none

  pub send-unsent : (r : Recording) (why : Refusal) → answer ≡ Ok r → if_called r ≡ Some r → unsent then r ≡ Some why → step s (sending at app component calls) ≡ stays then (Refused why)
  send-unsent r why is some refused =
      step-refused-by s at (Send app component calls) why (refusal-send then app component calls ∙ ap refused_by is ∙ ap unless_sent some ∙ refused) (unsent-order then r why refused)

  pub send-some : (r : Recording) → answer ≡ Ok r → if_called r ≡ Some r → unsent then r ≡ None → step s (sending at app component calls) ≡ added (fact_sent then r) then
  send-some r is some free =
      step-taken s at (Send app component calls) (refusal-send then app component calls ∙ ap refused_by is ∙ ap unless_sent some ∙ free)
      ∙ ap (λ (a : Result Recording Refusal). send_step then (if_recorded a)) is ∙ ap (send_step then) some

module _ (s : State) (at n : ℕ) where
  abbrev now : State
  now = at_moment at s

  abbrev slots : List (Option Refusal)
  slots = out_of_slots n ∷ idle s.clients n ∷ []

  abbrev unsents : Option Recording → List (Option Refusal)
  unsents o = too_many now o ∷ no_room_for now o ∷ []

  pub commit-refused : (r : Refusal) → first_some slots ≡ Some r → is_of_line r ≡ false → step s (committing at n) ≡ stays now (Refused r)
  commit-refused r is order =
      step-refused-by s at (CommitSlot n) r (refusal-commit now n ∙ first-is slots (unsents (option_and_then if_called (in_slot n s.clients))) r is) order

  commit-past : (held : Option Recording) → in_slot n s.clients ≡ held → first_some slots ≡ None → refusal now (CommitSlot n) ≡ first_some (unsents (option_and_then if_called held))
  commit-past held is open_ =
      refusal-commit now n ∙ first-none slots (unsents (option_and_then if_called (in_slot n s.clients))) open_ ∙ ap (λ (o : Option Recording). first_some (unsents (option_and_then if_called o))) is

  commit-step : (held : Option Recording) → in_slot n s.clients ≡ held → refusal now (CommitSlot n) ≡ None → step s (committing at n) ≡ send_step (with_client n None now) (option_and_then if_called held)
  commit-step held is none = step-taken s at (CommitSlot n) none ∙ ap (λ (o : Option Recording). send_step (with_client n None now) (option_and_then if_called o)) is

  pub commit-nothing : (r : Recording) → in_slot n s.clients ≡ Some r → first_some slots ≡ None → if_called r ≡ None → step s (committing at n) ≡ stays (with_client n None now) SentNothing
  commit-nothing r is open_ none =
      commit-step (Some r) is (commit-past (Some r) is open_ ∙ ap (λ (o : Option Recording). first_some (unsents o)) none) ∙ ap (send_step (with_client n None now)) none

  pub commit-unsent : (r : Recording) (why : Refusal) → in_slot n s.clients ≡ Some r → first_some slots ≡ None → if_called r ≡ Some r → unsent now r ≡ Some why → step s (committing at n) ≡ stays now (Refused why)
  commit-unsent r why is open_ some refused =
      step-refused-by s at (CommitSlot n) why (commit-past (Some r) is open_ ∙ ap (λ (o : Option Recording). first_some (unsents o)) some ∙ refused) (unsent-order now r why refused)

  pub commit-some : (r : Recording) → in_slot n s.clients ≡ Some r → first_some slots ≡ None → if_called r ≡ Some r → unsent now r ≡ None
      → step s (committing at n) ≡ added (fact_sent (with_client n None now) r) (with_client n None now)
  commit-some r is open_ some free =
      commit-step (Some r) is (commit-past (Some r) is open_ ∙ ap (λ (o : Option Recording). first_some (unsents o)) some ∙ free)
      ∙ ap (send_step (with_client n None now)) some
