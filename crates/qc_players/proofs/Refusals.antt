-- Orders that a player's slot doesn't refuse.
use Rattle.std.proofs.Common.{◌≡◌, ◌∙◌, ◌⊎◌, inl, inr, ℕ, List, [], ◌∷◌, Bool, true, false, not, refl, ap, Option, Some, None, option_map, option_and_then, is_none}
use Rattle.qc_base.specs.declared.log_line.Stage.{Stage}
use Rattle.qc_base.specs.declared.log_line.Stage.TheVariants.{Calls, Ready, Failing, Commit, Abort}
use Rattle.qc_protocol.specs.declared.reply.Refusal.{Refusal}
use Rattle.qc_protocol.specs.declared.reply.Refusal.TheVariants.{NoSuchSlot, SlotBusy, SlotIdle, WrongStage}
use Rattle.qc_machine.specs.Refuse.{first_some, refuse_if}
use Rattle.qc_machine.specs.Slots.{can_end, has_calls, is_slot}
use Rattle.qc_machine.specs.State.{HeldAttempt, in_slot}
use Rattle.qc_players.specs.declared.order.PlayerOrder.{PlayerOrder}
use Rattle.qc_players.specs.Orders.{busy_for, serves, unfit_for}

-- a player goes on with its attempt
pub record IsFit (order : PlayerOrder) (n : ℕ) (players : List (Option HeldAttempt)) : Type 0 where
  pub slot : is_slot n ≡ true
  pub attempt : HeldAttempt
  pub there : in_slot n players ≡ Some attempt
  pub serves : serves order attempt.stage ≡ true

abbrev unfit_by : PlayerOrder → ℕ → Bool → Option HeldAttempt → Option Refusal
unfit_by order n slot o = first_some (
    refuse_if (not slot) (NoSuchSlot n)
    ∷ refuse_if (is_none o) SlotIdle
    ∷ option_and_then (λ (a : HeldAttempt). refuse_if (not (serves order a.stage)) (WrongStage a.stage)) o
    ∷ [])

pub fit : (order : PlayerOrder) (n : ℕ) (players : List (Option HeldAttempt)) → unfit_for order n players ≡ None → IsFit order n players
fit order n players none = by (is_slot n) refl (in_slot n players) refl none
  where
    serving : (a : HeldAttempt) (b : Bool) → serves order a.stage ≡ b → is_slot n ≡ true → in_slot n players ≡ Some a → first_some (refuse_if (not b) (WrongStage a.stage) ∷ []) ≡ None → IsFit order n players
    serving a true e slot there none = record { slot = slot; attempt = a; there = there; serves = e }
    serving a false e slot there none = cc

    by : (slot : Bool) → is_slot n ≡ slot → (o : Option HeldAttempt) → in_slot n players ≡ o → unfit_by order n slot o ≡ None → IsFit order n players
    by false e o f none = cc
    by true e None f none = cc
    by true e (Some a) f none = serving a (serves order a.stage) refl e f none

-- a player that holds nothing
pub record IsFree (n : ℕ) (players : List (Option HeldAttempt)) : Type 0 where
  pub slot : is_slot n ≡ true
  pub free : in_slot n players ≡ None

abbrev busy_by : ℕ → Bool → Option HeldAttempt → Option Refusal
busy_by n slot o = first_some (refuse_if (not slot) (NoSuchSlot n) ∷ option_map (λ (a : HeldAttempt). SlotBusy a.id) o ∷ [])

pub free : (n : ℕ) (players : List (Option HeldAttempt)) → busy_for n players ≡ None → IsFree n players
free n players none = by (is_slot n) refl (in_slot n players) refl none
  where
    by : (slot : Bool) → is_slot n ≡ slot → (o : Option HeldAttempt) → in_slot n players ≡ o → busy_by n slot o ≡ None → IsFree n players
    by false e o f none = cc
    by true e (Some a) f none = cc
    by true e None f none = record { slot = e; free = f }

-- the stages that orders are for

pub calls-left : (stage : Stage) → has_calls stage ≡ true → stage ≡ Calls
calls-left Calls e = refl
calls-left Ready e = cc
calls-left Failing e = cc
calls-left Commit e = cc
calls-left Abort e = cc

pub ends-now : (stage : Stage) → can_end stage ≡ true → (stage ≡ Ready) ⊎ (stage ≡ Failing)
ends-now Calls e = cc
ends-now Ready e = inl refl
ends-now Failing e = inr refl
ends-now Commit e = cc
ends-now Abort e = cc

-- what a player is told of its slot

pub unfit-idle : (order : PlayerOrder) (n : ℕ) (players : List (Option HeldAttempt)) → is_slot n ≡ true → in_slot n players ≡ None → unfit_for order n players ≡ Some SlotIdle
unfit-idle order n players slot none = ap (λ b. unfit_by order n b (in_slot n players)) slot ∙ ap (unfit_by order n true) none

pub unfit-held : (order : PlayerOrder) (n : ℕ) (players : List (Option HeldAttempt)) (a : HeldAttempt) → is_slot n ≡ true → in_slot n players ≡ Some a
    → unfit_for order n players ≡ first_some (refuse_if (not (serves order a.stage)) (WrongStage a.stage) ∷ [])
unfit-held order n players a slot there = ap (λ b. unfit_by order n b (in_slot n players)) slot ∙ ap (unfit_by order n true) there

pub busy-is : (n : ℕ) (players : List (Option HeldAttempt)) → is_slot n ≡ true → busy_for n players ≡ first_some (option_map (λ (a : HeldAttempt). SlotBusy a.id) (in_slot n players) ∷ [])
busy-is n players slot = ap (λ b. busy_by n b (in_slot n players)) slot
