-- What a legal history keeps of its messages, and of what was played.
use Rattle.std.specs.Prelude.{◌≡◌, ℕ, ◌+◌, ◌≤◌, nat_le, List, [], ◌∷◌, All, length, count_by, Bool, true, not, ◌&&◌, ◌||◌, ◌==◌}
use Rattle.qc_base.specs.declared.fact.Place.{Place}
use Rattle.qc_base.specs.declared.fact.Place.TheVariants.{Queue, Dead, Consumed}
use Rattle.qc_base.specs.declared.message.Message.{Message}
use Rattle.qc_base.specs.Messages.{is_consumed}
use Rattle.qc_base.specs.Spelling.{is_recording, is_moment, is_attempt, is_id}
use Rattle.qc_catalogue.specs.declared.catalogue.Catalogue.{Catalogue}
use Rattle.qc_recorder.specs.Fits.{recording_fits}
use Rattle.qc_machine.specs.History.{History, names_exception}
use Rattle.qc_machine.specs.Once.{is_send, is_played}

-- ids from a number on, in order
abbrev pub IsNumberedFrom : ℕ → List Message → Type 0
IsNumberedFrom n [] = Unit {0}
IsNumberedFrom n (m ∷ ms) = (m.id ≡ n) × IsNumberedFrom (n + 1) ms

-- A place within its range. Three tries are those of the final attempt, in queue 5, where the component names an
-- exception class.
abbrev pub is_place : Bool → Place → Bool
is_place final_class (Queue queue tries due) =
    nat_le queue 5 && (nat_le tries 3 && (is_moment due && (not (tries == 3) || ((queue == 5) && final_class))))
is_place final_class Dead = true
is_place final_class (Consumed attempt) = is_attempt attempt

-- the same, of a place in a queue
pub record IsQueued (final_class : Bool) (number tries due : ℕ) : Type 0 where
  pub queue : number ≤ 5
  pub few : tries ≤ 3
  pub moment : due ≤ 1000000000000
  pub last : tries ≡ 3 → (number ≡ 5) × (final_class ≡ true)

-- a message under a catalogue
pub record IsMessageOf (c : Catalogue) (m : Message) : Type 0 where
  pub id : is_id m.id ≡ true
  pub fits : recording_fits c m.recording ≡ true
  pub limits : is_recording m.recording ≡ true
  pub final : m.final_class ≡ names_exception c m.recording
  pub place : is_place m.final_class m.place ≡ true

abbrev pub is_consumed_as : ℕ → Message → Bool
is_consumed_as id m = (m.id == id) && is_consumed m.place

-- Messages have the ids from 1 on, and are as many as were sent. A message was played once where it is consumed, and
-- else never.
pub record IsOrderly (h : History) : Type 0 where
  pub numbered : IsNumberedFrom 1 h.messages
  pub sent : length h.messages ≡ count_by is_send h.facts
  pub messages : All (IsMessageOf h.catalogue) h.messages
  pub played : (id : ℕ) → count_by (is_played id) h.facts ≡ count_by (is_consumed_as id) h.messages
