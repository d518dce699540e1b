-- What players hold, as the machine sees it, and what holds of it.
use Rattle.std.specs.Prelude.{◌≡◌, ℕ, List, [], ◌∷◌, length, map, filter_map, count_by, Bool, true, false, ◌==◌, Option, Some, None, option_map}
use Rattle.std.specs.List.{list_any}
use Rattle.qc_catalogue.specs.declared.catalogue.Catalogue.{Catalogue}
use Rattle.qc_play.specs.Play.{rows_in}
use Rattle.qc_txn.specs.Attempt.{AttemptView, PlaysBy, effects_in}
use Rattle.qc_txn.specs.Parts.{parts_of}
use Rattle.qc_rows.specs.Holdings.{Holding, is_held, are_free}
use Rattle.qc_machine.specs.Attempts.{holding_of, has_no_fact}
use Rattle.qc_machine.specs.State.{HeldAttempt, in_slot}

-- an attempt as the machine sees it
abbrev pub held_of : AttemptView → HeldAttempt
held_of a = record {
  attempt = a.number;
  id = a.id;
  kind = a.kind;
  recording = a.recording;
  play = a.play;
  calls = a.calls;
  stage = a.stage;
  why = a.why;
}

abbrev pub players_of : List (Option AttemptView) → List (Option HeldAttempt)
players_of slots = map (option_map held_of) slots

-- the attempts that are held, in order of their slots, their numbers, and their messages and rows

abbrev pub held_in : List (Option HeldAttempt) → List HeldAttempt
held_in players = filter_map (λ o. o) players

abbrev pub numbers_of : List (Option HeldAttempt) → List ℕ
numbers_of players = map (λ (a : HeldAttempt). a.attempt) (held_in players)

abbrev pub holdings_in : List (Option HeldAttempt) → List Holding
holdings_in players = map holding_of (held_in players)

-- how many of them have no fact yet
abbrev pub count_without_fact : List (Option HeldAttempt) → ℕ
count_without_fact players = count_by (λ (a : HeldAttempt). has_no_fact a.stage) (held_in players)

-- both lists hold the same, whatever is asked of them
abbrev pub SameHoldings : List Holding → List Holding → Type 0
SameHoldings xs ys = (p : Holding → Bool) → list_any p xs ≡ list_any p ys

abbrev pub has_number : ℕ → List Holding → Bool
has_number number holdings = list_any (λ (h : Holding). h.attempt == number) holdings

-- An attempt that may be held beside these: its message and its rows are free, and its number is new.
pub record IsApart (players : List (Option HeldAttempt)) (a : HeldAttempt) : Type 0 where
  pub message : is_held (holdings_in players) a.id ≡ false
  pub rows : are_free (holdings_in players) (rows_in a.play.view) ≡ true
  pub number : has_number a.attempt (holdings_in players) ≡ false

-- no number comes twice
abbrev pub NumbersDiffer : List (Option AttemptView) → Type 0
NumbersDiffer [] = Unit {0}
NumbersDiffer (None ∷ slots) = NumbersDiffer slots
NumbersDiffer (Some a ∷ slots) = (has_number a.number (holdings_in (players_of slots)) ≡ false) × NumbersDiffer slots

-- the slots of the players, and what is kept beside them of the messages and rows in them
pub record ArePlayers (slots : List (Option AttemptView)) (held : List Holding) : Type 0 where
  pub many : length slots ≡ 16
  pub same : SameHoldings held (holdings_in (players_of slots))
  pub differ : NumbersDiffer slots

-- An attempt can be played to its end by the catalogue and changes nothing outside, so no resource has votes.
pub record IsPlayedBy (c : Catalogue) (a : AttemptView) : Type 0 where
  pub plays : PlaysBy c a
  pub count : a.count ≡ length (parts_of c a.recording a.kind)
  pub inside : effects_in (parts_of c a.recording a.kind) ≡ 0
  pub records : a.play.records ≡ []
  pub refuser : a.refuser ≡ None

-- so can each attempt that is held
abbrev pub ArePlayedBy : Catalogue → List (Option AttemptView) → Type 0
ArePlayedBy c slots = (n : ℕ) (a : AttemptView) → in_slot n slots ≡ Some a → IsPlayedBy c a
