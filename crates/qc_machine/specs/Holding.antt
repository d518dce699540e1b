-- What holds of the attempts that players hold.
use Rattle.std.specs.Prelude.{◌≡◌, ℕ, ◌<◌, List, [], length, slice_get, take, Bool, true, false, not, ◌||◌, ◌==◌, Some, None}
use Rattle.std.specs.List.{list_all, list_any}
use Rattle.qc_base.specs.declared.fact.Fact.{Fact}
use Rattle.qc_base.specs.declared.fact.Fact.TheVariants.{Played, Failed}
use Rattle.qc_base.specs.declared.log_line.Stage.{Stage}
use Rattle.qc_base.specs.declared.log_line.Stage.TheVariants.{Calls, Ready, Failing, Commit, Abort}
use Rattle.qc_base.specs.declared.log_line.Why.TheVariants.{Step as AtStep}
use Rattle.qc_base.specs.declared.message.Message.{Message}
use Rattle.qc_base.specs.declared.recording.Row.{Row}
use Rattle.qc_base.specs.Messages.{message_of}
use Rattle.qc_base.specs.Rows.{row_eq}
use Rattle.qc_base.specs.Spelling.{is_attempt}
use Rattle.qc_play.specs.Play.{Play, rows_in}
use Rattle.qc_txn.specs.Outcome.{new_play, all_played, stopped_at, play_all}
use Rattle.qc_txn.specs.Parts.{rows_of_attempt}
use Rattle.qc_listener.specs.Choice.{is_due, kind_at}
use Rattle.qc_machine.specs.Attempts.{parts_held}
use Rattle.qc_machine.specs.History.{History, plays_inside, is_new_attempt, view_at}
use Rattle.qc_machine.specs.State.{State, HeldAttempt}

abbrev pub has_row : List Row → Row → Bool
has_row rows r = list_any (row_eq r) rows

-- no row is in both
abbrev pub HaveNoCommon : List Row → List Row → Type 0
HaveNoCommon xs ys = (r : Row) → has_row xs r ≡ true → has_row ys r ≡ false

-- the play state of a held attempt before its first call, over the settled amounts
abbrev pub first_play : History → HeldAttempt → Play
first_play h a = new_play (view_at h a.recording a.kind)

-- An attempt without a fact is new, and on a message that is due, in the way that its place asks for.
pub record IsOpen (h : History) (last : ℕ) (a : HeldAttempt) (m : Message) : Type 0 where
  pub due : is_due last m.place ≡ true
  pub kind : a.kind ≡ kind_at m.place
  pub new : is_new_attempt a.attempt h ≡ true

-- The calls that ran have led from the settled amounts to the play state that the attempt holds.
pub record IsCalling (h : History) (last : ℕ) (a : HeldAttempt) (m : Message) : Type 0 where
  pub is_open : IsOpen h last a m
  pub left : a.calls < length (parts_held h.catalogue a)
  pub played : play_all (take a.calls (parts_held h.catalogue a)) (first_play h a) ≡ all_played a.play
  pub why : a.why ≡ None

pub record IsReady (h : History) (last : ℕ) (a : HeldAttempt) (m : Message) : Type 0 where
  pub is_open : IsOpen h last a m
  pub all : a.calls ≡ length (parts_held h.catalogue a)
  pub played : play_all (parts_held h.catalogue a) (first_play h a) ≡ all_played a.play
  pub why : a.why ≡ None

pub record IsFailing (h : History) (last : ℕ) (a : HeldAttempt) (m : Message) : Type 0 where
  pub is_open : IsOpen h last a m
  pub call : ℕ
  pub step : ℕ
  pub why : a.why ≡ Some (AtStep call step)
  pub played : play_all (parts_held h.catalogue a) (first_play h a) ≡ stopped_at call step

-- a fact is of the attempt with this number only where it is about this message
abbrev pub is_about : ℕ → ℕ → Fact → Bool
is_about attempt id (Played i n kind at) = not (n == attempt) || (i == id)
is_about attempt id (Failed i n at) = not (n == attempt) || (i == id)
is_about attempt id _ = true

-- its fact stands
pub record HasFact (h : History) (a : HeldAttempt) : Type 0 where
  pub about : list_all (is_about a.attempt a.id) h.facts ≡ true
  pub there : is_new_attempt a.attempt h ≡ false

abbrev pub HasCome : History → ℕ → HeldAttempt → Message → Stage → Type 0
HasCome h last a m Calls = IsCalling h last a m
HasCome h last a m Ready = IsReady h last a m
HasCome h last a m Failing = IsFailing h last a m
HasCome h last a m Commit = HasFact h a
HasCome h last a m Abort = HasFact h a

-- A held attempt is on a message that was sent, can be played, holds its rows, has changed nothing outside, and has come
-- as far as its stage says.
pub record IsHeldIn (h : History) (last : ℕ) (a : HeldAttempt) : Type 0 where
  pub message : Message
  pub found : message_of a.id h.messages ≡ Some message
  pub recording : a.recording ≡ message.recording
  pub rows : rows_in a.play.view ≡ rows_of_attempt h.catalogue a.recording a.kind
  pub inside : plays_inside h.catalogue a.recording a.kind ≡ true
  pub records : a.play.records ≡ []
  pub attempt : is_attempt a.attempt ≡ true
  pub come : HasCome h last a message a.stage

-- two held attempts have nothing in common
pub record AreApart (a b : HeldAttempt) : Type 0 where
  pub ids : (a.id == b.id) ≡ false
  pub attempts : (a.attempt == b.attempt) ≡ false
  pub rows : HaveNoCommon (rows_in a.play.view) (rows_in b.play.view)

-- the player's slot at a place, from 0, holds an attempt
abbrev pub Holds : State → ℕ → HeldAttempt → Type 0
Holds s i a = slice_get s.players i ≡ Some (Some a)

-- what players hold
pub record AreHeld (s : State) : Type 0 where
  pub slots : length s.players ≡ 16
  pub held : (i : ℕ) (a : HeldAttempt) → Holds s i a → IsHeldIn s.history s.last a
  pub apart : (i j : ℕ) (a b : HeldAttempt) → (i ≡ j → ⊥) → Holds s i a → Holds s j b → AreApart a b

-- none of these messages is held
abbrev pub IsHeldByNone : State → List ℕ → Type 0
IsHeldByNone s ids = (i : ℕ) (a : HeldAttempt) → Holds s i a → list_any (λ id. id == a.id) ids ≡ false
