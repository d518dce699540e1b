-- The state of the machine.
use Rattle.std.specs.Prelude.{ℕ, ◌+◌, ◌-◌, max, List, length, filter_map, Option, option_and_then, slice_get, slice_set}
use Rattle.qc_base.specs.declared.fact.Fact.{Fact}
use Rattle.qc_base.specs.declared.fact.Kind.{Kind}
use Rattle.qc_base.specs.declared.log_line.Stage.{Stage}
use Rattle.qc_base.specs.declared.log_line.Why.{Why}
use Rattle.qc_base.specs.declared.recording.Recording.{Recording}
use Rattle.qc_base.specs.Rows.{OutsideRows}
use Rattle.qc_base.specs.Spelling.{spelled_fact}
use Rattle.qc_play.specs.Play.{Play}
use Rattle.qc_machine.specs.declared.limits.Limits.{Limits}
use Rattle.qc_machine.specs.History.{History, with_fact}

-- the place of a file's end gate, and its length
pub record FileEnd : Type 0 where
  pub gate : ℕ
  pub size : ℕ

-- an attempt that a player holds
pub record HeldAttempt : Type 0 where
  pub attempt : ℕ
  -- of the message
  pub id : ℕ
  pub kind : Kind
  pub recording : Recording
  -- what it sees of its rows, and did so far
  pub play : Play
  -- how many of its calls ran
  pub calls : ℕ
  pub stage : Stage
  -- why it fails, as far as that is known
  pub why : Option Why

pub record State : Type 0 where
  pub history : History
  -- the outside rows of the site
  pub rows : OutsideRows
  -- the last moment seen
  pub last : ℕ
  -- what each client's recorder holds, for the clients 1 to 16
  pub clients : List (Option Recording)
  -- what each player holds, for the players 1 to 16
  pub players : List (Option HeldAttempt)
  pub journal : FileEnd
  pub log : FileEnd
  pub limits : Limits

-- a file after one group more with a payload of n bytes
abbrev pub after_group : ℕ → FileEnd → FileEnd
after_group n f = record { gate = f.gate + 5 + n; size = max f.size (f.gate + n + 6) }

-- one fact more, which is no catalogue
abbrev pub with_new_fact : Fact → State → State
with_new_fact fact s = record s { history = with_fact fact s.history; journal = after_group (4 + length (spelled_fact fact)) s.journal }

-- what a fact adds to the journal
abbrev pub fact_room : Fact → ℕ
fact_room fact = 9 + length (spelled_fact fact)

-- the moment used is the greater of the order's own and the last moment seen
abbrev pub at_moment : ℕ → State → State
at_moment t s = record s { last = max t s.last }

-- the content of a slot, by its number from 1

abbrev pub in_slot : {A : Type 0} → ℕ → List (Option A) → Option A
in_slot n slots = option_and_then (λ o. o) (slice_get slots (n - 1))

abbrev pub set_slot : {A : Type 0} → ℕ → Option A → List (Option A) → List (Option A)
set_slot n content slots = slice_set slots (n - 1) content

abbrev pub with_client : ℕ → Option Recording → State → State
with_client n recorder s = record s { clients = set_slot n recorder s.clients }

abbrev pub with_player : ℕ → Option HeldAttempt → State → State
with_player n held s = record s { players = set_slot n held s.players }

-- the attempts that are held, in order of their slots
abbrev pub held_attempts : State → List HeldAttempt
held_attempts s = filter_map (λ o. o) s.players
