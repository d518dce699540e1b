-- A call while it runs: what it has written so far, over a view that stays.
use Rattle.std.specs.Prelude.{◌≡◌, ℕ, ◌+◌, ◌≤◌, List, [], ◌∷◌, Bool, true, false, Option, Some, None, option_map, find, if◌then◌else◌, vec_len, vec_capacity}
use Rattle.qc_base.specs.declared.recording.Row.{Row}
use Rattle.qc_base.specs.Rows.{row_eq}
use Rattle.qc_play.specs.declared.board.Board.{Board}
use Rattle.qc_play.specs.declared.record.PlayRecord.{PlayRecord}
use Rattle.qc_play.specs.Play.{Seen, Play, Did, goes, skips, fails, with_amount}
use Rattle.qc_play.specs.declared.did.Did.{Did as Answer}
use Rattle.qc_play.specs.declared.did.Did.TheVariants.{Goes, Skips, Fails}

-- an amount that a row gets
abbrev pub Write : Type 0
Write = Row × ℕ

-- the view with all that was written, in order
abbrev pub applied : List Write → List Seen → List Seen
applied [] view = view
applied (w ∷ ws) view = applied ws (with_amount w.0 w.1 view)

-- what a view has for a row, where the row is there
abbrev pub seen_of : Row → List Seen → Option (Option ℕ)
seen_of row view = option_map (λ (s : Seen). s.1) (find (λ (s : Seen). row_eq s.0 row) view)

-- the amount of a row behind writes, by its amount before them
abbrev pub looked_up : Row → List Write → Option ℕ → Option ℕ
looked_up row [] amount = amount
looked_up row (w ∷ ws) amount = looked_up row ws (if row_eq w.0 row then Some w.1 else amount)

-- the play state that a board means over a view
abbrev pub play_of : List Seen → Board → Play
play_of view board = record {
  view = applied board.writes.items view;
  records = board.records.items;
  forced = board.forced;
  effects = board.effects.items;
}

-- Room for so many writes, and for so many effects with their records.
pub record HasRoom (board : Board) (writes effects : ℕ) : Type 0 where
  pub written : vec_len board.writes + writes ≤ vec_capacity board.writes
  pub shown : vec_len board.effects + effects ≤ vec_capacity board.effects
  pub recorded : vec_len board.records + effects ≤ vec_capacity board.records
  pub few : vec_capacity board.records ≤ 4294967295

-- A board has at most so many writes and effects more, in the same room.
pub record Grows (old new : Board) (writes effects : ℕ) : Type 0 where
  pub written : vec_len new.writes ≤ vec_len old.writes + writes
  pub shown : vec_len new.effects ≤ vec_len old.effects + effects
  pub recorded : vec_len new.records ≤ vec_len old.records + effects
  pub room_written : vec_capacity new.writes ≡ vec_capacity old.writes
  pub room_shown : vec_capacity new.effects ≡ vec_capacity old.effects
  pub room_recorded : vec_capacity new.records ≡ vec_capacity old.records

-- What a call that changes a board tells: it is done, and the board is this play state then, or it can't be.
abbrev pub Changes : List Seen → Option Play → Board → Bool → Type 0
Changes view next board true = next ≡ Some (play_of view board)
Changes view next board false = next ≡ None

-- What a step tells. Where it fails the board is open.
abbrev pub Steps : List Seen → Did → Board → Board → Answer → Type 0
Steps view did old new Goes = did ≡ goes (play_of view new)
Steps view did old new Skips = (did ≡ skips) × (play_of view new ≡ play_of view old)
Steps view did old new Fails = did ≡ fails

-- A board is begun for a call: nothing is written on it yet, beside the records before it.
pub record Begins (before : List PlayRecord) (marked : Bool) (old new : Board) : Type 0 where
  pub writes : new.writes.items ≡ []
  pub records : new.records.items ≡ before
  pub forced : new.forced ≡ marked
  pub effects : new.effects.items ≡ []
  pub room_written : vec_capacity new.writes ≡ vec_capacity old.writes
  pub room_shown : vec_capacity new.effects ≡ vec_capacity old.effects
  pub room_recorded : vec_capacity new.records ≡ vec_capacity old.records
