-- A log that is read entry by entry, as its callers see it.
use Rattle.std.specs.Prelude.{◌≡◌, ◌⊎◌, ℕ, ◌+◌, ◌-◌, ◌*◌, List, [], ◌∷◌, length}
use Rattle.qc_frame.specs.declared.entries.Entry.{Entry}
use Rattle.qc_frame.specs.Log.{LogView, NextGroup, NoGroup, DamagedGroup}

pub record EntriesView : Type 0 where
  -- it stands behind the group that was read last
  pub log : LogView
  -- the entries of that group that weren't passed yet
  pub left : List Entry

abbrev pub log_of : EntriesView → LogView
log_of entries = entries.log

-- no entry was left, and the next group of the file has the entries that now are
pub record NextEntries (file : List ℕ) (old new : EntriesView) : Type 0 where
  pub none : old.left ≡ []
  pub group : NextGroup file old.log new.log old.log.place new.left

-- entries are left: those that were, or else those of the next group
abbrev pub Filled : List ℕ → EntriesView → EntriesView → Type 0
Filled file old new = (new ≡ old) ⊎ NextEntries file old new

-- the first of the entries that are left has this offset
pub record FirstAt (entries : EntriesView) (at : ℕ) : Type 0 where
  pub entry : Entry
  pub rest : List Entry
  pub is : entries.left ≡ entry ∷ rest
  pub here : at ≡ entry.at

-- no entry was left and no group is, the end gate is 0, all else stays, and the log may take entries
pub record NoEntries (file now : List ℕ) (old new : EntriesView) : Type 0 where
  pub none : old.left ≡ []
  pub still : new.left ≡ []
  pub group : NoGroup file now old.log new.log

-- no entry is left, and the payload of the next group is no list of entries
pub record DamagedNext (file : List ℕ) (old : EntriesView) (at : ℕ) : Type 0 where
  pub none : old.left ≡ []
  pub group : DamagedGroup file old.log.place at

-- a number that falls with each entry that is passed, and with each group
abbrev pub way_left : EntriesView → ℕ
way_left entries = (4611686018427387904 - entries.log.place) * 18446744073709551616 + length entries.left
