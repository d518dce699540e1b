-- A log as its callers see it, and what it is for it to stand on a site.
use Rattle.std.specs.Prelude.{◌≡◌, ◌⊎◌, ℕ, ◌+◌, ◌-◌, ◌<◌, ◌≤◌, max, List, [], ◌∷◌, ◌++◌, length, take, Bool, true, false, map, All}
use Rattle.std.specs.List.{flat_map}
use Rattle.qc_site.specs.Image.{Image, bytes_of, with_bytes}
use Rattle.qc_site.specs.Disk.{Images, Certain, written}
use Rattle.qc_site.specs.declared.site.SiteFile.{SiteFile}
use Rattle.qc_frame.specs.Frame.{groups_at, Leads, entry, EntriesOf, StopsBefore}
use Rattle.qc_frame.specs.Gate.{with_group}
use Rattle.qc_frame.specs.declared.entries.Entry.{Entry}

pub record LogView : Type 0 where
  pub file : SiteFile
  -- the place at which it was opened: its groups are read from there on
  pub start : ℕ
  -- the gate before which the log stands
  pub place : ℕ
  -- the file's length
  pub length : ℕ
  pub ended : Bool
  -- the entries that are staged, as they stand in a payload
  pub payload : List ℕ
  pub spare : ℕ

-- The log stands on a site that shows these bytes in its file and may leave these images: it was opened behind the
-- header, and its place is reached from there over open groups alone.
pub record StandsOn (file : List ℕ) (images : Images) (log : LogView) : Type 0 where
  pub size : log.length ≡ length file
  pub certain : Certain log.file file images
  pub behind : 16 ≤ log.start
  pub payloads : List (List ℕ)
  pub led : Leads file log.start log.place payloads
  pub closed : log.ended ≡ true → (rest : List ℕ) × (led.rest ≡ 0 ∷ rest)

-- the log stands on a site that shows this image and may leave these, where the site tells
abbrev pub Stands : Type 0 → Image → Images → LogView → Type 0
Stands told shown images log = told → StandsOn (bytes_of log.file shown) images log

-- up to a place the file stays, and if a byte stood there, one does; from there on the groups stay
pub record SameFrom (start : ℕ) (old new : List ℕ) : Type 0 where
  pub front : take start new ≡ take start old
  pub followed : start < length old → start < length new
  pub same : groups_at new start ≡ groups_at old start

-- up to a place the file stays, and from there on the groups have this payload more
pub record WholeFrom (start : ℕ) (payload old new : List ℕ) : Type 0 where
  pub front : take start new ≡ take start old
  pub more : groups_at new start ≡ groups_at old start ++ payload ∷ []

-- up to a place the file stays, and from there on the groups have this payload more or not
pub record WholeOrNotFrom (start : ℕ) (payload old new : List ℕ) : Type 0 where
  pub front : take start new ≡ take start old
  pub followed : start < length old → start < length new
  pub either : (groups_at new start ≡ groups_at old start) ⊎ (groups_at new start ≡ groups_at old start ++ payload ∷ [])

-- the header and the groups of the file stay
abbrev pub SameLog : List ℕ → List ℕ → Type 0
SameLog = SameFrom 16

-- the header stays, and the groups of the file have this payload more
abbrev pub Whole : List ℕ → List ℕ → List ℕ → Type 0
Whole = WholeFrom 16

-- the header stays, and the groups of the file have this payload more or not
abbrev pub WholeOrNot : List ℕ → List ℕ → List ℕ → Type 0
WholeOrNot = WholeOrNotFrom 16

-- the log behind the group that its staged entries made
abbrev pub forced : LogView → LogView
forced log = record log {
  place = log.place + 5 + length log.payload;
  length = max log.length (log.place + 6 + length log.payload);
  payload = [];
  spare = log.spare + length log.payload;
}

-- the log with one entry more
abbrev pub staged : LogView → List ℕ → LogView
staged log bytes = record log { payload = log.payload ++ entry bytes; spare = log.spare - (length bytes + 4) }

-- the log may take this entry
pub record CanStage (log : LogView) (bytes : List ℕ) : Type 0 where
  pub some : 1 ≤ length bytes
  pub ended : log.ended ≡ true
  pub room : length bytes + 4 ≤ log.spare
  pub fits : length log.payload + length bytes + 4 ≤ 33554432

-- the log may take these entries and no others as a group, and was opened behind its header
pub record CanForce (log : LogView) (entries : List (List ℕ)) : Type 0 where
  pub whole : log.start ≡ 16
  pub ended : log.ended ≡ true
  pub waits : log.payload ≡ []
  pub any : 1 ≤ length entries
  pub some : All (λ e. 1 ≤ length e) entries
  pub room : length (flat_map entry entries) ≤ log.spare
  pub fits : length (flat_map entry entries) ≤ 33554432

-- while a log is made: a front of what was there, or too short for a group
abbrev pub BeingMade : List ℕ → List ℕ → Type 0
BeingMade old new = ((n : ℕ) × (new ≡ take n old)) ⊎ (length new ≤ 17)

-- a log of a file of this length that was just opened at a place
abbrev pub just_opened : SiteFile → ℕ → ℕ → LogView
just_opened file start size = record {
  file = file;
  start = start;
  place = start;
  length = size;
  ended = false;
  payload = [];
  spare = 0;
}

-- the next group of the file has these entries at these offsets, and the log stands behind it
pub record NextGroup (file : List ℕ) (old new : LogView) (at : ℕ) (entries : List Entry) : Type 0 where
  pub payload : List ℕ
  pub here : at ≡ old.place
  pub next : groups_at file old.place ≡ payload ∷ groups_at file new.place
  pub spelled : EntriesOf (old.place + 5) entries payload
  pub log : new ≡ record old { place = old.place + 5 + length payload }

-- no group is left, the end gate is 0, all else stays, and the log may take entries
pub record NoGroup (file now : List ℕ) (old new : LogView) : Type 0 where
  pub none : groups_at file old.place ≡ []
  pub bytes : now ≡ written file old.place (0 ∷ [])
  pub same : SameFrom old.start file now
  pub log : new ≡ record old { length = length now; ended = true }

-- the payload is a group more of the log, written at its place, and all else of the site is as it was
pub record HasGroup (payload : List ℕ) (log : LogView) (old new : Image) : Type 0 where
  pub shown : new ≡ with_bytes log.file (with_group (bytes_of log.file old) log.place payload) old
  pub whole : WholeFrom log.start payload (bytes_of log.file old) (bytes_of log.file new)

-- the payload of the next group is no list of entries
pub record DamagedGroup (file : List ℕ) (place at : ℕ) : Type 0 where
  pub payload : List ℕ
  pub next : groups_at file place ≡ payload ∷ groups_at file (place + 5 + length payload)
  pub stops : StopsBefore (place + 5) at payload

-- these payloads are spelled by these lists of entries, group for group
abbrev pub Spelled : List (List ℕ) → List (List (List ℕ)) → Type 0
Spelled payloads lists = (payloads ≡ map (λ entries. flat_map entry entries) lists) × All (λ entries. All (λ e. 1 ≤ length e) entries) lists

-- the groups between two places of a file are spelled by these
pub record ReadTo (file : List ℕ) (from place : ℕ) (lists : List (List (List ℕ))) : Type 0 where
  pub payloads : List (List ℕ)
  pub spelled : Spelled payloads lists
  pub led : groups_at file from ≡ payloads ++ groups_at file place

-- behind these groups stands one whose payload is no list of entries
pub record DamagedBehind (file : List ℕ) (from at : ℕ) : Type 0 where
  pub place : ℕ
  pub lists : List (List (List ℕ))
  pub read : ReadTo file from place lists
  pub damage : DamagedGroup file place at
