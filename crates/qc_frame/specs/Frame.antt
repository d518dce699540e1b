-- A log file: a header of 16 bytes, open groups, a closed gate, and what stands behind it.
use Rattle.std.specs.Prelude.{◌<◌, ◌≡◌, ◌≢◌, ◌⊎◌, ℕ, zero, suc, ◌+◌, ◌≤◌, List, [], ◌∷◌, ◌++◌, length, take, drop, Bool, ◌&&◌, ◌==◌, nat_le, if◌then◌else◌, All, map}
use Rattle.std.specs.List.{flat_map}
use Rattle.std.specs.Int.{w32, to_be_bytes, from_be_bytes}
use Rattle.qc_frame.specs.declared.entries.Entry.{Entry}

-- the number in the first four bytes
unfoldable pub size_at : List ℕ → ℕ
size_at bytes = from_be_bytes w32 (take 4 bytes)

-- a length in four bytes
unfoldable pub size_bytes : ℕ → List ℕ
size_bytes n = to_be_bytes w32 n

-- whether a gate counts as open, by what stands behind it
abbrev pub is_open : ℕ → List ℕ → Bool
is_open gate rest = (gate == 1) && (nat_le 1 (size_at rest) && (nat_le (size_at rest) 33554432 && nat_le (size_at rest + 5) (length rest)))

-- the payloads of the open groups, after so many bytes that are passed over
abbrev pub groups_past : ℕ → List ℕ → List (List ℕ)
groups_past n [] = []
groups_past (suc n) (byte ∷ rest) = groups_past n rest
groups_past zero (gate ∷ rest) = if is_open gate rest then take (size_at rest) (drop 4 rest) ∷ groups_past (size_at rest + 4) rest else []

-- the open groups from a place of a file on
abbrev pub groups_at : List ℕ → ℕ → List (List ℕ)
groups_at file place = groups_past zero (drop place file)

-- the open groups of a file: those behind its header
abbrev pub groups : List ℕ → List (List ℕ)
groups file = groups_at file 16

-- the file begins with this header
abbrev pub HasHeader : List ℕ → List ℕ → Type 0
HasHeader header file = take 16 file ≡ header

-- the file begins with this header, and the gate behind it is open
abbrev pub IsBegun : List ℕ → List ℕ → Type 0
IsBegun header file = HasHeader header file × (groups file ≢ [])

-- an open group with this payload
abbrev pub group : List ℕ → List ℕ
group payload = 1 ∷ size_bytes (length payload) ++ payload

abbrev pub IsPayload : List ℕ → Type 0
IsPayload payload = (1 ≤ length payload) × (length payload ≤ 33554432)

-- one entry of a payload
abbrev pub entry : List ℕ → List ℕ
entry bytes = size_bytes (length bytes) ++ bytes

-- a payload is these entries, none of them empty
abbrev pub IsEntries : List (List ℕ) → List ℕ → Type 0
IsEntries entries payload = (payload ≡ flat_map entry entries) × All (λ e. 1 ≤ length e) entries

-- the offsets of these entries, the first of them at this one
abbrev pub offsets : ℕ → List (List ℕ) → List ℕ
offsets at [] = []
offsets at (bytes ∷ entries) = at ∷ offsets (at + 4 + length bytes) entries

-- a payload at this offset is these entries at these offsets
pub record EntriesAt (at : ℕ) (places : List ℕ) (entries : List (List ℕ)) (payload : List ℕ) : Type 0 where
  pub spelled : IsEntries entries payload
  pub placed : places ≡ offsets at entries

-- a payload at this offset is these entries
abbrev pub EntriesOf : ℕ → List Entry → List ℕ → Type 0
EntriesOf at entries payload = EntriesAt at (map (λ e. e.at) entries) (map (λ e. e.bytes) entries) payload

-- no entry begins these bytes
abbrev pub NoEntry : List ℕ → Type 0
NoEntry bytes = (length bytes < 4) ⊎ ((size_at bytes ≡ 0) ⊎ (length bytes < size_at bytes + 4))

-- a payload at this offset is no list of entries: the first that doesn't fit stands at n
pub record StopsBefore (at n : ℕ) (payload : List ℕ) : Type 0 where
  pub entries : List (List ℕ)
  pub rest : List ℕ
  pub front : List ℕ
  pub is : payload ≡ front ++ rest
  pub spelled : IsEntries entries front
  pub there : n ≡ at + length front
  pub left : 1 ≤ length rest
  pub unfit : NoEntry rest
  -- so it isn't one in any way
  pub none : (entries : List (List ℕ)) → ¬ IsEntries entries payload

-- the file is a front of so many bytes, these open groups from there to a place, and the rest
pub record Leads (file : List ℕ) (start place : ℕ) (payloads : List (List ℕ)) : Type 0 where
  pub front : List ℕ
  pub rest : List ℕ
  pub is : file ≡ front ++ (flat_map group payloads ++ rest)
  pub long : length front ≡ start
  pub sized : All IsPayload payloads
  pub at : place ≡ start + length (flat_map group payloads)
  pub further : (payloads ≡ []) ⊎ (1 ≤ length rest)
