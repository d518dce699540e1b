-- The resources that an attempt has registered, as a list of accounts.
use Rattle.std.specs.Prelude.{ℕ, ◌+◌, List, [], ◌∷◌, ◌++◌, find, Bool, ◌==◌, Option, if◌then◌else◌}
use Rattle.std.specs.Str.{bytes_eq}
use Rattle.qc_base.specs.declared.log_line.LogRecord.{LogRecord}

-- a resource, and its records
pub record Account : Type 0 where
  pub resource : List ℕ
  pub phases : ℕ
  -- how many records were written
  pub written : ℕ
  -- those that weren't forgotten, in written order
  pub records : List LogRecord

pub record BookView : Type 0 where
  -- in order of registration
  pub accounts : List Account
  -- how many more resources and records it can take
  pub room : ℕ

abbrev pub is_named : List ℕ → Account → Bool
is_named resource a = bytes_eq a.resource resource

-- the first of a resource
abbrev pub account_of : List ℕ → List Account → Option Account
account_of resource accounts = find (is_named resource) accounts

-- the first of a resource is another
abbrev pub with_account : List ℕ → (Account → Account) → List Account → List Account
with_account resource change [] = []
with_account resource change (a ∷ accounts) = if is_named resource a then change a ∷ accounts else a ∷ with_account resource change accounts

abbrev pub new_account : List ℕ → ℕ → Account
new_account resource phases = record { resource = resource; phases = phases; written = 0; records = [] }

-- the next record of an account
abbrev pub next_entry : List ℕ → ℕ → ℕ → Account → LogRecord
next_entry key old new a = record { seq = a.written + 1; flags = 0; key = key; old = old; new = new }

abbrev pub written_to : List ℕ → ℕ → ℕ → Account → Account
written_to key old new a = record a { written = a.written + 1; records = a.records ++ next_entry key old new a ∷ [] }

-- the records without the first that has a number
abbrev pub without_seq : ℕ → List LogRecord → List LogRecord
without_seq seq [] = []
without_seq seq (r ∷ records) = if seq == r.seq then records else r ∷ without_seq seq records

abbrev pub without : ℕ → Account → Account
without seq a = record a { records = without_seq seq a.records }
