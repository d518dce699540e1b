-- The rows that attempts on messages would have, as an index keeps them.
use Rattle.std.specs.Prelude.{ℕ, List, [], ◌∷◌, ◌++◌, filter, find, not, ◌==◌, Option, option_map}
use Rattle.qc_base.specs.declared.fact.Kind.{Kind}
use Rattle.qc_base.specs.declared.fact.Kind.TheVariants.{Normal, Final}
use Rattle.qc_base.specs.declared.recording.Recording.{Recording}
use Rattle.qc_base.specs.declared.recording.Row.{Row}
use Rattle.qc_catalogue.specs.declared.catalogue.Catalogue.{Catalogue}
use Rattle.qc_txn.specs.Parts.{rows_of_attempt}

-- a message with the rows of a normal attempt on it and of a final one, which has none where there is no exception class
pub record MessageRows : Type 0 where
  pub id : ℕ
  pub normal : List Row
  pub last : List Row

abbrev pub rows_for : Catalogue → ℕ → Recording → MessageRows
rows_for c id r = record { id = id; normal = rows_of_attempt c r Normal; last = rows_of_attempt c r Final }

abbrev pub rows_by : Kind → MessageRows → List Row
rows_by Normal m = m.normal
rows_by Final m = m.last

abbrev pub entry_of : ℕ → List MessageRows → Option MessageRows
entry_of id index = find (λ (m : MessageRows). m.id == id) index

-- the rows of an attempt of a kind on a message, where the message is kept
abbrev pub rows_kept : ℕ → Kind → List MessageRows → Option (List Row)
rows_kept id kind index = option_map (rows_by kind) (entry_of id index)

abbrev pub without : ℕ → List MessageRows → List MessageRows
without id index = filter (λ (m : MessageRows). not (m.id == id)) index

-- a message's rows, in place of those that were kept of it
abbrev pub with_entry : MessageRows → List MessageRows → List MessageRows
with_entry entry index = without entry.id index ++ entry ∷ []
