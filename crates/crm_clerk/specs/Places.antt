-- Where a resource, and a record, stands.
use Rattle.std.specs.Prelude.{ℕ, ◌+◌, List, [], ◌∷◌, ◌==◌, Option, Some, None, if◌then◌else◌}
use Rattle.std.specs.Str.{bytes_eq}
use Rattle.qc_base.specs.declared.log_line.LogRecord.{LogRecord}
use Rattle.crm_clerk.specs.declared.book.Counts.{Counts}
use Rattle.crm_clerk.specs.declared.book.Place.{Place}

abbrev pub kept_of : Counts → ℕ
kept_of c = c.kept

-- the first resource of this name, where the first of all has this index and its records begin here
abbrev pub place_from : ℕ → ℕ → List ℕ → List (List ℕ × ℕ) → List Counts → Option Place
place_from index start resource [] counts = None
place_from index start resource (r ∷ rs) [] = None
place_from index start resource (r ∷ rs) (c ∷ cs) =
    if bytes_eq r.0 resource then Some (record { index = index; start = start; counts = c }) else place_from (index + 1) (start + c.kept) resource rs cs

-- the first record with this number, where the first of all has this index
abbrev pub seq_from : ℕ → ℕ → List LogRecord → Option ℕ
seq_from at seq [] = None
seq_from at seq (r ∷ records) = if seq == r.seq then Some at else seq_from (at + 1) seq records
