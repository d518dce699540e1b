-- The parts of lines.
use Rattle.std.specs.Prelude.{ℕ, List, [], ◌∷◌, ◌++◌, Bool, ◌==◌}
use Rattle.qc_base.specs.declared.log_line.LogRecord.{LogRecord}
use Rattle.qc_base.specs.Spelling.{short_bytes, four_bytes, eight_bytes, is_between}

abbrev pub is_seq : ℕ → Bool
is_seq seq = is_between 1 4294967295 seq

abbrev pub are_phases : ℕ → Bool
are_phases phases = is_between 1 7 phases

abbrev pub are_flags : ℕ → Bool
are_flags flags = flags == 0

abbrev pub one_byte : ℕ → List ℕ
one_byte n = n ∷ []

-- a record behind the resource that it is of
abbrev pub spelled_record : LogRecord → List ℕ
spelled_record r = four_bytes r.seq ++ r.flags ∷ short_bytes r.key ++ eight_bytes r.old ++ eight_bytes r.new
