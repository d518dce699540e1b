-- The last record of a resource, over those before it.
use Rattle.std.proofs.Common.{ℕ, List, cond, Option, Some, None}
use Rattle.qc_base.specs.declared.log_line.LogRecord.{LogRecord}
use Rattle.qc_play.specs.declared.record.PlayRecord.{PlayRecord}
use Rattle.qc_play.specs.Play.{last_of}

-- the record, where it isn't forgotten
abbrev pub kept : PlayRecord → Option LogRecord
kept r = cond r.forgotten None (Some r.entry)

-- what the last of a resource among more records is, where this is what it was before them
abbrev pub kept_over : List ℕ → Option LogRecord → List PlayRecord → Option LogRecord
kept_over resource before rs = elim (last_of resource rs) [ Some r ↦ kept r | None ↦ before ]
