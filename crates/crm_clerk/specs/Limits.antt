-- The limits of a line's numbers, where a type doesn't keep them already.
use Rattle.std.specs.Prelude.{nat_le, Bool, ◌&&◌, ◌==◌}
use Rattle.qc_base.specs.declared.log_line.LogRecord.{LogRecord}
use Rattle.qc_base.specs.declared.log_line.LogLine.{LogLine}
use Rattle.qc_base.specs.declared.log_line.LogLine.TheVariants.{Opened, Registered, Written, Forgot, Done}
use Rattle.qc_base.specs.Spelling.{is_attempt, is_between}

abbrev pub record_numbers_fit : LogRecord → Bool
record_numbers_fit r = nat_le 1 r.seq && (r.flags == 0)

abbrev pub numbers_fit : LogLine → Bool
numbers_fit (Opened attempt id) = is_attempt attempt
numbers_fit (Registered attempt resource phases) = is_attempt attempt && is_between 1 7 phases
numbers_fit (Written attempt resource r) = is_attempt attempt && record_numbers_fit r
numbers_fit (Forgot attempt resource seq) = is_attempt attempt
numbers_fit (Done attempt) = is_attempt attempt
