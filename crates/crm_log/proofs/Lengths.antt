-- How long the spelling of each line is.
use Rattle.std.proofs.Common.{◌≡◌, ◌+◌, ℕ, List, [], ◌∷◌, ◌++◌, length, arith, length-append}
use Rattle.qc_base.specs.Spelling.{short_bytes, four_bytes, eight_bytes, spelled_line}
use Rattle.qc_base.specs.declared.log_line.LogRecord.{LogRecord}
use Rattle.qc_base.specs.declared.log_line.LogLine.TheVariants.{Opened, Registered, Written, Forgot, Done}
use Rattle.qc_base.proofs.Bytes.{length-two_bytes, length-four_bytes, length-eight_bytes}
use Rattle.crm_log.specs.Parts.{spelled_record}

pub length-opened : (attempt id : ℕ) → length (spelled_line (Opened attempt id)) ≡ 17
length-opened attempt id = omega (arith, length-append (1 ∷ eight_bytes attempt) (eight_bytes id), length-eight_bytes attempt, length-eight_bytes id)

pub length-registered : (attempt phases : ℕ) (resource : List ℕ) → length (spelled_line (Registered attempt resource phases)) ≡ 11 + length resource
length-registered attempt phases resource = omega (arith, length-append (2 ∷ eight_bytes attempt ++ short_bytes resource) (phases ∷ []), length-append (2 ∷ eight_bytes attempt) (short_bytes resource), length-eight_bytes attempt)

pub length-record : (r : LogRecord) → length (spelled_record r) ≡ 22 + length r.key
length-record r =
    let keyed : List ℕ = r.flags ∷ short_bytes r.key in
    omega (arith, length-append (four_bytes r.seq ++ keyed ++ eight_bytes r.old) (eight_bytes r.new), length-append (four_bytes r.seq ++ keyed) (eight_bytes r.old), length-append (four_bytes r.seq) keyed, length-four_bytes r.seq, length-eight_bytes r.old, length-eight_bytes r.new)

pub length-written : (attempt : ℕ) (resource : List ℕ) (r : LogRecord) → length (spelled_line (Written attempt resource r)) ≡ 32 + length resource + length r.key
length-written attempt resource r =
    let keyed : List ℕ = r.flags ∷ short_bytes r.key in
    let front : List ℕ = 3 ∷ eight_bytes attempt ++ short_bytes resource in
    omega (
      arith,
      length-append (front ++ four_bytes r.seq ++ keyed ++ eight_bytes r.old) (eight_bytes r.new),
      length-append (front ++ four_bytes r.seq ++ keyed) (eight_bytes r.old),
      length-append (front ++ four_bytes r.seq) keyed,
      length-append front (four_bytes r.seq),
      length-append (3 ∷ eight_bytes attempt) (short_bytes resource),
      length-eight_bytes attempt,
      length-four_bytes r.seq,
      length-eight_bytes r.old,
      length-eight_bytes r.new,
    )

pub length-forgot : (attempt seq : ℕ) (resource : List ℕ) → length (spelled_line (Forgot attempt resource seq)) ≡ 14 + length resource
length-forgot attempt seq resource = omega (arith, length-append (4 ∷ eight_bytes attempt ++ short_bytes resource) (four_bytes seq), length-append (4 ∷ eight_bytes attempt) (short_bytes resource), length-eight_bytes attempt, length-four_bytes seq)

pub length-done : (attempt : ℕ) → length (spelled_line (Done attempt)) ≡ 9
length-done attempt = omega (arith, length-eight_bytes attempt)

-- for `using`, where a goal counts the bytes of a line
pub ruleset line_lengths = (length-opened, length-registered, length-record, length-written, length-forgot, length-done, length-two_bytes, length-four_bytes, length-eight_bytes)
