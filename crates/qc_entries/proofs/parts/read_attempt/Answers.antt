use Rattle.std.proofs.Common.{arith}
use Rattle.qc_base.specs.Spelling.{eight_bytes, is_id, is_attempt}
use Rattle.qc_entries.proofs.Sequence.{narrower_none}
use Rattle.qc_base.proofs.Facts.{id-free}
use Rattle.qc_entries.proofs.Attempts.{attempt_is_id, attempt_some, attempt_most}
use Rattle.qc_entries.proofs.parts.read_attempt.Goals as goal

pub returns-then-n-lt1 : goal.returns-then-n-lt1
returns-then-n-lt1 c = narrower_none is_id is_attempt eight_bytes id-free attempt_is_id _ _ c.in_ok-n.n c.in_ok-n.ensures (λ h. omega (arith, c.if-n-lt1.true, attempt_some c.in_ok-n.n h))

pub returns-then-n-gt9223372036854775807 : goal.returns-then-n-gt9223372036854775807
returns-then-n-gt9223372036854775807 c = narrower_none is_id is_attempt eight_bytes id-free attempt_is_id _ _ c.in_ok-n.n c.in_ok-n.ensures (λ h. omega (arith, c.if-n-gt9223372036854775807.true, attempt_most c.in_ok-n.n h))
