-- The parts that only facts have: no spelling of one begins another's.
use Rattle.std.proofs.Common.{ℕ, List, get_or, drop, ap}
use Rattle.qc_base.specs.Spelling.{IsPrefixFree}
use Rattle.qc_base.proofs.Facts.{kind-free, flag-free}
use Rattle.qc_journal.specs.Parts.{is_any, is_queue, one_byte, spelled_kind, spelled_flag}

pub kind_free : IsPrefixFree is_any spelled_kind
kind_free a b x y v w e = kind-free a b x y e

pub flag_free : IsPrefixFree is_any spelled_flag
flag_free a b x y v w e = flag-free a b x y e

pub queue_free : IsPrefixFree is_queue one_byte
queue_free a b x y v w e = (ap (λ (l : List ℕ). get_or l 0 0) e, ap (λ (l : List ℕ). drop 1 l) e)
