use Rattle.qc_base.proofs.PrefixFree.{short_bytes-free, arg-free, call-free, recording-free}
use Rattle.qc_base.proofs.Facts.{fact-free}
use Rattle.qc_base.proofs.LogSpellings.{line-free}
use Rattle.qc_base.proofs.laws.no_spelling_begins_another.Goals as goal

pub returns : goal.returns
returns c = record { words = short_bytes-free; arguments = arg-free; calls = call-free; recordings = recording-free; facts = fact-free; lines = line-free }
