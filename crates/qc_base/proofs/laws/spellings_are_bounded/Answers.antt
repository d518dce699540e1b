use Rattle.qc_base.proofs.Facts.{fact-bounded}
use Rattle.qc_base.proofs.LogSpellings.{line-bounded}
use Rattle.qc_base.proofs.laws.spellings_are_bounded.Goals as goal

pub returns : goal.returns
returns c = record { facts = fact-bounded; lines = line-bounded }
