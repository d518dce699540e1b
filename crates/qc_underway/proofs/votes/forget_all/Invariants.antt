use Rattle.std.proofs.Common.{drop}
use Rattle.qc_underway.proofs.Forgetting.{Forgetting}
use Rattle.qc_underway.proofs.votes.forget_all.Given as goal

abbrev pub invariant-loop-seq : goal.invariant-loop-seq
invariant-loop-seq l = Forgetting l.resource l.seqs l.fn.clerk l.fn.log (drop l.seq-index l.seqs) l.clerk l.log
