use Rattle.std.proofs.Common.{arith}
use Rattle.qc_memsite.specs.Call.{Synced}
use Rattle.qc_memsite.proofs.Ends.{ends_pushed}
use Rattle.qc_memsite.proofs.Tied.{shown_on, left_on, short_first}
use Rattle.qc_memsite.proofs.kept.Kept.sync.Goals as goal

pub invariant_of-self : goal.invariant_of-self
invariant_of-self c =
    let old = c.args.self.now in
    let call = Synced c.args.file in
    let now = c.and-self.result in
    record {
      first_short = short_first old.history now c.and-self.ensures.0 old.first_short;
      ends = ends_pushed old.history.calls now.calls call c.and-self.ensures.1 old.ends (omega arith);
      shown = shown_on old.content c.settle.new.self old.history now call c.settle.ensures c.and-self.ensures.0 c.and-self.ensures.1 old.shown;
      left = left_on old.content c.settle.new.self old.history now call c.settle.ensures c.and-self.ensures.0 c.and-self.ensures.1 old.shown old.left;
    }
