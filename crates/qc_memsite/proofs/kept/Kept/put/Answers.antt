use Rattle.std.proofs.Common.{arith}
use Rattle.qc_memsite.specs.Call.{Put}
use Rattle.qc_memsite.proofs.Ends.{ends_pushed}
use Rattle.qc_memsite.proofs.Tied.{shown_on, left_on, short_first}
use Rattle.qc_memsite.proofs.kept.Kept.put.Goals as goal

pub invariant_of-self-2 : goal.invariant_of-self-2
invariant_of-self-2 c =
    let old = c.args.self.now in
    let call = Put c.args.resource.now c.args.key.now c.args.amount in
    let now = c.and-self.result in
    record {
      first_short = short_first old.history now c.and-self.ensures.0 old.first_short;
      ends = ends_pushed old.history.calls now.calls call c.and-self.ensures.1 old.ends (omega arith);
      shown = shown_on old.content c.put.new.self old.history now call c.in_ok-put.ensures.ok c.and-self.ensures.0 c.and-self.ensures.1 old.shown;
      left = left_on old.content c.put.new.self old.history now call c.in_ok-put.ensures.ok c.and-self.ensures.0 c.and-self.ensures.1 old.shown old.left;
    }
