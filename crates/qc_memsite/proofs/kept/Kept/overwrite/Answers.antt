use Rattle.qc_memsite.specs.Call.{Wrote}
use Rattle.qc_memsite.proofs.Ends.{ends_pushed}
use Rattle.qc_memsite.proofs.Tied.{shown_on, left_on, short_first}
use Rattle.qc_memsite.proofs.kept.Kept.overwrite.Goals as goal

pub invariant_of-self-2 : goal.invariant_of-self-2
invariant_of-self-2 c =
    let old = c.args.self.now in
    let call = Wrote c.args.file c.args.at c.args.bytes.now in
    let now = c.and-self.result in
    record {
      first_short = short_first old.history now c.and-self.ensures.0 old.first_short;
      ends = ends_pushed old.history.calls now.calls call c.and-self.ensures.1 old.ends (c.requires.fits);
      shown = shown_on old.content c.overwrite.new.self old.history now call c.in_ok-overwrite.ensures.ok c.and-self.ensures.0 c.and-self.ensures.1 old.shown;
      left = left_on old.content c.overwrite.new.self old.history now call c.in_ok-overwrite.ensures.ok c.and-self.ensures.0 c.and-self.ensures.1 old.shown old.left;
    }
