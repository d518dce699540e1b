use Rattle.std.proofs.Common.{◌≡◌, nat_le, true, ◌&&◌, ◌==◌, le-leb}
use Rattle.std.proofs.lemmas.Bool.{and_parts, and_from}
use Rattle.qc_base.specs.Names.{is_text}
use Rattle.qc_base.specs.Spelling.{is_between, is_amount}
use Rattle.crm_clerk.proofs.limits.record_within_limits.Goals as goal

pub returns : goal.returns
returns c =
    let r = c.args.entry.now in
    let both = and_parts (nat_le 1 r.seq) (r.flags == 0) c.requires in
    let old : is_amount r.old ≡ true = le-leb r.old 1000000000000000 c.get.ensures.bound in
    let new : is_amount r.new ≡ true = le-leb r.new 1000000000000000 c.get-2.ensures.bound in
    let amounts = and_from (is_amount r.old) (is_amount r.new) old new in
    let keyed = and_from (is_text r.key) (is_amount r.old && is_amount r.new) c.as_bytes.ensures.is_text amounts in
    and_from (is_between 1 4294967295 r.seq) ((r.flags == 0) && (is_text r.key && (is_amount r.old && is_amount r.new)))
    (and_from (nat_le 1 r.seq) (nat_le r.seq 4294967295) both.0 c.seq_within_limits.ensures)
    (and_from (r.flags == 0) (is_text r.key && (is_amount r.old && is_amount r.new)) both.1 keyed)
