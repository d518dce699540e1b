use Rattle.std.proofs.Common.{length, length-take-le, length-append, take, ap, arith}
use Rattle.std.specs.List.{flat_map}
use Rattle.qc_base.specs.Spelling.{eight_bytes}
use Rattle.qc_base.proofs.Facts.{length-ids}
use Rattle.qc_journal.proofs.fact_writer.put_ids.Goals as goal

pub put_u64-requires : goal.put_u64-requires
put_u64-requires c =
    let ids = c.args.ids.now in
    let done = take c.loop-id.id-index ids in
    let few = length-take-le c.loop-id.id-index ids (omega arith) in
    let so_far = ap length c.loop-id.invariant.bytes in
    omega (arith, length-ids ids, length-ids done, few, so_far, length-append c.args.out.now.items (flat_map eight_bytes done), c.loop-id.invariant.room, c.requires)
