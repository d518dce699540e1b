use Rattle.std.proofs.Common.{◌+◌, ◌≤◌, length, vec_capacity, arith}
use Rattle.std.specs.List.{flat_map}
use Rattle.qc_base.specs.Spelling.{spelled_arg}
use Rattle.qc_base.proofs.Parts.{room_more}
use Rattle.qc_base.proofs.recording_writer.put_args.Goals as goal

pub put_arg-requires : goal.put_arg-requires
put_arg-requires c =
    let fits : length c.push_reserved.new.self.items + length (flat_map spelled_arg c.args.args.now) ≤ vec_capacity c.loop-arg.out = omega arith in
    omega (arith, room_more spelled_arg c.args.args.now c.loop-arg.arg-index c.arg-item.result _ _ _ (omega arith) c.arg-item.is c.loop-arg.invariant.0 fits)
