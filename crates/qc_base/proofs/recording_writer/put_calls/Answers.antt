use Rattle.std.proofs.Common.{◌+◌, ◌≤◌, length, vec_capacity, arith}
use Rattle.std.specs.List.{flat_map}
use Rattle.qc_base.specs.Spelling.{spelled_call}
use Rattle.qc_base.proofs.Parts.{room_more}
use Rattle.qc_base.proofs.recording_writer.put_calls.Goals as goal

pub put_call-requires-clause-room : goal.put_call-requires-clause-room
put_call-requires-clause-room c =
    let fits : length c.push_reserved.new.self.items + length (flat_map spelled_call c.args.calls.now) ≤ vec_capacity c.loop-call.out = omega arith in
    omega (arith, room_more spelled_call c.args.calls.now c.loop-call.call-index c.call-item.result _ _ _ (omega arith) c.call-item.is c.loop-call.invariant.0 fits)
