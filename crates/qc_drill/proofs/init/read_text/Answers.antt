use Rattle.std.proofs.Common.{arith, length-take}
use Rattle.qc_drill.proofs.Making.{text-on, text-ended, text-stopped}
use Rattle.qc_drill.proofs.init.read_text.Goals as goal

pub returns-in-Ok-eq0-clause-reads : goal.returns-in-Ok-eq0-clause-reads
returns-in-Ok-eq0-clause-reads g c =
    text-ended _ c.in-Ok-eq0.field-0 c.read_some.new.text c.loop-chunk.text.items _ _ _
    (omega (arith, length-take c.room_behind-room.result c.loop-chunk.chunk, c.room_behind-room.ensures.no_more, c.len-in-loop-chunk.ensures)) c.loop-chunk.invariant.so_far c.in-Ok-eq0.ensures.gives (omega arith)

pub loop-chunk-preserved : goal.loop-chunk-preserved
loop-chunk-preserved g c = record {
  count = omega (arith, c.loop-chunk.invariant.count, c.in-Ok.ensures.cause.no_fewer);
  so_far = text-on _ c.in-Ok.field-0 c.loop-chunk.text.items c.read_some.new.text.items _ _ _
      (omega (arith, length-take c.room_behind-room.result c.loop-chunk.chunk, c.room_behind-room.ensures.no_more, c.len-in-loop-chunk.ensures)) c.loop-chunk.invariant.so_far c.in-Ok.ensures.gives;
}

pub returns-in-Err-clause-reads : goal.returns-in-Err-clause-reads
returns-in-Err-clause-reads g c =
    text-stopped _ c.in-Err.stop c.loop-chunk.text.items c.read_some.new.text.items _ _ _
    (omega (arith, length-take c.room_behind-room.result c.loop-chunk.chunk, c.room_behind-room.ensures.no_more, c.len-in-loop-chunk.ensures)) c.loop-chunk.invariant.so_far c.in-Err.ensures.gives
