use Rattle.std.proofs.Common.{length, length-append, ap, arith}
use Rattle.qc_base.specs.Spelling.{short_bytes, eight_bytes, spelled_fact}
use Rattle.qc_base.specs.declared.fact.Fact.{Fact}
use Rattle.qc_base.proofs.Bytes.{length-eight_bytes}
use Rattle.qc_journal.proofs.Lengths.{length-sent, length-played, length-failed, length-moved, length-switched}
use Rattle.qc_journal.proofs.fact_writer.put_fact.Goals as goal

pub put_u64-requires-in-Sent : goal.put_u64-requires-in-Sent
put_u64-requires-in-Sent c = omega (arith, ap (λ (f : Fact). length (spelled_fact f)) c.in-Sent.is, length-sent c.in-Sent.id c.in-Sent.at c.in-Sent.recording, c.requires.room, c.push_reserved-in-Sent.ensures.len, c.push_reserved-in-Sent.ensures.capacity, ap length c.put_u64.ensures.bytes, length-append c.push_reserved-in-Sent.new.self.items (eight_bytes c.in-Sent.id), c.put_u64.ensures.room, length-eight_bytes c.in-Sent.id)

pub put_u64-requires-in-Played-2 : goal.put_u64-requires-in-Played-2
put_u64-requires-in-Played-2 c = omega (arith, ap (λ (f : Fact). length (spelled_fact f)) c.in-Played.is, length-played c.in-Played.id c.in-Played.attempt c.in-Played.at c.in-Played.kind, c.requires.room, c.push_reserved-in-Played.ensures.len, c.push_reserved-in-Played.ensures.capacity, ap length c.put_u64-in-Played.ensures.bytes, length-append c.push_reserved-in-Played.new.self.items (eight_bytes c.in-Played.id), c.put_u64-in-Played.ensures.room, length-eight_bytes c.in-Played.id)

pub put_u64-requires-in-Played-3 : goal.put_u64-requires-in-Played-3
put_u64-requires-in-Played-3 c = omega (arith, ap (λ (f : Fact). length (spelled_fact f)) c.in-Played.is, length-played c.in-Played.id c.in-Played.attempt c.in-Played.at c.in-Played.kind, c.requires.room, c.push_reserved-in-Played.ensures.len, c.push_reserved-in-Played.ensures.capacity, ap length c.put_u64-in-Played.ensures.bytes, length-append c.push_reserved-in-Played.new.self.items (eight_bytes c.in-Played.id), c.put_u64-in-Played.ensures.room, length-eight_bytes c.in-Played.id, ap length c.put_u64-in-Played-2.ensures.bytes, length-append c.put_u64-in-Played.new.out.items (eight_bytes c.in-Played.attempt), c.put_u64-in-Played-2.ensures.room, length-eight_bytes c.in-Played.attempt, c.push_reserved-in-Played-2.ensures.len, c.push_reserved-in-Played-2.ensures.capacity)

pub put_u64-requires-in-Failed-2 : goal.put_u64-requires-in-Failed-2
put_u64-requires-in-Failed-2 c = omega (arith, ap (λ (f : Fact). length (spelled_fact f)) c.in-Failed.is, length-failed c.in-Failed.id c.in-Failed.attempt c.in-Failed.at, c.requires.room, c.push_reserved-in-Failed.ensures.len, c.push_reserved-in-Failed.ensures.capacity, ap length c.put_u64-in-Failed.ensures.bytes, length-append c.push_reserved-in-Failed.new.self.items (eight_bytes c.in-Failed.id), c.put_u64-in-Failed.ensures.room, length-eight_bytes c.in-Failed.id)

pub put_u64-requires-in-Failed-3 : goal.put_u64-requires-in-Failed-3
put_u64-requires-in-Failed-3 c = omega (arith, ap (λ (f : Fact). length (spelled_fact f)) c.in-Failed.is, length-failed c.in-Failed.id c.in-Failed.attempt c.in-Failed.at, c.requires.room, c.push_reserved-in-Failed.ensures.len, c.push_reserved-in-Failed.ensures.capacity, ap length c.put_u64-in-Failed.ensures.bytes, length-append c.push_reserved-in-Failed.new.self.items (eight_bytes c.in-Failed.id), c.put_u64-in-Failed.ensures.room, length-eight_bytes c.in-Failed.id, ap length c.put_u64-in-Failed-2.ensures.bytes, length-append c.put_u64-in-Failed.new.out.items (eight_bytes c.in-Failed.attempt), c.put_u64-in-Failed-2.ensures.room, length-eight_bytes c.in-Failed.attempt)

pub put_u64-requires-in-Moved : goal.put_u64-requires-in-Moved
put_u64-requires-in-Moved c = omega (arith, ap (λ (f : Fact). length (spelled_fact f)) c.in-Moved.is, length-moved c.in-Moved.app c.in-Moved.ids c.in-Moved.queue c.in-Moved.at, c.requires.room, c.push_reserved-in-Moved.ensures.len, c.push_reserved-in-Moved.ensures.capacity, ap length c.put_name.ensures.bytes, length-append c.push_reserved-in-Moved.new.self.items (short_bytes c.in-Moved.app), c.put_name.ensures.room, c.push_reserved-in-Moved-2.ensures.len, c.push_reserved-in-Moved-2.ensures.capacity)

pub put_u16-requires-in-Moved : goal.put_u16-requires-in-Moved
put_u16-requires-in-Moved c = omega (arith, ap (λ (f : Fact). length (spelled_fact f)) c.in-Moved.is, length-moved c.in-Moved.app c.in-Moved.ids c.in-Moved.queue c.in-Moved.at, c.requires.room, c.push_reserved-in-Moved.ensures.len, c.push_reserved-in-Moved.ensures.capacity, ap length c.put_name.ensures.bytes, length-append c.push_reserved-in-Moved.new.self.items (short_bytes c.in-Moved.app), c.put_name.ensures.room, c.push_reserved-in-Moved-2.ensures.len, c.push_reserved-in-Moved-2.ensures.capacity, ap length c.put_u64-in-Moved.ensures.bytes, length-append c.push_reserved-in-Moved-2.new.self.items (eight_bytes c.get-in-Moved.result), c.put_u64-in-Moved.ensures.room, length-eight_bytes c.get-in-Moved.result)

pub put_u64-requires-in-Switched : goal.put_u64-requires-in-Switched
put_u64-requires-in-Switched c = omega (arith, ap (λ (f : Fact). length (spelled_fact f)) c.in-Switched.is, length-switched c.in-Switched.app c.in-Switched.on c.in-Switched.at, c.requires.room, c.push_reserved-in-Switched.ensures.len, c.push_reserved-in-Switched.ensures.capacity, ap length c.put_name-in-Switched.ensures.bytes, length-append c.push_reserved-in-Switched.new.self.items (short_bytes c.in-Switched.app), c.put_name-in-Switched.ensures.room, c.push_reserved-in-Switched-2.ensures.len, c.push_reserved-in-Switched-2.ensures.capacity)
