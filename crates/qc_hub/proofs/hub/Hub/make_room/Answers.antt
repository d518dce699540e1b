use Rattle.std.proofs.Common.{◌∙◌, ap, rules}
use Rattle.qc_base.specs.Messages.{live}
use Rattle.qc_store.specs.Stored.{Stored}
use Rattle.qc_hub.proofs.Later.{took-history}
use Rattle.qc_hub.proofs.RoomTaken.{journal-kept, room-full, room-made, room-many, room-starved}
use Rattle.qc_hub.proofs.hub.Hub.make_room.Goals as goal

pub returns-then-live-most : goal.returns-then-live-most
returns-then-live-most c =
    room-many c.args.self.now c.args.recorder.now c.from-most.result c.live.result (search rules) (c.live.ensures ∙ ap (λ (s : Stored). live s.messages) c.store.ensures) (search rules)

pub returns-in-Some : goal.returns-in-Some
returns-in-Some c =
    room-full c.args.self.now c.args.recorder.now c.from-most.result c.live.result (search rules) (c.live.ensures ∙ ap (λ (s : Stored). live s.messages) c.store.ensures) (search rules)
    _ (search rules) c.journal_full.result c.journal_full.ensures c.in-Some.full c.in-Some.is

pub returns-in_default-reserve_sent : goal.returns-in_default-reserve_sent
returns-in_default-reserve_sent c = room-starved c.args.self.now _ c.args.recorder.now (took-history c.args.self.now c.reserve_sent.new.self c.reserve_sent.ensures.aside)

pub returns-in_default-reserve : goal.returns-in_default-reserve
returns-in_default-reserve c =
    room-starved c.args.self.now _ c.args.recorder.now (journal-kept c.args.self.now c.reserve_sent.new.self c.reserve.new.self c.reserve_sent.ensures.aside (search rules))

pub returns : goal.returns
returns c =
    room-made c.args.self.now c.args.recorder.now c.from-most.result c.live.result (search rules) (c.live.ensures ∙ ap (λ (s : Stored). live s.messages) c.store.ensures) (search rules)
    _ (search rules) c.journal_full.result c.journal_full.ensures c.in_default.is c.reserve_sent.new.self c.reserve.new.self c.reserve_sent.ensures.aside (search rules) (search rules)
