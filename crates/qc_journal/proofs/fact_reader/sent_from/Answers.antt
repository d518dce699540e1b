use Rattle.std.proofs.Common.{subst}
use Rattle.qc_base.specs.Spelling.{eight_bytes, is_id, is_moment, is_recording, Reads}
use Rattle.qc_journal.specs.Parts.{spelled_sized}
use Rattle.qc_entries.proofs.Sequence.{both, pair, pair_none, pair_none_behind}
use Rattle.qc_base.proofs.Facts.{id-free, moment-free}
use Rattle.qc_journal.proofs.Refused.{sent_none}
use Rattle.qc_journal.proofs.fact_reader.sent_from.Goals as goal

pub returns-in_default-read_moment : goal.returns-in_default-read_moment
returns-in_default-read_moment c =
    sent_none _ (pair_none_behind is_id eight_bytes (both is_moment is_recording) (pair eight_bytes spelled_sized) id-free _ _ c.in-Some.id c.in-Some.ensures (pair_none is_moment eight_bytes is_recording spelled_sized _ c.in_default-read_moment.ensures))

pub returns-in_default-2 : goal.returns-in_default-2
returns-in_default-2 c =
    let none = subst (λ o. Reads is_recording spelled_sized c.read_moment.new.self c.recording_from.new.reader o) c.in_default-2.is c.in_ok-recording.ensures in
    sent_none _ (pair_none_behind is_id eight_bytes (both is_moment is_recording) (pair eight_bytes spelled_sized) id-free _ _ c.in-Some.id c.in-Some.ensures (pair_none_behind is_moment eight_bytes is_recording spelled_sized moment-free _ _ c.in-Some-read_moment.at c.in-Some-read_moment.ensures none))
