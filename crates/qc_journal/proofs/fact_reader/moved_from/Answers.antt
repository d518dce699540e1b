use Rattle.std.proofs.Common.{subst}
use Rattle.qc_base.specs.Names.{is_name}
use Rattle.qc_base.specs.Spelling.{short_bytes, eight_bytes, is_moment, Reads}
use Rattle.qc_base.proofs.Facts.{moment-free}
use Rattle.qc_journal.specs.Parts.{is_queue, one_byte, are_ids, spelled_ids}
use Rattle.qc_entries.proofs.Sequence.{both, pair, pair_none, pair_none_behind}
use Rattle.qc_entries.proofs.Attempts.{name_free}
use Rattle.qc_journal.proofs.PartsFree.{queue_free}
use Rattle.qc_journal.proofs.Refused.{moved_none}
use Rattle.qc_journal.proofs.fact_reader.moved_from.Goals as goal

pub returns-in_default-queue_from : goal.returns-in_default-queue_from
returns-in_default-queue_from c =
    moved_none _ (pair_none_behind is_name short_bytes (both is_queue (both is_moment are_ids)) (pair one_byte (pair eight_bytes spelled_ids)) name_free _ _ c.in-Some.app c.in-Some.ensures (pair_none is_queue one_byte (both is_moment are_ids) (pair eight_bytes spelled_ids) _ c.in_default-queue_from.ensures))

pub returns-in_default-read_moment : goal.returns-in_default-read_moment
returns-in_default-read_moment c =
    moved_none _ (pair_none_behind is_name short_bytes (both is_queue (both is_moment are_ids)) (pair one_byte (pair eight_bytes spelled_ids)) name_free _ _ c.in-Some.app c.in-Some.ensures
    (pair_none_behind is_queue one_byte (both is_moment are_ids) (pair eight_bytes spelled_ids) queue_free _ _ c.in-Some-queue_from.queue c.in-Some-queue_from.ensures (pair_none is_moment eight_bytes are_ids spelled_ids _ c.in_default-read_moment.ensures)))

pub returns-in_default-2 : goal.returns-in_default-2
returns-in_default-2 c =
    let none = subst (λ o. Reads are_ids spelled_ids c.read_moment.new.self c.ids_from.new.reader o) c.in_default-2.is c.in_ok-ids.ensures in
    moved_none _ (pair_none_behind is_name short_bytes (both is_queue (both is_moment are_ids)) (pair one_byte (pair eight_bytes spelled_ids)) name_free _ _ c.in-Some.app c.in-Some.ensures
    (pair_none_behind is_queue one_byte (both is_moment are_ids) (pair eight_bytes spelled_ids) queue_free _ _ c.in-Some-queue_from.queue c.in-Some-queue_from.ensures
    (pair_none_behind is_moment eight_bytes are_ids spelled_ids moment-free _ _ c.in-Some-read_moment.at c.in-Some-read_moment.ensures none)))
