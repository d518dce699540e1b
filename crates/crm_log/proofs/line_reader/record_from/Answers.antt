use Rattle.qc_base.specs.Names.{is_text}
use Rattle.qc_base.specs.Spelling.{eight_bytes, four_bytes, is_amount, is_record, short_bytes}
use Rattle.crm_log.specs.Parts.{are_flags, is_seq, one_byte, spelled_record}
use Rattle.qc_base.proofs.LogSpellings.{amount-free}
use Rattle.qc_entries.proofs.Sequence.{both, pair, pair_none, pair_none_behind, reads_none}
use Rattle.crm_log.proofs.Refused.{flags_free, seq_free, text_free, record_none}
use Rattle.crm_log.proofs.line_reader.record_from.Goals as goal

pub returns-in_err-seq : goal.returns-in_err-seq
returns-in_err-seq c = reads_none is_record spelled_record _ _ _ c.from_residual.ensures (record_none _ (pair_none is_seq four_bytes (both are_flags (both is_text (both is_amount is_amount))) (pair one_byte (pair short_bytes (pair eight_bytes eight_bytes))) _ c.in_err-seq.ensures))

pub returns-in_err-flags : goal.returns-in_err-flags
returns-in_err-flags c = reads_none is_record spelled_record _ _ _ c.from_residual-in_err-flags.ensures (record_none _ (pair_none_behind is_seq four_bytes (both are_flags (both is_text (both is_amount is_amount))) (pair one_byte (pair short_bytes (pair eight_bytes eight_bytes))) seq_free _ _ _ c.in_ok-seq.ensures (pair_none are_flags one_byte (both is_text (both is_amount is_amount)) (pair short_bytes (pair eight_bytes eight_bytes)) _ c.in_err-flags.ensures)))

pub returns-in_err-key : goal.returns-in_err-key
returns-in_err-key c = reads_none is_record spelled_record _ _ _ c.from_residual-in_err-key.ensures (record_none _ (pair_none_behind is_seq four_bytes (both are_flags (both is_text (both is_amount is_amount))) (pair one_byte (pair short_bytes (pair eight_bytes eight_bytes))) seq_free _ _ _ c.in_ok-seq.ensures (pair_none_behind are_flags one_byte (both is_text (both is_amount is_amount)) (pair short_bytes (pair eight_bytes eight_bytes)) flags_free _ _ _ c.in_ok-flags.ensures (pair_none is_text short_bytes (both is_amount is_amount) (pair eight_bytes eight_bytes) _ c.in_err-key.ensures))))

pub returns-in_err-old : goal.returns-in_err-old
returns-in_err-old c = reads_none is_record spelled_record _ _ _ c.from_residual-in_err-old.ensures (record_none _ (pair_none_behind is_seq four_bytes (both are_flags (both is_text (both is_amount is_amount))) (pair one_byte (pair short_bytes (pair eight_bytes eight_bytes))) seq_free _ _ _ c.in_ok-seq.ensures (pair_none_behind are_flags one_byte (both is_text (both is_amount is_amount)) (pair short_bytes (pair eight_bytes eight_bytes)) flags_free _ _ _ c.in_ok-flags.ensures (pair_none_behind is_text short_bytes (both is_amount is_amount) (pair eight_bytes eight_bytes) text_free _ _ _ c.in_ok-key.ensures (pair_none is_amount eight_bytes is_amount eight_bytes _ c.in_err-old.ensures)))))

pub returns-in_err-new : goal.returns-in_err-new
returns-in_err-new c = reads_none is_record spelled_record _ _ _ c.from_residual-in_err-new.ensures (record_none _ (pair_none_behind is_seq four_bytes (both are_flags (both is_text (both is_amount is_amount))) (pair one_byte (pair short_bytes (pair eight_bytes eight_bytes))) seq_free _ _ _ c.in_ok-seq.ensures (pair_none_behind are_flags one_byte (both is_text (both is_amount is_amount)) (pair short_bytes (pair eight_bytes eight_bytes)) flags_free _ _ _ c.in_ok-flags.ensures (pair_none_behind is_text short_bytes (both is_amount is_amount) (pair eight_bytes eight_bytes) text_free _ _ _ c.in_ok-key.ensures (pair_none_behind is_amount eight_bytes is_amount eight_bytes amount-free _ _ _ c.in_ok-old.ensures c.in_err-new.ensures)))))
