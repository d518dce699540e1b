use Rattle.std.proofs.Common.{◌≡◌, ◌+◌, ◌++◌, take, vec_len, vec_capacity}
use Rattle.qc_play.proofs.state.put_records.Given as goal

abbrev pub invariant-loop-record : goal.invariant-loop-record
invariant-loop-record l = (l.all.items ≡ l.fn.all.items ++ take l.record-index l.records)
    × (vec_len l.all ≡ vec_len l.fn.all + l.record-index) × (vec_capacity l.all ≡ vec_capacity l.fn.all)
