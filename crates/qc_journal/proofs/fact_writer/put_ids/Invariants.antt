use Rattle.std.proofs.Common.{◌≡◌, ◌≤◌, ◌++◌, take, vec_capacity}
use Rattle.std.specs.List.{flat_map}
use Rattle.qc_base.specs.Spelling.{eight_bytes}
use Rattle.qc_journal.proofs.fact_writer.put_ids.Given as goal

abbrev pub invariant-loop-id : goal.invariant-loop-id
invariant-loop-id l = record {
  bytes : l.out.items ≡ l.initial.out.items ++ flat_map eight_bytes (take l.id-index l.ids);
  room : vec_capacity l.initial.out ≤ vec_capacity l.out;
}
