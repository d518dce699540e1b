use Rattle.std.proofs.Common.{◌≡◌, ◌-◌, ◌++◌, length, take}
use Rattle.std.specs.List.{flat_map}
use Rattle.qc_frame.specs.Frame.{entry}
use Rattle.qc_frame.proofs.runs.stage_all.Given as goal

abbrev pub invariant-loop-bytes : goal.invariant-loop-bytes
invariant-loop-bytes l =
    let staged = flat_map entry (take l.bytes-index l.entries) in
    l.log ≡ record l.initial.log { payload = l.initial.log.payload ++ staged; spare = l.initial.log.spare - length staged }
