use Rattle.std.proofs.Common.{◌≡◌, drop}
use Rattle.qc_recorder.specs.Recording.{add_calls, methods_for, recorded}
use Rattle.qc_recorder.proofs.recorder.record_calls.Given as goal

abbrev pub invariant-loop-call : goal.invariant-loop-call
invariant-loop-call l = recorded l.catalogue l.app l.component l.calls ≡ add_calls (methods_for l.catalogue l.recorder) (drop l.call-index l.calls) l.recorder
