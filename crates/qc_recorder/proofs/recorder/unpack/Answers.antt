use Rattle.std.proofs.Common.{arith}
use Rattle.qc_recorder.proofs.Unpacked.{none-spelled, more-behind}
use Rattle.qc_recorder.proofs.recorder.unpack.Goals as goal

pub returns-in_default : goal.returns-in_default
returns-in_default c =
    let none = rw c.in_default.is at c.in_ok-recording.ensures in
    none-spelled c.args.bytes.now none

pub returns-then-size-bytes : goal.returns-then-size-bytes
returns-then-size-bytes c =
    let read = rw c.in-Some.is at c.in_ok-recording.ensures in
    more-behind c.args.bytes.now c.in-Some.size c.in-Some.recording (omega arith) read.1
