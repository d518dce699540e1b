use Rattle.std.proofs.Common.{◌≡◌, ◌≤◌, ◌-◌, sym, ◌∙◌, ap, arith, length, nat_le, true, length-append}
use Rattle.std.proofs.lemmas.Bool.{and_parts, and_from}
use Rattle.qc_base.specs.Spelling.{spelled_recording, is_recorded, Begins}
use Rattle.qc_base.proofs.PrefixFree.{recorded-free}
use Rattle.qc_base.proofs.Parts.{front_taken}
use Rattle.qc_base.proofs.recording_reader.read_recording.Goals as goal

pub returns-then-size-gt16384 : goal.returns-then-size-gt16384
returns-then-size-gt16384 c = λ value left limits e.
    let read : Begins is_recorded spelled_recording c.over-reader.result c.in-Some.recording c.read_recorded.new.reader = rw c.in-Some.is at c.in_ok-recording.ensures in
    let parts = and_parts (is_recorded value) (nat_le (length (spelled_recording value)) 16384) limits in
    let whole = sym read.is ∙ c.over-reader.ensures ∙ e in
    let same = recorded-free c.in-Some.recording value _ left read.limits parts.0 whole in
    let long = ap length (sym c.over-reader.ensures ∙ read.is) in
    let short : length (spelled_recording value) ≤ 16384 = grind (arith, parts.1) in
    absurd (omega (arith, long, length-append (spelled_recording c.in-Some.recording) c.read_recorded.new.reader, ap (λ r. length (spelled_recording r)) same.0, short))

pub returns : goal.returns
returns c =
    let read : Begins is_recorded spelled_recording c.over-reader.result c.in-Some.recording c.read_recorded.new.reader = rw c.in-Some.is at c.in_ok-recording.ensures in
    let whole = sym c.over-reader.ensures ∙ read.is in
    let long = ap length whole in
    let size : length c.args.bytes.now - c.len.result ≡ length (spelled_recording c.in-Some.recording) = omega (arith, long, length-append (spelled_recording c.in-Some.recording) c.read_recorded.new.reader) in
    let short : nat_le (length (spelled_recording c.in-Some.recording)) 16384 ≡ true = grind (arith, size) in (
      omega arith,
      record {
        limits = and_from (is_recorded c.in-Some.recording) (nat_le (length (spelled_recording c.in-Some.recording)) 16384) read.limits short;
        is = front_taken _ _ _ _ whole size;
      },
    )
