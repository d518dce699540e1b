use Rattle.std.proofs.Common.{◌≤◌, ℕ, length, take, subst}
use Rattle.std.specs.Option.{MatchOption}
use Rattle.qc_base.specs.declared.recording.Recording.{Recording}
use Rattle.qc_base.specs.Spelling.{NoneBegins, SpellsRecording, spelled_recording, is_recording}
use Rattle.qc_journal.proofs.Refused.{recording_short, recording_none, recording_other}
use Rattle.qc_journal.proofs.fact_reader.recording_from.Goals as goal

pub returns-in_default-read_bytes : goal.returns-in_default-read_bytes
returns-in_default-read_bytes c = recording_short _ _ c.in-Some.size c.in-Some.ensures c.in_default-read_bytes.ensures

pub returns-in_default-2 : goal.returns-in_default-2
returns-in_default-2 c =
    let bytes = c.in-Some-read_bytes.bytes.now in
    let none : NoneBegins is_recording spelled_recording bytes
    = subst (λ o. MatchOption o (NoneBegins is_recording spelled_recording bytes) (λ (p : Recording × ℕ). (p.1 ≤ length bytes) × SpellsRecording (take p.1 bytes) p.0)) c.in_default-2.is c.in_ok-recording.ensures in
    recording_none _ _ c.in-Some.size c.in-Some.ensures bytes _ c.in-Some-read_bytes.ensures.0 c.in-Some-read_bytes.ensures.1 none

pub returns-then-read-bytes : goal.returns-then-read-bytes
returns-then-read-bytes c =
    let bytes = c.in-Some-read_bytes.bytes.now in
    let read = subst (λ o. MatchOption o (NoneBegins is_recording spelled_recording bytes) (λ (p : Recording × ℕ). (p.1 ≤ length bytes) × SpellsRecording (take p.1 bytes) p.0)) c.in-Some-2.is c.in_ok-recording.ensures in
    recording_other _ _ c.in-Some.size c.in-Some.ensures bytes _ c.in-Some-read_bytes.ensures.0 c.in-Some-read_bytes.ensures.1 c.in-Some-2.read c.in-Some-2.recording read.0 c.if-read-bytes.true read.1
