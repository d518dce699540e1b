-- Bytes that are no whole spelling of a recording.
use Rattle.std.proofs.Common.{◌≡◌, ◌≢◌, ◌∙◌, ℕ, ◌<◌, ◌≤◌, List, [], ◌++◌, length, take, drop, sym, ap, subst, arith, append-nil, take-append-drop}
use Rattle.std.proofs.lemmas.List.{length-drop, take_all}
use Rattle.qc_base.specs.Spelling.{is_recording, spelled_recording, NoneBegins, SpellsRecording}
use Rattle.qc_base.specs.declared.recording.Recording.{Recording}
use Rattle.qc_base.proofs.PrefixFree.{recording-free}

pub none-spelled : (bytes : List ℕ) → NoneBegins is_recording spelled_recording bytes → (r : Recording) → SpellsRecording bytes r → ⊥
none-spelled bytes none r s = none r [] s.limits (s.is ∙ sym (append-nil (spelled_recording r)))

-- more bytes are behind a spelling
pub more-behind : (bytes : List ℕ) (n : ℕ) (found : Recording) → n < length bytes → SpellsRecording (take n bytes) found → (r : Recording) → SpellsRecording bytes r → ⊥
more-behind bytes n found less s r t =
    let whole : spelled_recording found ++ drop n bytes ≡ spelled_recording r ++ [] = ap (λ xs. xs ++ drop n bytes) (sym s.is) ∙ take-append-drop n bytes ∙ t.is ∙ sym (append-nil (spelled_recording r)) in
    let same = recording-free found r (drop n bytes) [] s.limits t.limits whole in
    absurd (omega (arith, ap length same.1, length-drop n bytes, less))

pub whole-spelled : (bytes : List ℕ) (n : ℕ) (found : Recording) → length bytes ≤ n → SpellsRecording (take n bytes) found → SpellsRecording bytes found
whole-spelled bytes n found all s = subst (λ xs. SpellsRecording xs found) (take_all n bytes all) s
