-- An expression is worked out term by term.
use Rattle.std.proofs.Common.{◌≡◌, ◌∙◌, ℕ, ℤ, pos, ◌+◌, ◌<◌, ◌+ℤ◌, ◌-ℤ◌, List, ◌∷◌, Bool, cond, length, get_or, drop, sym, ap}
use Rattle.std.proofs.lemmas.List.{at_drop_more}
use Rattle.qc_base.specs.declared.recording.Arg.{Arg}
use Rattle.qc_script.specs.declared.step.SignedTerm.{SignedTerm}
use Rattle.qc_play.specs.Play.{Seen, worth_of_term, worth_from}

pub worth_step : (args : List Arg) (view : List Seen) (ts : List SignedTerm) (i : ℕ) (t : SignedTerm) (b : Bool) (n m : ℤ) (k : ℕ) → i < length ts → t ≡ get_or ts i t → t.minus ≡ b
    → k ≡ worth_of_term args view t.term → m ≡ cond b (n -ℤ pos k) (n +ℤ pos k) → worth_from args view m (drop (i + 1) ts) ≡ worth_from args view n (drop i ts)
worth_step args view ts i t b n m k within is minus e f =
    let rest : List SignedTerm = drop (i + 1) ts in
    sym (at_drop_more (worth_from args view n) ts i t within
    ∙ ap (λ (s : SignedTerm). worth_from args view n (s ∷ rest)) (sym is)
    ∙ ap (λ (b : Bool). worth_from args view (cond b (n -ℤ pos (worth_of_term args view t.term)) (n +ℤ pos (worth_of_term args view t.term))) rest) minus
    ∙ ap (λ (k : ℕ). worth_from args view (cond b (n -ℤ pos k) (n +ℤ pos k)) rest) (sym e)
    ∙ ap (λ (m : ℤ). worth_from args view m rest) (sym f))
