-- The history after lines begins with the history before them.
use Rattle.std.proofs.Common.{◌≡◌, List, ℕ, [], ◌∷◌, ◌++◌, Bool, true, false, MatchBool, Result, Ok, Err, refl, sym, ap, ◌∙◌, subst, inr, ⊎_elim, append-nil, append_assoc}
use Rattle.qc_base.specs.declared.fact.Fact.{Fact}
use Rattle.qc_protocol.specs.Texts.{is_blank}
use Rattle.qc_protocol.specs.declared.order.Order.{Order}
use Rattle.qc_protocol.specs.declared.reply.Refusal.{Refusal}
use Rattle.qc_machine.proofs.Rules.{step-facts}
use Rattle.qc_machine.specs.Laws.{GoesOn}
use Rattle.qc_machine.specs.State.{State}
use Rattle.qc_machine.specs.Steps.{IsBetween}
use Rattle.qc_drill.specs.Crash.{IsAround, IsAtNext, IsAfterFront}
use Rattle.qc_drill.specs.Drill.{asked, asked_step, line_step, after_line, after_lines}

same-on : (s x : State) → x ≡ s → GoesOn s x
same-on s x e = subst (GoesOn s) (sym e) (record { more = []; facts = sym (append-nil s.history.facts) })

on-joined : (a b c : State) → GoesOn a b → GoesOn b c → GoesOn a c
on-joined a b c x y = record { more = x.more ++ y.more; facts = y.facts ∙ ap (λ (l : List Fact). l ++ y.more) x.facts ∙ append_assoc a.history.facts x.more y.more }

asked-on : (s x : State) (r : Result Order Refusal) → IsBetween s (asked_step s r) x → GoesOn s x
asked-on s x (Ok order) is = (step-facts s x order is).0
asked-on s x (Err refusal) is = ⊎_elim (λ e. same-on s x e) (λ rest. ⊎_elim (λ a. absurd a) (λ e. same-on s x e) rest) is

around-on : (s x : State) (line : List ℕ) → IsAround s line x → GoesOn s x
around-on s x line is = by_blank (is_blank line) is
  where
    by_blank : (b : Bool) → MatchBool b (x ≡ s) (IsBetween s (line_step s line) x) → GoesOn s x
    by_blank true e = same-on s x e
    by_blank false between = asked-on s x (asked line) between

line-on : (s : State) (line : List ℕ) → GoesOn s (after_line s line)
line-on s line = by_blank (is_blank line)
  where
    by_blank : (b : Bool) → GoesOn s (elim b [ true ↦ s | false ↦ (line_step s line).state ])
    by_blank true = same-on s s refl
    by_blank false = asked-on s (line_step s line).state (asked line) (inr (inr refl))

lines-on : (s : State) (lines : List (List ℕ)) → GoesOn s (after_lines s lines)
lines-on s [] = same-on s s refl
lines-on s (line ∷ lines) = on-joined s (after_line s line) (after_lines (after_line s line) lines) (line-on s line) (lines-on (after_line s line) lines)

next-on : (s x : State) (lines : List (List ℕ)) → IsAtNext s lines x → GoesOn s x
next-on s x [] e = same-on s x e
next-on s x (line ∷ lines) is = around-on s x line is

pub front-on : (s x : State) (lines : List (List ℕ)) → IsAfterFront s lines x → GoesOn s x
front-on s x lines f = on-joined s (after_lines s f.front) x (lines-on s f.front) (next-on (after_lines s f.front) x f.rest f.after)
