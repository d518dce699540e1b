-- The state behind a fact more that is none of those that begin a history or send.
use Rattle.std.proofs.Common.{◌≡◌, ◌∙◌, ◌++◌, [], ◌∷◌, sym, ap, subst, arith, true}
use Rattle.qc_base.specs.declared.fact.Fact.{Fact}
use Rattle.qc_catalogue.specs.declared.catalogue.Catalogue.{Catalogue}
use Rattle.qc_machine.specs.History.{Reader, History, no_facts, with_fact, after_fact, history_of, may_follow, is_legal}
use Rattle.qc_machine.specs.Holding.{AreHeld}
use Rattle.qc_machine.specs.Laws.{AreRecorded, IsSettled}
use Rattle.qc_machine.specs.State.{State}
use Rattle.qc_machine.proofs.Histories.{after-push, legal-push}

pub fact-settled : (read : Reader) (s t : State) (f : Fact) → IsSettled read s → t.history ≡ with_fact f s.history → t.last ≡ s.last → t.clients ≡ s.clients
    → ((h : History) → after_fact read h f ≡ with_fact f h) → (with_fact f s.history).last ≡ s.last → (with_fact f s.history).catalogue ≡ s.history.catalogue
    → may_follow read s.history f ≡ true → AreHeld t → IsSettled read t
fact-settled read s t f settled history last clients plain moment same follows held = record {
  history = subst (λ (h : History). h ≡ history_of read h.facts) (sym history) now;
  legal = subst (λ (h : History). is_legal read h.facts ≡ true) (sym history) (legal-push read s.history.facts f settled.legal (subst (λ (h : History). may_follow read h f ≡ true) settled.history follows));
  not_ahead = omega (arith, moment, ap (λ (h : History). h.last) history, last);
  in_time = omega (arith, last, settled.in_time);
  recorded = subst (λ (c : Catalogue). AreRecorded c t.clients) (sym (ap (λ (h : History). h.catalogue) history ∙ same)) (subst (AreRecorded s.history.catalogue) (sym clients) settled.recorded);
  held = held;
}
  where
    now : with_fact f s.history ≡ history_of read (s.history.facts ++ f ∷ [])
    now = ap (with_fact f) settled.history ∙ sym (after-push read no_facts s.history.facts f ∙ plain (history_of read s.history.facts))
