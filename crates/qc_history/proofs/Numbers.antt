-- The numbers of attempts.
use Rattle.std.proofs.Common.{◌≡◌, ◌∙◌, ℕ, max, List, [], ◌∷◌, ◌++◌, ap, arith, append-nil, Option, Some, None}
use Rattle.std.specs.List.{cons_option}
use Rattle.std.specs.Prelude.{filter_map}
use Rattle.std.proofs.lemmas.List.Elements.{filter_map-append}
use Rattle.qc_base.specs.declared.fact.Fact.{Fact}
use Rattle.qc_machine.specs.Attempts.{greatest}
use Rattle.qc_machine.specs.History.{History, attempt_of}
use Rattle.qc_history.specs.Stands.{attempts_in}

pub greatest-push : (ns : List ℕ) (n : ℕ) → greatest (ns ++ n ∷ []) ≡ max (greatest ns) n
greatest-push [] n = omega arith
greatest-push (k ∷ ns) n = ap (max k) (greatest-push ns n) ∙ omega arith

one-number : (fact : Fact) (o : Option ℕ) → attempt_of fact ≡ o → filter_map attempt_of (fact ∷ []) ≡ cons_option o []
one-number fact o e = ap (λ (o : Option ℕ). cons_option o []) e

-- a fact that is no attempt's
pub numbers-same : (h : History) (fact : Fact) → attempt_of fact ≡ None → filter_map attempt_of (h.facts ++ fact ∷ []) ≡ attempts_in h
numbers-same h fact none = filter_map-append attempt_of h.facts (fact ∷ []) ∙ ap (λ (ns : List ℕ). attempts_in h ++ ns) (one-number fact None none) ∙ append-nil (attempts_in h)

-- the end of an attempt
pub numbers-push : (h : History) (fact : Fact) (n : ℕ) → attempt_of fact ≡ Some n → filter_map attempt_of (h.facts ++ fact ∷ []) ≡ attempts_in h ++ n ∷ []
numbers-push h fact n e = filter_map-append attempt_of h.facts (fact ∷ []) ∙ ap (λ (ns : List ℕ). attempts_in h ++ ns) (one-number fact (Some n) e)
