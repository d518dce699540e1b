-- A hub with one fact more that was read.
use Rattle.std.proofs.Common.{◌≡◌, ℕ, List, [], ◌∷◌, Bool, true, false, ◌&&◌, length, refl, sym, subst, arith, inl, inr, Ok, Err}
use Rattle.qc_base.specs.declared.fact.Fact.{Fact}
use Rattle.qc_history.specs.Taking.{IsReadAs, Refuses, Takes}
use Rattle.qc_history.specs.View.{HistoryView}
use Rattle.qc_machine.specs.declared.error.OpenError.TheVariants.{Damaged as damaged, NoMemory as no_memory}
use Rattle.qc_machine.specs.History.{History, by_text, history_of, no_facts}
use Rattle.qc_machine.proofs.Histories.{after-push}
use Rattle.qc_hub.specs.declared.hub.Hub.{Hub}
use Rattle.qc_hub.specs.Opening.{TakesFact, damage_at}

pub none-of : {A : Type 0} (xs : List A) → length xs ≡ 0 → xs ≡ []
none-of [] e = refl
none-of (x ∷ xs) e = absurd (omega (arith, e))

pub and-false : (a b : Bool) → b ≡ false → (a && b) ≡ false
and-false true b e = e
and-false false b e = refl

module _ (at : ℕ) (fact : Fact) (hub : Hub) (numbers : List ℕ) (history : HistoryView) (more : List ℕ) where
  abbrev new : Hub
  new = record hub { history = history }

  pub fact-taken : Takes fact hub.history numbers history more → TakesFact at fact (Ok tt) hub numbers new more
  fact-taken takes = record {
    taken = λ facts has. (
      takes.follows (history_of by_text facts) has,
      subst (λ (h : History). IsReadAs history more h) (sym (after-push by_text no_facts facts fact)) (takes.settles (history_of by_text facts) has),
    );
    refused = tt;
    counted = takes.counted;
    kept = refl;
  }

  pub fact-refused : Refuses fact hub.history numbers history more → TakesFact at fact (Err (damaged (damage_at at))) hub numbers new more
  fact-refused refuses = record { taken = tt; refused = inr (refl, λ facts has. refuses.refused (history_of by_text facts) has); counted = tt; kept = refl }

  pub fact-starved : TakesFact at fact (Err no_memory) hub numbers new more
  fact-starved = record { taken = tt; refused = inl refl; counted = tt; kept = refl }
