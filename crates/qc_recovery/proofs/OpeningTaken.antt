-- A reading with one fact more.
use Rattle.std.proofs.Common.{◌≡◌, ◌∙◌, ℕ, List, [], ◌∷◌, ◌++◌, Bool, true, false, ◌&&◌, length, refl, sym, ap, subst, arith, inl, inr, Ok, Err, Option}
use Rattle.std.specs.Prelude.{filter_map}
use Rattle.std.specs.List.{cons_option}
use Rattle.std.proofs.lemmas.List.Elements.{filter_map-append}
use Rattle.qc_base.specs.declared.fact.Fact.{Fact}
use Rattle.crm_history.specs.declared.ended.Ended.{Ended}
use Rattle.qc_history.specs.Taking.{IsReadAs, Refuses, Takes}
use Rattle.qc_machine.specs.declared.error.OpenError.TheVariants.{Damaged as damaged, NoMemory as no_memory}
use Rattle.qc_machine.specs.History.{History, by_text, history_of, no_facts}
use Rattle.qc_machine.specs.Sound.{ended_by}
use Rattle.qc_machine.proofs.Histories.{after-push}
use Rattle.qc_site.specs.declared.site.SiteFile.TheVariants.{Journal}
use Rattle.qc_recovery.specs.declared.reading.Reading.{Reading}
use Rattle.qc_recovery.specs.Opening.{TakesFact, damage_in}

pub none-of : {A : Type 0} (xs : List A) → length xs ≡ 0 → xs ≡ []
none-of [] e = refl
none-of (x ∷ xs) e = absurd (omega (arith, e))

pub and-false : (a b : Bool) → b ≡ false → (a && b) ≡ false
and-false true b e = e
and-false false b e = refl

-- the attempts that end with a fact more
pub ended-push : (facts : List Fact) (fact : Fact) (o : Option Ended) → ended_by fact ≡ o → filter_map ended_by (facts ++ fact ∷ []) ≡ filter_map ended_by facts ++ cons_option o []
ended-push facts fact o e = filter_map-append ended_by facts (fact ∷ []) ∙ ap (λ (o : Option Ended). filter_map ended_by facts ++ cons_option o []) e

-- the new list of attempts that ended is this one with what the fact ends
abbrev pub EndedMore : Option Ended → Reading → Reading → Type 0
EndedMore o r new = new.ended.items ≡ r.ended.items ++ cons_option o []

module _ (at : ℕ) (fact : Fact) (r new : Reading) (numbers more : List ℕ) (kept : new ≡ record r { history = new.history; ended = new.ended }) where
  pub fact-taken : (o : Option Ended) → ended_by fact ≡ o → EndedMore o r new → Takes fact r.history numbers new.history more → TakesFact at fact (Ok tt) r numbers new more
  fact-taken o ends ended takes = record {
    taken = λ facts has. (
      takes.follows (history_of by_text facts) has.read,
      record {
        read = subst (λ (h : History). IsReadAs new.history more h) (sym (after-push by_text no_facts facts fact)) (takes.settles (history_of by_text facts) has.read);
        ended = ended ∙ ap (λ (l : List Ended). l ++ cons_option o []) has.ended ∙ sym (ended-push facts fact o ends);
      },
    );
    refused = tt;
    counted = takes.counted;
    kept = kept;
  }

  pub fact-refused : Refuses fact r.history numbers new.history more → TakesFact at fact (Err (damaged (damage_in Journal at))) r numbers new more
  fact-refused refuses = record { taken = tt; refused = inr (refl, λ facts has. refuses.refused (history_of by_text facts) has.read); counted = tt; kept = kept }

  pub fact-starved : TakesFact at fact (Err no_memory) r numbers new more
  fact-starved = record { taken = tt; refused = inl refl; counted = tt; kept = kept }
