-- A history with one fact more.
use Rattle.std.proofs.Common.{◌≡◌, ℕ, ◌+◌, ◌≤◌, leb, eqb, List, [], ◌∷◌, ◌++◌, length, Bool, true, ◌&&◌, refl, ap, sym, ◌∙◌, eq-eqb, arith, length-append, append-nil, append_assoc, Option, Some, None, unwrap_or}
use Rattle.std.specs.List.{list_all}
use Rattle.std.proofs.lemmas.Bool.{le-leb, leb-true}
use Rattle.std.proofs.lemmas.List.Folds.{list_all-append}
use Rattle.qc_base.specs.declared.fact.Fact.{Fact}
use Rattle.qc_base.specs.declared.fact.Fact.TheVariants.{Catalogue, Sent, Played, Failed, Moved, Switched}
use Rattle.qc_base.specs.declared.recording.Recording.{Recording}
use Rattle.qc_base.specs.Spelling.{is_fact}
use Rattle.qc_catalogue.specs.declared.catalogue.Catalogue.{Catalogue as Catalogued}
use Rattle.qc_catalogue.specs.Orderly.{is_orderly}
use Rattle.qc_recorder.specs.Fits.{recording_fits}
use Rattle.qc_machine.specs.Laws.{ReadsOrderly}
use Rattle.qc_machine.specs.History.{Reader, History, no_facts, no_catalogue, after_fact, after_facts, history_of, may_follow, is_later, all_follow, is_legal}
use Rattle.qc_machine.proofs.Bools.{and_assoc, and-both, and-left, and-right, and-true}

pub after-push : (read : Reader) (h : History) (facts : List Fact) (fact : Fact) → after_facts read h (facts ++ fact ∷ []) ≡ after_fact read (after_facts read h facts) fact
after-push read h [] fact = refl
after-push read h (f ∷ facts) fact = after-push read (after_fact read h f) facts fact

pub follow-push : (read : Reader) (h : History) (facts : List Fact) (fact : Fact) → all_follow read h (facts ++ fact ∷ []) ≡ (all_follow read h facts && may_follow read (after_facts read h facts) fact)
follow-push read h [] fact = and-true (may_follow read h fact)
follow-push read h (f ∷ facts) fact = ap (λ b. may_follow read h f && b) (follow-push read (after_fact read h f) facts fact) ∙ sym (and_assoc (may_follow read h f) (all_follow read (after_fact read h f) facts) (may_follow read (after_facts read (after_fact read h f) facts) fact))

pub legal-all : (read : Reader) (facts : List Fact) → is_legal read facts ≡ true → all_follow read no_facts facts ≡ true
legal-all read facts legal = and-right (leb 1 (length facts)) _ legal

pub legal-some : (read : Reader) (facts : List Fact) → is_legal read facts ≡ true → 1 ≤ length facts
legal-some read facts legal = leb-true 1 (length facts) (and-left (leb 1 (length facts)) _ legal)

pub legal-is : (read : Reader) (facts : List Fact) → 1 ≤ length facts → all_follow read no_facts facts ≡ true → is_legal read facts ≡ true
legal-is read facts some all = and-both (leb 1 (length facts)) _ (le-leb 1 (length facts) some) all

pub legal-push : (read : Reader) (facts : List Fact) (fact : Fact) → is_legal read facts ≡ true → may_follow read (history_of read facts) fact ≡ true → is_legal read (facts ++ fact ∷ []) ≡ true
legal-push read facts fact legal follows =
    legal-is read (facts ++ fact ∷ []) (omega (arith, length-append facts (fact ∷ []), legal-some read facts legal))
    (follow-push read no_facts facts fact ∙ and-both (all_follow read no_facts facts) _ (legal-all read facts legal) follows)

-- the facts of a history are those that led to it
pub facts-of : (read : Reader) (h : History) (facts : List Fact) → (after_facts read h facts).facts ≡ h.facts ++ facts
facts-of read h [] = sym (append-nil h.facts)
facts-of read h (fact ∷ facts) = facts-of read (after_fact read h fact) facts ∙ ap (λ (l : List Fact). l ++ facts) (one fact) ∙ append_assoc h.facts (fact ∷ []) facts
  where
    one : (fact : Fact) → (after_fact read h fact).facts ≡ h.facts ++ fact ∷ []
    one (Catalogue text) = refl
    one (Sent id at r) = refl
    one (Played id attempt kind at) = refl
    one (Failed id attempt at) = refl
    one (Moved app queue at ids) = refl
    one (Switched app on at) = refl

-- a message sent next, at a moment that doesn't fall
pub send-follows : (read : Reader) (h : History) (id at : ℕ) (r : Recording) → 1 ≤ length h.facts → id ≡ length h.messages + 1 → h.last ≤ at → is_fact (Sent id at r) ≡ true → recording_fits h.catalogue r ≡ true → may_follow read h (Sent id at r) ≡ true
send-follows read h id at r some next later fits there =
    and-both (is_fact (Sent id at r)) _ fits
    (and-both (is_later at h) _ (and-both (leb 1 (length h.facts)) _ (le-leb 1 (length h.facts) some) (le-leb h.last at later))
    (and-both (eqb id (length h.messages + 1)) _ (eq-eqb id (length h.messages + 1) next) there))

-- what holds of each catalogue that is read holds of the one in force

module _ (read : Reader) (p : Catalogued → Bool) (first : p no_catalogue ≡ true) (reads : (text : List ℕ) (c : Catalogued) → read text ≡ Some c → p c ≡ true) where
  holds-after : (h : History) (fact : Fact) → p h.catalogue ≡ true → p (after_fact read h fact).catalogue ≡ true
  holds-after h (Catalogue text) was = by_read (read text) refl
    where
      by_read : (o : Option Catalogued) → read text ≡ o → p (unwrap_or o no_catalogue) ≡ true
      by_read None e = first
      by_read (Some c) e = reads text c e
  holds-after h (Sent id at r) was = was
  holds-after h (Played id attempt kind at) was = was
  holds-after h (Failed id attempt at) was = was
  holds-after h (Moved app queue at ids) was = was
  holds-after h (Switched app on at) was = was

  holds-behind : (h : History) (facts : List Fact) → p h.catalogue ≡ true → p (after_facts read h facts).catalogue ≡ true
  holds-behind h [] was = was
  holds-behind h (fact ∷ facts) was = holds-behind (after_fact read h fact) facts (holds-after h fact was)

  pub holds-in-force : (facts : List Fact) → p (history_of read facts).catalogue ≡ true
  holds-in-force facts = holds-behind no_facts facts first

pub orderly-history : (read : Reader) (facts : List Fact) → ReadsOrderly read → is_orderly (history_of read facts).catalogue ≡ true
orderly-history read facts reads = holds-in-force read is_orderly refl reads facts

pub limits-push : (facts : List Fact) (fact : Fact) → list_all is_fact facts ≡ true → is_fact fact ≡ true → list_all is_fact (facts ++ fact ∷ []) ≡ true
limits-push facts fact all one = list_all-append is_fact facts (fact ∷ []) ∙ and-both (list_all is_fact facts) _ all (and-both (is_fact fact) true one refl)
