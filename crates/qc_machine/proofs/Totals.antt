-- In a legal history totals are changed by committed attempts alone.
use Rattle.std.proofs.Common.{◌≡◌, ◌∙◌, ℕ, ◌+◌, ◌≤◌, ◌==◌, List, [], ◌∷◌, ◌++◌, Bool, true, false, cond, length, filter, take, refl, sym, ap, arith, true≢false, eqb-true, pos, ℤ, ◌+ℤ◌, take_at, append_assoc, append-nil}
use Rattle.std.specs.List.{enumerate_from}
use Rattle.std.proofs.lemmas.Bool.{and_parts}
use Rattle.std.proofs.lemmas.Int.{ints}
use Rattle.std.proofs.lemmas.List.{length_push}
use Rattle.qc_base.specs.declared.fact.Fact.{Fact}
use Rattle.qc_base.specs.declared.fact.Fact.TheVariants.{Catalogue as InForce, Sent, Played, Failed, Moved, Switched}
use Rattle.qc_base.specs.Spelling.{is_fact}
use Rattle.qc_rows.specs.Tables.{TableRows, total_in}
use Rattle.qc_machine.specs.History.{Reader, History, no_facts, after_fact, history_of, goes_on, may_follow, all_follow, is_legal}
use Rattle.qc_machine.specs.Once.{is_play, changes, AreTotalsSettled, TotalsSettled}
use Rattle.qc_machine.proofs.Histories.{after-push, facts-of, legal-all, legal-some}

-- what isn't played changes no table and no resource
pub rows-stay : (read : Reader) (h : History) (fact : Fact) → 1 ≤ length h.facts → may_follow read h fact ≡ true → is_play fact ≡ false
    → ((after_fact read h fact).tables ≡ h.tables) × ((after_fact read h fact).outside ≡ h.outside)
rows-stay read h (InForce text) some e f =
    let none : length h.facts ≡ 0 = eqb-true _ _ (and_parts (length h.facts == 0) _ (and_parts (is_fact (InForce text)) _ e).1).0 in
    absurd (omega (arith, some, none))
rows-stay read h (Sent id at r) some e f = (refl, refl)
rows-stay read h (Played id attempt kind at) some e f = absurd (true≢false f)
rows-stay read h (Failed id attempt at) some e f = (refl, refl)
rows-stay read h (Moved app queue at ids) some e f = (refl, refl)
rows-stay read h (Switched app on at) some e f = (refl, refl)

abbrev played_from : ℕ → List Fact → List (ℕ × Fact)
played_from n facts = filter (λ (p : ℕ × Fact). is_play p.1) (enumerate_from n facts)

-- a history begins with a catalogue
not-first : (read : Reader) (f : Fact) (facts : List Fact) → (goes_on read no_facts f ≡ true → false ≡ true) → all_follow read no_facts (f ∷ facts) ≡ true → ⊥
not-first read f facts h e = true≢false (sym (h (and_parts (is_fact f) _ (and_parts (may_follow read no_facts f) _ e).0).1))

-- whichever rows of a history they are that stay where nothing is played
module _ (read : Reader) (rows : History → List TableRows)
    (stay : (h : History) (fact : Fact) → 1 ≤ length h.facts → may_follow read h fact ≡ true → is_play fact ≡ false
    → rows (after_fact read h fact) ≡ rows h) where
  abbrev total_after : List ℕ → List Fact → ℕ
  total_after name facts = total_in name (rows (history_of read facts))

  -- from a front of the facts on
  telescopes : (name : List ℕ) (facts front back : List Fact) → facts ≡ front ++ back → 1 ≤ length front
      → all_follow read (history_of read front) back ≡ true
      → pos (total_after name facts) ≡ pos (total_after name front) +ℤ changes read rows name facts (played_from (length front) back)
  telescopes name facts front [] is some follow =
      let same : facts ≡ front = is ∙ append-nil front in
      omega (arith, ints, ap (λ l. pos (total_after name l)) same)
  telescopes name facts front (f ∷ rest) is some follow =
      by (is_play f) refl (telescopes name facts (front ++ f ∷ []) rest on (omega (arith, some, longer)) later)
    where
      parts : (may_follow read (history_of read front) f ≡ true)
          × (all_follow read (after_fact read (history_of read front) f) rest ≡ true)
      parts = and_parts (may_follow read (history_of read front) f) _ follow

      longer : length (front ++ f ∷ []) ≡ length front + 1
      longer = length_push front f

      next : history_of read (front ++ f ∷ []) ≡ after_fact read (history_of read front) f
      next = after-push read no_facts front f

      later : all_follow read (history_of read (front ++ f ∷ [])) rest ≡ true
      later = ap (λ h. all_follow read h rest) next ∙ parts.1

      on : facts ≡ (front ++ f ∷ []) ++ rest
      on = is ∙ sym (append_assoc front (f ∷ []) rest)

      here : take (length front) facts ≡ front
      here = ap (λ l. take (length front) l) is ∙ take_at front (f ∷ rest) (length front) refl

      there : take (length front + 1) facts ≡ front ++ f ∷ []
      there = ap (λ l. take (length front + 1) l) on ∙ take_at (front ++ f ∷ []) rest (length front + 1) longer

      some_facts : 1 ≤ length (history_of read front).facts
      some_facts = omega (arith, some, ap length (facts-of read no_facts front))

      more : ℕ → ℤ
      more n = changes read rows name facts (played_from n rest)

      by : (b : Bool) → is_play f ≡ b
          → pos (total_after name facts) ≡ pos (total_after name (front ++ f ∷ [])) +ℤ more (length (front ++ f ∷ []))
          → pos (total_after name facts) ≡ pos (total_after name front)
          +ℤ changes read rows name facts (cond b ((length front, f) ∷ played_from (length front + 1) rest) (played_from (length front + 1) rest))
      by true e rest_is =
          omega (arith, ints, rest_is, ap (λ l. pos (total_after name l)) here, ap (λ l. pos (total_after name l)) there, ap more longer)
      by false e rest_is =
          let same = stay (history_of read front) f some_facts parts.0 e in
          omega (arith, ints, rest_is, ap (λ h. pos (total_in name (rows h))) next, ap (λ t. pos (total_in name t)) same, ap more longer)

  totals : (facts : List Fact) → 1 ≤ length facts → all_follow read no_facts facts ≡ true → AreTotalsSettled read rows facts
  totals [] some follow = λ name. absurd (omega (arith, some))
  totals (InForce text ∷ facts) some follow = λ name.
      telescopes name (InForce text ∷ facts) (InForce text ∷ []) facts refl (omega arith) (and_parts (may_follow read no_facts (InForce text)) _ follow).1
  totals (Sent id at r ∷ facts) some follow = λ name. absurd (not-first read (Sent id at r) facts (λ e. e) follow)
  totals (Played id attempt kind at ∷ facts) some follow = λ name. absurd (not-first read (Played id attempt kind at) facts (λ e. e) follow)
  totals (Failed id attempt at ∷ facts) some follow = λ name. absurd (not-first read (Failed id attempt at) facts (λ e. e) follow)
  totals (Moved app queue at ids ∷ facts) some follow = λ name. absurd (not-first read (Moved app queue at ids) facts (λ e. e) follow)
  totals (Switched app on at ∷ facts) some follow = λ name. absurd (not-first read (Switched app on at) facts (λ e. e) follow)

pub totals-settled : (read : Reader) (facts : List Fact) → is_legal read facts ≡ true → TotalsSettled read facts
totals-settled read facts legal = record {
  tables = totals read (λ h. h.tables) (λ h f some e is. (rows-stay read h f some e is).0) facts some_facts all;
  resources = totals read (λ h. h.outside) (λ h f some e is. (rows-stay read h f some e is).1) facts some_facts all;
}
  where
    some_facts : 1 ≤ length facts
    some_facts = legal-some read facts legal

    all : all_follow read no_facts facts ≡ true
    all = legal-all read facts legal
