-- How far a journal was read, and a log that was read to its end.
use Rattle.std.proofs.Common.{◌≡◌, inl, inr, ℕ, ◌+◌, ◌≤◌, List, [], ◌∷◌, ◌++◌, length, length-append, map, true, false, refl, ap, sym, ◌∙◌, subst, arith, append_assoc, append-nil}
use Rattle.std.specs.List.{sum_by, flat_map}
use Rattle.std.proofs.lemmas.List.{map-append}
use Rattle.std.proofs.lemmas.List.Sums.{sum_by-append}
use Rattle.qc_base.specs.declared.fact.Fact.{Fact}
use Rattle.qc_base.specs.Spelling.{is_fact, spelled_fact}
use Rattle.qc_site.specs.Disk.{Images, written}
use Rattle.qc_site.specs.Image.{Image}
use Rattle.qc_frame.specs.Frame.{group, groups, groups_at}
use Rattle.qc_frame.specs.Log.{LogView, StandsOn, SameFrom}
use Rattle.qc_frame.proofs.Payload.{length-entry}
use Rattle.qc_journal.specs.History.{fact_payload}
use Rattle.qc_journal.specs.Journal.{JournalView, NextFact, NoFact, DamagedFact}
use Rattle.qc_machine.specs.History.{by_text, no_facts, history_of, goes_on, all_follow}
use Rattle.qc_machine.specs.Opening.{LegalFront, DamagedJournal}
use Rattle.qc_machine.specs.Sites.{end_gate}
use Rattle.qc_machine.proofs.Bools.{and-both}
use Rattle.qc_machine.proofs.Histories.{follow-push, limits-push}
use Rattle.qc_recovery.specs.declared.reading.Reading.{Reading}
use Rattle.qc_recovery.specs.Opening.{HasFacts, HasRead}
use Rattle.qc_history.specs.Stands.{IsHistoryOf}
use Rattle.qc_history.specs.Taking.{IsReadAs}
use Rattle.qc_history.specs.View.{HistoryView}
use Rattle.qc_recovery.proofs.OpeningTaken.{and-false}

-- What was read is what legal facts settle. Where the site tells, the groups up to where the journal stands are these.
pub record ReadSoFar (told : Type 0) (file : List ℕ) (r : Reading) (numbers : List ℕ) : Type 0 where
  pub facts : List Fact
  pub legal : all_follow by_text no_facts facts ≡ true
  pub has : HasFacts facts numbers r
  pub front : told → LegalFront file r.journal.place facts

pub read-none : (told : Type 0) (file : List ℕ) (r : Reading) → r.journal.place ≡ 16 → IsHistoryOf r.history no_facts → r.ended.items ≡ [] → ReadSoFar told file r []
read-none told file r place none none_ended = record {
  facts = [];
  legal = refl;
  has = record { read = record { is = none; numbers = refl }; ended = none_ended };
  front = λ t. record { spelled = ap (λ (n : ℕ). groups_at file n) (sym place); limits = refl; legal = refl; reached = place };
}

pub read-more : (told : Type 0) (file : List ℕ) (r new : Reading) (journal : JournalView) (at : ℕ) (fact : Fact) (numbers more : List ℕ) (so_far : ReadSoFar told file r numbers) → (told → NextFact file r.journal journal at fact) → is_fact fact ≡ true → goes_on by_text (history_of by_text so_far.facts) fact ≡ true → HasFacts (so_far.facts ++ fact ∷ []) more new → new.journal ≡ journal
    → ReadSoFar told file new more
read-more told file r new journal at fact numbers more so_far next limits goes has is = record {
  facts = so_far.facts ++ fact ∷ [];
  legal = legal;
  has = has;
  front = λ t. front (next t) (so_far.front t);
}
  where
    facts : List Fact
    facts = so_far.facts

    legal : all_follow by_text no_facts (facts ++ fact ∷ []) ≡ true
    legal = follow-push by_text no_facts facts fact ∙ and-both (all_follow by_text no_facts facts) _ so_far.legal (and-both (is_fact fact) _ limits goes)

    front : NextFact file r.journal journal at fact → LegalFront file r.journal.place facts → LegalFront file new.journal.place (facts ++ fact ∷ [])
    front there was =
        let pushed = map-append fact_payload facts (fact ∷ []) in
        let place : new.journal.place ≡ r.journal.place + 9 + length (spelled_fact fact) = ap (λ (j : JournalView). j.place) (is ∙ there.journal) in
        let place1 : journal.place ≡ new.journal.place = ap (λ (j : JournalView). j.place) (sym is) in
        let sums = sum_by-append (λ (p : List ℕ). 5 + length p) (map fact_payload facts) (fact_payload fact ∷ []) in
        record {
          spelled = was.spelled
              ∙ ap (λ (l : List (List ℕ)). map fact_payload facts ++ l) (there.next ∙ ap (λ (n : ℕ). fact_payload fact ∷ groups_at file n) place1)
              ∙ sym (append_assoc (map fact_payload facts) (fact_payload fact ∷ []) (groups_at file new.journal.place))
              ∙ ap (λ (l : List (List ℕ)). l ++ groups_at file new.journal.place) (sym pushed);
          limits = limits-push facts fact was.limits limits;
          legal = legal;
          reached = omega (arith, place, was.reached, sums, length-entry (spelled_fact fact), ap (λ (l : List (List ℕ)). sum_by (λ p. 5 + length p) l) pushed);
        }

-- a fact that may not follow, and a group that is no fact

pub not-next : (told : Type 0) (file : List ℕ) (r : Reading) (journal : JournalView) (at : ℕ) (fact : Fact) (numbers : List ℕ) (so_far : ReadSoFar told file r numbers) → told → NextFact file r.journal journal at fact → goes_on by_text (history_of by_text so_far.facts) fact ≡ false → DamagedJournal file at
not-next told file r journal at fact numbers so_far t next refused = record {
  facts = so_far.facts;
  place = r.journal.place;
  front = so_far.front t;
  unfit = inr (record {
    fact = fact;
    rest = groups_at file journal.place;
    next = next.next;
    limits = next.limits;
    refused = and-false (is_fact fact) _ refused;
    here = next.here;
  });
}

pub no-fact : (told : Type 0) (file : List ℕ) (r : Reading) (at : ℕ) (numbers : List ℕ) → ReadSoFar told file r numbers → told → DamagedFact file r.journal.place at → DamagedJournal file at
no-fact told file r at numbers so_far t bad = record { facts = so_far.facts; place = r.journal.place; front = so_far.front t; unfit = inl bad }

-- a log's place

pub place-inside : (file : List ℕ) (images : Images) (log : LogView) → StandsOn file images log → log.place ≤ length file
place-inside file images log st = omega (arith, ap length st.led.is, length-append st.led.front (flat_map group st.payloads ++ st.led.rest), length-append (flat_map group st.payloads) st.led.rest, st.led.long, st.led.at)

-- where the site tells, the journal was read to its end
pub record IsAtEnd (before now : Image) (r new : Reading) : Type 0 where
  pub inside : r.journal.place ≤ length before.journal
  pub end : NoFact before.journal now.journal r.journal new.journal
  pub others : now ≡ record before { journal = now.journal }

pub at-end : (before now : Image) (r new : Reading) → r.journal.place ≤ length before.journal → NoFact before.journal now.journal r.journal new.journal → now ≡ record before { journal = now.journal } → IsAtEnd before now r new
at-end before now r new inside end others = record { inside = inside; end = end; others = others }

pub read-end : (told : Type 0) (before now : Image) (r new : Reading) (numbers : List ℕ) → r.journal.start ≡ 16 → (so_far : ReadSoFar told before.journal r numbers) → new.history ≡ r.history → new.ended ≡ r.ended → (told → IsAtEnd before now r new) → HasRead told before now new
read-end told before now r new numbers start so_far same same_ended end = record {
  facts = so_far.facts;
  numbers = numbers;
  follow = so_far.legal;
  has = record {
    read = subst (λ (v : HistoryView). IsReadAs v numbers (history_of by_text so_far.facts)) (sym same) so_far.has.read;
    ended = ap (λ e. e.items) same_ended ∙ so_far.has.ended;
  };
  spelled = λ t. record { groups = spelled t; limits = (so_far.front t).limits };
  closed = λ t. (end t).others ∙ ap (λ (b : List ℕ). let c : Image = record before { journal = b } in c) ((end t).end.bytes ∙ ap (λ (n : ℕ). written before.journal n (0 ∷ [])) (gate t));
  same = λ t. subst (λ (n : ℕ). SameFrom n before.journal now.journal) start (end t).end.same;
}
  where
    spelled : (t : told) → groups before.journal ≡ map fact_payload so_far.facts
    spelled t = (so_far.front t).spelled ∙ ap (λ (l : List (List ℕ)). map fact_payload so_far.facts ++ l) (end t).end.none ∙ append-nil (map fact_payload so_far.facts)

    gate : (t : told) → r.journal.place ≡ end_gate before.journal
    gate t = (so_far.front t).reached ∙ ap (λ (l : List (List ℕ)). 16 + sum_by (λ p. 5 + length p) l) (sym (spelled t))
