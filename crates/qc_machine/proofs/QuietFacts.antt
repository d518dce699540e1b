-- A log beside its history with one fact more. A fact that commits no attempt changes nothing that is settled.
use Rattle.std.proofs.Common.{◌≡◌, ◌∙◌, ℕ, ◌≤◌, ◌+◌, ◌==◌, List, [], ◌∷◌, ◌++◌, length, Bool, true, false, cond, ◌&&◌, ◌||◌, filter_map, refl, sym, ap, subst, arith, length-append, true≢false}
use Rattle.std.specs.List.{list_any}
use Rattle.std.proofs.lemmas.Bool.{and_parts, and_from, eqb-true}
use Rattle.std.proofs.lemmas.List.{length-map}
use Rattle.std.proofs.lemmas.List.Elements.{filter_map-append}
use Rattle.std.proofs.lemmas.List.Folds.{list_any-append}
use Rattle.qc_base.specs.declared.fact.Fact.{Fact}
use Rattle.qc_base.specs.declared.fact.Fact.TheVariants.{Catalogue as InForce, Sent, Played, Failed, Moved, Switched}
use Rattle.qc_base.specs.declared.log_line.LogLine.{LogLine}
use Rattle.qc_base.specs.declared.log_line.LogLine.TheVariants.{Opened, Registered, Written, Forgot, Done}
use Rattle.qc_base.specs.declared.message.Message.{Message}
use Rattle.qc_base.specs.declared.fact.Place.TheVariants.{Consumed}
use Rattle.qc_base.specs.LogLines.{unfinished}
use Rattle.qc_base.specs.Messages.{moved_place, next_place}
use Rattle.qc_base.specs.Rows.{OutsideRows}
use Rattle.qc_catalogue.specs.declared.catalogue.Catalogue.{Catalogue}
use Rattle.qc_rows.specs.Outside.{outside_amount}
use Rattle.crm_history.specs.declared.ended.Ended.{Ended}
use Rattle.crm_history.specs.Legal.{is_committed}
use Rattle.crm_recovery.specs.Settling.{attempts_puts, phase_puts, rows_after, settled_rows}
use Rattle.qc_machine.specs.History.{Reader, History, after_fact, goes_on}
use Rattle.qc_machine.specs.Sound.{agrees_with, all_agree, commits, ended_by, ended_in, is_log_of, IsSound}
use Rattle.qc_machine.specs.Finishable.{IsFinishable, AreFinishable}
use Rattle.qc_machine.proofs.LongerHistory.{log-still}

-- where no attempt ended, no line opens one for another message

nothing-agrees : (line : LogLine) → agrees_with [] line ≡ true
nothing-agrees (Opened attempt id) = refl
nothing-agrees (Registered attempt resource phases) = refl
nothing-agrees (Written attempt resource r) = refl
nothing-agrees (Forgot attempt resource seq) = refl
nothing-agrees (Done attempt) = refl

pub all-agree : (lines : List LogLine) → all_agree [] lines ≡ true
all-agree [] = refl
all-agree (line ∷ lines) = and_from (agrees_with [] line) _ (nothing-agrees line) (all-agree lines)

module _ (read : Reader) (h : History) where
  -- a first fact is there, so no catalogue may follow
  not-again : (text : List ℕ) → 1 ≤ length h.facts → goes_on read h (InForce text) ≡ true → ⊥
  not-again text some e = absurd (omega (arith, some, eqb-true (length h.facts) 0 (and_parts (length h.facts == 0) _ e).0))

  same-catalogue : (fact : Fact) → 1 ≤ length h.facts → goes_on read h fact ≡ true → (after_fact read h fact).catalogue ≡ h.catalogue
  same-catalogue (InForce text) some e = absurd (not-again text some e)
  same-catalogue (Sent id at r) some e = refl
  same-catalogue (Played id attempt kind at) some e = refl
  same-catalogue (Failed id attempt at) some e = refl
  same-catalogue (Moved app queue at ids) some e = refl
  same-catalogue (Switched app on at) some e = refl

  one-more : (fact : Fact) → (after_fact read h fact).facts ≡ h.facts ++ fact ∷ []
  one-more (InForce text) = refl
  one-more (Sent id at r) = refl
  one-more (Played id attempt kind at) = refl
  one-more (Failed id attempt at) = refl
  one-more (Moved app queue at ids) = refl
  one-more (Switched app on at) = refl

  no-fewer : (fact : Fact) → 1 ≤ length h.facts → goes_on read h fact ≡ true → length h.messages ≤ length (after_fact read h fact).messages
  no-fewer (InForce text) some e = absurd (not-again text some e)
  no-fewer (Sent id at r) some e = longer h.messages (after_fact read h (Sent id at r)).messages _ refl
    where
      longer : (ms ns : List Message) (n : Message) → ns ≡ ms ++ n ∷ [] → length ms ≤ length ns
      longer ms ns n more = omega (arith, ap length more, length-append ms (n ∷ []))
  no-fewer (Played id attempt kind at) some e = omega (arith, length-map h.messages (λ (m : Message). cond (m.id == id) (record m { place = Consumed attempt }) m))
  no-fewer (Failed id attempt at) some e = omega (arith, length-map h.messages (λ (m : Message). cond (m.id == id) (record m { place = next_place m.place m.final_class at }) m))
  no-fewer (Moved app queue at ids) some e = omega (arith, length-map h.messages (λ (m : Message). cond (list_any (λ id. id == m.id) ids) (record m { place = moved_place queue at }) m))
  no-fewer (Switched app on at) some e = omega arith

  pub log-on : (fact : Fact) (lines : List LogLine) → 1 ≤ length h.facts → goes_on read h fact ≡ true → all_agree (filter_map ended_by (fact ∷ [])) lines ≡ true
      → is_log_of h lines ≡ true → is_log_of (after_fact read h fact) lines ≡ true
  log-on fact lines some e agree legal =
      log-still h (after_fact read h fact) (fact ∷ []) lines (same-catalogue fact some e) (no-fewer fact some e) (one-more fact) agree legal

  -- facts that commit nothing

  same-committed : (fact : Fact) → commits fact ≡ false → (b : ℕ) → is_committed b (ended_in (after_fact read h fact)) ≡ is_committed b (ended_in h)
  same-committed fact quiet b =
      ap (λ fs. is_committed b (filter_map ended_by fs)) (one-more fact) ∙ ap (is_committed b) (filter_map-append ended_by h.facts (fact ∷ []))
      ∙ list_any-append (λ (e : Ended). (e.attempt == b) && e.committed) (ended_in h) (filter_map ended_by (fact ∷ [])) ∙ by fact quiet
    where
      nothing : (x : Bool) → (x || false) ≡ x
      nothing true = refl
      nothing false = refl

      failed : (t x : Bool) → (x || ((t && false) || false)) ≡ x
      failed true x = nothing x
      failed false x = nothing x

      by : (fact : Fact) → commits fact ≡ false → (is_committed b (ended_in h) || is_committed b (filter_map ended_by (fact ∷ []))) ≡ is_committed b (ended_in h)
      by (InForce text) quiet = nothing (is_committed b (ended_in h))
      by (Sent id at r) quiet = nothing (is_committed b (ended_in h))
      by (Played id attempt kind at) quiet = absurd (true≢false quiet)
      by (Failed id attempt at) quiet = failed (attempt == b) (is_committed b (ended_in h))
      by (Moved app queue at ids) quiet = nothing (is_committed b (ended_in h))
      by (Switched app on at) quiet = nothing (is_committed b (ended_in h))

  same-outside : (fact : Fact) → 1 ≤ length h.facts → goes_on read h fact ≡ true → commits fact ≡ false → (after_fact read h fact).outside ≡ h.outside
  same-outside (InForce text) some e quiet = absurd (not-again text some e)
  same-outside (Sent id at r) some e quiet = refl
  same-outside (Played id attempt kind at) some e quiet = absurd (true≢false quiet)
  same-outside (Failed id attempt at) some e quiet = refl
  same-outside (Moved app queue at ids) some e quiet = refl
  same-outside (Switched app on at) some e quiet = refl

  same-puts : (fact : Fact) → commits fact ≡ false → (c : Catalogue) (lines : List LogLine) (attempts : List ℕ)
      → attempts_puts c (ended_in (after_fact read h fact)) lines attempts ≡ attempts_puts c (ended_in h) lines attempts
  same-puts fact quiet c lines [] = refl
  same-puts fact quiet c lines (a ∷ attempts) = λ i. phase_puts c lines a (same-committed fact quiet a i) ++ same-puts fact quiet c lines attempts i

  pub sound-on : (fact : Fact) (lines : List LogLine) (rows : OutsideRows) → 1 ≤ length h.facts → goes_on read h fact ≡ true → commits fact ≡ false
      → all_agree (filter_map ended_by (fact ∷ [])) lines ≡ true → IsSound h lines rows → IsSound (after_fact read h fact) lines rows
  sound-on fact lines rows some e quiet agree is = record {
    legal = log-on fact lines some e agree is.legal;
    settled = λ r k.
        (λ i. settled_rows (same-catalogue fact some e i) (ended_in (after_fact read h fact)) lines rows r k)
        ∙ (λ i. rows_after (same-puts fact quiet h.catalogue lines (unfinished lines) i) rows r k)
        ∙ is.settled r k ∙ (λ i. outside_amount (sym (same-outside fact some e quiet) i) r k);
  }

  pub left-on : (fact : Fact) (lines : List LogLine) (rows : OutsideRows) → 1 ≤ length h.facts → goes_on read h fact ≡ true → commits fact ≡ false
      → AreFinishable h lines rows (unfinished lines) → AreFinishable (after_fact read h fact) lines rows (unfinished lines)
  left-on fact lines rows some e quiet is = record {
    mine = is.mine;
    first = is.first;
    now = is.now;
    each = λ a t.
        subst (λ (c : Catalogue). IsFinishable c lines rows a (is.mine a) (is.first a) (is.now a) (is_committed a (ended_in (after_fact read h fact)))) (sym (same-catalogue fact some e))
        (subst (λ b. IsFinishable h.catalogue lines rows a (is.mine a) (is.first a) (is.now a) b) (sym (same-committed fact quiet a)) (is.each a t));
    apart = is.apart;
    settled = λ a t r k m.
        (λ i. outside_amount (same-outside fact some e quiet i) r k) ∙ is.settled a t r k m
        ∙ ap (λ b. cond b (is.now a r k) (is.first a r k)) (sym (same-committed fact quiet a));
    free = λ r k none. is.free r k none ∙ (λ i. outside_amount (sym (same-outside fact some e quiet) i) r k);
  }
