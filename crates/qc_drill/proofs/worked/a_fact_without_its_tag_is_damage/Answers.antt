use Rattle.std.proofs.Common.{◌≡◌, ◌≢◌, ℕ, List, [], ◌∷◌, take, drop, get_or, inl, inr, length, ◌≤◌, refl, sym, ap, subst, arith}
use Rattle.std.specs.Fmt.{digits}
use Rattle.std.proofs.lemmas.List.Elements.{All-nil, All-cons}
use Rattle.qc_base.specs.declared.fact.Fact.{Fact}
use Rattle.qc_base.specs.declared.fact.Fact.TheVariants.{Catalogue, Sent, Played, Failed, Moved, Switched}
use Rattle.qc_frame.specs.Frame.{size_at, size_bytes}
use Rattle.qc_journal.specs.History.{fact_payload}
use Rattle.qc_machine.specs.History.{by_text}
use Rattle.qc_machine.specs.Opening.{DamagedJournal}
use Rattle.qc_drill.specs.Worked.{untagged_journal, made_facts}
use Rattle.qc_drill.proofs.Sampled.{sample-some}
use Rattle.qc_base.specs.Spelling.{four_bytes}
use Rattle.qc_catalogue.specs.Sample.{sample}
use Rattle.std.specs.Prelude.{is_some, true, ◌&&◌}
use Rattle.qc_drill.proofs.worked.a_fact_without_its_tag_is_damage.Goals as goal

-- no fact has the tag 0
no_fact : (payload : List ℕ) → get_or payload 4 0 ≡ 0 → (fact : Fact) → payload ≢ fact_payload fact
unfolding size_bytes
no_fact payload tag (Catalogue text) e = absurd (omega (arith, tag, ap (λ (l : List ℕ). get_or l 4 0) e))
no_fact payload tag (Sent id at r) e = absurd (omega (arith, tag, ap (λ (l : List ℕ). get_or l 4 0) e))
no_fact payload tag (Played id attempt kind at) e = absurd (omega (arith, tag, ap (λ (l : List ℕ). get_or l 4 0) e))
no_fact payload tag (Failed id attempt at) e = absurd (omega (arith, tag, ap (λ (l : List ℕ). get_or l 4 0) e))
no_fact payload tag (Moved app queue at ids) e = absurd (omega (arith, tag, ap (λ (l : List ℕ). get_or l 4 0) e))
no_fact payload tag (Switched app on at) e = absurd (omega (arith, tag, ap (λ (l : List ℕ). get_or l 4 0) e))

damaged : (is_some (by_text sample) && true) ≡ true → DamagedJournal untagged_journal 1677
unfolding size_at size_bytes four_bytes
damaged some =
    let payload = take 59 (drop 1677 untagged_journal) in
    record {
      facts = made_facts;
      place = 1672;
      front = record { spelled = refl; limits = refl; legal = some; reached = refl };
      unfit = inl (record {
        payload = payload;
        next = refl;
        no_fact = λ fact within. no_fact payload refl fact;
        there = inr (drop 4 payload ∷ [], (refl, All-cons (λ (l : List ℕ). 1 ≤ length l) _ [] (omega arith) (All-nil _)), refl);
      });
    }

pub returns : goal.returns
unfolding digits
returns c = record { place = λ image is. inl (refl, subst (λ (file : List ℕ). DamagedJournal file 1677) (sym is) (damaged (sample-some c.the_sample_is_a_catalogue.ensures))); line = refl }
