-- Facts that a journal spells, read one after the other.
use Rattle.std.proofs.Common.{◌≡◌, ⊎_elim, ℕ, List, [], ◌∷◌, ◌++◌, length, map, true, false, refl, ap, sym, ◌∙◌, subst, append-nil}
use Rattle.std.specs.List.{list_all}
use Rattle.std.proofs.lemmas.Bool.{and_parts}
use Rattle.qc_base.specs.declared.fact.Fact.{Fact}
use Rattle.qc_base.specs.Spelling.{is_fact, spelled_fact}
use Rattle.qc_base.proofs.Bytes.{fronts_same}
use Rattle.qc_base.proofs.Facts.{fact-free}
use Rattle.qc_frame.specs.Frame.{size_bytes}
use Rattle.qc_frame.proofs.Groups.{length-size_bytes}
use Rattle.qc_journal.specs.History.{SpellsHistory, fact_payload}
use Rattle.qc_journal.specs.Journal.{DamagedFact}
use Rattle.qc_machine.specs.History.{History, by_text, no_facts, after_fact, after_facts, history_of, may_follow, all_follow}
use Rattle.qc_machine.specs.Opening.{DamagedJournal, NotNext}

-- a payload is one fact's alone

pub payload-one : (f g : Fact) → is_fact f ≡ true → is_fact g ≡ true → fact_payload f ≡ fact_payload g → f ≡ g
payload-one f g v w e =
    let parts = fronts_same (size_bytes (length (spelled_fact f))) (size_bytes (length (spelled_fact g))) (spelled_fact f) (spelled_fact g) (length-size_bytes (length (spelled_fact f)) ∙ sym (length-size_bytes (length (spelled_fact g)))) e in
    (fact-free f g [] [] v w (append-nil (spelled_fact f) ∙ parts.1 ∙ sym (append-nil (spelled_fact g)))).0

pub facts-one : (fs gs : List Fact) → list_all is_fact fs ≡ true → list_all is_fact gs ≡ true → map fact_payload fs ≡ map fact_payload gs → fs ≡ gs
facts-one [] [] v w e = refl
facts-one [] (g ∷ gs) v w e = absurd (none e)
  where
    none : [] ≡ fact_payload g ∷ map fact_payload gs → ⊥
    none e = cc
facts-one (f ∷ fs) [] v w e = absurd (none e)
  where
    none : fact_payload f ∷ map fact_payload fs ≡ [] → ⊥
    none e = cc
facts-one (f ∷ fs) (g ∷ gs) v w e =
    let in_f = and_parts (is_fact f) (list_all is_fact fs) v in
    let in_g = and_parts (is_fact g) (list_all is_fact gs) w in
    let head : fact_payload f ≡ fact_payload g = cc in
    let tail : map fact_payload fs ≡ map fact_payload gs = cc in
    let one = payload-one f g in_f.0 in_g.0 head in
    let all = facts-one fs gs in_f.1 in_g.1 tail in
    λ i. one i ∷ all i

-- where a legal history goes on behind these facts, the next payload is a fact that may follow

pub record GoesOn (h : History) (payload : List ℕ) : Type 0 where
  pub fact : Fact
  pub is : payload ≡ fact_payload fact
  pub limits : is_fact fact ≡ true
  pub follows : may_follow by_text h fact ≡ true

pub goes-on : (h : History) (fs gs : List Fact) (payload : List ℕ) (rest : List (List ℕ)) → list_all is_fact fs ≡ true → list_all is_fact gs ≡ true → all_follow by_text h gs ≡ true → map fact_payload gs ≡ map fact_payload fs ++ payload ∷ rest
    → GoesOn (after_facts by_text h fs) payload
goes-on h [] [] payload rest v w legal e = absurd (none e)
  where
    none : [] ≡ payload ∷ rest → ⊥
    none e = cc
goes-on h (f ∷ fs) [] payload rest v w legal e = absurd (none e)
  where
    none : [] ≡ fact_payload f ∷ (map fact_payload fs ++ payload ∷ rest) → ⊥
    none e = cc
goes-on h [] (g ∷ gs) payload rest v w legal e =
    let head : fact_payload g ≡ payload = cc in
    record {
      fact = g;
      is = sym head;
      limits = (and_parts (is_fact g) (list_all is_fact gs) w).0;
      follows = (and_parts (may_follow by_text h g) (all_follow by_text (after_fact by_text h g) gs) legal).0;
    }
goes-on h (f ∷ fs) (g ∷ gs) payload rest v w legal e =
    let in_f = and_parts (is_fact f) (list_all is_fact fs) v in
    let in_g = and_parts (is_fact g) (list_all is_fact gs) w in
    let head : fact_payload g ≡ fact_payload f = cc in
    let tail : map fact_payload gs ≡ map fact_payload fs ++ payload ∷ rest = cc in
    let one : g ≡ f = payload-one g f in_g.0 in_f.0 head in
    let later : all_follow by_text (after_fact by_text h f) gs ≡ true
    = subst (λ (x : Fact). all_follow by_text (after_fact by_text h x) gs ≡ true) one (and_parts (may_follow by_text h g) (all_follow by_text (after_fact by_text h g) gs) legal).1 in
    goes-on (after_fact by_text h f) fs gs payload rest in_f.1 in_g.1 later tail

-- a damaged journal spells no legal history
pub no-history : (file : List ℕ) (at : ℕ) → DamagedJournal file at → (gs : List Fact) → SpellsHistory file gs → all_follow by_text no_facts gs ≡ true → ⊥
no-history file at d gs spells legal =
    ⊎_elim
    (λ (bad : DamagedFact file d.place at).
    let more = goes-on no_facts d.facts gs bad.payload _ d.front.limits spells.limits legal (sym spells.groups ∙ d.front.spelled ∙ ap (λ (l : List (List ℕ)). map fact_payload d.facts ++ l) bad.next) in
    bad.no_fact more.fact more.limits more.is)
    (λ (bad : NotNext file d.place at d.facts).
    let more = goes-on no_facts d.facts gs (fact_payload bad.fact) bad.rest d.front.limits spells.limits legal (sym spells.groups ∙ d.front.spelled ∙ ap (λ (l : List (List ℕ)). map fact_payload d.facts ++ l) bad.next) in
    let one = payload-one bad.fact more.fact bad.limits more.limits more.is in
    true_not_false (sym more.follows ∙ ap (λ (f : Fact). may_follow by_text (history_of by_text d.facts) f) (sym one) ∙ bad.refused))
    d.unfit
  where
    true_not_false : true ≡ false → ⊥
    true_not_false e = cc
