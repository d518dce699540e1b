-- What players hold, behind each change of a state.
use Rattle.std.proofs.Common.{◌≡◌, ◌∙◌, ◌⊎◌, ⊎_elim, ℕ, ◌-◌, ◌==◌, max, List, Bool, false, length, slice_get, refl, sym, ap, arith, true≢false, Option, Some, None, ne_eqb}
use Rattle.std.proofs.lemmas.Bool.{eqb-false, false_from_ne_true}
use Rattle.qc_base.specs.declared.fact.Fact.TheVariants.{Moved, Sent, Switched}
use Rattle.qc_base.specs.declared.recording.Recording.{Recording}
use Rattle.qc_play.specs.Play.{rows_in}
use Rattle.qc_machine.specs.History.{with_fact}
use Rattle.qc_machine.specs.Holding.{has_row, Holds, IsHeldIn, IsHeldByNone, AreApart, AreHeld}
use Rattle.qc_machine.specs.State.{State, HeldAttempt, at_moment, set_slot, with_new_fact}
use Rattle.qc_machine.proofs.Beside.{aside-same, fact-aside, found-append, held-aside}
use Rattle.qc_machine.proofs.Moved.{not-moved}
use Rattle.qc_machine.proofs.PlayerSlots.{got-set, set-length}

eq-flip : (a b : ℕ) → (a == b) ≡ false → (b == a) ≡ false
eq-flip a b e = ne_eqb b a (λ h. eqb-false a b e (sym h))

pub apart-flip : (a b : HeldAttempt) → AreApart a b → AreApart b a
apart-flip a b apart = record {
  ids = eq-flip a.id b.id apart.ids;
  attempts = eq-flip a.attempt b.attempt apart.attempts;
  rows = λ r t. false_from_ne_true (has_row (rows_in a.play.view) r) (λ u. true≢false (sym t ∙ apart.rows r u));
}

-- the same players, each of them as it was
pub held-on : (s t : State) → t.players ≡ s.players → ((c : HeldAttempt) → IsHeldIn s.history s.last c → IsHeldIn t.history t.last c) → AreHeld s → AreHeld t
held-on s t same on held = record {
  slots = ap length same ∙ held.slots;
  held = λ i a h. on a (held.held i a (back i a h));
  apart = λ i j a b other h g. held.apart i j a b other (back i a h) (back j b g);
}
  where
    back : (i : ℕ) (a : HeldAttempt) → Holds t i a → Holds s i a
    back i a h = ap (λ l. slice_get l i) (sym same) ∙ h

-- One slot is set. What it holds then, if it does, is held so, and apart from all others, which are held as they were.
pub held-set : (s t : State) (n : ℕ) (v : Option HeldAttempt) → t.players ≡ set_slot n v s.players → AreHeld s
    → ((j : ℕ) (c : HeldAttempt) → (j ≡ n - 1 → ⊥) → Holds s j c → IsHeldIn t.history t.last c)
    → ((b : HeldAttempt) → v ≡ Some b → IsHeldIn t.history t.last b × ((j : ℕ) (c : HeldAttempt) → (j ≡ n - 1 → ⊥) → Holds s j c → AreApart b c))
    → AreHeld t
held-set s t n v same held others own = record {
  slots = ap length same ∙ set-length s.players (n - 1) v ∙ held.slots;
  held = λ i a h. ⊎_elim (λ (e : (i ≡ n - 1) × (Some a ≡ v)). (own a (sym e.1)).0) (λ (e : (i ≡ n - 1 → ⊥) × Holds s i a). others i a e.0 e.1) (back i a h);
  apart = λ i j a b other h g. both i j a b other (back i a h) (back j b g);
}
  where
    back : (i : ℕ) (a : HeldAttempt) → Holds t i a → ((i ≡ n - 1) × (Some a ≡ v)) ⊎ ((i ≡ n - 1 → ⊥) × Holds s i a)
    back i a h = got-set s.players (n - 1) i v (Some a) (ap (λ l. slice_get l i) (sym same) ∙ h)

    both : (i j : ℕ) (a b : HeldAttempt) → (i ≡ j → ⊥) → ((i ≡ n - 1) × (Some a ≡ v)) ⊎ ((i ≡ n - 1 → ⊥) × Holds s i a) → ((j ≡ n - 1) × (Some b ≡ v)) ⊎ ((j ≡ n - 1 → ⊥) × Holds s j b) → AreApart a b
    both i j a b other h g =
        ⊎_elim
        (λ (e : (i ≡ n - 1) × (Some a ≡ v)). ⊎_elim (λ (f : (j ≡ n - 1) × (Some b ≡ v)). absurd (other (e.0 ∙ sym f.0))) (λ (f : (j ≡ n - 1 → ⊥) × Holds s j b). (own a (sym e.1)).1 j b f.0 f.1) g)
        (λ (e : (i ≡ n - 1 → ⊥) × Holds s i a). ⊎_elim (λ (f : (j ≡ n - 1) × (Some b ≡ v)). apart-flip b a ((own b (sym f.1)).1 i a e.0 e.1)) (λ (f : (j ≡ n - 1 → ⊥) × Holds s j b). held.apart i j a b other e.1 f.1) g)
        h

-- a slot is free again
pub held-freed : (s t : State) (n : ℕ) → t.players ≡ set_slot n None s.players → AreHeld s → ((j : ℕ) (c : HeldAttempt) → (j ≡ n - 1 → ⊥) → Holds s j c → IsHeldIn t.history t.last c) → AreHeld t
held-freed s t n same held others = held-set s t n None same held others none
  where
    none : (b : HeldAttempt) → None ≡ Some b → IsHeldIn t.history t.last b × ((j : ℕ) (c : HeldAttempt) → (j ≡ n - 1 → ⊥) → Holds s j c → AreApart b c)
    none b e = cc

-- behind moments, messages that are sent, and switches

pub held-later : (t : ℕ) (s : State) → AreHeld s → AreHeld (at_moment t s)
held-later t s held = held-on s (at_moment t s) refl (λ c is. held-aside s.history s.history c (aside-same s.history c) s.last (max t s.last) (omega arith) is) held

pub held-sent : (s : State) (id at : ℕ) (r : Recording) → AreHeld s → AreHeld (with_new_fact (Sent id at r) s)
held-sent s id at r held =
    held-on s (with_new_fact (Sent id at r) s) refl
    (λ c is. held-aside s.history (with_fact (Sent id at r) s.history) c
    (fact-aside s.history (Sent id at r) c refl refl (λ m e. found-append c.id s.history.messages _ m e) (λ r t. refl)) s.last s.last (omega arith) is) held

pub held-switched : (s : State) (app : List ℕ) (on : Bool) (at : ℕ) → AreHeld s → AreHeld (with_new_fact (Switched app on at) s)
held-switched s app on at held =
    held-on s (with_new_fact (Switched app on at) s) refl
    (λ c is. held-aside s.history (with_fact (Switched app on at) s.history) c
    (fact-aside s.history (Switched app on at) c refl refl (λ m e. e) (λ r t. refl)) s.last s.last (omega arith) is) held

-- behind a move of messages that no attempt holds

pub held-moved : (s : State) (app : List ℕ) (queue at : ℕ) (ids : List ℕ) → IsHeldByNone s ids → AreHeld s → AreHeld (with_new_fact (Moved app queue at ids) s)
held-moved s app queue at ids free held = record {
  slots = held.slots;
  held = λ i a there.
      held-aside s.history (with_fact (Moved app queue at ids) s.history) a
      (fact-aside s.history (Moved app queue at ids) a refl refl (λ m e. not-moved ids queue at a.id s.history.messages (free i a there) ∙ e) (λ r t. refl)) s.last s.last (omega arith) (held.held i a there);
  apart = held.apart;
}
