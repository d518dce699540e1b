-- What the players' slots hold, by the machine's slots.
use Rattle.std.proofs.Common.{◌≡◌, ◌∙◌, ⊎_elim, ℕ, zero, suc, ◌-◌, ◌<◌, List, [], ◌∷◌, ◌++◌, true, false, leb, leb-true, length, get_or, replicate, slice_get, slice_set, refl, sym, ap, subst, arith, Option, Some, None, option_map, option_and_then}
use Rattle.std.specs.List.{list_any}
use Rattle.std.proofs.lemmas.Bool.{and_parts}
use Rattle.std.proofs.lemmas.List.{map-set, length-set, length-replicate}
use Rattle.std.proofs.lemmas.Option.{slice_get-map, slice_get_read}
use Rattle.qc_catalogue.specs.declared.catalogue.Catalogue.{Catalogue}
use Rattle.qc_txn.specs.Attempt.{AttemptView}
use Rattle.qc_txn.proofs.PartsAt.{nothing_at}
use Rattle.qc_rows.specs.Holdings.{Holding, released}
use Rattle.qc_machine.specs.Sites.{no_players}
use Rattle.qc_machine.specs.Slots.{is_slot}
use Rattle.qc_machine.specs.State.{HeldAttempt, in_slot, set_slot}
use Rattle.qc_machine.proofs.Recorders.{got-set, in-list, in-slot}
use Rattle.qc_players.specs.Players.{ArePlayedBy, ArePlayers, IsPlayedBy, has_number, held_of, players_of}
use Rattle.qc_players.proofs.Holdings.{holding, holdings_at, freed-differ, freed-held, kept-differ, kept-held, more-differ, more-same, none-differ, none-held, released-same}

-- a slot, as the machine sees it
pub slot-held : (slots : List (Option AttemptView)) (n : ℕ) → in_slot n (players_of slots) ≡ option_map held_of (in_slot n slots)
slot-held slots n = ap (option_and_then (λ o. o)) (slice_get-map (option_map held_of) slots (n - 1)) ∙ by (slice_get slots (n - 1))
  where
    by : (o : Option (Option AttemptView)) → option_and_then (λ o. o) (option_map (option_map held_of) o) ≡ option_map held_of (option_and_then (λ o. o) o)
    by None = refl
    by (Some o) = refl

-- the attempt in a slot in which the machine sees one
pub held-there : (slots : List (Option AttemptView)) (n : ℕ) (h : HeldAttempt) → in_slot n (players_of slots) ≡ Some h → (a : AttemptView) × (in_slot n slots ≡ Some a) × (held_of a ≡ h)
held-there slots n h is = by (in_slot n slots) refl (sym (slot-held slots n) ∙ is)
  where
    by : (o : Option AttemptView) → in_slot n slots ≡ o → option_map held_of o ≡ Some h → (a : AttemptView) × (in_slot n slots ≡ Some a) × (held_of a ≡ h)
    by None f e = cc
    by (Some a) f e = let same : held_of a ≡ h = cc in (a, f, same)

-- the place of a slot, what is read there, and a slot that is free

within : (slots : List (Option AttemptView)) (n : ℕ) → is_slot n ≡ true → length slots ≡ 16 → n - 1 < length slots
within slots n slot many =
    let parts = and_parts (leb 1 n) (leb n 16) slot in
    omega (arith, leb-true 1 n parts.0, leb-true n 16 parts.1, many)

pub read-slot : (slots : List (Option AttemptView)) (n : ℕ) (o : Option AttemptView) → is_slot n ≡ true → length slots ≡ 16 → o ≡ get_or slots (n - 1) o → slice_get slots (n - 1) ≡ Some o
read-slot slots n o slot many read = slice_get_read slots (length slots) (n - 1) o refl (within slots n slot many) read

pub free-slot : (slots : List (Option AttemptView)) (n : ℕ) → is_slot n ≡ true → length slots ≡ 16 → in_slot n (players_of slots) ≡ None → slice_get slots (n - 1) ≡ Some None
free-slot slots n slot many none = by (slice_get slots (n - 1)) refl (sym (slot-held slots n) ∙ none)
  where
    by : (o : Option (Option AttemptView)) → slice_get slots (n - 1) ≡ o → option_map held_of (option_and_then (λ o. o) o) ≡ None → slice_get slots (n - 1) ≡ Some None
    by None at e = absurd (nothing_at slots (n - 1) at (within slots n slot many))
    by (Some None) at e = at
    by (Some (Some a)) at e = cc

-- a slot that is set, as the machine sees it
pub set-held : (slots : List (Option AttemptView)) (n : ℕ) (o : Option AttemptView) → players_of (set_slot n o slots) ≡ set_slot n (option_map held_of o) (players_of slots)
set-held slots n o = map-set (option_map held_of) slots (n - 1) o

-- attempts that are played by the catalogue

pub set-played : (c : Catalogue) (slots : List (Option AttemptView)) (n : ℕ) (o : Option AttemptView) → ArePlayedBy c slots → ((a : AttemptView) → o ≡ Some a → IsPlayedBy c a) → ArePlayedBy c (set_slot n o slots)
set-played c slots n o all one m a is =
    ⊎_elim (λ (e : Some a ≡ o). one a (sym e)) (λ e. all m a (in-slot slots m a e)) (got-set slots (n - 1) (m - 1) o (Some a) (in-list (set_slot n o slots) m a is))

pub put-played : (c : Catalogue) (slots : List (Option AttemptView)) (n : ℕ) (a : AttemptView) → ArePlayedBy c slots → IsPlayedBy c a → ArePlayedBy c (set_slot n (Some a) slots)
put-played c slots n a all one = set-played c slots n (Some a) all (λ x e. let same : a ≡ x = cc in subst (IsPlayedBy c) same one)

pub freed-played : (c : Catalogue) (slots : List (Option AttemptView)) (n : ℕ) → ArePlayedBy c slots → ArePlayedBy c (set_slot n None slots)
freed-played c slots n all = set-played c slots n None all (λ x e. cc)

-- no slot holds anything

none-there : {A : Type 0} (k i : ℕ) (a : A) → slice_get (replicate k None) i ≡ Some (Some a) → ⊥
none-there zero i a e = cc
none-there {A = A} (suc k) zero a e = let same : ◌≡◌ {A = Option A} None (Some a) = cc in cc
none-there (suc k) (suc i) a e = none-there k i a e

pub none-played : (c : Catalogue) (slots : List (Option AttemptView)) → players_of slots ≡ no_players → ArePlayedBy c slots
none-played c slots none n a is =
    let there = slot-held slots n ∙ ap (option_map held_of) is in
    absurd (none-there 16 (n - 1) (held_of a) (in-list no_players n (held_of a) (ap (in_slot n) (sym none) ∙ there)))

-- The slots with what is kept beside them.

pub are-none : (slots : List (Option AttemptView)) (held : List Holding) → slots ≡ replicate 16 None → held ≡ [] → ArePlayers slots held
are-none slots held none nothing = subst (λ (xs : List (Option AttemptView)). ArePlayers xs held) (sym none) (record {
  many = length-replicate {A = Option AttemptView} 16 None;
  same = λ p. ap (list_any p) nothing ∙ ap (list_any p) (sym (none-held 16));
  differ = none-differ 16;
})

module _ (slots : List (Option AttemptView)) (held : List Holding) (all : ArePlayers slots held) (i : ℕ) where
  pub are-kept : (a b : AttemptView) → slice_get slots i ≡ Some (Some a) → holding b ≡ holding a → ArePlayers (slice_set slots i (Some b)) held
  are-kept a b at e = record {
    many = length-set slots i (Some b) ∙ all.many;
    same = λ p. all.same p ∙ ap (list_any p) (sym (kept-held slots i a b at e));
    differ = kept-differ slots i a b at e all.differ;
  }

  pub are-more : (a : AttemptView) → slice_get slots i ≡ Some None → has_number a.number (holdings_at slots) ≡ false → ArePlayers (slice_set slots i (Some a)) (held ++ holding a ∷ [])
  are-more a at new = record {
    many = length-set slots i (Some a) ∙ all.many;
    same = more-same held slots i a at all.same;
    differ = more-differ slots i a at new all.differ;
  }

  pub are-freed : (a : AttemptView) → slice_get slots i ≡ Some (Some a) → ArePlayers (slice_set slots i None) (released a.number held)
  are-freed a at = record {
    many = length-set slots i None ∙ all.many;
    same = λ p. released-same a.number held (holdings_at slots) all.same p ∙ ap (list_any p) (freed-held slots i a at all.differ);
    differ = freed-differ slots i all.differ;
  }
