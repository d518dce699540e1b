-- The batches of a move, one after another.
use Rattle.std.proofs.Common.{◌≡◌, ◌∙◌, inl, inr, ℕ, ◌+◌, ◌*◌, ◌≤◌, zero, suc, List, [], ◌∷◌, ◌++◌, Bool, true, false, not, cond, ◌&&◌, length, flat_map, take, drop, refl, ap, arith, length-drop, length-take, take-append-drop, Option, Some, None, option_and_then}
use Rattle.std.specs.List.{list_all}
use Rattle.std.specs.Option.{option_map_or}
use Rattle.std.specs.Str.{bytes_eq}
use Rattle.std.proofs.lemmas.Bool.{and_parts, and_right}
use Rattle.qc_base.specs.declared.fact.Fact.{Fact}
use Rattle.qc_base.specs.declared.fact.Fact.TheVariants.{Moved}
use Rattle.qc_base.specs.declared.message.Message.{Message}
use Rattle.qc_base.specs.Messages.{is_consumed, message_of}
use Rattle.qc_journal.proofs.Lengths.{length-moved}
use Rattle.qc_store.specs.Live.{is_live, are_live, live_message, unless_consumed}
use Rattle.qc_machine.specs.History.{History, is_live_of, is_movable}
use Rattle.qc_machine.specs.Moving.{AreOfSize, cut, batches, with_new_facts, behind_each}
use Rattle.qc_machine.specs.State.{State, with_new_fact, fact_room}
use Rattle.qc_machine.specs.Steps.{Among}
use Rattle.qc_machine.proofs.Bools.{and-both, and-true}

-- batches end with the ids, however many more there might be
cut-same : (n k size : ℕ) (ids : List ℕ) → 1 ≤ size → length ids ≤ n → length ids ≤ k → cut n size ids ≡ cut k size ids
cut-same zero zero size ids some a b = refl
cut-same zero (suc k) size [] some a b = refl
cut-same zero (suc k) size (id ∷ ids) some a b = absurd (omega (arith, a))
cut-same (suc n) zero size [] some a b = refl
cut-same (suc n) zero size (id ∷ ids) some a b = absurd (omega (arith, b))
cut-same (suc n) (suc k) size [] some a b = refl
cut-same (suc n) (suc k) size (id ∷ ids) some a b =
    ap (λ more. take size (id ∷ ids) ∷ more) (cut-same n k size (drop size (id ∷ ids)) some (omega (arith, a, some, length-drop size (id ∷ ids))) (omega (arith, b, some, length-drop size (id ∷ ids))))

-- the first batch, and those of the ids behind it
pub batches-first : (size : ℕ) (ids : List ℕ) → 1 ≤ size → 1 ≤ length ids → batches size ids ≡ take size ids ∷ batches size (drop size ids)
batches-first size [] some there = absurd (omega (arith, there))
batches-first size (id ∷ ids) some there =
    ap (λ more. take size (id ∷ ids) ∷ more) (cut-same (length ids) (length (drop size (id ∷ ids))) size (drop size (id ∷ ids)) some (omega (arith, some, length-drop size (id ∷ ids))) (omega arith))

-- all batches together

joined : (n size : ℕ) (ids : List ℕ) → 1 ≤ size → length ids ≤ n → flat_map (λ batch. batch) (cut n size ids) ≡ ids
joined zero size [] some few = refl
joined zero size (id ∷ ids) some few = absurd (omega (arith, few))
joined (suc n) size [] some few = refl
joined (suc n) size (id ∷ ids) some few =
    ap (λ more. take size (id ∷ ids) ++ more) (joined n size (drop size (id ∷ ids)) some (omega (arith, few, some, length-drop size (id ∷ ids)))) ∙ take-append-drop size (id ∷ ids)

pub batches-joined : (size : ℕ) (ids : List ℕ) → 1 ≤ size → flat_map (λ batch. batch) (batches size ids) ≡ ids
batches-joined size ids some = joined (length ids) size ids some (omega arith)

-- batches are cut of some ids alone
cut-some : (n size : ℕ) (ids : List ℕ) → 1 ≤ length (cut n size ids) → 1 ≤ length ids
cut-some zero size ids e = absurd (omega (arith, e))
cut-some (suc n) size [] e = absurd (omega (arith, e))
cut-some (suc n) size (id ∷ ids) e = omega arith

one-more : (size : ℕ) (ids : List ℕ) (more : List (List ℕ)) → 1 ≤ size → 1 ≤ length ids → (1 ≤ length more → 1 ≤ length (drop size ids)) → AreOfSize size more → AreOfSize size (take size ids ∷ more)
one-more size ids [] some there left sizes = (omega (arith, some, there, length-take size ids), omega (arith, length-take size ids))
one-more size ids (batch ∷ more) some there left sizes = (omega (arith, left (omega arith), length-take size ids, length-drop size ids), sizes)

of-size : (n size : ℕ) (ids : List ℕ) → 1 ≤ size → AreOfSize size (cut n size ids)
of-size zero size ids some = tt
of-size (suc n) size [] some = tt
of-size (suc n) size (id ∷ ids) some =
    one-more size (id ∷ ids) (cut n size (drop size (id ∷ ids))) some (omega arith) (cut-some n size (drop size (id ∷ ids))) (of-size n size (drop size (id ∷ ids)) some)

pub batches-of-size : (size : ℕ) (ids : List ℕ) → 1 ≤ size → AreOfSize size (batches size ids)
batches-of-size size ids some = of-size (length ids) size ids some

-- facts behind one another

pub facts-append : (done left : List Fact) (s : State) → with_new_facts (done ++ left) s ≡ with_new_facts left (with_new_facts done s)
facts-append [] left s = refl
facts-append (fact ∷ done) left s = facts-append done left (with_new_fact fact s)

-- facts change the history and the journal alone
pub facts-alone : (facts : List Fact) (s : State) → with_new_facts facts s ≡ record s { history = (with_new_facts facts s).history; journal = (with_new_facts facts s).journal }
facts-alone [] s = refl
facts-alone (fact ∷ facts) s = facts-alone facts (with_new_fact fact s)

-- the state behind the first of the facts is one in the midst of the step
pub front-midst : (done left : List Fact) (s : State) → 1 ≤ length done → Among (behind_each (done ++ left) s) (with_new_facts done s)
front-midst [] left s some = absurd (omega (arith, some))
front-midst (fact ∷ []) left s some = inl refl
front-midst (fact ∷ next ∷ done) left s some = inr (front-midst (next ∷ done) left (with_new_fact fact s) (omega arith))

-- what a batch adds to the journal
pub moved-room : (app ids : List ℕ) (queue at : ℕ) → fact_room (Moved app queue at ids) ≡ 22 + length app + 8 * length ids
moved-room app ids queue at = omega (arith, length-moved app ids queue at)

-- what may be moved is live

pub may-move-live : (h : History) (app : List ℕ) (id : ℕ) → is_movable app h.messages id ≡ option_map_or (λ (m : Message). bytes_eq m.recording.app app) (live_message id h.messages) false
may-move-live h app id = by (message_of id h.messages)
  where
    spent : (m : Message) (b : Bool) → (bytes_eq m.recording.app app && not b) ≡ option_map_or (λ (x : Message). bytes_eq x.recording.app app) (cond b None (Some m)) false
    spent m true = and_right (bytes_eq m.recording.app app) false refl
    spent m false = and-true (bytes_eq m.recording.app app)

    by : (o : Option Message) → option_map_or (is_live_of app) o false ≡ option_map_or (λ (m : Message). bytes_eq m.recording.app app) (option_and_then unless_consumed o) false
    by None = refl
    by (Some m) = spent m (is_consumed m.place)

live-one : (h : History) (app : List ℕ) (id : ℕ) → is_movable app h.messages id ≡ true → is_live id h.messages ≡ true
live-one h app id e = by (message_of id h.messages) e
  where
    by : (o : Option Message) → option_map_or (is_live_of app) o false ≡ true → option_map_or (λ (m : Message). not (is_consumed m.place)) o false ≡ true
    by None e = e
    by (Some m) e = (and_parts (bytes_eq m.recording.app app) _ e).1

pub all-live : (h : History) (app ids : List ℕ) → list_all (is_movable app h.messages) ids ≡ true → are_live ids h.messages ≡ true
all-live h app [] e = refl
all-live h app (id ∷ ids) e =
    let parts = and_parts (is_movable app h.messages id) _ e in
    and-both (is_live id h.messages) _ (live-one h app id parts.0) (all-live h app ids parts.1)
