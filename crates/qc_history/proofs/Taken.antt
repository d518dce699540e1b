-- What the tests of a fact that was read tell.
use Rattle.std.proofs.Common.{◌≡◌, ◌≤◌, ℕ, ◌&&◌, leb, leb-true, ◌∙◌, List, Bool, true, false, not, length, sym, ap, Option, Some, None, is_some, option_map, refl}
use Rattle.std.specs.List.{list_all}
use Rattle.std.specs.Prelude.{is_none}
use Rattle.std.proofs.lemmas.Bool.{and_parts, false≢true}
use Rattle.qc_base.specs.declared.fact.Fact.TheVariants.{Sent, Moved}
use Rattle.qc_base.specs.declared.message.Message.{Message}
use Rattle.qc_base.specs.declared.recording.Recording.{Recording}
use Rattle.qc_base.specs.Names.{is_name}
use Rattle.qc_base.specs.Spelling.{are_calls, is_between, is_fact, is_id, is_moment, is_recorded, is_recording}
use Rattle.qc_machine.specs.History.{bool_eq, is_movable, no_facts}
use Rattle.qc_machine.proofs.Batches.{all-live}
use Rattle.qc_store.specs.Live.{are_live}

-- a recording has at most 64 calls
pub sent-short : (id at : ℕ) (r : Recording) → is_fact (Sent id at r) ≡ true → length r.calls ≤ 64
sent-short id at r limits =
    let spelled = and_parts (is_recorded r) _ (and_parts (is_moment at) (is_recording r) (and_parts (is_id id) (is_moment at && is_recording r) limits).1).1 in
    let named = and_parts (is_name r.component) (are_calls r.calls) (and_parts (is_name r.app) (is_name r.component && are_calls r.calls) spelled.0).1 in
    leb-true (length r.calls) 64 (and_parts (leb 1 (length r.calls)) (leb (length r.calls) 64) (and_parts (is_between 1 64 (length r.calls)) _ named.1).0).1

-- a message is moved to one of the queues 0 to 5, or to the dead queue, which is 6
pub moved-queue : (app : List ℕ) (queue at : ℕ) (ids : List ℕ) → is_fact (Moved app queue at ids) ≡ true → queue ≤ 6
moved-queue app queue at ids limits = leb-true queue 6 (and_parts (leb queue 6) _ (and_parts (is_name app) _ limits).1).0

-- what may be moved isn't consumed
pub moved-live : (app ids : List ℕ) (ms : List Message) → list_all (is_movable app ms) ids ≡ true → are_live ids ms ≡ true
moved-live app ids ms e = all-live (record no_facts { messages = ms }) app ids e

-- a look-up that is tested
pub looked-up : {A B : Type 0} (f : A → B) (o : Option A) (found : Option B) (b : Bool) → option_map f o ≡ found → is_none o ≡ b → is_some found ≡ not b
looked-up {B = B} f None found b same e = ap (λ (x : Option B). is_some x) (sym same) ∙ ap not e
looked-up {B = B} f (Some x) found b same e = ap (λ (x : Option B). is_some x) (sym same) ∙ ap not e

pub test-differs : (a b : Bool) → (a ≡ b → ⊥) → bool_eq b a ≡ false
test-differs true true differ = absurd (differ refl)
test-differs true false differ = refl
test-differs false true differ = refl
test-differs false false differ = absurd (differ refl)

pub test-same : (a b : Bool) → a ≡ b → bool_eq b a ≡ true
test-same true true e = refl
test-same true false e = absurd (false≢true (sym e))
test-same false true e = absurd (false≢true e)
test-same false false e = refl
