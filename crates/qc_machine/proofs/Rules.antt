-- What holds of every step, by the order.
use Rattle.std.proofs.Common.{◌≡◌, ◌≤◌, ℕ, List, [], ◌∷◌, ◌++◌, Bool, true, false, cond, refl, sym, ap, subst, ◌∙◌, ⊎_elim, arith, append-nil, append_assoc, Option, Some, None, Ok, Err}
use Rattle.std.specs.declared.result.Result.{Result}
use Rattle.qc_base.specs.declared.fact.Fact.{Fact}
use Rattle.qc_protocol.specs.declared.order.Act.{Act}
use Rattle.qc_protocol.specs.declared.order.Act.TheVariants.{OpenSlot, CallSlot, CommitSlot, CancelSlot, Send, Take, Work, End, Phase, Play, Move, Switch, Queues, Table, Outside}
use Rattle.qc_protocol.specs.declared.order.Order.{Order}
use Rattle.qc_base.specs.declared.log_line.Why.{Why}
use Rattle.qc_base.specs.declared.log_line.Why.TheVariants.{Step as AtStep, Forced, NotReady}
use Rattle.qc_base.specs.declared.message.Message.{Message}
use Rattle.qc_base.specs.declared.recording.Recording.{Recording}
use Rattle.qc_protocol.specs.declared.reply.Refusal.{Refusal}
use Rattle.qc_protocol.specs.declared.reply.Reply.TheVariants.{Refused}
use Rattle.qc_machine.specs.Laws.{GoesOn}
use Rattle.qc_recorder.specs.Recording.{begun}
use Rattle.qc_machine.specs.Recorded.{called_by, recording_sent}
use Rattle.qc_machine.specs.Recording.{open_step, call_step, cancel_step}
use Rattle.qc_machine.specs.Refuse.{is_of_line}
use Rattle.qc_machine.specs.Sending.{fact_sent, send_step}
use Rattle.qc_machine.specs.Attempts.{chosen_message, parts_held}
use Rattle.qc_machine.specs.Playing.{after_end, after_work, end_in, end_reply, ended_attempt, fact_of_end, on_held, phase_in, play_reply, play_step, why_ended, work_in, work_on, work_reply}
use Rattle.qc_machine.specs.Moving.{Route, route, facts_moved, with_new_facts, behind_each, move_step}
use Rattle.qc_machine.specs.State.{State, HeldAttempt, at_moment, in_slot, with_client, with_new_fact, with_player}
use Rattle.qc_machine.specs.Switching.{fact_switched}
use Rattle.qc_machine.specs.Taking.{new_attempt, take_step}
use Rattle.qc_machine.specs.Step.{step, step_of, answer, refusal}
use Rattle.qc_machine.specs.Steps.{Step, Among, IsBetween}

-- an order that isn't refused goes on from a state, at no earlier moment, and has another reply
record Later (s t : State) : Type 0 where
  last : s.last ≤ t.last
  more : List Fact
  facts : t.history.facts ≡ s.history.facts ++ more

stays : (s : State) → Later s s
stays s = record { last = omega arith; more = []; facts = sym (append-nil s.history.facts) }

sends : (s : State) (o : Option Recording) → Later s (send_step s o).state
sends s None = stays s
sends s (Some r) = record { last = omega arith; more = fact_sent s r ∷ []; facts = refl }

with-slot : (s : State) (n : ℕ) (o : Option Recording) → Later s (with_client n o s)
with-slot s n o = record { last = omega arith; more = []; facts = sym (append-nil s.history.facts) }

opens : (s : State) (n : ℕ) (answer : Result Recording Refusal) → Later s (open_step s n answer).state
opens s n (Ok r) = with-slot s n (Some r)
opens s n (Err refusal) = stays s

calls-on : (s : State) (n : ℕ) (o : Option (Result Recording Refusal)) → Later s (call_step s n o).state
calls-on s n None = stays s
calls-on s n (Some (Ok r)) = with-slot s n (Some r)
calls-on s n (Some (Err refusal)) = stays s

cancels : (s : State) (n : ℕ) (o : Option Recording) → Later s (cancel_step s n o).state
cancels s n None = stays s
cancels s n (Some r) = with-slot s n None

commits : (s : State) (n : ℕ) (o : Option Recording) → Later s (send_step (with_client n None s) o).state
commits s n o = let on = sends (with_client n None s) o in record { last = omega (arith, on.last); more = on.more; facts = on.facts }

with-held : (s : State) (n : ℕ) (o : Option HeldAttempt) → Later s (with_player n o s)
with-held s n o = record { last = omega arith; more = []; facts = sym (append-nil s.history.facts) }

takes : (s : State) (n : ℕ) (o : Option Message) → Later s (take_step s n o).state
takes s n None = stays s
takes s n (Some m) = with-held s n (Some (new_attempt s m))

-- an attempt ends, whatever the slot holds then
with-end : (s : State) (n : ℕ) (o : Option HeldAttempt) (a : HeldAttempt) (why : Option Why) → Later s (with_player n o (after_end why a s))
with-end s n o a why = record { last = omega arith; more = fact_of_end s.last a why ∷ []; facts = refl }

ends-on : (s : State) (n : ℕ) (a : HeldAttempt) → Later s (end_in s n a).state
ends-on s n a = with-end s n (Some (ended_attempt (why_ended s.history.catalogue a) a)) a (why_ended s.history.catalogue a)

plays : (s : State) (n : ℕ) (o : Option Message) → Later s (play_step s n o).state
plays s n None = stays s
plays s n (Some m) =
    let a : HeldAttempt = new_attempt s m in
    with-end s n None a (why_ended s.history.catalogue (work_on (parts_held s.history.catalogue a) (parts_held s.history.catalogue a) a))

on-held : (s : State) (go : HeldAttempt → Step) (o : Option HeldAttempt) → ((a : HeldAttempt) → Later s (go a).state) → Later s (on_held s go o).state
on-held s go None each = stays s
on-held s go (Some a) each = each a

-- behind facts more

facts-on : (facts : List Fact) (s : State) → Later s (with_new_facts facts s)
facts-on [] s = stays s
facts-on (fact ∷ facts) s = let on = facts-on facts (with_new_fact fact s) in record { last = omega (arith, on.last); more = fact ∷ on.more; facts = on.facts ∙ append_assoc s.history.facts (fact ∷ []) on.more }

moves : (s : State) (batch : ℕ) (o : Result Route Refusal) → Later s (move_step s batch o).state
moves s batch (Ok r) = facts-on (facts_moved s batch r) s
moves s batch (Err refusal) = stays s

carried-out : (s : State) (act : Act) → Later s (step_of s act).state
carried-out s (Send app component calls) = sends s (recording_sent s (Send app component calls))
carried-out s (Queues app) = stays s
carried-out s (OpenSlot n app component) = opens s n (begun s.history.catalogue app component)
carried-out s (CallSlot n call) = calls-on s n (called_by s n call)
carried-out s (CommitSlot n) = commits s n (recording_sent s (CommitSlot n))
carried-out s (CancelSlot n) = cancels s n (in_slot n s.clients)
carried-out s (Take n app) = takes s n (chosen_message s app)
carried-out s (Work n) = on-held s (work_in s n) (in_slot n s.players) (λ a. with-held s n (Some (after_work (parts_held s.history.catalogue a) a)))
carried-out s (End n) = on-held s (end_in s n) (in_slot n s.players) (ends-on s n)
carried-out s (Phase n) = on-held s (phase_in s n) (in_slot n s.players) (λ a. with-held s n None)
carried-out s (Play n app) = plays s n (chosen_message s app)
carried-out s (Move from to batch) = moves s batch (route s.history.catalogue from to)
carried-out s (Switch app on) = record { last = omega arith; more = fact_switched s app on ∷ []; facts = refl }
carried-out s (Table name) = stays s
carried-out s (Outside name) = stays s

send-replies : (s : State) (o : Option Recording) (r : Refusal) → (send_step s o).reply ≡ Refused r → ⊥
send-replies s None r e = cc
send-replies s (Some recording) r e = cc

open-replies : (s : State) (n : ℕ) (answer : Result Recording Refusal) (r : Refusal) → (open_step s n answer).reply ≡ Refused r → ⊥
open-replies s n (Ok recording) r e = cc
open-replies s n (Err refusal) r e = cc

call-replies : (s : State) (n : ℕ) (o : Option (Result Recording Refusal)) (r : Refusal) → (call_step s n o).reply ≡ Refused r → ⊥
call-replies s n None r e = cc
call-replies s n (Some (Ok more)) r e = cc
call-replies s n (Some (Err refusal)) r e = cc

cancel-replies : (s : State) (n : ℕ) (o : Option Recording) (r : Refusal) → (cancel_step s n o).reply ≡ Refused r → ⊥
cancel-replies s n None r e = cc
cancel-replies s n (Some recording) r e = cc

take-replies : (s : State) (n : ℕ) (o : Option Message) (r : Refusal) → (take_step s n o).reply ≡ Refused r → ⊥
take-replies s n None r e = cc
take-replies s n (Some m) r e = cc

worked-replies : (o : Option Why) (number left : ℕ) (r : Refusal) → work_reply o number left ≡ Refused r → ⊥
worked-replies None number left r e = cc
worked-replies (Some (AtStep call step)) number left r e = cc
worked-replies (Some Forced) number left r e = cc
worked-replies (Some (NotReady resource)) number left r e = cc

work-replies : (s : State) (n : ℕ) (a : HeldAttempt) (r : Refusal) → (work_in s n a).reply ≡ Refused r → ⊥
work-replies s n a r e = worked-replies (after_work (parts_held s.history.catalogue a) a).why _ _ r e

end-replies : (attempt : ℕ) (why : Option Why) (r : Refusal) → end_reply attempt [] why ≡ Refused r → ⊥
end-replies attempt (Some why) r e = cc
end-replies attempt None r e = cc

played-replies : (a : HeldAttempt) (why : Option Why) (r : Refusal) → play_reply a [] why ≡ Refused r → ⊥
played-replies a (Some why) r e = cc
played-replies a None r e = cc

play-replies : (s : State) (n : ℕ) (o : Option Message) (r : Refusal) → (play_step s n o).reply ≡ Refused r → ⊥
play-replies s n None r e = cc
play-replies s n (Some m) r e = played-replies (new_attempt s m) _ r e

held-replies : (s : State) (go : HeldAttempt → Step) (o : Option HeldAttempt) → ((a : HeldAttempt) (r : Refusal) → (go a).reply ≡ Refused r → ⊥) → (r : Refusal) → (on_held s go o).reply ≡ Refused r → ⊥
held-replies s go None each r e = cc
held-replies s go (Some a) each r e = each a r e

move-replies : (s : State) (batch : ℕ) (o : Result Route Refusal) (r : Refusal) → (move_step s batch o).reply ≡ Refused r → ⊥
move-replies s batch (Ok route) r e = cc
move-replies s batch (Err refusal) r e = cc

no-refusal : (s : State) (act : Act) (r : Refusal) → (step_of s act).reply ≡ Refused r → ⊥
no-refusal s (Send app component calls) r e = send-replies s (recording_sent s (Send app component calls)) r e
no-refusal s (Queues app) r e = cc
no-refusal s (OpenSlot n app component) r e = open-replies s n (begun s.history.catalogue app component) r e
no-refusal s (CallSlot n call) r e = call-replies s n (called_by s n call) r e
no-refusal s (CommitSlot n) r e = send-replies (with_client n None s) (recording_sent s (CommitSlot n)) r e
no-refusal s (CancelSlot n) r e = cancel-replies s n (in_slot n s.clients) r e
no-refusal s (Take n app) r e = take-replies s n (chosen_message s app) r e
no-refusal s (Work n) r e = held-replies s (work_in s n) (in_slot n s.players) (λ a r f. work-replies s n a r f) r e
no-refusal s (End n) r e = held-replies s (end_in s n) (in_slot n s.players) (λ a r f. end-replies a.attempt (why_ended s.history.catalogue a) r f) r e
no-refusal s (Phase n) r e = held-replies s (phase_in s n) (in_slot n s.players) (λ a r f. cc) r e
no-refusal s (Play n app) r e = play-replies s n (chosen_message s app) r e
no-refusal s (Move from to batch) r e = move-replies s batch (route s.history.catalogue from to) r e
no-refusal s (Switch app on) r e = cc
no-refusal s (Table name) r e = cc
no-refusal s (Outside name) r e = cc

refused-by : (before s : State) (act : Act) (o : Option Refusal) (r : Refusal) → (answer before s act o).reply ≡ Refused r → (answer before s act o).state ≡ cond (is_of_line r) before s
refused-by before s act None r e = absurd (no-refusal s act r e)
refused-by before s act (Some x) r e = let same : x ≡ r = cc in ap (λ (y : Refusal). cond (is_of_line y) before s) same

moved : (t : ℕ) (s : State) → Later s (at_moment t s)
moved t s = record { last = omega arith; more = []; facts = sym (append-nil s.history.facts) }

goes-on : (t : ℕ) (s : State) (act : Act) (o : Option Refusal) → Later s (answer s (at_moment t s) act o).state
goes-on t s act None =
    let on = carried-out (at_moment t s) act in
    record { last = omega (arith, on.last); more = on.more; facts = on.facts }
goes-on t s act (Some r) = by_line (is_of_line r)
  where
    by_line : (b : Bool) → Later s (cond b s (at_moment t s))
    by_line true = stays s
    by_line false = moved t s

pub step-refused : (s : State) (order : Order) (r : Refusal) → (step s order).reply ≡ Refused r → (step s order).state ≡ cond (is_of_line r) s (at_moment order.at s)
unfolding step
step-refused s order r e = refused-by s (at_moment order.at s) order.act (refusal (at_moment order.at s) order.act) r e

pub step-moments : (s : State) (order : Order) → s.last ≤ (step s order).state.last
unfolding step
step-moments s order = (goes-on order.at s order.act (refusal (at_moment order.at s) order.act)).last

same-on : (s : State) → GoesOn s s
same-on s = record { more = []; facts = sym (append-nil s.history.facts) }

-- a state in the midst of a step, where it has one
abbrev InMidst : State → Step → State → Type 0
InMidst s t x = Among t.through x → GoesOn s x × GoesOn x t.state

at-ends : (s x : State) (t : Step) → InMidst s t x → GoesOn s t.state → IsBetween s t x → GoesOn s x × GoesOn x t.state
at-ends s x t midst on between = ⊎_elim (λ e. at-first e) (λ rest. ⊎_elim (λ a. midst a) (λ e. at-last e) rest) between
  where
    at-first : x ≡ s → GoesOn s x × GoesOn x t.state
    at-first e = subst (λ (y : State). GoesOn s y × GoesOn y t.state) (sym e) (same-on s, on)

    at-last : x ≡ t.state → GoesOn s x × GoesOn x t.state
    at-last e = subst (λ (y : State). GoesOn s y × GoesOn y t.state) (sym e) (on, same-on t.state)

none-midst : (s x : State) (t : Step) → t.through ≡ [] → InMidst s t x
none-midst s x t none a = absurd (subst (λ (l : List State). Among l x) none a)

-- behind each of the facts stand those before, and the others are yet to come
facts-midst : (facts : List Fact) (s x : State) → Among (behind_each facts s) x → GoesOn s x × GoesOn x (with_new_facts facts s)
facts-midst [] s x a = absurd a
facts-midst (fact ∷ facts) s x a = ⊎_elim (λ e. here e) (λ later. behind (facts-midst facts (with_new_fact fact s) x later)) a
  where
    here : x ≡ with_new_fact fact s → GoesOn s x × GoesOn x (with_new_facts facts (with_new_fact fact s))
    here e =
        let on = facts-on facts (with_new_fact fact s) in
        subst (λ (y : State). GoesOn s y × GoesOn y (with_new_facts facts (with_new_fact fact s))) (sym e) (record { more = fact ∷ []; facts = refl }, record { more = on.more; facts = on.facts })

    behind : GoesOn (with_new_fact fact s) x × GoesOn x (with_new_facts facts (with_new_fact fact s)) → GoesOn s x × GoesOn x (with_new_facts facts (with_new_fact fact s))
    behind on = let first = on.0 in (record { more = fact ∷ first.more; facts = first.facts ∙ append_assoc s.history.facts (fact ∷ []) first.more }, on.1)

moved-midst : (s x : State) (batch : ℕ) (o : Result Route Refusal) → InMidst s (move_step s batch o) x
moved-midst s x batch (Ok r) a = facts-midst (facts_moved s batch r) s x a
moved-midst s x batch (Err refusal) a = absurd a

sent-none : (s : State) (o : Option Recording) → (send_step s o).through ≡ []
sent-none s None = refl
sent-none s (Some r) = refl

opened-none : (s : State) (n : ℕ) (answer : Result Recording Refusal) → (open_step s n answer).through ≡ []
opened-none s n (Ok r) = refl
opened-none s n (Err refusal) = refl

called-none : (s : State) (n : ℕ) (o : Option (Result Recording Refusal)) → (call_step s n o).through ≡ []
called-none s n None = refl
called-none s n (Some (Ok r)) = refl
called-none s n (Some (Err refusal)) = refl

cancelled-none : (s : State) (n : ℕ) (o : Option Recording) → (cancel_step s n o).through ≡ []
cancelled-none s n None = refl
cancelled-none s n (Some r) = refl

taken-none : (s : State) (n : ℕ) (o : Option Message) → (take_step s n o).through ≡ []
taken-none s n None = refl
taken-none s n (Some m) = refl

played-none : (s : State) (n : ℕ) (o : Option Message) → (play_step s n o).through ≡ []
played-none s n None = refl
played-none s n (Some m) = refl

held-none : (s : State) (go : HeldAttempt → Step) (o : Option HeldAttempt) → ((a : HeldAttempt) → (go a).through ≡ []) → (on_held s go o).through ≡ []
held-none s go None each = refl
held-none s go (Some a) each = each a

in-midst : (s x : State) (act : Act) → InMidst s (step_of s act) x
in-midst s x (Send app component calls) = none-midst s x (step_of s (Send app component calls)) (sent-none s (recording_sent s (Send app component calls)))
in-midst s x (Queues app) = none-midst s x (step_of s (Queues app)) refl
in-midst s x (OpenSlot n app component) = none-midst s x (step_of s (OpenSlot n app component)) (opened-none s n (begun s.history.catalogue app component))
in-midst s x (CallSlot n call) = none-midst s x (step_of s (CallSlot n call)) (called-none s n (called_by s n call))
in-midst s x (CommitSlot n) = none-midst s x (step_of s (CommitSlot n)) (sent-none (with_client n None s) (recording_sent s (CommitSlot n)))
in-midst s x (CancelSlot n) = none-midst s x (step_of s (CancelSlot n)) (cancelled-none s n (in_slot n s.clients))
in-midst s x (Take n app) = none-midst s x (step_of s (Take n app)) (taken-none s n (chosen_message s app))
in-midst s x (Work n) = none-midst s x (step_of s (Work n)) (held-none s (work_in s n) (in_slot n s.players) (λ a. refl))
in-midst s x (End n) = none-midst s x (step_of s (End n)) (held-none s (end_in s n) (in_slot n s.players) (λ a. refl))
in-midst s x (Phase n) = none-midst s x (step_of s (Phase n)) (held-none s (phase_in s n) (in_slot n s.players) (λ a. refl))
in-midst s x (Play n app) = none-midst s x (step_of s (Play n app)) (played-none s n (chosen_message s app))
in-midst s x (Move from to batch) = moved-midst s x batch (route s.history.catalogue from to)
in-midst s x (Switch app on) = none-midst s x (step_of s (Switch app on)) refl
in-midst s x (Table name) = none-midst s x (step_of s (Table name)) refl
in-midst s x (Outside name) = none-midst s x (step_of s (Outside name)) refl

-- facts of the state before, and of the one with the moment used, are the same
answer-midst : (t : ℕ) (s x : State) (act : Act) (o : Option Refusal) → InMidst s (answer s (at_moment t s) act o) x
answer-midst t s x act None a = let on = in-midst (at_moment t s) x act a in (record { more = on.0.more; facts = on.0.facts }, on.1)
answer-midst t s x act (Some r) a = absurd a

pub step-facts : (s x : State) (order : Order) → IsBetween s (step s order) x → GoesOn s x × GoesOn x (step s order).state
unfolding step
step-facts s x order between =
    let on = goes-on order.at s order.act (refusal (at_moment order.at s) order.act) in
    at-ends s x (answer s (at_moment order.at s) order.act (refusal (at_moment order.at s) order.act)) (answer-midst order.at s x order.act (refusal (at_moment order.at s) order.act)) (record { more = on.more; facts = on.facts }) between
