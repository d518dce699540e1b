-- Orders on players that take their step without the site.
use Rattle.std.proofs.Common.{◌≡◌, ◌∙◌, ◌≤◌, ◌-◌, ℕ, max, List, [], ◌∷◌, Bool, true, not, length, slice_get, refl, sym, ap, subst, arith, Option, Some, None, option_and_then, Ok}
use Rattle.std.specs.Option.{option_map_or}
use Rattle.qc_base.specs.declared.log_line.Stage.{Stage}
use Rattle.qc_base.specs.declared.log_line.Stage.TheVariants.{Calls, Ready, Failing, Commit, Abort}
use Rattle.qc_protocol.specs.declared.order.Act.{Act}
use Rattle.qc_protocol.specs.declared.order.Act.TheVariants.{Phase, Take, Work}
use Rattle.qc_protocol.specs.declared.reply.Refusal.{Refusal}
use Rattle.qc_protocol.specs.declared.reply.Refusal.TheVariants.{WrongStage}
use Rattle.qc_protocol.specs.declared.reply.Reply.{Reply}
use Rattle.qc_protocol.specs.declared.reply.Reply.TheVariants.{Finished, Refused, Taken}
use Rattle.qc_catalogue.specs.declared.catalogue.Catalogue.{Catalogue}
use Rattle.qc_history.specs.Adding.{SetsAside}
use Rattle.qc_history.specs.View.{HistoryView}
use Rattle.qc_play.specs.Play.{Ran, ran, failed_at, rows_in, run_call}
use Rattle.qc_play.proofs.Playing.{call_rows}
use Rattle.qc_rows.specs.Places.{are_reserved, rows_seen}
use Rattle.qc_txn.specs.Attempt.{AttemptView}
use Rattle.qc_txn.specs.Parts.{Part, parts_of}
use Rattle.qc_machine.specs.Attempts.{has_no_fact, parts_held}
use Rattle.qc_machine.specs.History.{by_text}
use Rattle.qc_machine.specs.Laws.{IsSettled}
use Rattle.qc_machine.specs.Playing.{has_committed, on_held, phase_in, work_in, work_part}
use Rattle.qc_machine.specs.Refuse.{refuse_if}
use Rattle.qc_machine.specs.Slots.{has_calls, idle, out_of_slots, stage_unless}
use Rattle.qc_machine.specs.State.{State, HeldAttempt, at_moment, in_slot, set_slot}
use Rattle.qc_machine.specs.Step.{refusal, step, step_of}
use Rattle.qc_machine.specs.Steps.{Step, stays}
use Rattle.qc_machine.specs.Taking.{take_in, take_step}
use Rattle.qc_machine.proofs.Refusals.{first-order, idle-order, IsOrders, none-order, refuse-order, slot-order}
use Rattle.qc_machine.proofs.Steps.{refusal-phase, refusal-work, step-refused-by, step-taken}
use Rattle.qc_players.specs.declared.order.PlayerOrder.{PlayerOrder}
use Rattle.qc_players.specs.declared.order.PlayerOrder.TheVariants.{Phase as phase_order, Work as work_order}
use Rattle.qc_players.specs.Orders.{serves, told_by, unfit_for, worked_by, Works}
use Rattle.qc_players.specs.Players.{ArePlayedBy, held_of, players_of}
use Rattle.qc_players.proofs.Refusals.{IsFit as GoesOn}
use Rattle.qc_players.proofs.Slots.{freed-played, set-held}
use Rattle.qc_hub.specs.declared.hub.Hub.{Hub}
use Rattle.qc_hub.specs.Calls.{finishing, taking, working, StepsAlone, StepsInMemory}
use Rattle.qc_hub.specs.Stands.{HavePlaces, IsHubOf}
use Rattle.qc_hub.specs.Taking.{IsTaken, taken}
use Rattle.qc_hub.proofs.AllCalls.{by_ran}
use Rattle.qc_hub.proofs.Asked.{order-kept}
use Rattle.qc_hub.proofs.Fit.{fit-on, same-catalogue, same-history, sets-nothing}
use Rattle.qc_hub.proofs.Later.{later-hub, since-set}
use Rattle.qc_hub.proofs.Slots.{places-set}

-- a refusal by the slot of a player is one of the order

stage-order : (serves : Stage → Bool) (players : List (Option HeldAttempt)) (n : ℕ) → IsOrders (stage_unless serves players n)
stage-order serves players n = by (in_slot n players)
  where
    by : (o : Option HeldAttempt) → IsOrders (option_and_then (λ (a : HeldAttempt). refuse_if (not (serves a.stage)) (WrongStage a.stage)) o)
    by None r e = cc
    by (Some a) r e = refuse-order (not (serves a.stage)) (WrongStage a.stage) refl r e

unfit-order : (order : PlayerOrder) (n : ℕ) (players : List (Option HeldAttempt)) → IsOrders (unfit_for order n players)
unfit-order order n players =
    let stage = stage_unless (serves order) players n ∷ [] in
    first-order (out_of_slots n) (idle players n ∷ stage) (slot-order n)
    (first-order (idle players n) stage (idle-order players n) (first-order (stage_unless (serves order) players n) [] (stage-order (serves order) players n) none-order))

-- an order that is refused by the slot alone, or isn't
module _ (hub : Hub) (s : State) (h : IsHubOf hub s) (at n : ℕ) (order : PlayerOrder) (act : Act) (refuses : refusal (at_moment at s) act ≡ unfit_for order n s.players) where
  unfit-here : (o : Option Refusal) → unfit_for order n (players_of hub.players) ≡ o → refusal (at_moment at s) act ≡ o
  unfit-here o is = refuses ∙ subst (λ (p : List (Option HeldAttempt)). unfit_for order n p ≡ o) h.players is

  pub step-unfit : (r : Refusal) → unfit_for order n (players_of hub.players) ≡ Some r → step s (record { at = at; act = act }) ≡ stays (at_moment at s) (Refused r)
  step-unfit r is = step-refused-by s at act r (unfit-here (Some r) is) (unfit-order order n (players_of hub.players) r is)

  pub step-fit : unfit_for order n (players_of hub.players) ≡ None → step s (record { at = at; act = act }) ≡ step_of (at_moment at s) act
  step-fit none = step-taken s at act (unfit-here None none)

-- a state at a later moment, with these players
abbrev pub played_state : ℕ → List (Option HeldAttempt) → State → State
played_state at players s = record (at_moment at s) { players = players }

-- a call that changes what players hold, and takes room in the history
module _ (at : ℕ) (by : State → Step) (hub : Hub) (last : ℕ) (is : last ≡ max at hub.last) (history : HistoryView) (aside : SetsAside hub.history history) (slots : List (Option AttemptView)) where
  abbrev pub held_on : Hub
  held_on = record hub { history = history; players = slots; last = last }

  pub players-in-memory : (reply : Reply) → ((s : State) → IsHubOf hub s → by s ≡ stays (played_state at (players_of slots) s) reply) → ((s : State) → IsHubOf hub s → IsSettled by_text (by s).state)
      → ((s : State) → IsHubOf hub s → ArePlayedBy hub.history.catalogue slots) → ((s : State) → IsHubOf hub s → HavePlaces history.tables.places (players_of slots)) → StepsInMemory at by (Ok reply) hub held_on
  players-in-memory reply steps settled played places = record {
    told = λ s h. subst (λ (t : Step). StepsAlone s t held_on reply) (sym (steps s h)) (record {
      replies = refl;
      is_in = record {
        history = same-history hub.history history s.history aside h.history;
        clients = h.clients;
        players = refl;
        last = is ∙ ap (λ (k : ℕ). max at k) h.last;
        limits = h.limits;
        journal = h.journal;
        log = h.log;
        settled = subst (λ (t : Step). IsSettled by_text t.state) (steps s h) (settled s h);
        fit = record {
          played = subst (λ (c : Catalogue). ArePlayedBy c slots) (sym (same-catalogue hub.history history aside)) (played s h);
          places = places s h;
          room = h.fit.room;
          counted = omega (arith, h.fit.counted, ap (λ (v : HistoryView). v.facts) aside.kept);
        };
      };
      keeps = record { history = refl; rows = refl; journal = refl; log = refl };
    });
    starved = tt;
    aside = aside;
    kept = refl;
  }

-- the next call of an attempt

-- the rows that it sees stay
work-rows : (c : Catalogue) (a : HeldAttempt) → rows_in (worked_by c a).play.view ≡ rows_in a.play.view
work-rows c a = at (slice_get (parts_held c a) a.calls)
  where
    called : (p : Part) (r : Ran) → run_call p.script p.args a.play ≡ r
        → rows_in (by_ran (length (parts_held c a)) a p r).play.view ≡ rows_in a.play.view
    called p (ran play) e = call_rows p.script p.args a.play play e
    called p (failed_at number) e = refl

    at : (o : Option Part) → rows_in (option_map_or (work_part (length (parts_held c a)) a) o a).play.view ≡ rows_in a.play.view
    at None = refl
    at (Some p) = called p (run_call p.script p.args a.play) refl

calls-no-fact : (stage : Stage) → has_calls stage ≡ true → has_no_fact stage ≡ true
calls-no-fact Calls e = refl
calls-no-fact Ready e = refl
calls-no-fact Failing e = refl
calls-no-fact Commit e = cc
calls-no-fact Abort e = cc

pub work-unfit : (hub : Hub) (s : State) (h : IsHubOf hub s) (at n : ℕ) (r : Refusal) → unfit_for work_order n (players_of hub.players) ≡ Some r → step s (working at n) ≡ stays (at_moment at s) (Refused r)
work-unfit hub s h at n r is = step-unfit hub s h at n work_order (Work n) (refusal-work (at_moment at s) n) r is

module _ (hub : Hub) (at n last : ℕ) (is : last ≡ max at hub.last) (soon : last ≤ 1000000000000) (none : unfit_for work_order n (players_of hub.players) ≡ None) (on : GoesOn work_order n (players_of hub.players))
    (slots : List (Option AttemptView)) (reply : Reply) (works : Works hub.history.catalogue n hub.players slots reply on.attempt) where
  work-steps : (s : State) → IsHubOf hub s → step s (working at n) ≡ stays (played_state at (players_of slots) s) reply
  work-steps s h =
      let here : in_slot n s.players ≡ Some on.attempt = subst (λ (p : List (Option HeldAttempt)). in_slot n p ≡ Some on.attempt) h.players on.there in
      let players : players_of slots ≡ set_slot n (Some (worked_by s.history.catalogue on.attempt)) s.players = works.players ∙ (λ i. set_slot n (Some (worked_by (h.history.catalogue i) on.attempt)) (h.players i)) in
      let told : reply ≡ told_by s.history.catalogue on.attempt = works.told ∙ ap (λ (c : Catalogue). told_by c on.attempt) h.history.catalogue in
      step-fit hub s h at n work_order (Work n) (refusal-work (at_moment at s) n) none
      ∙ ap (on_held (at_moment at s) (work_in (at_moment at s) n)) here
      ∙ (λ i. stays (played_state at (sym players i) s) (sym told i))

  pub work-in-memory : StepsInMemory at (λ s. step s (working at n)) (Ok reply) hub (held_on at (λ s. step s (working at n)) hub last is hub.history (sets-nothing hub.history) slots)
  work-in-memory =
      players-in-memory at (λ s. step s (working at n)) hub last is hub.history (sets-nothing hub.history) slots reply work-steps
      (λ s h. order-kept hub (working at n) (omega (arith, is, soon)) (λ e. e) s h) (λ s h. works.played)
      (λ s h. subst (HavePlaces hub.history.tables.places) (sym works.players)
      (places-set hub.history.tables.places (players_of hub.players) n (Some (worked_by hub.history.catalogue on.attempt)) h.fit.places
      (λ b e open_.
      let same : worked_by hub.history.catalogue on.attempt ≡ b = cc in
      let rows : rows_in b.play.view ≡ rows_in on.attempt.play.view = ap (λ (x : HeldAttempt). rows_in x.play.view) (sym same) ∙ work-rows hub.history.catalogue on.attempt in
      ap (λ l. are_reserved l hub.history.tables.places) rows ∙ h.fit.places n on.attempt on.there (calls-no-fact on.attempt.stage on.serves))))

-- an attempt that is let go

pub phase-unfit : (hub : Hub) (s : State) (h : IsHubOf hub s) (at n : ℕ) (r : Refusal) → unfit_for phase_order n (players_of hub.players) ≡ Some r → step s (finishing at n) ≡ stays (at_moment at s) (Refused r)
phase-unfit hub s h at n r is = step-unfit hub s h at n phase_order (Phase n) (refusal-phase (at_moment at s) n) r is

module _ (hub : Hub) (at n last : ℕ) (is : last ≡ max at hub.last) (soon : last ≤ 1000000000000) (none : unfit_for phase_order n (players_of hub.players) ≡ None) (on : GoesOn phase_order n (players_of hub.players))
    (slots : List (Option AttemptView)) (freed : slots ≡ set_slot n None hub.players) where
  abbrev told : Reply
  told = Finished on.attempt.attempt (has_committed on.attempt.stage) []

  players : players_of slots ≡ set_slot n None (players_of hub.players)
  players = ap players_of freed ∙ set-held hub.players n None

  phase-steps : (s : State) → IsHubOf hub s → step s (finishing at n) ≡ stays (played_state at (players_of slots) s) told
  phase-steps s h =
      let here : in_slot n s.players ≡ Some on.attempt = subst (λ (p : List (Option HeldAttempt)). in_slot n p ≡ Some on.attempt) h.players on.there in
      let now : players_of slots ≡ set_slot n None s.players = players ∙ ap (set_slot n None) h.players in
      step-fit hub s h at n phase_order (Phase n) (refusal-phase (at_moment at s) n) none
      ∙ ap (on_held (at_moment at s) (phase_in (at_moment at s) n)) here
      ∙ (λ i. stays (played_state at (sym now i) s) told)

  pub phase-in-memory : StepsInMemory at (λ s. step s (finishing at n)) (Ok told) hub (held_on at (λ s. step s (finishing at n)) hub last is hub.history (sets-nothing hub.history) slots)
  phase-in-memory =
      players-in-memory at (λ s. step s (finishing at n)) hub last is hub.history (sets-nothing hub.history) slots told phase-steps
      (λ s h. order-kept hub (finishing at n) (omega (arith, is, soon)) (λ e. e) s h)
      (λ s h. subst (ArePlayedBy hub.history.catalogue) (sym freed) (freed-played hub.history.catalogue hub.players n h.fit.played))
      (λ s h. subst (HavePlaces hub.history.tables.places) (sym players) (places-set hub.history.tables.places (players_of hub.players) n None h.fit.places (λ b e. cc)))

-- an attempt that a player holds from now on

module _ (hub : Hub) (at n last : ℕ) (app : List ℕ) (is : last ≡ max at hub.last) (soon : last ≤ 1000000000000) (history : HistoryView) (aside : SetsAside hub.history history)
    (a : AttemptView) (begun : (s : State) → IsHubOf (record hub { last = last }) s → IsTaken s n app (held_of a)) (slots : List (Option AttemptView)) (held : slots ≡ set_slot n (Some a) hub.players) where
  on : (s : State) → IsHubOf hub s → IsTaken (at_moment at s) n app (held_of a)
  on s h = begun (at_moment at s) (later-hub hub (record hub { last = last }) at s (since-set hub at last is soon) h)

  now : players_of slots ≡ set_slot n (Some (held_of a)) (players_of hub.players)
  now = ap players_of held ∙ set-held hub.players n (Some a)

  module _ (count : a.count ≡ length (parts_of hub.history.catalogue a.recording a.kind)) where
    take-steps : (s : State) → IsHubOf hub s → step s (taking at n app) ≡ stays (played_state at (players_of slots) s) (taken a)
    take-steps s h =
        let m : State = at_moment at s in
        let t : IsTaken m n app (held_of a) = on s h in
        let players : players_of slots ≡ set_slot n (Some (held_of a)) s.players = now ∙ ap (set_slot n (Some (held_of a))) h.players in
        let none_ran : a.calls ≡ 0 = ap (λ (x : HeldAttempt). x.calls) t.is in
        let all : a.count ≡ length (parts_held s.history.catalogue (held_of a)) = count ∙ ap (λ (c : Catalogue). length (parts_of c a.recording a.kind)) h.history.catalogue in
        let left : length (parts_held s.history.catalogue (held_of a)) ≡ a.count - a.calls = omega (arith, all, none_ran) in
        step-taken s at (Take n app) t.free ∙ ap (take_step m n) t.chosen ∙ ap (take_in m n) (sym t.is)
        ∙ (λ i. stays (played_state at (sym players i) s) (Taken a.id a.number a.kind (left i)))

    pub take-in-memory : ArePlayedBy hub.history.catalogue slots → are_reserved (rows_seen a.play.view) history.tables.places ≡ true
        → StepsInMemory at (λ s. step s (taking at n app)) (Ok (taken a)) hub (held_on at (λ s. step s (taking at n app)) hub last is history aside slots)
    take-in-memory played reserved =
        players-in-memory at (λ s. step s (taking at n app)) hub last is history aside slots (taken a) take-steps
        (λ s h. order-kept hub (taking at n app) (omega (arith, is, soon)) (λ e. e) s h) (λ s h. played)
        (λ s h. subst (HavePlaces history.tables.places) (sym now)
        (places-set history.tables.places (players_of hub.players) n (Some (held_of a)) (fit-on hub (record hub { history = history }) aside refl (omega arith) refl h.fit).places
        (λ b e open_. let same : held_of a ≡ b = cc in ap (λ (x : HeldAttempt). are_reserved (rows_seen x.play.view) history.tables.places) (sym same) ∙ reserved)))
