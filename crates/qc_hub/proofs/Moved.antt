-- Orders that move messages: their steps, and how their calls end.
use Rattle.std.proofs.Common.{◌≡◌, ◌∙◌, ◌⊎◌, ⊎_elim, ◌<◌, ◌≤◌, ◌&&◌, leb, ◌+◌, ◌*◌, ℕ, max, List, [], ◌∷◌, length, Bool, true, false, not, refl, sym, ap, subst, Option, Some, None, Ok, Err, IsErrOf}
use Rattle.std.specs.declared.result.Result.{Result}
use Rattle.std.specs.List.{sum_by}
use Rattle.std.proofs.lemmas.Bool.{and_right, le-leb, lt-leb}
use Rattle.qc_base.specs.Spelling.{is_between}
use Rattle.qc_base.specs.declared.fact.Fact.{Fact}
use Rattle.qc_protocol.specs.declared.order.Act.TheVariants.{Move}
use Rattle.qc_protocol.specs.declared.reply.Refusal.{Refusal}
use Rattle.qc_protocol.specs.declared.reply.Refusal.TheVariants.{BadBatch, Full}
use Rattle.qc_protocol.specs.declared.reply.Reply.{Reply}
use Rattle.qc_protocol.specs.declared.reply.Reply.TheVariants.{Refused}
use Rattle.qc_site.specs.Image.{Image}
use Rattle.qc_site.specs.declared.site.Site.{Ghosts}
use Rattle.qc_catalogue.specs.declared.catalogue.Catalogue.{Catalogue}
use Rattle.qc_machine.specs.History.{by_text}
use Rattle.qc_machine.specs.Moving.{AreMovable, Route, batches, facts_moved, facts_of_batches, ids_moved, move_step, moved_by, no_room_to_move, route}
use Rattle.qc_machine.specs.Recorded.{if_refused}
use Rattle.qc_machine.specs.Refuse.{first_some, refuse_if}
use Rattle.qc_machine.specs.Rooms.{journal_full}
use Rattle.qc_machine.specs.State.{State, at_moment, fact_room}
use Rattle.qc_machine.specs.Step.{step, refusal}
use Rattle.qc_machine.specs.Steps.{Step, stays}
use Rattle.qc_machine.proofs.Bools.{and-both}
use Rattle.qc_machine.proofs.Moves.{IsRoute, moved-movable, route-is}
use Rattle.qc_machine.proofs.Refusals.{refuse-order, route-order}
use Rattle.qc_machine.proofs.Settled.{orderly-apps}
use Rattle.qc_machine.proofs.Steps.{refusal-move, step-refused-by, step-taken}
use Rattle.qc_hub.specs.declared.error.HubError.{HubError}
use Rattle.qc_hub.specs.declared.error.HubError.TheVariants.{NoMemory}
use Rattle.qc_hub.specs.declared.hub.Hub.{Hub}
use Rattle.qc_hub.specs.declared.route.Route.{Route as RouteHere}
use Rattle.qc_hub.specs.Calls.{CarriesOut, IsReady, StepsBy, moving}
use Rattle.qc_hub.specs.Moving.{AreBatches, as_route, source_of}
use Rattle.qc_hub.specs.Rooms.{SameBut}
use Rattle.qc_hub.specs.Stands.{IsHubOf}
use Rattle.qc_hub.proofs.AddedBatch.{movable-same}
use Rattle.qc_hub.proofs.Asked.{hub-orderly}
use Rattle.qc_hub.proofs.BatchRoom.{batches-room}
use Rattle.qc_hub.proofs.Calling.{behind, handed_on, replied, starved}
use Rattle.qc_hub.proofs.CutBatches.{cut-batches}
use Rattle.qc_hub.proofs.Later.{Since, later-hub, moved-since, room-in, since-ready, since-room, since-set, state-of}

-- sizes of batches

pub batch-within : (batch : ℕ) → 1 ≤ batch → batch ≤ 1000 → is_between 1 1000 batch ≡ true
batch-within batch some few = and-both (leb 1 batch) _ (le-leb 1 batch some) (le-leb batch 1000 few)

pub batch-outside : (batch : ℕ) → (batch < 1) ⊎ ((1 ≤ batch) × (1000 < batch)) → is_between 1 1000 batch ≡ false
batch-outside batch either =
    ⊎_elim (λ none. ap (λ (b : Bool). b && leb batch 1000) (lt-leb 1 batch none)) (λ many. and_right (leb 1 batch) (leb batch 1000) (lt-leb batch 1000 many.1)) either

module _ (hub : Hub) (s : State) (h : IsHubOf hub s) (at : ℕ) (from to : List ℕ) (batch : ℕ) where
  abbrev then : State
  then = at_moment at s

  abbrev refusals : Result Route Refusal → Option Refusal
  refusals r = first_some (if_refused r ∷ refuse_if (not (is_between 1 1000 batch)) BadBatch ∷ no_room_to_move then batch r ∷ [])

  routed : (r : Result Route Refusal) → route hub.history.catalogue from to ≡ r → route s.history.catalogue from to ≡ r
  routed r is = ap (λ (c : Catalogue). route c from to) (sym h.history.catalogue) ∙ is

  pub move-unknown : (why : Refusal) → route hub.history.catalogue from to ≡ Err why → step s (moving at from to batch) ≡ stays then (Refused why)
  move-unknown why is =
      step-refused-by s at (Move from to batch) why (refusal-move then from to batch ∙ ap refusals (routed (Err why) is))
      (route-order s.history.catalogue from to why (ap (λ (r : Result Route Refusal). if_refused r) (routed (Err why) is)))

  module _ (r : Route) (is : route hub.history.catalogue from to ≡ Ok r) where
    abbrev past : Bool → Option Refusal → Option Refusal
    past within full = first_some (refuse_if (not within) BadBatch ∷ full ∷ [])

    to-batch : refusal then (Move from to batch) ≡ past (is_between 1 1000 batch) (no_room_to_move then batch (Ok r))
    to-batch = refusal-move then from to batch ∙ ap refusals (routed (Ok r) is)

    pub move-bad : is_between 1 1000 batch ≡ false → step s (moving at from to batch) ≡ stays then (Refused BadBatch)
    move-bad bad = step-refused-by s at (Move from to batch) BadBatch (to-batch ∙ ap (λ (b : Bool). past b (no_room_to_move then batch (Ok r))) bad) refl

    pub move-full : (full : Refusal) → is_between 1 1000 batch ≡ true → no_room_to_move then batch (Ok r) ≡ Some full → step s (moving at from to batch) ≡ stays then (Refused full)
    move-full full within none =
        step-refused-by s at (Move from to batch) full (to-batch ∙ ap (λ (b : Bool). past b (no_room_to_move then batch (Ok r))) within ∙ ap (past true) none)
        (refuse-order _ (Full then.journal.size) refl full none)

    pub move-done : is_between 1 1000 batch ≡ true → no_room_to_move then batch (Ok r) ≡ None → step s (moving at from to batch) ≡ move_step then batch (Ok r)
    move-done within none =
        step-taken s at (Move from to batch) (to-batch ∙ ap (λ (b : Bool). past b (no_room_to_move then batch (Ok r))) within ∙ ap (past true) none)
        ∙ ap (move_step then batch) (routed (Ok r) is)

-- The route was found, and the hub at the moment used listed the messages.
module _ {S : Type 0} (g : Ghosts S) (hub : Hub) (site : S) (at : ℕ) (from to : List ℕ) (batch : ℕ) (ready : IsReady g hub site) (now : (c : Image) → g.told → g.left_since site (g.moment site) c → g.may_leave site c)
    (last : ℕ) (is : last ≡ max at hub.last) (soon : last ≤ 1000000000000) where
  abbrev mid : Hub
  mid = record hub { last = last }

  abbrev by : State → Step
  by s = step s (moving at from to batch)

  set : Since hub mid at
  set = since-set hub at last is soon

  pub move-not-routed : (why : Refusal) → route hub.history.catalogue from to ≡ Err why → CarriesOut g (moving at from to batch) (Ok (Refused why)) hub site mid site
  move-not-routed why e = replied g at by (Refused why) hub mid site now ready set (λ s h. move-unknown hub s h at from to batch why e)

  pub move-starved : (room : Hub) → SameBut mid room → CarriesOut g (moving at from to batch) (Err NoMemory) hub site room site
  move-starved room kept = starved g at by (Err NoMemory) hub room site now ready (moved-since hub room at (since-room hub mid room at set kept)) refl

  module _ (r : RouteHere) (there : route hub.history.catalogue from to ≡ Ok (as_route r)) where
    pub move-no-batch : is_between 1 1000 batch ≡ false → CarriesOut g (moving at from to batch) (Ok (Refused BadBatch)) hub site mid site
    move-no-batch bad = replied g at by (Refused BadBatch) hub mid site now ready set (λ s h. move-bad hub s h at from to batch (as_route r) there bad)

    module _ (within : is_between 1 1000 batch ≡ true) (some : 1 ≤ batch) (ids : List ℕ) (listed : (s : State) → IsHubOf mid s → ids ≡ ids_moved s (source_of r)) (facts : List Fact) (are : facts ≡ facts_of_batches r.app r.to last (batches batch ids))
        (full : Option Refusal) (looked : (s : State) → IsHubOf mid s → full ≡ journal_full s (length facts * (22 + length r.app) + 8 * length ids)) where
      in_mid : (s : State) → IsHubOf hub s → IsHubOf mid (at_moment at s)
      in_mid s h = later-hub hub mid at s set h

      -- the facts are those of the step
      same-facts : (s : State) → IsHubOf hub s → facts ≡ facts_moved (at_moment at s) batch (as_route r)
      same-facts s h = are ∙ (λ i. facts_of_batches r.app r.to ((in_mid s h).last i) (batches batch (listed (at_moment at s) (in_mid s h) i)))

      room-is : sum_by fact_room facts ≡ length facts * (22 + length r.app) + 8 * length ids
      room-is = ap (λ (l : List Fact). sum_by fact_room l) are ∙ batches-room r.app r.to last batch some ids ∙ ap (λ (l : List Fact). length l * (22 + length r.app) + 8 * length ids) (sym are)

      asked : (s : State) → IsHubOf hub s → no_room_to_move (at_moment at s) batch (Ok (as_route r)) ≡ full
      asked s h =
          ap (λ (l : List Fact). journal_full (at_moment at s) (sum_by fact_room l)) (sym (same-facts s h)) ∙ ap (λ (n : ℕ). journal_full (at_moment at s) n) room-is
          ∙ sym (looked (at_moment at s) (in_mid s h))

      pub move-no-room : (why : Refusal) → full ≡ Some why → CarriesOut g (moving at from to batch) (Ok (Refused why)) hub site mid site
      move-no-room why e = replied g at by (Refused why) hub mid site now ready set (λ s h. move-full hub s h at from to batch (as_route r) there why within (asked s h ∙ e))

      module _ (room : Hub) (kept : SameBut mid room) where
        since : Since hub room at
        since = since-room hub mid room at set kept

        pub move-ready : IsReady g room site
        move-ready = since-ready g hub room at site since ready

        -- each of the batches may be added there
        pub move-batches : batch ≤ 1000 → 17 + length r.app + 8 * batch ≤ room.journal.spare → AreBatches facts room
        move-batches few wide =
            let was = state-of g hub site ready in
            let used : State = at_moment at was.state in
            let h : IsHubOf mid used = in_mid was.state was.is_in in
            let k : IsHubOf room used = room-in mid room used kept h in
            let leads : IsRoute (as_route r) = route-is used.history.catalogue from to (as_route r) (orderly-apps used.history.catalogue (hub-orderly mid used h)) (routed mid used h at from to batch (Ok (as_route r)) there) in
            let free : AreMovable used r.app ids = subst (AreMovable used r.app) (sym (listed used h)) (moved-movable by_text used h.settled (source_of r)) in
            let movable : (t : State) → IsHubOf room t → AreMovable t r.app ids = λ t l. movable-same used t r.app ids (sym k.history.messages ∙ l.history.messages) (sym k.players ∙ l.players) free in
            let same : room.last ≡ last = ap (λ (x : Hub). x.last) kept.others in
            subst (λ (l : List Fact). AreBatches l room) (ap (λ (n : ℕ). facts_of_batches r.app r.to n (batches batch ids)) same ∙ sym are)
            (cut-batches room r.app r.to batch leads.named leads.within some few wide (length ids) ids movable)

        pub move-added : full ≡ None → (result : Result Reply HubError) (new : Hub) (after : S) → ¬ IsErrOf result NoMemory → StepsBy g 0 (λ s. moved_by facts (length ids) s) result room site new after → CarriesOut g (moving at from to batch) result hub site new after
        move-added none result new after fed call =
            handed_on g at by (λ s. moved_by facts (length ids) (at_moment at s)) result hub site new after
            (λ s h. move-done hub s h at from to batch (as_route r) there within (asked s h ∙ none)
            ∙ (λ i. moved_by ((sym (same-facts s h)) i) (length ((sym (listed (at_moment at s) (in_mid s h))) i)) (at_moment at s)))
            (behind g at (λ s. moved_by facts (length ids) s) (at_moment at) result hub room site new after since.later (λ s h. (later-hub hub room at s since h, record { history = refl; rows = refl; journal = refl; log = refl })) fed call)
