-- Orders that switch an application: their steps, and how their calls end.
use Rattle.std.proofs.Common.{◌≡◌, ◌∙◌, ◌≤◌, ℕ, ◌+◌, max, List, [], ◌∷◌, length, Bool, true, refl, sym, ap, subst, is_none, is_some, Option, Some, None, Ok, Err, IsErrOf}
use Rattle.std.specs.declared.result.Result.{Result}
use Rattle.qc_protocol.specs.declared.order.Act.TheVariants.{Switch}
use Rattle.qc_protocol.specs.declared.reply.Refusal.{Refusal}
use Rattle.qc_protocol.specs.declared.reply.Refusal.TheVariants.{Full, UnknownApp}
use Rattle.qc_protocol.specs.declared.reply.Reply.{Reply}
use Rattle.qc_protocol.specs.declared.reply.Reply.TheVariants.{Refused}
use Rattle.qc_site.specs.declared.site.Site.{Ghosts}
use Rattle.qc_site.specs.Image.{Image}
use Rattle.qc_catalogue.specs.Lookup.{app_named}
use Rattle.qc_catalogue.specs.declared.catalogue.App.{App}
use Rattle.qc_machine.specs.Refuse.{first_some, refuse_if}
use Rattle.qc_machine.specs.Rooms.{journal_full}
use Rattle.qc_machine.specs.State.{State, at_moment, fact_room}
use Rattle.qc_machine.specs.Step.{step}
use Rattle.qc_machine.specs.Steps.{Step, stays}
use Rattle.qc_machine.specs.Switching.{fact_switched, switch_step}
use Rattle.qc_machine.proofs.Refusals.{refuse-order}
use Rattle.qc_machine.proofs.Steps.{refusal-switch, step-refused-by, step-taken}
use Rattle.qc_hub.specs.declared.error.HubError.{HubError}
use Rattle.qc_hub.specs.declared.error.HubError.TheVariants.{NoMemory}
use Rattle.qc_hub.specs.declared.hub.Hub.{Hub}
use Rattle.qc_hub.specs.Calls.{CarriesOut, IsReady, StepsBy, switching}
use Rattle.qc_hub.specs.Rooms.{SameBut}
use Rattle.qc_hub.specs.Stands.{IsHubOf}
use Rattle.qc_hub.proofs.Asked.{found-name}
use Rattle.qc_hub.proofs.Calling.{behind, handed_on, replied, starved}
use Rattle.qc_hub.proofs.Fit.{same-catalogue}
use Rattle.qc_hub.proofs.Later.{Since, later-hub, moved-since, since-ready, since-room, since-set}
use Rattle.qc_hub.proofs.Room.{switched-size}

module _ (hub : Hub) (s : State) (h : IsHubOf hub s) (at : ℕ) (app : List ℕ) (on : Bool) where
  abbrev then : State
  then = at_moment at s

  abbrev refusals : Option App → Option Refusal → Option Refusal
  refusals found full = first_some (refuse_if (is_none found) UnknownApp ∷ full ∷ [])

  found : (o : Option App) → app_named app hub.history.catalogue.apps ≡ o → app_named app s.history.catalogue.apps ≡ o
  found o is = ap (λ c. app_named app c.apps) (sym h.history.catalogue) ∙ is

  room : journal_full then (fact_room (fact_switched then app on)) ≡ journal_full then (9 + (11 + length app))
  room = ap (λ (n : ℕ). journal_full then (9 + n)) (switched-size app on then.last)

  pub switch-unknown : app_named app hub.history.catalogue.apps ≡ None → step s (switching at app on) ≡ stays then (Refused UnknownApp)
  switch-unknown is =
      step-refused-by s at (Switch app on) UnknownApp (refusal-switch then app on ∙ ap (λ (o : Option App). refusals o (journal_full then (fact_room (fact_switched then app on)))) (found None is)) refl

  pub switch-full : (a : App) (full : Refusal) → app_named app hub.history.catalogue.apps ≡ Some a → journal_full then (9 + (11 + length app)) ≡ Some full → step s (switching at app on) ≡ stays then (Refused full)
  switch-full a full is none =
      step-refused-by s at (Switch app on) full
      (refusal-switch then app on ∙ ap (λ (o : Option App). refusals o (journal_full then (fact_room (fact_switched then app on)))) (found (Some a) is) ∙ ap (refusals (Some a)) (room ∙ none))
      (refuse-order _ (Full then.journal.size) refl full none)

  pub switch-done : (a : App) → app_named app hub.history.catalogue.apps ≡ Some a → journal_full then (9 + (11 + length app)) ≡ None → step s (switching at app on) ≡ switch_step then app on
  switch-done a is none =
      step-taken s at (Switch app on)
      (refusal-switch then app on ∙ ap (λ (o : Option App). refusals o (journal_full then (fact_room (fact_switched then app on)))) (found (Some a) is) ∙ ap (refusals (Some a)) (room ∙ none))

-- The application was found, and the hub at the moment used looked at the journal's room.
module _ {S : Type 0} (g : Ghosts S) (hub : Hub) (site : S) (at : ℕ) (app : List ℕ) (on : Bool) (ready : IsReady g hub site) (now : (c : Image) → g.told → g.left_since site (g.moment site) c → g.may_leave site c)
    (last : ℕ) (is : last ≡ max at hub.last) (soon : last ≤ 1000000000000) (a : App) (there : app_named app hub.history.catalogue.apps ≡ Some a)
    (full : Option Refusal) (looked : (s : State) → IsHubOf (record hub { last = last }) s → full ≡ journal_full s (9 + (11 + length a.name))) where
  abbrev mid : Hub
  mid = record hub { last = last }

  abbrev by : State → Step
  by s = step s (switching at app on)

  set : Since hub mid at
  set = since-set hub at last is soon

  named : a.name ≡ app
  named = found-name hub.history.catalogue.apps app a there

  asked : (s : State) → IsHubOf hub s → full ≡ journal_full (at_moment at s) (9 + (11 + length app))
  asked s h = looked (at_moment at s) (later-hub hub mid at s set h) ∙ ap (λ (name : List ℕ). journal_full (at_moment at s) (9 + (11 + length name))) named

  pub switch-refused : (why : Refusal) → full ≡ Some why → CarriesOut g (switching at app on) (Ok (Refused why)) hub site mid site
  switch-refused why e = replied g at by (Refused why) hub mid site now ready set (λ s h. switch-full hub s h at app on a why there (sym (asked s h) ∙ e))

  -- and took room
  module _ (room : Hub) (kept : SameBut mid room) where
    since : Since hub room at
    since = since-room hub mid room at set kept

    pub switch-starved : CarriesOut g (switching at app on) (Err NoMemory) hub site room site
    switch-starved = starved g at by (Err NoMemory) hub room site now ready (moved-since hub room at since) refl

    pub switch-ready : IsReady g room site
    switch-ready = since-ready g hub room at site since ready

    pub switch-known : is_some (app_named a.name room.history.catalogue.apps) ≡ true
    switch-known = ap is_some ((λ i. app_named (named i) ((same-catalogue hub.history room.history since.later.history) i).apps) ∙ there)

    pub switch-added : full ≡ None → (result : Result Reply HubError) (new : Hub) (after : S) → ¬ IsErrOf result NoMemory → StepsBy g 0 (λ s. switch_step s a.name on) result room site new after → CarriesOut g (switching at app on) result hub site new after
    switch-added none result new after fed call =
        handed_on g at by (λ s. switch_step (at_moment at s) app on) result hub site new after (λ s h. switch-done hub s h at app on a there (sym (asked s h) ∙ none))
        (behind g at (λ s. switch_step s app on) (at_moment at) result hub room site new after since.later (λ s h. (later-hub hub room at s since h, record { history = refl; rows = refl; journal = refl; log = refl })) fed
        (subst (λ (name : List ℕ). StepsBy g 0 (λ s. switch_step s name on) result room site new after) named call))
