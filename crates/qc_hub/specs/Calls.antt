-- What a call of the hub is given, and what it leaves of the hub and its site. `g` has the members of the site's trait.
use Rattle.std.specs.Prelude.{◌≡◌, ◌⊎◌, ◌<◌, ◌≤◌, ℕ, [], ◌∷◌, max, List, Bool, true, false, IfOk, IfErr, OnOk, OnErr, IsErr, IsErrOf, Ok, Err}
use Rattle.std.specs.declared.result.Result.{Result}
use Rattle.qc_base.specs.declared.fact.Fact.{Fact}
use Rattle.qc_protocol.specs.declared.order.Order.{Order}
use Rattle.qc_protocol.specs.declared.order.Act.TheVariants.{OpenSlot, CallSlot, CommitSlot, CancelSlot, Send, Take, Work, End, Phase, Play, Move, Switch, Queues, Table, Outside}
use Rattle.qc_protocol.specs.declared.order.RawCall.{RawCall}
use Rattle.qc_protocol.specs.declared.reply.Reply.{Reply}
use Rattle.qc_protocol.specs.declared.reply.Reply.TheVariants.{Refused as ReplyRefused}
use Rattle.qc_recorder.specs.declared.error.RecordError.{RecordError}
use Rattle.qc_recorder.specs.declared.error.RecordError.TheVariants.{Refused as RecordRefused, NoMemory as RecordMemory}
use Rattle.qc_site.specs.declared.site.Site.{Ghosts}
use Rattle.qc_site.specs.declared.site.SiteFile.{SiteFile}
use Rattle.qc_site.specs.declared.site.SiteFile.TheVariants.{Journal, CrmLog, Snap}
use Rattle.qc_site.specs.Causes.{HasCause}
use Rattle.qc_site.specs.Image.{Image, with_bytes}
use Rattle.qc_site.specs.Disk.{LeavesOnly, written}
use Rattle.qc_frame.specs.Frame.{groups}
use Rattle.qc_frame.specs.Log.{LogView}
use Rattle.qc_frame.specs.Calls.{LogStands}
use Rattle.qc_journal.specs.Calls.{AppendsFact}
use Rattle.qc_journal.specs.Journal.{log_of}
use Rattle.qc_history.specs.Adding.{SetsAside}
use Rattle.qc_frame.specs.declared.error.Damage.{Damage}
use Rattle.qc_machine.specs.declared.error.OpenError.{OpenError}
use Rattle.qc_machine.specs.declared.error.OpenError.TheVariants.{SiteFault as open_fault, NotMade, NoCatalogue, Damaged, NoMemory as open_memory}
use Rattle.qc_machine.specs.declared.limits.Limits.{Limits}
use Rattle.qc_machine.specs.Opening.{DamagedAt}
use Rattle.qc_machine.specs.State.{State, at_moment}
use Rattle.qc_machine.specs.Step.{step}
use Rattle.qc_machine.specs.Steps.{Step, IsBetween}
use Rattle.qc_machine.specs.Sites.{HasHeaders, IsKept, ReadsAs, IsSiteOf, Stays, SameSite, LeavesSame, LeavesOneOf, end_gate}
use Rattle.qc_hub.specs.declared.error.HubError.{HubError}
use Rattle.qc_hub.specs.declared.error.HubError.TheVariants.{SiteFault, NoMemory}
use Rattle.qc_hub.specs.declared.hub.Hub.{Hub}
use Rattle.qc_hub.specs.Rooms.{SameBut}
use Rattle.qc_hub.specs.Stands.{IsHubOf, IsHubOn, StepsTo}

-- orders, by what a method is given

abbrev pub opening : ℕ → ℕ → List ℕ → List ℕ → Order
opening at client app component = record { at = at; act = OpenSlot client app component }

abbrev pub calling : ℕ → ℕ → RawCall → Order
calling at client call = record { at = at; act = CallSlot client call }

abbrev pub committing : ℕ → ℕ → Order
committing at client = record { at = at; act = CommitSlot client }

abbrev pub cancelling : ℕ → ℕ → Order
cancelling at client = record { at = at; act = CancelSlot client }

abbrev pub sending : ℕ → List ℕ → List ℕ → List RawCall → Order
sending at app component calls = record { at = at; act = Send app component calls }

abbrev pub taking : ℕ → ℕ → List ℕ → Order
taking at player app = record { at = at; act = Take player app }

abbrev pub working : ℕ → ℕ → Order
working at player = record { at = at; act = Work player }

abbrev pub ending : ℕ → ℕ → Order
ending at player = record { at = at; act = End player }

abbrev pub finishing : ℕ → ℕ → Order
finishing at player = record { at = at; act = Phase player }

abbrev pub playing : ℕ → ℕ → List ℕ → Order
playing at player app = record { at = at; act = Play player app }

abbrev pub moving : ℕ → List ℕ → List ℕ → ℕ → Order
moving at from to batch = record { at = at; act = Move from to batch }

abbrev pub switching : ℕ → List ℕ → Bool → Order
switching at app on = record { at = at; act = Switch app on }

abbrev pub listing : ℕ → List ℕ → Order
listing at app = record { at = at; act = Queues app }

abbrev pub showing : ℕ → List ℕ → Order
showing at table = record { at = at; act = Table table }

abbrev pub outside_of : ℕ → List ℕ → Order
outside_of at resource = record { at = at; act = Outside resource }

-- a log of compensations that was read to its end, which is its start
pub record IsUnused (log : LogView) : Type 0 where
  pub file : log.file ≡ CrmLog
  pub start : log.start ≡ 16
  pub place : log.place ≡ 16
  pub ended : log.ended ≡ true
  pub waits : log.payload ≡ []

-- the file with a byte 0 as its end gate, and all else as it was
abbrev pub with_closed_gate : List ℕ → List ℕ
with_closed_gate file = written file (end_gate file) (0 ∷ [])

abbrev pub with_closed_journal : Image → Image
with_closed_journal image = with_bytes Journal (with_closed_gate image.journal) image

abbrev pub with_closed_logs : Image → Image
with_closed_logs image = with_bytes CrmLog (with_closed_gate image.crm_log) (with_closed_journal image)

-- What an opening leaves that ended in an error: the journal was read to its end, where its gate is closed, before it
-- was found empty, and before the other log was read.

abbrev pub LeavesDamaged : SiteFile → Image → Image → Type 0
LeavesDamaged Journal before now = now ≡ before
LeavesDamaged CrmLog before now = now ≡ with_closed_journal before
LeavesDamaged Snap before now = ⊥

abbrev pub LeavesUnopened : OpenError → Image → Image → Type 0
LeavesUnopened open_fault before now = Unit {0}
LeavesUnopened NotMade before now = now ≡ before
LeavesUnopened NoCatalogue before now = now ≡ with_closed_journal before
LeavesUnopened (Damaged d) before now = LeavesDamaged d.file before now
LeavesUnopened open_memory before now = (now ≡ before) ⊎ ((now ≡ with_closed_journal before) ⊎ (now ≡ with_closed_logs before))

-- what is answered where nothing is recorded
abbrev pub unrecorded : RecordError → Result Reply HubError
unrecorded (RecordRefused refusal) = Ok (ReplyRefused refusal)
unrecorded RecordMemory = Err NoMemory

-- nothing but the last moment and what clients and players hold is another
pub record KeepsSite (s t : State) : Type 0 where
  pub history : t.history ≡ s.history
  pub rows : t.rows ≡ s.rows
  pub journal : t.journal ≡ s.journal
  pub log : t.log ≡ s.log

-- what the step makes of a state
pub record StepsAlone (s : State) (t : Step) (new : Hub) (reply : Reply) : Type 0 where
  pub replies : reply ≡ t.reply
  pub is_in : IsHubOf new t.state
  pub keeps : KeepsSite s t.state

-- the hub is at a later moment, and the same but for its room
pub record HasMoved (at : ℕ) (hub new : Hub) : Type 0 where
  pub in_time : max at hub.last ≤ 1000000000000
  pub same : SameBut (record hub { last = max at hub.last }) new

-- nothing but room and the last moment is another
abbrev pub MovesOnly : ℕ → Hub → Hub → Type 0
MovesOnly at hub new = SameBut hub new ⊎ HasMoved at hub new

-- A call takes this step without its site, whatever state the hub is in. It settles nothing. In want of memory it
-- changes nothing but the last moment seen.
pub record StepsInMemory (at : ℕ) (by : State → Step) (result : Result Reply HubError) (hub new : Hub) : Type 0 where
  pub told : (s : State) → IsHubOf hub s → IfOk result (StepsAlone s (by s) new)
  pub starved : OnErr result ((result ≡ Err NoMemory) × MovesOnly at hub new)
  pub aside : SetsAside hub.history new.history
  pub kept : new ≡ record hub { history = new.history; clients = new.clients; players = new.players; last = new.last }

module _ {S : Type 0} (g : Ghosts S) where
  -- The logs of the hub stand on its site at their ends, and the hub is in a state, which is one of the site where that
  -- tells.
  pub record StandsSound (hub : Hub) (site : S) : Type 0 where
    pub journal : LogStands g (log_of hub.journal) site
    pub whole : hub.journal.start ≡ 16
    pub ended : hub.journal.ended ≡ true
    pub log : LogStands g hub.log site
    pub unused : IsUnused hub.log
    pub state : IsHubOn g.told (g.shown site) hub

  -- The hub stands on its site: it is sound there, or in fault, and then a crash leaves a history.
  pub record HubStands (hub : Hub) (site : S) : Type 0 where
    pub sound : hub.in_fault ≡ false → StandsSound hub site
    pub hurt : hub.in_fault ≡ true → g.told → (c : Image) → g.may_leave site c → IsKept c

  -- what each call is given: the hub stands on its site, and isn't in fault
  pub record IsReady (hub : Hub) (site : S) : Type 0 where
    pub stands : HubStands hub site
    pub no_fault : hub.in_fault ≡ false

  -- What a call leaves, whatever the site tells: the hub stands on its site again, under the same limits, and is in fault
  -- where the site failed, and else only if it was before. Where the site failed its count of faults rose.
  pub record LeavesStanding (failed : Type 0) (hub : Hub) (site : S) (new : Hub) (after : S) : Type 0 where
    pub stands : HubStands new after
    pub limits : new.limits ≡ hub.limits
    pub hurt : failed → new.in_fault ≡ true
    pub unhurt : new.in_fault ≡ true → failed ⊎ (hub.in_fault ≡ true)
    pub cause : HasCause (g.faults site) (g.faults after) failed

  -- A call adds the fact to the journal, and changes nothing else. Or the site failed, and the hub is in fault.
  pub record Appends (fact : Fact) (result : Result (Unit {0}) HubError) (hub : Hub) (site : S) (new : Hub) (after : S) : Type 0 where
    pub appends : AppendsFact g fact result hub.journal site new.journal after
    pub failed : OnErr result ((result ≡ Err SiteFault) × (new ≡ record hub { journal = new.journal; in_fault = true }))
    pub kept : OnOk result (new ≡ record hub { journal = new.journal })
    pub few : OnOk result (hub.history.facts < 18446744073709551615)

  -- A call in want of memory changes nothing but the last moment seen, and no crash in its midst leaves more.
  pub record Starves (s : State) (at : ℕ) (site : S) (new : Hub) (after : S) : Type 0 where
    pub is_in : IsHubOf new s ⊎ IsHubOf new (at_moment at s)
    pub same : g.shown after ≡ g.shown site
    pub any_moment : LeavesOnly g.moment g.left_since site after (LeavesOneOf (g.may_leave site) (λ x. x ≡ s))

  -- A call takes the step t from the state s: after an answer the reply, the hub and the site are the step's, and a
  -- crash at any moment of the call leaves a site of a state between.
  pub record TakesStep (s : State) (t : Step) (at : ℕ) (result : Result Reply HubError) (site : S) (new : Hub) (after : S) : Type 0 where
    pub answer : IfOk result (StepsTo t new (g.shown after))
    pub starved : IsErrOf result NoMemory → Starves s at site new after
    pub others : ¬ IsErrOf result SiteFault → Stays (g.shown site) (g.shown after)
    pub any_moment : LeavesOnly g.moment g.left_since site after (LeavesOneOf (g.may_leave site) (IsBetween s t))

  -- A call takes this step, whatever state the hub is in. Where the site failed, the hub is at the moment used.
  pub record StepsBy (at : ℕ) (by : State → Step) (result : Result Reply HubError) (hub : Hub) (site : S) (new : Hub) (after : S) : Type 0 where
    pub told : g.told → (s : State) → IsHubOf hub s → IsSiteOf (g.shown site) s → TakesStep s (by s) at result site new after
    pub moment : IsErrOf result SiteFault → new.last ≡ max at hub.last
    pub leaves : LeavesStanding (IsErrOf result SiteFault) hub site new after

  -- The call carries out the order: it is one step of the machine.
  abbrev pub CarriesOut : Order → Result Reply HubError → Hub → S → Hub → S → Type 0
  CarriesOut order result hub site new after = StepsBy order.at (λ s. step s order) result hub site new after

  -- An opening that tells: the hub is in the state that the site is read as, with the end gates of both logs closed; each
  -- error has its cause, and a crash at any moment leaves the groups that were there.
  pub record ReadsSite (limits : Limits) (result : Result Hub OpenError) (site after : S) : Type 0 where
    pub state : (s : State) → ReadsAs limits (g.shown site) s → IfOk result (λ hub. IsHubOf hub s × IsSiteOf (g.shown after) s)
    pub reads : OnOk result ((s : State) × ReadsAs limits (g.shown site) s)
    pub closed : OnOk result (g.shown after ≡ with_closed_logs (g.shown site))
    pub others : OnOk result (SameSite (g.shown site) (g.shown after))
    pub not_made : IsErrOf result NotMade → ¬ HasHeaders (g.shown site)
    pub no_catalogue : IsErrOf result NoCatalogue → HasHeaders (g.shown site) × (groups (g.shown site).journal ≡ [])
    pub damaged : (d : Damage) → IsErrOf result (Damaged d) → HasHeaders (g.shown site) × DamagedAt (g.shown site) d
    pub no_history : IsErr result → ¬ IsErrOf result open_fault → ¬ IsErrOf result open_memory → (s : State) → ¬ ReadsAs limits (g.shown site) s
    pub unopened : IfErr result (λ e. LeavesUnopened e (g.shown site) (g.shown after))
    pub any_moment : LeavesOnly g.moment g.left_since site after (LeavesSame (g.may_leave site))

  -- a call that opens the site
  pub record OpensSite (given : Limits) (result : Result Hub OpenError) (site after : S) : Type 0 where
    pub told : g.told → ReadsSite given result site after
    pub ready : IfOk result (λ hub. IsReady hub after)
    pub limits : IfOk result (λ hub. hub.limits ≡ given)
    pub cause : HasCause (g.faults site) (g.faults after) (IsErrOf result open_fault)
