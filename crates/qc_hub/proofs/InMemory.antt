-- Calls of the hub that take their step without the site.
use Rattle.std.proofs.Common.{◌≡◌, ◌⊎◌, ◌≤◌, inr, ⊎_elim, ℕ, max, List, refl, sym, ap, ◌∙◌, subst, arith, Option, Ok, Err, IfOk, IsErrOf}
use Rattle.std.specs.declared.result.Result.{Result}
use Rattle.qc_base.specs.declared.recording.Recording.{Recording}
use Rattle.qc_protocol.specs.declared.reply.Refusal.{Refusal}
use Rattle.qc_protocol.specs.declared.reply.Reply.{Reply}
use Rattle.qc_protocol.specs.declared.reply.Reply.TheVariants.{Refused as ReplyRefused}
use Rattle.qc_recorder.specs.Answers.{Tells}
use Rattle.qc_recorder.specs.declared.error.RecordError.{RecordError}
use Rattle.qc_recorder.specs.declared.error.RecordError.TheVariants.{Refused, NoMemory as RecordMemory}
use Rattle.qc_site.specs.declared.site.Site.{Ghosts}
use Rattle.qc_site.specs.Image.{Image}
use Rattle.qc_journal.specs.Journal.{JournalView}
use Rattle.qc_machine.specs.History.{by_text}
use Rattle.qc_machine.specs.Laws.{IsSettled}
use Rattle.qc_machine.specs.Sites.{IsSiteOf}
use Rattle.qc_machine.specs.State.{State, at_moment}
use Rattle.qc_machine.specs.Steps.{Step, stays}
use Rattle.qc_machine.proofs.Settled.{moment-settled}
use Rattle.qc_hub.specs.declared.error.HubError.{HubError}
use Rattle.qc_hub.specs.declared.error.HubError.TheVariants.{NoMemory, SiteFault}
use Rattle.qc_hub.specs.declared.hub.Hub.{Hub}
use Rattle.qc_hub.specs.Stands.{IsHubOf, IsHubOn, StepsTo}
use Rattle.qc_hub.specs.Calls.{unrecorded, IsReady, MovesOnly, StepsAlone, StepsInMemory, StepsBy}
use Rattle.qc_hub.proofs.Calling.{answered_in, kept-site}
use Rattle.qc_hub.proofs.Fit.{sets-nothing, sets-same}
use Rattle.qc_hub.proofs.Later.{Later, later_state, later-in, later-set, moved-hub, nothing-moved, ready-on, soon-enough, state-of, took-nothing}

module _ {S : Type 0} (g : Ghosts S) (at : ℕ) (by : State → Step) (hub new : Hub) (site : S) where
  moved : (result : Result Reply HubError) → StepsInMemory at by result hub new → (s : State) → IsHubOf hub s → IsErrOf result NoMemory → IsHubOf new s ⊎ IsHubOf new (at_moment at s)
  moved (Err NoMemory) steps s h is = moved-hub hub new at s steps.starved.1 h
  moved (Err SiteFault) steps s h is = absurd cc
  moved (Ok reply) steps s h is = absurd cc

  fine : (result : Result Reply HubError) → StepsInMemory at by result hub new → ¬ IsErrOf result SiteFault
  fine (Ok reply) steps is = cc
  fine (Err e) steps is = let same : Err e ≡ Err NoMemory = steps.starved.0 in cc

  -- the hub is in a state again
  on : (result : Result Reply HubError) → StepsInMemory at by result hub new → IsHubOn g.told (g.shown site) hub → IsHubOn g.told (g.shown site) new
  on (Ok reply) steps was =
      let alone = steps.told was.state was.is_in in
      record { state = (by was.state).state; is_in = alone.is_in; on_site = λ told. kept-site (g.shown site) was.state (by was.state).state alone.keeps (was.on_site told) }
  on (Err e) steps was =
      ⊎_elim (λ h. record { state = was.state; is_in = h; on_site = was.on_site })
      (λ h. record { state = at_moment at was.state; is_in = h; on_site = λ told. let there = was.on_site told in record { stands = there.stands; rows = there.rows; journal = there.journal; log = there.log } }) (moved (Err e) steps was.state was.is_in steps.starved.0)

  answers : (result : Result Reply HubError) → StepsInMemory at by result hub new → (s : State) → IsHubOf hub s → IsSiteOf (g.shown site) s → IfOk result (StepsTo (by s) new (g.shown site))
  answers (Ok reply) steps s h site = let alone = steps.told s h in record { replies = alone.replies; is_in = alone.is_in; on_site = kept-site _ s (by s).state alone.keeps site }
  answers (Err e) steps s h site = tt

  pub ready-again : (result : Result Reply HubError) → StepsInMemory at by result hub new → IsReady g hub site → IsReady g new site
  ready-again result steps ready =
      let journal : new.journal ≡ hub.journal = ap (λ (h : Hub). h.journal) steps.kept in
      let spare : new.journal ≡ record hub.journal { spare = new.journal.spare } = journal ∙ (λ i. record hub.journal { spare = (ap (λ (j : JournalView). j.spare) (sym journal)) i }) in
      ready-on g hub new site spare (ap (λ (h : Hub). h.log) steps.kept) (ap (λ (h : Hub). h.in_fault) steps.kept) (on result steps (state-of g hub site ready)) ready

  pub in_memory : (result : Result Reply HubError) → ((c : Image) → g.told → g.left_since site (g.moment site) c → g.may_leave site c) → IsReady g hub site → StepsInMemory at by result hub new → StepsBy g at by result hub site new site
  in_memory result now ready steps =
      answered_in g at by result hub new site now ready (ready-again result steps ready) (ap (λ (h : Hub). h.limits) steps.kept) (fine result steps) (moved result steps) (λ told s h on. answers result steps s h on)

-- a hub at another moment, and with other recorders

pub at_last : (hub : Hub) (a b : ℕ) → a ≡ b → record hub { last = a } ≡ record hub { last = b }
at_last hub a b e = λ i. record hub { last = e i }

pub at_slots : (hub : Hub) (c d : List (Option Recording)) (a b : ℕ) → c ≡ d → a ≡ b → record hub { clients = c; last = a } ≡ record hub { clients = d; last = b }
at_slots hub c d a b e f = λ i. record hub { clients = e i; last = f i }

-- the moment used is one
pub soon : (at last used : ℕ) → used ≡ max at last → used ≤ 1000000000000 → max at last ≤ 1000000000000
soon at last used is le = omega (arith, is, le)

-- the hub is the same but for these
pub kept-but : (hub new : Hub) (clients : List (Option Recording)) (last : ℕ) → new ≡ record hub { clients = clients; last = last } → new ≡ record hub { history = new.history; clients = new.clients; players = new.players; last = new.last }
kept-but hub new clients last is = is ∙ (λ i. record hub {
  history = (sym (ap (λ (x : Hub). x.history) is)) i;
  clients = (sym (ap (λ (x : Hub). x.clients) is)) i;
  players = (sym (ap (λ (x : Hub). x.players) is)) i;
  last = (sym (ap (λ (x : Hub). x.last) is)) i;
})

-- answers of such a call

module _ (at : ℕ) (by : State → Step) (hub new : Hub) where
  -- with other recorders
  pub recorders-in-memory : (reply : Reply) (clients : List (Option Recording)) → new ≡ record hub { clients = clients; last = max at hub.last } → max at hub.last ≤ 1000000000000
      → ((s : State) → IsHubOf hub s → by s ≡ stays (later_state at clients s) reply) → ((s : State) → IsHubOf hub s → IsSettled by_text (by s).state) → StepsInMemory at by (Ok reply) hub new
  recorders-in-memory reply clients is le steps settled = record {
    told = λ s h. subst (λ (t : Step). StepsAlone s t new reply) (sym (steps s h)) (record {
      replies = refl;
      is_in = later-in hub new at s clients later (ap (λ (x : Hub). x.clients) is) (subst (λ (t : Step). IsSettled by_text t.state) (steps s h) (settled s h)) h;
      keeps = record { history = refl; rows = refl; journal = refl; log = refl };
    });
    starved = tt;
    aside = sets-same hub.history new.history (ap (λ (x : Hub). x.history) is);
    kept = kept-but hub new clients (max at hub.last) is;
  }
    where
      later : Later hub new at
      later = subst (λ (x : Hub). Later hub x at) (sym is) (later-set hub at (max at hub.last) clients refl le)

  -- with the same ones
  pub reply-in-memory : (reply : Reply) → new ≡ record hub { last = max at hub.last } → max at hub.last ≤ 1000000000000
      → ((s : State) → IsHubOf hub s → by s ≡ stays (at_moment at s) reply) → StepsInMemory at by (Ok reply) hub new
  reply-in-memory reply is le steps =
      recorders-in-memory reply hub.clients is le (λ s h. steps s h ∙ ap (λ (c : List (Option Recording)). stays (later_state at c s) reply) (sym h.clients))
      (λ s h. subst (λ (t : Step). IsSettled by_text t.state) (sym (steps s h)) (moment-settled by_text at s (soon-enough at hub.last le) h.settled))

  pub starved-in-memory : new ≡ record hub { last = max at hub.last } → max at hub.last ≤ 1000000000000 → StepsInMemory at by (Err NoMemory) hub new
  starved-in-memory is le = record {
    told = λ s h. tt;
    starved = (refl, subst (MovesOnly at hub) (sym is) (inr (record { in_time = le; same = took-nothing (record hub { last = max at hub.last }) })));
    aside = sets-same hub.history new.history (ap (λ (x : Hub). x.history) is);
    kept = kept-but hub new hub.clients (max at hub.last) is;
  }

  -- nothing was recorded
  pub unrecorded-in-memory : {A : Type 0} (asked : Result A Refusal) (e : RecordError) → Tells (Err e) asked → new ≡ record hub { last = max at hub.last } → max at hub.last ≤ 1000000000000
      → ((r : Refusal) → asked ≡ Err r → (s : State) → IsHubOf hub s → by s ≡ stays (at_moment at s) (ReplyRefused r)) → StepsInMemory at by (unrecorded e) hub new
  unrecorded-in-memory asked (Refused r) told is le steps = reply-in-memory (ReplyRefused r) is le (steps r told)
  unrecorded-in-memory asked RecordMemory told is le steps = starved-in-memory is le

-- a call in want of memory that has changed nothing
pub unmoved-in-memory : (at : ℕ) (by : State → Step) (hub : Hub) → StepsInMemory at by (Err NoMemory) hub hub
unmoved-in-memory at by hub = record { told = λ s h. tt; starved = (refl, nothing-moved hub at); aside = sets-nothing hub.history; kept = refl }
