-- A hub at a later moment.
use Rattle.std.proofs.Common.{◌≡◌, ◌⊎◌, ℕ, ◌≤◌, max, Bool, true, false, refl, ap, sym, ◌∙◌, subst, arith, inl, inr, ⊎_elim, List, Option}
use Rattle.qc_base.specs.declared.recording.Recording.{Recording}
use Rattle.qc_frame.proofs.Staged.{stands_reserved}
use Rattle.qc_frame.specs.Calls.{LogStands}
use Rattle.qc_frame.specs.Log.{LogView}
use Rattle.qc_history.specs.Adding.{SetsAside}
use Rattle.qc_history.specs.View.{HistoryView}
use Rattle.qc_journal.specs.Journal.{JournalView, log_of}
use Rattle.qc_players.specs.Players.{players_of}
use Rattle.qc_site.specs.declared.site.Site.{Ghosts}
use Rattle.qc_machine.specs.History.{by_text}
use Rattle.qc_machine.specs.Laws.{IsSettled}
use Rattle.qc_machine.specs.State.{State, at_moment}
use Rattle.qc_machine.proofs.Settled.{moment-settled}
use Rattle.qc_hub.specs.declared.hub.Hub.{Hub}
use Rattle.qc_hub.specs.Rooms.{SameBut}
use Rattle.qc_hub.specs.Stands.{IsHubOf, IsHubOn, IsFit}
use Rattle.qc_hub.specs.Calls.{HasMoved, IsUnused, MovesOnly, StandsSound, IsReady}
use Rattle.qc_hub.proofs.Fit.{fit-on, same-history, sets-more, sets-nothing}

-- the same hub at a later moment, with other room, and perhaps with other recorders
pub record Later (hub new : Hub) (at : ℕ) : Type 0 where
  pub in_time : max at hub.last ≤ 1000000000000
  pub history : SetsAside hub.history new.history
  pub players : new.players ≡ hub.players
  pub journal : new.journal ≡ record hub.journal { spare = new.journal.spare }
  pub room : hub.journal.spare ≤ new.journal.spare
  pub log : new.log ≡ hub.log
  pub last : new.last ≡ max at hub.last
  pub limits : new.limits ≡ hub.limits
  pub in_fault : new.in_fault ≡ hub.in_fault

-- and with others again
pub later-clients : (hub new : Hub) (at : ℕ) (clients : List (Option Recording)) → Later hub new at → Later hub (record new { clients = clients }) at
later-clients hub new at clients later = record {
  in_time = later.in_time;
  history = later.history;
  players = later.players;
  journal = later.journal;
  room = later.room;
  log = later.log;
  last = later.last;
  limits = later.limits;
  in_fault = later.in_fault;
}

-- a hub whose last moment and recorders alone were set
pub later-set : (hub : Hub) (at last : ℕ) (clients : List (Option Recording)) → last ≡ max at hub.last → last ≤ 1000000000000 → Later hub (record hub { clients = clients; last = last }) at
later-set hub at last clients is soon = record {
  in_time = omega (arith, is, soon);
  history = sets-nothing hub.history;
  players = refl;
  journal = refl;
  room = omega arith;
  log = refl;
  last = is;
  limits = refl;
  in_fault = refl;
}

-- and which then took room
pub later-room : (hub mid new : Hub) (at : ℕ) → Later hub mid at → SameBut mid new → Later hub new at
later-room hub mid new at later same = record {
  in_time = later.in_time;
  history = sets-more hub.history mid.history new.history later.history same.history;
  players = ap (λ (h : Hub). h.players) same.others ∙ later.players;
  journal = same.journal ∙ ap (λ (j : JournalView). let k : JournalView = record j { spare = new.journal.spare } in k) later.journal;
  room = omega (arith, later.room, same.room);
  log = ap (λ (h : Hub). h.log) same.others ∙ later.log;
  last = ap (λ (h : Hub). h.last) same.others ∙ later.last;
  limits = ap (λ (h : Hub). h.limits) same.others ∙ later.limits;
  in_fault = ap (λ (h : Hub). h.in_fault) same.others ∙ later.in_fault;
}

pub later-fit : (hub new : Hub) (at : ℕ) → Later hub new at → IsFit hub → IsFit new
later-fit hub new at later fit = fit-on hub new later.history later.players later.room (ap (λ (j : JournalView). j.place) later.journal) fit

-- a state at a later moment, with these recorders
abbrev pub later_state : ℕ → List (Option Recording) → State → State
later_state at clients s = record (at_moment at s) { clients = clients }

pub later-in : (hub new : Hub) (at : ℕ) (s : State) (clients : List (Option Recording)) → Later hub new at → new.clients ≡ clients → IsSettled by_text (later_state at clients s) → IsHubOf hub s → IsHubOf new (later_state at clients s)
later-in hub new at s clients later is settled h = record {
  history = same-history hub.history new.history s.history later.history h.history;
  clients = is;
  players = ap players_of later.players ∙ h.players;
  last = later.last ∙ ap (λ (n : ℕ). max at n) h.last;
  limits = later.limits ∙ h.limits;
  journal = h.journal ∙ (λ i. record { gate = (sym (ap (λ (j : JournalView). j.place) later.journal)) i; size = (sym (ap (λ (j : JournalView). j.length) later.journal)) i });
  log = h.log ∙ (λ i. record { gate = (sym (ap (λ (l : LogView). l.place) later.log)) i; size = (sym (ap (λ (l : LogView). l.length) later.log)) i });
  settled = settled;
  fit = later-fit hub new at later h.fit;
}

-- the same with the same recorders
pub record Since (hub new : Hub) (at : ℕ) : Type 0 where
  pub later : Later hub new at
  pub others : new ≡ record hub { history = new.history; journal = new.journal; last = new.last }

-- a hub whose last moment alone was set
pub since-set : (hub : Hub) (at last : ℕ) → last ≡ max at hub.last → last ≤ 1000000000000 → Since hub (record hub { last = last }) at
since-set hub at last is soon = record { later = later-set hub at last hub.clients is soon; others = refl }

-- and which then took room
pub since-room : (hub mid new : Hub) (at : ℕ) → Since hub mid at → SameBut mid new → Since hub new at
since-room hub mid new at since same = record {
  later = later-room hub mid new at since.later same;
  others = same.others ∙ ap (λ (h : Hub). let x : Hub = record h { history = new.history; journal = new.journal } in x) since.others
      ∙ (λ i. record hub { history = new.history; journal = new.journal; last = (sym (ap (λ (h : Hub). h.last) same.others)) i });
}

-- a hub that took room while a recorder was taken away, which was then put back
pub since-back : (hub new : Hub) (at last : ℕ) (taken back : List (Option Recording)) → last ≡ max at hub.last → last ≤ 1000000000000 → SameBut (record hub { clients = taken; last = last }) new → back ≡ hub.clients → Since hub (record new { clients = back }) at
since-back hub new at last taken back is soon same put = record {
  later = later-clients hub new at back (later-room hub (record hub { clients = taken; last = last }) new at (later-set hub at last taken is soon) same);
  others = ap (λ (h : Hub). let x : Hub = record h { clients = back } in x) same.others
      ∙ (λ i. record hub { history = new.history; journal = new.journal; clients = put i; last = (sym (ap (λ (h : Hub). h.last) same.others)) i });
}

pub soon-enough : (at last : ℕ) → max at last ≤ 1000000000000 → at ≤ 1000000000000
soon-enough at last le = omega (arith, le)

pub later-hub : (hub new : Hub) (at : ℕ) (s : State) → Since hub new at → IsHubOf hub s → IsHubOf new (at_moment at s)
later-hub hub new at s since h =
    later-in hub new at s s.clients since.later (ap (λ (x : Hub). x.clients) since.others ∙ h.clients) (moment-settled by_text at s (soon-enough at hub.last since.later.in_time) h.settled) h

-- the same hub with other room

pub room-in : (hub new : Hub) (s : State) → SameBut hub new → IsHubOf hub s → IsHubOf new s
room-in hub new s same h = record {
  history = same-history hub.history new.history s.history same.history h.history;
  clients = ap (λ (x : Hub). x.clients) same.others ∙ h.clients;
  players = ap (λ (x : Hub). players_of x.players) same.others ∙ h.players;
  last = ap (λ (x : Hub). x.last) same.others ∙ h.last;
  limits = ap (λ (x : Hub). x.limits) same.others ∙ h.limits;
  journal = h.journal ∙ (λ i. record { gate = (sym (ap (λ (j : JournalView). j.place) same.journal)) i; size = (sym (ap (λ (j : JournalView). j.length) same.journal)) i });
  log = h.log ∙ (λ i. record { gate = (sym (ap (λ (x : Hub). x.log.place) same.others)) i; size = (sym (ap (λ (x : Hub). x.log.length) same.others)) i });
  settled = h.settled;
  fit = fit-on hub new same.history (ap (λ (x : Hub). x.players) same.others) same.room (ap (λ (j : JournalView). j.place) same.journal) h.fit;
}

-- a hub that took no room, or some in its history, or in its journal

pub took-nothing : (hub : Hub) → SameBut hub hub
took-nothing hub = record { history = sets-nothing hub.history; journal = refl; room = omega arith; others = refl }

pub took-history : (hub : Hub) (history : HistoryView) → SetsAside hub.history history → SameBut hub (record hub { history = history })
took-history hub history aside = record { history = aside; journal = refl; room = omega arith; others = refl }

pub took-journal : (hub : Hub) (journal : JournalView) (bytes : ℕ) → journal ≡ record hub.journal { spare = max hub.journal.spare bytes } → SameBut hub (record hub { journal = journal })
took-journal hub journal bytes is = record {
  history = sets-nothing hub.history;
  journal = is ∙ (λ i. record hub.journal { spare = (sym (ap (λ (j : JournalView). j.spare) is)) i });
  room = omega (arith, ap (λ (j : JournalView). j.spare) is);
  others = refl;
}

pub same-joined : (hub mid new : Hub) → SameBut hub mid → SameBut mid new → SameBut hub new
same-joined hub mid new first second = record {
  history = sets-more hub.history mid.history new.history first.history second.history;
  journal = second.journal ∙ ap (λ (j : JournalView). let k : JournalView = record j { spare = new.journal.spare } in k) first.journal;
  room = omega (arith, first.room, second.room);
  others = second.others ∙ ap (λ (h : Hub). let x : Hub = record h { history = new.history; journal = new.journal } in x) first.others;
}

-- the hub as it was, or at a later moment

pub moved-hub : (hub new : Hub) (at : ℕ) (s : State) → MovesOnly at hub new → IsHubOf hub s → IsHubOf new s ⊎ IsHubOf new (at_moment at s)
moved-hub hub new at s moved h =
    ⊎_elim (λ (same : SameBut hub new). inl (room-in hub new s same h))
    (λ (on : HasMoved at hub new).
    let mid : Hub = record hub { last = max at hub.last } in
    let there : IsHubOf mid (at_moment at s) = later-hub hub mid at s (since-set hub at (max at hub.last) refl on.in_time) h in
    inr (room-in mid new (at_moment at s) on.same there)) moved

pub moved-limits : (hub new : Hub) (at : ℕ) → MovesOnly at hub new → new.limits ≡ hub.limits
moved-limits hub new at moved = ⊎_elim (λ (same : SameBut hub new). ap (λ (x : Hub). x.limits) same.others) (λ (on : HasMoved at hub new). ap (λ (x : Hub). x.limits) on.same.others) moved

-- a hub at a later moment, with other room alone
pub moved-since : (hub new : Hub) (at : ℕ) → Since hub new at → MovesOnly at hub new
moved-since hub new at since = inr (record {
  in_time = since.later.in_time;
  same = record {
    history = since.later.history;
    journal = since.later.journal;
    room = since.later.room;
    others = since.others ∙ (λ i. record hub { history = new.history; journal = new.journal; last = since.later.last i });
  };
})

pub nothing-moved : (hub : Hub) (at : ℕ) → MovesOnly at hub hub
nothing-moved hub at = inl (took-nothing hub)

pub not-both : (b : Bool) → b ≡ false → b ≡ true → ⊥
not-both true e t = cc
not-both false e t = cc

pub at-no-moment : (s : State) → at_moment 0 s ≡ s
at-no-moment s = let same : max 0 s.last ≡ s.last = omega arith in ap (λ (n : ℕ). let t : State = record s { last = n } in t) same

module _ {S : Type 0} (g : Ghosts S) where
  -- it stands on its site where it is in a state of it
  pub stands-on : (hub new : Hub) (site : S) → new.journal ≡ record hub.journal { spare = new.journal.spare } → new.log ≡ hub.log → IsHubOn g.told (g.shown site) new → StandsSound g hub site → StandsSound g new site
  stands-on hub new site journal log state sound = record {
    journal = stands_reserved g.told (g.shown site) (g.may_leave site) (log_of hub.journal) (log_of new.journal) new.journal.spare (ap log_of journal) sound.journal;
    whole = ap (λ (j : JournalView). j.start) journal ∙ sound.whole;
    ended = ap (λ (j : JournalView). j.ended) journal ∙ sound.ended;
    log = subst (λ (l : LogView). LogStands g l site) (sym log) sound.log;
    unused = subst IsUnused (sym log) sound.unused;
    state = state;
  }

  pub ready-on : (hub new : Hub) (site : S) → new.journal ≡ record hub.journal { spare = new.journal.spare } → new.log ≡ hub.log → new.in_fault ≡ hub.in_fault → IsHubOn g.told (g.shown site) new → IsReady g hub site → IsReady g new site
  ready-on hub new site journal log in_fault state ready = record {
    stands = record { sound = λ e. stands-on hub new site journal log state (ready.stands.sound ready.no_fault); hurt = λ e. absurd (not-both new.in_fault (in_fault ∙ ready.no_fault) e) };
    no_fault = in_fault ∙ ready.no_fault;
  }

  -- the state that a ready hub is in
  pub state-of : (hub : Hub) (site : S) → IsReady g hub site → IsHubOn g.told (g.shown site) hub
  state-of hub site ready = (ready.stands.sound ready.no_fault).state

  pub later-ready : (hub new : Hub) (at : ℕ) (site : S) → Later hub new at → IsHubOn g.told (g.shown site) new → IsReady g hub site → IsReady g new site
  later-ready hub new at site later state ready = ready-on hub new site later.journal later.log later.in_fault state ready

  pub since-ready : (hub new : Hub) (at : ℕ) (site : S) → Since hub new at → IsReady g hub site → IsReady g new site
  since-ready hub new at site since ready =
      let was = state-of hub site ready in
      later-ready hub new at site since.later
      (record { state = at_moment at was.state; is_in = later-hub hub new at was.state since was.is_in; on_site = λ told. let on = was.on_site told in record { stands = on.stands; rows = on.rows; journal = on.journal; log = on.log } }) ready

  -- a hub with other room
  pub room-ready : (hub new : Hub) (site : S) → SameBut hub new → IsReady g hub site → IsReady g new site
  room-ready hub new site same ready =
      let was = state-of hub site ready in
      ready-on hub new site same.journal (ap (λ (x : Hub). x.log) same.others) (ap (λ (x : Hub). x.in_fault) same.others) (record { state = was.state; is_in = room-in hub new was.state same was.is_in; on_site = was.on_site }) ready

  pub moved-ready : (hub new : Hub) (at : ℕ) (site : S) → MovesOnly at hub new → IsReady g hub site → IsReady g new site
  moved-ready hub new at site moved ready =
      ⊎_elim (λ (same : SameBut hub new). room-ready hub new site same ready)
      (λ (on : HasMoved at hub new).
      let mid : Hub = record hub { last = max at hub.last } in
      room-ready mid new site on.same (since-ready hub mid at site (since-set hub at (max at hub.last) refl on.in_time) ready)) moved
