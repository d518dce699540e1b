-- A hub and its site with one fact more.
use Rattle.std.proofs.Common.{◌≡◌, ℕ, ◌+◌, ◌<◌, ◌≤◌, max, List, [], ◌∷◌, ◌++◌, length, take, true, false, refl, ap, sym, ◌∙◌, subst, arith, inl, inr, ⊎_elim, length-append, Ok, Err}
use Rattle.std.specs.List.{sum_by}
use Rattle.std.specs.declared.result.Result.{Result}
use Rattle.std.proofs.lemmas.Bool.{false≢true}
use Rattle.std.proofs.lemmas.List.{map-append}
use Rattle.std.proofs.lemmas.List.Sums.{sum_by-append}
use Rattle.qc_base.specs.declared.fact.Fact.{Fact}
use Rattle.qc_base.specs.Spelling.{is_fact, spelled_fact}
use Rattle.qc_protocol.specs.declared.reply.Reply.{Reply}
use Rattle.qc_site.specs.Image.{Image}
use Rattle.qc_site.specs.Disk.{Images, Certain, LeavesOnly}
use Rattle.qc_site.specs.declared.site.Site.{Ghosts}
use Rattle.qc_site.specs.declared.site.SiteFile.TheVariants.{Journal, CrmLog}
use Rattle.qc_site.proofs.Moments.{weaker}
use Rattle.qc_frame.specs.Calls.{LogStands}
use Rattle.qc_frame.specs.Frame.{groups, groups_at, size_bytes}
use Rattle.qc_frame.specs.Gate.{After}
use Rattle.qc_frame.specs.Log.{HasGroup, LogView, WholeOrNot, WholeOrNotFrom}
use Rattle.qc_journal.specs.Calls.{AppendsFact}
use Rattle.qc_journal.specs.History.{SpellsHistory, fact_payload}
use Rattle.qc_journal.specs.Journal.{JournalView, appended, log_of}
use Rattle.qc_catalogue.specs.declared.catalogue.Catalogue.{Catalogue}
use Rattle.qc_history.specs.Adding.{AddsFact}
use Rattle.qc_history.specs.Stands.{IsHistoryOf}
use Rattle.qc_machine.specs.History.{History, by_text, with_fact, is_legal}
use Rattle.qc_machine.specs.Laws.{IsSettled}
use Rattle.qc_players.specs.Players.{ArePlayedBy, players_of}
use Rattle.qc_rows.specs.Places.{Places}
use Rattle.qc_machine.specs.State.{State, FileEnd, after_group}
use Rattle.qc_machine.specs.Sites.{StandsFor, IsSiteOf, LeavesOneOf, file_end, end_gate}
use Rattle.qc_machine.specs.Steps.{Step, IsBetween}
use Rattle.qc_machine.proofs.Histories.{limits-push}
use Rattle.qc_machine.proofs.Images.{stands-here, stays-journal}
use Rattle.qc_hub.specs.declared.error.HubError.{HubError}
use Rattle.qc_hub.specs.declared.error.HubError.TheVariants.{SiteFault}
use Rattle.qc_hub.specs.declared.hub.Hub.{Hub}
use Rattle.qc_hub.specs.Stands.{HavePlaces, IsFit, IsHubOf}
use Rattle.qc_hub.specs.Calls.{Appends, IsReady, IsUnused, StandsSound, StepsBy}
use Rattle.qc_hub.proofs.Calling.{journal-certain, log-certain, hurt-after}
use Rattle.qc_hub.proofs.Later.{not-both, state-of}
use Rattle.qc_hub.proofs.Logs.{other-stands}

-- what a journal spells with one group more
spells-push : (old new : List ℕ) (facts : List Fact) (fact : Fact) → SpellsHistory old facts → is_fact fact ≡ true → groups new ≡ groups old ++ fact_payload fact ∷ [] → SpellsHistory new (facts ++ fact ∷ [])
spells-push old new facts fact spelled fits more = record {
  groups = more ∙ ap (λ (l : List (List ℕ)). l ++ fact_payload fact ∷ []) spelled.groups ∙ sym (map-append fact_payload facts (fact ∷ []));
  limits = limits-push facts fact spelled.limits fits;
}

length-payload : (fact : Fact) → length (fact_payload fact) ≡ 4 + length (spelled_fact fact)
unfolding size_bytes
length-payload fact = length-append (size_bytes (length (spelled_fact fact))) (spelled_fact fact)

gate-push : (old new payload : List ℕ) → groups new ≡ groups old ++ payload ∷ [] → end_gate new ≡ end_gate old + 5 + length payload
gate-push old new payload more = let sum = sum_by-append (λ (p : List ℕ). 5 + length p) (groups old) (payload ∷ []) in
    ap (λ (l : List (List ℕ)). 16 + sum_by (λ p. 5 + length p) l) more ∙ omega (arith, sum)

-- the end of a file with one group more behind its closed gate
end-push : (old new : List ℕ) (fact : Fact) → groups new ≡ groups old ++ fact_payload fact ∷ [] → length new ≡ max (length old) (end_gate old + 10 + length (spelled_fact fact)) → end_gate old + 1 ≤ length old
    → after_group (4 + length (spelled_fact fact)) (file_end old) ≡ file_end new
end-push old new fact more size inside =
    let gate : end_gate old + 5 + (4 + length (spelled_fact fact)) ≡ end_gate new = sym (gate-push old new (fact_payload fact) more ∙ ap (λ (n : ℕ). end_gate old + 5 + n) (length-payload fact)) in
    let end : max (max (length old) (end_gate old + 1)) (end_gate old + (4 + length (spelled_fact fact)) + 6) ≡ max (length new) (end_gate new + 1) = omega (arith, gate, size, inside) in
    λ i. record { gate = gate i; size = end i }

-- an image with the fact's group more stands for the state with the fact
stands-push : (d c : Image) (s : State) (fact : Fact) → StandsFor by_text d s.history.facts → is_fact fact ≡ true → is_legal by_text (s.history.facts ++ fact ∷ []) ≡ true → take 16 c.journal ≡ take 16 d.journal → groups c.journal ≡ groups d.journal ++ fact_payload fact ∷ [] → c.crm_log ≡ d.crm_log
    → StandsFor by_text c (s.history.facts ++ fact ∷ [])
stands-push d c s fact stands fits legal front more log = record {
  headers = record { journal = front ∙ stands.headers.journal; log = ap (λ (b : List ℕ). take 16 b) log ∙ stands.headers.log };
  spelled = spells-push d.journal c.journal s.history.facts fact stands.spelled fits more;
  legal = legal;
  unused = ap groups log ∙ stands.unused;
}

-- what becomes of a state by a step that adds a fact, whatever else it changes of clients and players
pub record IsGrown (fact : Fact) (s t : State) : Type 0 where
  pub history : t.history ≡ with_fact fact s.history
  pub rows : t.rows ≡ s.rows
  pub journal : t.journal ≡ after_group (4 + length (spelled_fact fact)) s.journal
  pub log : t.log ≡ s.log

-- the journal's end, as the hub has it
pub grown-end : (hub new : Hub) (fact : Fact) (s t : State) → IsGrown fact s t → s.journal ≡ record { gate = hub.journal.place; size = hub.journal.length } → new.journal ≡ appended hub.journal fact → t.journal ≡ record { gate = new.journal.place; size = new.journal.length }
grown-end hub new fact s t grown was is =
    let size = length (spelled_fact fact) in
    let gate : s.journal.gate + 5 + (4 + size) ≡ new.journal.place = omega (arith, ap (λ (e : FileEnd). e.gate) was, ap (λ (j : JournalView). j.place) is) in
    let end : max s.journal.size (s.journal.gate + (4 + size) + 6) ≡ new.journal.length = omega (arith, ap (λ (e : FileEnd). e.gate) was, ap (λ (e : FileEnd). e.size) was, ap (λ (j : JournalView). j.length) is) in
    grown.journal ∙ (λ i. record { gate = gate i; size = end i })

-- a crash while the fact is added
crash-between : (images : Images) (fact : Fact) (shown : Image) (s : State) (step : Step) → IsGrown fact s step.state → IsSiteOf shown s → Certain Journal shown.journal images → Certain CrmLog shown.crm_log images → is_fact fact ≡ true → is_legal by_text step.state.history.facts ≡ true
    → (c : Image) → After Journal (WholeOrNot (fact_payload fact)) images c → LeavesOneOf images (IsBetween s step) c
crash-between images fact shown s step grown site certain unused fits legal c left = ⊎_elim not_yet whole left.2.by.either
  where
    d : Image
    d = left.0

    bytes : c.journal ≡ left.2.bytes
    bytes = ap (λ (x : Image). x.journal) left.2.is

    log : c.crm_log ≡ d.crm_log
    log = ap (λ (x : Image). x.crm_log) left.2.is

    was : StandsFor by_text d s.history.facts
    was = stands-here by_text shown d s.history.facts (certain d left.1) (unused d left.1) site.stands

    front : take 16 c.journal ≡ take 16 d.journal
    front = ap (λ (b : List ℕ). take 16 b) bytes ∙ left.2.by.front

    facts : step.state.history.facts ≡ s.history.facts ++ fact ∷ []
    facts = ap (λ (h : History). h.facts) grown.history

    not_yet : groups left.2.bytes ≡ groups d.journal → LeavesOneOf images (IsBetween s step) c
    not_yet e = record {
      was = d;
      there = left.1;
      others = stays-journal d c left.2.bytes left.2.is;
      state = s;
      is = inl refl;
      stands = record {
        headers = record { journal = front ∙ was.headers.journal; log = ap (λ (b : List ℕ). take 16 b) log ∙ was.headers.log };
        spelled = record { groups = ap groups bytes ∙ e ∙ was.spelled.groups; limits = was.spelled.limits };
        legal = was.legal;
        unused = ap groups log ∙ was.unused;
      };
    }

    whole : groups left.2.bytes ≡ groups d.journal ++ fact_payload fact ∷ [] → LeavesOneOf images (IsBetween s step) c
    whole e = record {
      was = d;
      there = left.1;
      others = stays-journal d c left.2.bytes left.2.is;
      state = step.state;
      is = inr (inr refl);
      stands = subst (StandsFor by_text c) (sym facts) (stands-push d c s fact was fits (subst (λ (l : List Fact). is_legal by_text l ≡ true) facts legal) front (ap groups bytes ∙ e) log);
    }

-- A call that adds a fact, by a step of its own, from a ready hub. `fits` is what the fact is, and `grows` and `settles`
-- what the step makes of a state.
module _ {S : Type 0} (g : Ghosts S) (hub : Hub) (site after : S) (fact : Fact) (by : State → Step) (ready : IsReady g hub site) (fits : is_fact fact ≡ true)
    (grows : (s : State) → IsHubOf hub s → IsGrown fact s (by s).state) (settles : (s : State) → IsHubOf hub s → is_legal by_text (by s).state.history.facts ≡ true)
    (counts : (t : ℕ) (c : Image) → g.told → t ≤ g.moment after → g.may_leave after c → g.left_since after t c) where
  abbrev sound : StandsSound g hub site
  sound = ready.stands.sound ready.no_fault

  module _ (result : Result (Unit {0}) HubError) (journal : JournalView) (appends : AppendsFact g fact result hub.journal site journal after) where
    moments : g.told → LeavesOnly g.moment g.left_since site after (After Journal (WholeOrNot (fact_payload fact)) (g.may_leave site))
    moments told = subst (λ (n : ℕ). LeavesOnly g.moment g.left_since site after (After Journal (WholeOrNotFrom n (fact_payload fact)) (g.may_leave site))) sound.whole (appends.makes.changes.any_moment told)

    crash : g.told → (s : State) → IsHubOf hub s → IsSiteOf (g.shown site) s → LeavesOnly g.moment g.left_since site after (LeavesOneOf (g.may_leave site) (IsBetween s (by s)))
    crash told s h on =
        weaker g.moment g.left_since site after _ _
        (crash-between (g.may_leave site) fact (g.shown site) s (by s) (grows s h) on (journal-certain g hub site sound told) (log-certain g hub site sound told) fits (settles s h)) (moments told)

  -- the site failed
  pub fact-failed : (new : Hub) (error : HubError) → AppendsFact g {A = Unit {0}} fact (Err error) hub.journal site new.journal after → new.last ≡ hub.last → new.limits ≡ hub.limits → new.in_fault ≡ true → StepsBy g 0 by (Err SiteFault) hub site new after
  fact-failed new error appends last limits fault = record {
    told = λ told s h on. record { answer = tt; starved = λ e. absurd cc; others = λ fine. absurd (fine refl); any_moment = crash (Err error) new.journal appends told s h on };
    moment = λ e. let still : hub.last ≡ max 0 hub.last = omega arith in last ∙ still;
    leaves = record {
      stands = record {
        sound = λ e. absurd (not-both new.in_fault e fault);
        hurt = λ e told c here.
            let was = state-of g hub site ready in
            let left = crash (Err error) new.journal appends told was.state was.is_in (was.on_site told) in
            hurt-after g was.state (by was.state) site after (λ i now. counts (g.moment site) i told left.later now) left c here;
      };
      limits = limits;
      hurt = λ e. fault;
      unhurt = λ e. inl refl;
      cause = record { no_fewer = appends.makes.changes.cause.no_fewer; cause = λ e. appends.makes.changes.cause.cause refl };
    };
  }

  -- the fact stands in the journal, and was settled
  module _ (new : Hub) (done : Unit {0}) (appends : AppendsFact g {E = HubError} fact (Ok done) hub.journal site new.journal after) (log : new.log ≡ hub.log) (last : new.last ≡ hub.last) (limits : new.limits ≡ hub.limits) (in_fault : new.in_fault ≡ hub.in_fault)
      (is_in : (s : State) → IsHubOf hub s → IsHubOf new (by s).state) where
    made : g.told → HasGroup (fact_payload fact) (log_of hub.journal) (g.shown site) (g.shown after)
    made told = appends.made told

    is_journal : new.journal ≡ appended hub.journal fact
    is_journal = appends.journal

    log_same : g.told → (g.shown after).crm_log ≡ (g.shown site).crm_log
    log_same told = ap (λ (i : Image). i.crm_log) (made told).shown

    on_site : g.told → (s : State) → IsHubOf hub s → IsSiteOf (g.shown site) s → IsSiteOf (g.shown after) (by s).state
    on_site told s h on =
        let old = (g.shown site).journal in
        let now = (g.shown after).journal in
        let grown = grows s h in
        let facts : (by s).state.history.facts ≡ s.history.facts ++ fact ∷ [] = ap (λ (x : History). x.facts) grown.history in
        let front : take 16 now ≡ take 16 old = subst (λ (n : ℕ). take n now ≡ take n old) sound.whole (made told).whole.front in
        let more : groups now ≡ groups old ++ fact_payload fact ∷ [] = subst (λ (n : ℕ). groups_at now n ≡ groups_at old n ++ fact_payload fact ∷ []) sound.whole (made told).whole.more in
        let was_long : hub.journal.length ≡ length old = (sound.journal told).size in
        let is_long : new.journal.length ≡ length now = (appends.makes.stands told).size in
        let placed : hub.journal.place ≡ end_gate old = ap (λ (e : FileEnd). e.gate) (sym h.journal ∙ on.journal) in
        let sized : hub.journal.length ≡ max (length old) (end_gate old + 1) = ap (λ (e : FileEnd). e.size) (sym h.journal ∙ on.journal) in
        let long : length now ≡ max (length old) (end_gate old + 10 + length (spelled_fact fact)) = omega (arith, is_long, was_long, placed, ap (λ (j : JournalView). j.length) appends.journal) in
        record {
          stands = subst (StandsFor by_text (g.shown after)) (sym facts)
              (stands-push (g.shown site) (g.shown after) s fact on.stands fits (subst (λ (l : List Fact). is_legal by_text l ≡ true) facts (settles s h)) front more (log_same told));
          rows = ap (λ (i : Image). i.rows) (made told).shown ∙ on.rows ∙ sym grown.rows;
          journal = grown.journal ∙ ap (λ (e : FileEnd). after_group (4 + length (spelled_fact fact)) e) on.journal ∙ end-push old now fact more long (omega (arith, sized, was_long));
          log = grown.log ∙ on.log ∙ ap file_end (sym (log_same told));
        }

    stands_again : StandsSound g new after
    stands_again = record {
      journal = appends.makes.stands;
      whole = ap (λ (j : JournalView). j.start) is_journal ∙ sound.whole;
      ended = ap (λ (j : JournalView). j.ended) is_journal ∙ sound.ended;
      log = subst (λ (l : LogView). LogStands g l after) (sym log)
          (other-stands g _ hub.log site after sound.unused.file (λ i told now. counts (g.moment site) i told (appends.makes.changes.any_moment told).later now) (λ e. false≢true e) appends.makes.changes sound.log);
      unused = subst IsUnused (sym log) sound.unused;
      state =
          let was = state-of g hub site ready in
          record { state = (by was.state).state; is_in = is_in was.state was.is_in; on_site = λ told. on_site told was.state was.is_in (was.on_site told) };
    }

    pub fact-stands : (reply : Reply) → ((s : State) → IsHubOf hub s → reply ≡ (by s).reply) → StepsBy g 0 by (Ok reply) hub site new after
    fact-stands reply replies = record {
      told = λ told s h on. record {
        answer = record { replies = replies s h; is_in = is_in s h; on_site = on_site told s h on };
        starved = λ e. absurd cc;
        others = λ fine. stays-journal (g.shown site) (g.shown after) _ (made told).shown;
        any_moment = crash (Ok done) new.journal appends told s h on;
      };
      moment = λ e. absurd cc;
      leaves = record {
        stands = record { sound = λ e. stands_again; hurt = λ e told c here. absurd (not-both new.in_fault (in_fault ∙ ready.no_fault) e) };
        limits = limits;
        hurt = λ e. absurd cc;
        unhurt = λ e. inr (sym in_fault ∙ e);
        cause = record { no_fewer = appends.makes.changes.cause.no_fewer; cause = λ e. absurd cc };
      };
    }

-- the end of a call that adds a fact

module _ {S : Type 0} (g : Ghosts S) (hub : Hub) (site after : S) (fact : Fact) (journal : JournalView) where
  pub append-failed : {A E : Type 0} (e : E) → AppendsFact g {A = A} fact (Err e) hub.journal site journal after → Appends g fact (Err SiteFault) hub site (record hub { journal = journal; in_fault = true }) after
  append-failed e a = record {
    appends = record { journal = tt; failed = a.failed; made = λ told. tt; makes = record { stands = tt; changes = a.makes.changes } };
    failed = (refl, refl);
    kept = tt;
    few = tt;
  }

  pub append-done : {A E : Type 0} (d : A) → AppendsFact g {E = E} fact (Ok d) hub.journal site journal after → hub.history.facts < 18446744073709551615 → Appends g fact (Ok tt) hub site (record hub { journal = journal }) after
  append-done d a few = record {
    appends = record { journal = a.journal; failed = tt; made = a.made; makes = record { stands = a.makes.stands; changes = a.makes.changes } };
    failed = tt;
    kept = refl;
    few = few;
  }

-- what a hub has once a fact was settled

pub fit-grown : (hub new : Hub) (fact : Fact) (given : History → Type 0) → AddsFact fact given hub.history new.history → hub.history.facts < 18446744073709551615 → new.journal ≡ appended hub.journal fact → ArePlayedBy hub.history.catalogue new.players → HavePlaces hub.history.tables.places (players_of new.players) → IsFit hub → IsFit new
fit-grown hub new fact given adds few journal played places fit = record {
  played = subst (λ (c : Catalogue). ArePlayedBy c new.players) (sym adds.catalogue) played;
  places = subst (λ (p : List Places). HavePlaces p (players_of new.players)) (sym adds.places) places;
  room = omega (arith, fit.room, ap (λ (j : JournalView). j.spare) journal);
  counted = omega (arith, fit.counted, adds.counted few, ap (λ (j : JournalView). j.place) journal);
}

pub fact-in : (hub new : Hub) (fact : Fact) (s t : State) → IsHubOf hub s → IsGrown fact s t → new.journal ≡ appended hub.journal fact → new.log ≡ hub.log → new.last ≡ hub.last → new.limits ≡ hub.limits → t.last ≡ s.last → t.limits ≡ s.limits
    → IsHistoryOf new.history (with_fact fact s.history) → new.clients ≡ t.clients → players_of new.players ≡ t.players → IsSettled by_text t → IsFit new → IsHubOf new t
fact-in hub new fact s t h grown journal log last limits t_last t_limits history clients players settled fit = record {
  history = subst (IsHistoryOf new.history) (sym grown.history) history;
  clients = clients;
  players = players;
  last = last ∙ h.last ∙ sym t_last;
  limits = limits ∙ h.limits ∙ sym t_limits;
  journal = grown-end hub new fact s t grown h.journal journal;
  log = grown.log ∙ h.log ∙ (λ i. record { gate = (sym (ap (λ (l : LogView). l.place) log)) i; size = (sym (ap (λ (l : LogView). l.length) log)) i });
  settled = settled;
  fit = fit;
}
