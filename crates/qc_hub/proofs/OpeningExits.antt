-- The exits of an opening: each says all that the call promises.
use Rattle.std.proofs.Common.{◌≡◌, ◌≢◌, inl, inr, ◌≤◌, ℕ, ◌-◌, zero, suc, leb, leb-true, List, [], ◌∷◌, length, map, replicate, slice_get, refl, sym, ap, ◌∙◌, subst, arith, true, false, Option, Some, None, Ok, Err, IsErrOf}
use Rattle.std.proofs.lemmas.Bool.{and_parts}
use Rattle.std.proofs.lemmas.List.{length-replicate}
use Rattle.qc_base.specs.Names.{is_name}
use Rattle.qc_base.specs.Rows.{OutsideRows}
use Rattle.qc_base.specs.declared.fact.Fact.{Fact}
use Rattle.qc_base.specs.declared.fact.Fact.TheVariants.{Catalogue as InForce, Sent, Played, Failed, Moved, Switched}
use Rattle.qc_base.specs.Spelling.{is_attempt, is_fact, is_id, is_moment}
use Rattle.qc_history.specs.Taking.{IsReadAs}
use Rattle.qc_history.specs.View.{HistoryView}
use Rattle.qc_site.specs.Causes.{HasCause, Rose}
use Rattle.qc_site.specs.declared.site.Site.{Ghosts}
use Rattle.qc_site.specs.declared.site.SiteFile.{SiteFile}
use Rattle.qc_site.specs.declared.site.SiteFile.TheVariants.{Journal, CrmLog}
use Rattle.qc_site.specs.Disk.{LeavesOnly}
use Rattle.qc_site.specs.Image.{Image, with_bytes}
use Rattle.qc_frame.specs.declared.error.Damage.{Damage}
use Rattle.qc_frame.specs.Calls.{LogStands, ChangesFile, KeepsGroups}
use Rattle.qc_frame.specs.Frame.{groups}
use Rattle.qc_frame.specs.Gate.{After}
use Rattle.qc_frame.specs.Log.{LogView, SameLog, SameFrom, just_opened}
use Rattle.qc_journal.specs.History.{SpellsHistory, fact_payload}
use Rattle.qc_journal.specs.Journal.{JournalView, log_of}
use Rattle.qc_machine.specs.declared.error.OpenError.{OpenError}
use Rattle.qc_machine.specs.declared.error.OpenError.TheVariants.{SiteFault, NotMade, NoCatalogue, Damaged, NoMemory}
use Rattle.qc_machine.specs.declared.limits.Limits.{Limits}
use Rattle.qc_machine.specs.History.{History, after_fact, after_facts, all_follow, by_text, history_of, is_legal, may_follow, no_facts}
use Rattle.qc_machine.specs.Holding.{AreHeld}
use Rattle.qc_machine.specs.Opening.{DamagedJournal}
use Rattle.qc_machine.specs.Sites.{HasHeaders, StandsFor, ReadsAs, IsSiteOf, SameSite, LeavesSame, as_read, no_clients, no_players, file_end}
use Rattle.qc_machine.specs.State.{State, HeldAttempt, in_slot}
use Rattle.qc_machine.proofs.Histories.{facts-of, legal-is}
use Rattle.qc_machine.proofs.Recorders.{in-list, none-recorded}
use Rattle.qc_machine.proofs.Images.{same-journal, same-crm_log, same-joined, stands-same}
use Rattle.qc_players.specs.Players.{players_of}
use Rattle.qc_players.proofs.Slots.{none-played}
use Rattle.qc_rows.specs.Places.{Places}
use Rattle.qc_hub.specs.declared.hub.Hub.{Hub}
use Rattle.qc_hub.specs.Stands.{HavePlaces, IsHubOf}
use Rattle.qc_hub.specs.Calls.{LeavesDamaged, LeavesUnopened, OpensSite, StandsSound, with_closed_gate, with_closed_journal, with_closed_logs}
use Rattle.qc_hub.specs.Opening.{FindsLogs, HasEnded, HasFacts, ReadsFacts, FindsNoLine, HasRead, HasReadLog}
use Rattle.qc_hub.proofs.Logs.{other-stands}
use Rattle.qc_hub.proofs.OpeningFacts.{facts-one}
use Rattle.qc_hub.proofs.OpeningSteps.{WhyNot, unopened, leaves-read, leaves-journal, leaves-log, leaves-on, journal-stands}
use Rattle.qc_hub.proofs.OpeningTaken.{none-of}

-- the last moment of legal facts is one
within : (h : History) (fact : Fact) → is_fact fact ≡ true → h.last ≤ 1000000000000 → (after_fact by_text h fact).last ≤ 1000000000000
within h (InForce text) e le = le
within h (Sent id at r) e le = leb-true at 1000000000000 (and_parts (is_moment at) _ (and_parts (is_id id) _ e).1).0
within h (Played id attempt kind at) e le = leb-true at 1000000000000 (and_parts (is_attempt attempt) _ (and_parts (is_id id) _ e).1).1
within h (Failed id attempt at) e le = leb-true at 1000000000000 (and_parts (is_attempt attempt) _ (and_parts (is_id id) _ e).1).1
within h (Moved app queue at ids) e le = leb-true at 1000000000000 (and_parts (is_moment at) _ (and_parts (leb queue 6) _ (and_parts (is_name app) _ e).1).1).0
within h (Switched app on at) e le = leb-true at 1000000000000 (and_parts (is_name app) _ e).1

last-within : (h : History) (facts : List Fact) → all_follow by_text h facts ≡ true → h.last ≤ 1000000000000 → (after_facts by_text h facts).last ≤ 1000000000000
last-within h [] e le = le
last-within h (fact ∷ facts) e le =
    let parts = and_parts (may_follow by_text h fact) _ e in
    last-within (after_fact by_text h fact) facts parts.1 (within h fact (and_parts (is_fact fact) _ parts.0).0 le)

-- nobody holds anything

none-there : (k i : ℕ) (a : HeldAttempt) → slice_get (replicate k None) i ≡ Some (Some a) → ⊥
none-there zero i a e = cc
none-there (suc k) zero a e = let same : ◌≡◌ {A = Option HeldAttempt} None (Some a) = cc in cc
none-there (suc k) (suc i) a e = none-there k i a e

none-held : (s : State) → s.players ≡ no_players → AreHeld s
none-held s none = record {
  slots = ap length none ∙ length-replicate {A = Option HeldAttempt} 16 None;
  held = λ i a there. absurd (none-there 16 i a (ap (λ (p : List (Option HeldAttempt)). slice_get p i) (sym none) ∙ there));
  apart = λ i j a b other there beside. absurd (none-there 16 i a (ap (λ (p : List (Option HeldAttempt)). slice_get p i) (sym none) ∙ there));
}

none-placed : (places : List Places) (players : List (Option HeldAttempt)) → players ≡ no_players → HavePlaces places players
none-placed places players none n a there without =
    absurd (none-there 16 (n - 1) a (in-list no_players n a (ap (in_slot n) (sym none) ∙ there)))

-- a hub that has read its site

pub record HasOpened (limits : Limits) (facts : List Fact) (numbers : List ℕ) (new : Hub) : Type 0 where
  pub has : HasFacts facts numbers new
  pub follow : all_follow by_text no_facts facts ≡ true
  pub some : new.history.facts ≢ 0
  pub last : new.last ≡ new.history.last
  pub clients : new.clients ≡ no_clients
  pub players : players_of new.players ≡ no_players
  pub limited : new.limits ≡ limits
  pub room : 30 ≤ new.journal.spare
  pub counted : new.history.facts ≤ new.journal.place

module _ (limits : Limits) (facts : List Fact) (numbers : List ℕ) (new : Hub) (o : HasOpened limits facts numbers new) where
  -- the state that it is in, by the ends of its logs, over these rows
  abbrev pub hub_state : OutsideRows → State
  hub_state rows = as_read limits (history_of by_text facts) rows (record { gate = new.journal.place; size = new.journal.length }) (record { gate = new.log.place; size = new.log.length })

  pub all_facts : (history_of by_text facts).facts ≡ facts
  all_facts = facts-of by_text no_facts facts

  pub legal : is_legal by_text facts ≡ true
  legal = legal-is by_text facts (omega (arith, o.some, o.has.is.counted, ap length all_facts)) o.follow

  pub hub-of : (rows : OutsideRows) → IsHubOf new (hub_state rows)
  hub-of rows = record {
    history = o.has.is;
    clients = o.clients;
    players = o.players;
    last = o.last ∙ o.has.is.last;
    limits = o.limited;
    journal = refl;
    log = refl;
    settled = record {
      history = ap (history_of by_text) (sym all_facts);
      legal = subst (λ (l : List Fact). is_legal by_text l ≡ true) (sym all_facts) legal;
      not_ahead = omega arith;
      in_time = last-within no_facts facts o.follow (omega arith);
      recorded = none-recorded (history_of by_text facts).catalogue;
      held = none-held (hub_state rows) refl;
    };
    fit = record {
      played = none-played new.history.catalogue new.players o.players;
      places = none-placed new.history.tables.places (players_of new.players) o.players;
      room = o.room;
      counted = o.counted;
    };
  }

  -- where the site tells, whose image it was as the journal's end was closed and then the other log's
  module _ (shown mid now : Image) (headers : HasHeaders shown) (spelled : SpellsHistory shown.journal facts) (first : mid ≡ with_closed_journal shown) (ended : HasEnded shown.journal mid.journal new.journal.place new.journal.length) (l : HasReadLog mid now new) where
    same_crm_log : mid.crm_log ≡ shown.crm_log
    same_crm_log = ap (λ (i : Image). i.crm_log) first

    same_journal : now.journal ≡ mid.journal
    same_journal = ap (λ (i : Image). i.journal) l.closed

    stands-read : StandsFor by_text shown facts
    stands-read = record { headers = headers; spelled = spelled; legal = legal; unused = sym (ap groups same_crm_log) ∙ l.none }

    pub closed : now ≡ with_closed_logs shown
    closed = l.closed ∙ ap (λ (i : Image). with_bytes CrmLog (with_closed_gate i.crm_log) i) first

    pub same : SameSite shown now
    same =
        let one = same-journal shown mid mid.journal (first ∙ ap (λ (b : List ℕ). with_bytes Journal b shown) (sym (ap (λ (i : Image). i.journal) first))) ended.same in
        let then = same-crm_log mid now now.crm_log (l.closed ∙ ap (λ (b : List ℕ). with_bytes CrmLog b mid) (sym (ap (λ (i : Image). i.crm_log) l.closed))) l.ended.same in
        same-joined shown mid now one then

    log_end : file_end shown.crm_log ≡ record { gate = new.log.place; size = new.log.length }
    log_end = ap file_end (sym same_crm_log) ∙ l.ended.end

    pub site-of : IsSiteOf now (hub_state shown.rows)
    site-of = record {
      stands = subst (StandsFor by_text now) (sym all_facts) (stands-same by_text shown now facts same stands-read);
      rows = same.others.rows;
      journal = sym ended.end_now ∙ ap file_end (sym same_journal);
      log = sym l.ended.end_now;
    }

    abbrev pub read_state : State
    read_state = as_read limits (history_of by_text facts) shown.rows (file_end shown.journal) (file_end shown.crm_log)

    pub reads-as : ReadsAs limits shown read_state
    reads-as = record { facts = facts; stands = stands-read; is = refl }

    same_state : hub_state shown.rows ≡ read_state
    same_state = λ i. as_read limits (history_of by_text facts) shown.rows (sym ended.end i) (sym log_end i)

    -- no other state is read
    pub opened-as : (s : State) → ReadsAs limits shown s → IsHubOf new s × IsSiteOf now s
    opened-as s reads =
        let one : facts ≡ reads.facts = facts-one facts reads.facts spelled.limits reads.stands.spelled.limits (sym spelled.groups ∙ reads.stands.spelled.groups) in
        let state : hub_state shown.rows ≡ s = same_state ∙ ap (λ (fs : List Fact). as_read limits (history_of by_text fs) shown.rows (file_end shown.journal) (file_end shown.crm_log)) one ∙ sym reads.is in
        (subst (IsHubOf new) state (hub-of shown.rows), subst (IsSiteOf now) state site-of)

-- the failure of a later call, as this one's
causes : (e : OpenError) (a b c : ℕ) → a ≤ b → HasCause b c (IsErrOf {T = Unit {0}} (Err e) SiteFault) → HasCause a c (IsErrOf {T = Hub} (Err e) SiteFault)
causes e a b c le cause = record { no_fewer = omega (arith, le, cause.no_fewer); cause = λ f. let same : e ≡ SiteFault = cc in rose a b c le (cause.cause (ap Err same)) }
  where
    rose : (a b c : ℕ) → a ≤ b → Rose b c → Rose a c
    rose a b c le up = omega (arith, le, up)

module _ {S : Type 0} (g : Ghosts S) (limits : Limits) where
  -- the logs couldn't be opened
  pub exit-unread : (e : OpenError) (site after : S) → FindsLogs g limits (Err e) site after → OpensSite g limits (Err e) site after
  exit-unread e site after o = unopened g e limits site after (λ told. why e o told) (λ told. left e o told) (λ told. leaves-read g site after (o.writes.any_moment told)) o.writes.cause
    where
      why : (e : OpenError) → FindsLogs g limits (Err e) site after → g.told → WhyNot (g.shown site) e
      why SiteFault o told = tt
      why NotMade o told = o.not_made told refl
      why NoCatalogue o told = absurd (o.not_empty refl)
      why (Damaged d) o told = absurd (o.not_damaged d refl)
      why NoMemory o told = tt

      left : (e : OpenError) → FindsLogs g limits (Err e) site after → g.told → LeavesUnopened e (g.shown site) (g.shown after)
      left SiteFault o told = tt
      left NotMade o told = o.writes.same told (λ is. cc)
      left NoCatalogue o told = absurd (o.not_empty refl)
      left (Damaged d) o told = absurd (o.not_damaged d refl)
      left NoMemory o told = inl (o.writes.same told (λ is. cc))

  module _ (site a b : S) (hub mid : Hub) (o : FindsLogs g limits (Ok hub) site a) (counts_a : (t : ℕ) (c : Image) → g.told → t ≤ g.moment a → g.may_leave a c → g.left_since a t c) where
    still : g.told → g.shown a ≡ g.shown site
    still told = o.writes.same told (λ is. cc)

    start : hub.journal.start ≡ 16
    start = ap (λ (j : JournalView). j.start) o.unread.journal

    -- the journal's groups stay while it is read
    moments-facts : {failed : Type 0} → KeepsGroups g (log_of hub.journal) failed a b → g.told → LeavesOnly g.moment g.left_since site b (LeavesSame (g.may_leave site))
    moments-facts keeps told =
        let first = leaves-read g site a (o.writes.any_moment told) in
        let then : LeavesOnly g.moment g.left_since a b (After Journal SameLog (g.may_leave a)) = subst (λ (n : ℕ). LeavesOnly g.moment g.left_since a b (After Journal (SameFrom n) (g.may_leave a))) start (keeps.any_moment told) in
        leaves-on g site a b (λ c here. counts_a (g.moment site) c told first.later here) first (leaves-journal g a b then)

    -- the journal couldn't be read to its end
    pub exit-facts : (e : OpenError) → ReadsFacts g (Err e) hub a mid b → OpensSite g limits (Err e) site b
    exit-facts e r = unopened g e limits site b (λ told. why e r told) (λ told. left e r told) (λ told. moments-facts r.keeps told) (causes e (g.faults site) (g.faults a) (g.faults b) o.writes.cause.no_fewer r.keeps.cause)
      where
        there : (d : Damage) → g.told → DamagedJournal (g.shown a).journal d.at → DamagedJournal (g.shown site).journal d.at
        there d told here = subst (λ (i : Image). DamagedJournal i.journal d.at) (still told) here

        why : (e : OpenError) → ReadsFacts g (Err e) hub a mid b → g.told → WhyNot (g.shown site) e
        why SiteFault r told = tt
        why NotMade r told = absurd (r.not_made refl)
        why NoCatalogue r told = absurd (r.not_empty refl)
        why (Damaged d) r told = let here = r.damaged told d refl in (o.headers told, inl (here.0, there d told here.1))
        why NoMemory r told = tt

        left : (e : OpenError) → ReadsFacts g (Err e) hub a mid b → g.told → LeavesUnopened e (g.shown site) (g.shown b)
        left SiteFault r told = tt
        left NotMade r told = absurd (r.not_made refl)
        left NoCatalogue r told = absurd (r.not_empty refl)
        left (Damaged d) r told = subst (λ f. LeavesDamaged f (g.shown site) (g.shown b)) (sym (r.damaged told d refl).0) (r.unchanged told refl (λ is. cc) ∙ still told)
        left NoMemory r told = inl (r.unchanged told refl (λ is. cc) ∙ still told)

    module _ (done : Unit {0}) (r : ReadsFacts g (Ok done) hub a mid b) where
      read : HasRead g.told (g.shown site) (g.shown b) mid
      read = record {
        facts = r.read.facts;
        numbers = r.read.numbers;
        follow = r.read.follow;
        has = r.read.has;
        spelled = λ told. subst (λ (i : Image). SpellsHistory i.journal r.read.facts) (still told) (r.read.spelled told);
        closed = λ told. subst (λ (i : Image). g.shown b ≡ with_closed_journal i) (still told) (r.read.closed told);
        ended = λ told. subst (λ (i : Image). HasEnded i.journal (g.shown b).journal mid.journal.place mid.journal.length) (still told) (r.read.ended told);
      }

      -- how many facts were read
      many : length read.facts ≡ mid.history.facts
      many = ap length (sym (facts-of by_text no_facts read.facts)) ∙ sym read.has.is.counted

      same_log : mid.log ≡ hub.log
      same_log = ap (λ (h : Hub). h.log) r.kept

      pub log_opened : mid.log ≡ just_opened CrmLog 16 mid.log.length
      log_opened = same_log ∙ o.unread.log ∙ (λ i. just_opened CrmLog 16 ((ap (λ (l : LogView). l.length) (sym same_log)) i))

      -- the log stood there while the journal was read
      pub log_stands : ((c : Image) → g.told → g.may_leave b c → g.left_since b (g.moment a) c) → LogStands g mid.log b
      log_stands counts_b = subst (λ (l : LogView). LogStands g l b) (sym same_log)
          (other-stands g (SameFrom hub.journal.start) hub.log a b (ap (λ (l : LogView). l.file) o.unread.log) counts_b (λ is. absurd cc) r.keeps o.log)

      -- there is no fact
      pub exit-empty : mid.history.facts ≡ 0 → OpensSite g limits (Err NoCatalogue) site b
      exit-empty none = unopened g NoCatalogue limits site b
          (λ told.
          let facts : read.facts ≡ [] = none-of read.facts (many ∙ none) in
          (o.headers told, (read.spelled told).groups ∙ ap (map fact_payload) facts))
          (λ told. read.closed told) (λ told. moments-facts r.keeps told)
          (record { no_fewer = omega (arith, o.writes.cause.no_fewer, r.keeps.cause.no_fewer); cause = λ is. absurd cc })

      module _ (some : mid.history.facts ≢ 0) (c : S) (new : Hub) (counts_b : (t : ℕ) (i : Image) → g.told → t ≤ g.moment b → g.may_leave b i → g.left_since b t i) where
        moments-log : {failed : Type 0} → KeepsGroups g mid.log failed b c → g.told → LeavesOnly g.moment g.left_since site c (LeavesSame (g.may_leave site))
        moments-log keeps told =
            let first = moments-facts r.keeps told in
            let then : LeavesOnly g.moment g.left_since b c (After CrmLog SameLog (g.may_leave b)) = subst (λ (l : LogView). LeavesOnly g.moment g.left_since b c (After l.file (SameFrom l.start) (g.may_leave b))) log_opened (keeps.any_moment told) in
            leaves-on g site b c (λ i here. counts_b (g.moment site) i told first.later here) first (leaves-log g b c then)

        fewer : g.faults site ≤ g.faults b
        fewer = omega (arith, o.writes.cause.no_fewer, r.keeps.cause.no_fewer)

        -- the log of compensations couldn't be read, or has a group
        pub exit-log : (e : OpenError) → FindsNoLine g (Err e) mid b new c → OpensSite g limits (Err e) site c
        exit-log e n = unopened g e limits site c (λ told. why e n told) (λ told. left e n told) (λ told. moments-log n.keeps told) (causes e (g.faults site) (g.faults b) (g.faults c) fewer n.keeps.cause)
          where
            why : (e : OpenError) → FindsNoLine g (Err e) mid b new c → g.told → WhyNot (g.shown site) e
            why SiteFault n told = tt
            why NotMade n told = absurd (n.not_made refl)
            why NoCatalogue n told = absurd (n.not_empty refl)
            why (Damaged d) n told =
                let here = n.damaged told d refl in (
                  o.headers told,
                  inr (
                    ap (λ (x : Damage). x.file) here.0,
                    record {
                      facts = read.facts;
                      spelled = read.spelled told;
                      legal = legal-is by_text read.facts (omega (arith, some, many)) read.follow;
                      some = λ none. here.1 (ap (λ (i : Image). groups i.crm_log) (read.closed told) ∙ none);
                      first = ap (λ (x : Damage). x.at) here.0;
                    },
                  ),
                )
            why NoMemory n told = tt

            left : (e : OpenError) → FindsNoLine g (Err e) mid b new c → g.told → LeavesUnopened e (g.shown site) (g.shown c)
            left SiteFault n told = tt
            left NotMade n told = absurd (n.not_made refl)
            left NoCatalogue n told = absurd (n.not_empty refl)
            left (Damaged d) n told = subst (λ (x : Damage). LeavesDamaged x.file (g.shown site) (g.shown c)) (sym (n.damaged told d refl).0) (n.unchanged told refl (λ is. cc) ∙ read.closed told)
            left NoMemory n told = inr (inl (n.unchanged told refl (λ is. cc) ∙ read.closed told))

        -- both logs were read to their ends
        module _ (over : Unit {0}) (counts_c : (i : Image) → g.told → g.may_leave c i → g.left_since c (g.moment b) i) (n : FindsNoLine g (Ok over) mid b new c) where
          no_fault : new.in_fault ≡ false
          no_fault = ap (λ (h : Hub). h.in_fault) n.kept ∙ ap (λ (h : Hub). h.in_fault) r.kept ∙ o.unread.in_fault

          journal : new.journal ≡ mid.journal
          journal = ap (λ (h : Hub). h.journal) n.kept

          history : new.history ≡ mid.history
          history = ap (λ (h : Hub). h.history) n.kept

          opened : HasOpened limits read.facts read.numbers new
          opened = record {
            has = subst (λ (v : HistoryView). IsReadAs v read.numbers (history_of by_text read.facts)) (sym history) read.has;
            follow = read.follow;
            some = λ none. some (ap (λ (v : HistoryView). v.facts) (sym history) ∙ none);
            last = ap (λ (h : Hub). h.last) n.kept ∙ r.last ∙ ap (λ (v : HistoryView). v.last) (sym history);
            clients = ap (λ (h : Hub). h.clients) n.kept ∙ ap (λ (h : Hub). h.clients) r.kept ∙ o.unread.clients;
            players = ap (λ (h : Hub). players_of h.players) n.kept ∙ ap (λ (h : Hub). players_of h.players) r.kept ∙ o.unread.players;
            limited = ap (λ (h : Hub). h.limits) n.kept ∙ ap (λ (h : Hub). h.limits) r.kept ∙ o.unread.limited;
            room = omega (arith, o.unread.room, ap (λ (j : JournalView). j.spare) (journal ∙ r.journal));
            counted = omega (arith, r.counted, ap (λ (v : HistoryView). v.facts) history, ap (λ (j : JournalView). j.place) journal);
          }

          log : new.log ≡ record (just_opened CrmLog 16 new.log.length) { ended = true }
          log = n.log ∙ (λ i. record (log_opened i) { length = new.log.length; ended = true })

          stands : LogStands g (log_of mid.journal) c
          stands =
              let changes : ChangesFile g CrmLog (SameFrom mid.log.start) (IsErrOf (Ok over) SiteFault) b c = subst (λ (f : SiteFile). ChangesFile g f (SameFrom mid.log.start) (IsErrOf (Ok over) SiteFault) b c) (ap (λ (l : LogView). l.file) log_opened) n.keeps in
              journal-stands g (SameFrom mid.log.start) mid.journal b c counts_c (λ is. cc) changes r.stands

          ended : g.told → HasEnded (g.shown site).journal (g.shown b).journal new.journal.place new.journal.length
          ended told = subst (λ (j : JournalView). HasEnded (g.shown site).journal (g.shown b).journal j.place j.length) (sym journal) (read.ended told)

          sound : StandsSound g new c
          sound = record {
            journal = subst (λ (j : JournalView). LogStands g (log_of j) c) (sym journal) stands;
            whole = ap (λ (j : JournalView). j.start) (journal ∙ r.journal) ∙ start;
            ended = ap (λ (j : JournalView). j.ended) (journal ∙ r.journal);
            log = n.stands;
            unused = record { file = ap (λ (l : LogView). l.file) log; start = ap (λ (l : LogView). l.start) log; place = ap (λ (l : LogView). l.place) log; ended = ap (λ (l : LogView). l.ended) log; waits = ap (λ (l : LogView). l.payload) log };
            state = record {
              state = hub_state limits read.facts read.numbers new opened (g.shown site).rows;
              is_in = hub-of limits read.facts read.numbers new opened (g.shown site).rows;
              on_site = λ told. site-of limits read.facts read.numbers new opened (g.shown site) (g.shown b) (g.shown c) (o.headers told) (read.spelled told) (read.closed told) (ended told) (n.read told);
            };
          }

          pub exit-opened : OpensSite g limits (Ok new) site c
          exit-opened = record {
            told = λ told.
                let shown = g.shown site in
                let between = g.shown b in
                let now = g.shown c in
                record {
                  state = opened-as limits read.facts read.numbers new opened shown between now (o.headers told) (read.spelled told) (read.closed told) (ended told) (n.read told);
                  reads = (
                    read_state limits read.facts read.numbers new opened shown between now (o.headers told) (read.spelled told) (read.closed told) (ended told) (n.read told),
                    reads-as limits read.facts read.numbers new opened shown between now (o.headers told) (read.spelled told) (read.closed told) (ended told) (n.read told),
                  );
                  closed = closed limits read.facts read.numbers new opened shown between now (o.headers told) (read.spelled told) (read.closed told) (ended told) (n.read told);
                  others = same limits read.facts read.numbers new opened shown between now (o.headers told) (read.spelled told) (read.closed told) (ended told) (n.read told);
                  not_made = λ is. absurd cc;
                  no_catalogue = λ is. absurd cc;
                  damaged = λ d is. absurd cc;
                  no_history = λ is fault memory s reads. let no : false ≡ true = is in cc;
                  unopened = tt;
                  any_moment = moments-log n.keeps told;
                };
            ready = record { stands = record { sound = λ e. sound; hurt = λ e. absurd (let both : false ≡ true = sym no_fault ∙ e in cc) }; no_fault = no_fault };
            limits = ap (λ (h : Hub). h.limits) n.kept ∙ ap (λ (h : Hub). h.limits) r.kept ∙ o.unread.limited;
            cause = record { no_fewer = omega (arith, fewer, n.keeps.cause.no_fewer); cause = λ is. absurd cc };
          }
