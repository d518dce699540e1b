-- The exits of the reading of a site: each says all that the call promises.
use Rattle.std.proofs.Common.{◌≡◌, ◌≢◌, inl, inr, ◌≤◌, ℕ, List, [], length, map, refl, sym, ap, ◌∙◌, subst, arith, true, Ok, Err, IsErrOf}
use Rattle.qc_base.specs.declared.fact.Fact.{Fact}
use Rattle.qc_base.specs.declared.message.Message.{Message}
use Rattle.qc_base.specs.declared.log_line.LogLine.{LogLine}
use Rattle.qc_catalogue.specs.declared.catalogue.Catalogue.{Catalogue}
use Rattle.qc_history.specs.Stands.{IsHistoryOf}
use Rattle.qc_history.specs.View.{HistoryView}
use Rattle.qc_site.specs.Causes.{HasCause}
use Rattle.qc_site.specs.declared.site.Site.{Ghosts}
use Rattle.qc_site.specs.declared.site.SiteFile.{SiteFile}
use Rattle.qc_site.specs.declared.site.SiteFile.TheVariants.{Journal, CrmLog}
use Rattle.qc_site.specs.Disk.{LeavesOnly}
use Rattle.qc_site.specs.Image.{Image, with_bytes}
use Rattle.qc_frame.specs.declared.error.Damage.{Damage}
use Rattle.qc_frame.specs.Calls.{LogStands, ChangesFile, KeepsGroups}
use Rattle.qc_frame.specs.Gate.{After}
use Rattle.qc_frame.specs.Log.{LogView, SameLog, SameFrom}
use Rattle.qc_entries.specs.Entries.{EntriesView}
use Rattle.qc_journal.specs.History.{SpellsHistory, fact_payload}
use Rattle.qc_journal.specs.Journal.{JournalView, log_of}
use Rattle.crm_history.specs.declared.ended.Ended.{Ended}
use Rattle.crm_history.specs.Legal.{is_log_legal}
use Rattle.crm_recovery.specs.Reading.{JustOpened, DamagedLines, SpellsLines}
use Rattle.qc_machine.specs.declared.error.OpenError.{OpenError}
use Rattle.qc_machine.specs.declared.error.OpenError.TheVariants.{SiteFault, NotMade, NoCatalogue, Damaged, NoMemory}
use Rattle.qc_machine.specs.History.{History, by_text, history_of, is_legal, no_facts}
use Rattle.qc_machine.specs.Opening.{DamagedJournal}
use Rattle.qc_machine.specs.Sites.{SameSite, LeavesSame}
use Rattle.qc_machine.specs.Sound.{ended_by, ended_in, is_log_of}
use Rattle.qc_machine.proofs.Histories.{facts-of, legal-is}
use Rattle.qc_machine.proofs.Images.{same-journal, same-crm_log, same-joined}
use Rattle.std.specs.Prelude.{filter_map}
use Rattle.qc_recovery.specs.declared.reading.Reading.{Reading}
use Rattle.qc_recovery.specs.Opening.{FindsLogs, HasRead, ReadsFacts, ReadsLines, with_closed_journal}
use Rattle.qc_recovery.specs.Calls.{AreAtEnds, DamagedLog, IsReadSite, LeavesDamaged, LeavesUnread, ReadsSite, WhyNot}
use Rattle.qc_recovery.proofs.Logs.{other-stands}
use Rattle.qc_recovery.proofs.OpeningSteps.{causes, leaves-read, leaves-journal, leaves-log, leaves-on, journal-stands}
use Rattle.qc_recovery.proofs.OpeningTaken.{none-of}

-- what is kept of a history says of a log what the history says
pub as-history : (P : Catalogue → ℕ → List Ended → Type 0) (h : History) (v : HistoryView) (ended : List Ended) → IsHistoryOf v h → ended ≡ ended_in h → P v.catalogue (length v.store.messages) ended → P h.catalogue (length h.messages) (ended_in h)
as-history P h v ended is e p =
    subst (λ (c : Catalogue). P c (length h.messages) (ended_in h)) is.catalogue
    (subst (λ (ms : List Message). P v.catalogue (length ms) (ended_in h)) is.messages
    (subst (λ (l : List Ended). P v.catalogue (length v.store.messages) l) e p))

-- a failure of one result is one of another
pub other-failure : {A B : Type 0} (e : OpenError) → IsErrOf {T = A} (Err e) SiteFault → IsErrOf {T = B} (Err e) SiteFault
other-failure e is = let same : e ≡ SiteFault = cc in ap Err same

module _ {S : Type 0} (g : Ghosts S) where
  -- a reading that ends in an error
  read-none : (e : OpenError) (site after : S) → (g.told → WhyNot (g.shown site) e) → (g.told → LeavesUnread e (g.shown site) (g.shown after)) → (g.told → LeavesOnly g.moment g.left_since site after (LeavesSame (g.may_leave site)))
      → HasCause (g.faults site) (g.faults after) (IsErrOf {T = Reading} (Err e) SiteFault) → ReadsSite g (Err e) site after
  read-none e site after why left moments cause = record { read = tt; why = why; unread = left; any_moment = moments; cause = cause }

  -- the logs couldn't be opened
  pub exit-begin : (e : OpenError) (site after : S) → FindsLogs g (Err e) site after → ReadsSite g (Err e) site after
  exit-begin e site after o = read-none e site after (λ told. why e o told) (λ told. left e o told) (λ told. leaves-read g site after (o.writes.any_moment told)) o.writes.cause
    where
      why : (e : OpenError) → FindsLogs g (Err e) site after → g.told → WhyNot (g.shown site) e
      why SiteFault o told = tt
      why NotMade o told = o.not_made told refl
      why NoCatalogue o told = absurd (o.not_empty refl)
      why (Damaged d) o told = absurd (o.not_damaged d refl)
      why NoMemory o told = tt

      left : (e : OpenError) → FindsLogs g (Err e) site after → g.told → LeavesUnread e (g.shown site) (g.shown after)
      left SiteFault o told = tt
      left NotMade o told = o.writes.same told (λ is. cc)
      left NoCatalogue o told = absurd (o.not_empty refl)
      left (Damaged d) o told = absurd (o.not_damaged d refl)
      left NoMemory o told = tt

  module _ (site a b : S) (first mid : Reading) (o : FindsLogs g (Ok first) site a) (counts_a : (t : ℕ) (c : Image) → g.told → t ≤ g.moment a → g.may_leave a c → g.left_since a t c) where
    still : g.told → g.shown a ≡ g.shown site
    still told = o.writes.same told (λ is. cc)

    start : first.journal.start ≡ 16
    start = ap (λ (j : JournalView). j.start) o.unread.journal

    -- the journal's groups stay while it is read
    moments-facts : {failed : Type 0} → KeepsGroups g (log_of first.journal) failed a b → g.told → LeavesOnly g.moment g.left_since site b (LeavesSame (g.may_leave site))
    moments-facts keeps told =
        let begun = leaves-read g site a (o.writes.any_moment told) in
        let then : LeavesOnly g.moment g.left_since a b (After Journal SameLog (g.may_leave a)) = subst (λ (n : ℕ). LeavesOnly g.moment g.left_since a b (After Journal (SameFrom n) (g.may_leave a))) start (keeps.any_moment told) in
        leaves-on g site a b (λ c here. counts_a (g.moment site) c told begun.later here) begun (leaves-journal g a b then)

    -- the journal couldn't be read to its end
    pub exit-facts : (e : OpenError) → ReadsFacts g (Err e) first a mid b → ReadsSite g (Err e) site b
    exit-facts e r = read-none e site b (λ told. why e r told) (λ told. left e r told) (λ told. moments-facts r.keeps told) (causes (g.faults site) (g.faults a) (g.faults b) _ _ (other-failure e) o.writes.cause.no_fewer r.keeps.cause)
      where
        there : (d : Damage) → g.told → DamagedJournal (g.shown a).journal d.at → DamagedJournal (g.shown site).journal d.at
        there d told here = subst (λ (i : Image). DamagedJournal i.journal d.at) (still told) here

        why : (e : OpenError) → ReadsFacts g (Err e) first a mid b → g.told → WhyNot (g.shown site) e
        why SiteFault r told = tt
        why NotMade r told = absurd (r.not_made refl)
        why NoCatalogue r told = absurd (r.not_empty refl)
        why (Damaged d) r told = let here = r.damaged told d refl in (o.headers told, inl (here.0, there d told here.1))
        why NoMemory r told = tt

        left : (e : OpenError) → ReadsFacts g (Err e) first a mid b → g.told → LeavesUnread e (g.shown site) (g.shown b)
        left SiteFault r told = tt
        left NotMade r told = absurd (r.not_made refl)
        left NoCatalogue r told = absurd (r.not_empty refl)
        left (Damaged d) r told = subst (λ f. LeavesDamaged f (g.shown site) (g.shown b)) (sym (r.damaged told d refl).0) (r.unchanged told refl (λ is. cc) ∙ still told)
        left NoMemory r told = tt

    module _ (done : Unit {0}) (r : ReadsFacts g (Ok done) first a mid b) where
      read : HasRead g.told (g.shown site) (g.shown b) mid
      read = record {
        facts = r.read.facts;
        numbers = r.read.numbers;
        follow = r.read.follow;
        has = r.read.has;
        spelled = λ told. subst (λ (i : Image). SpellsHistory i.journal r.read.facts) (still told) (r.read.spelled told);
        closed = λ told. subst (λ (i : Image). g.shown b ≡ with_closed_journal i) (still told) (r.read.closed told);
        same = λ told. subst (λ (i : Image). SameLog i.journal (g.shown b).journal) (still told) (r.read.same told);
      }

      abbrev h : History
      h = history_of by_text read.facts

      all_facts : h.facts ≡ read.facts
      all_facts = facts-of by_text no_facts read.facts

      -- how many facts were read
      many : length read.facts ≡ mid.history.facts
      many = ap length (sym all_facts) ∙ sym read.has.read.is.counted

      ended : mid.ended.items ≡ ended_in h
      ended = read.has.ended ∙ ap (λ (l : List Fact). filter_map ended_by l) (sym all_facts)

      same_log : mid.log ≡ first.log
      same_log = ap (λ (x : Reading). x.log) r.kept

      pub log_opened : JustOpened mid.log
      log_opened = subst JustOpened (sym same_log) o.unread.log

      -- the log stood there while the journal was read
      pub log_stands : ((c : Image) → g.told → g.may_leave b c → g.left_since b (g.moment a) c) → LogStands g mid.log.log b
      log_stands counts_b = subst (λ (l : EntriesView). LogStands g l.log b) (sym same_log)
          (other-stands g (SameFrom first.journal.start) first.log.log a b o.unread.log.file counts_b (λ is. absurd cc) r.keeps o.log)

      -- there is no fact
      pub exit-empty : mid.history.facts ≡ 0 → ReadsSite g (Err NoCatalogue) site b
      exit-empty none = read-none NoCatalogue site b
          (λ told.
          let facts : read.facts ≡ [] = none-of read.facts (many ∙ none) in
          (o.headers told, (read.spelled told).groups ∙ ap (map fact_payload) facts))
          (λ told. read.closed told) (λ told. moments-facts r.keeps told)
          (record { no_fewer = omega (arith, o.writes.cause.no_fewer, r.keeps.cause.no_fewer); cause = λ is. absurd cc })

      module _ (some : mid.history.facts ≢ 0) (c : S) (new : Reading) (counts_b : (t : ℕ) (i : Image) → g.told → t ≤ g.moment b → g.may_leave b i → g.left_since b t i) where
        moments-log : {failed : Type 0} → KeepsGroups g mid.log.log failed b c → g.told → LeavesOnly g.moment g.left_since site c (LeavesSame (g.may_leave site))
        moments-log keeps told =
            let before = moments-facts r.keeps told in
            let there : LeavesOnly g.moment g.left_since b c (After CrmLog (SameFrom mid.log.log.start) (g.may_leave b)) = subst (λ (f : SiteFile). LeavesOnly g.moment g.left_since b c (After f (SameFrom mid.log.log.start) (g.may_leave b))) log_opened.file (keeps.any_moment told) in
            let then : LeavesOnly g.moment g.left_since b c (After CrmLog SameLog (g.may_leave b)) = subst (λ (n : ℕ). LeavesOnly g.moment g.left_since b c (After CrmLog (SameFrom n) (g.may_leave b))) log_opened.start there in
            leaves-on g site b c (λ i here. counts_b (g.moment site) i told before.later here) before (leaves-log g b c then)

        fewer : g.faults site ≤ g.faults b
        fewer = omega (arith, o.writes.cause.no_fewer, r.keeps.cause.no_fewer)

        legal : is_legal by_text read.facts ≡ true
        legal = legal-is by_text read.facts (omega (arith, some, many)) read.follow

        same_crm_log : g.told → (g.shown b).crm_log ≡ (g.shown site).crm_log
        same_crm_log told = ap (λ (i : Image). i.crm_log) (read.closed told)

        -- the log of compensations couldn't be read to its end
        pub exit-log : (e : OpenError) → ReadsLines g (Err e) mid b new c → ReadsSite g (Err e) site c
        exit-log e n = read-none e site c (λ told. why e n told) (λ told. left e n told) (λ told. moments-log n.keeps told) (causes (g.faults site) (g.faults b) (g.faults c) _ _ (other-failure e) fewer n.keeps.cause)
          where
            damaged : (d : Damage) → ReadsLines g (Err (Damaged d)) mid b new c → g.told → DamagedLog (g.shown site) d.at
            damaged d n told = record {
              facts = read.facts;
              spelled = read.spelled told;
              legal = legal;
              start = mid.log;
              opened = log_opened;
              unfit = as-history (λ cat sent l. DamagedLines cat sent l (g.shown site).crm_log mid.log d.at) h mid.history mid.ended.items read.has.read.is ended
                  (subst (λ (f : List ℕ). DamagedLines mid.history.catalogue (length mid.history.store.messages) mid.ended.items f mid.log d.at) (same_crm_log told) (n.damaged told d refl).1);
            }

            why : (e : OpenError) → ReadsLines g (Err e) mid b new c → g.told → WhyNot (g.shown site) e
            why SiteFault n told = tt
            why NotMade n told = absurd (n.not_made refl)
            why NoCatalogue n told = absurd (n.not_empty refl)
            why (Damaged d) n told = (o.headers told, inr ((n.damaged told d refl).0, damaged d n told))
            why NoMemory n told = tt

            left : (e : OpenError) → ReadsLines g (Err e) mid b new c → g.told → LeavesUnread e (g.shown site) (g.shown c)
            left SiteFault n told = tt
            left NotMade n told = absurd (n.not_made refl)
            left NoCatalogue n told = absurd (n.not_empty refl)
            left (Damaged d) n told = subst (λ f. LeavesDamaged f (g.shown site) (g.shown c)) (sym (n.damaged told d refl).0) (n.unchanged told refl (λ is. cc) ∙ read.closed told)
            left NoMemory n told = tt

        -- both logs were read to their ends
        module _ (over : Unit {0}) (counts_c : (i : Image) → g.told → g.may_leave c i → g.left_since c (g.moment b) i) (n : ReadsLines g (Ok over) mid b new c) where
          journal : new.journal ≡ mid.journal
          journal = ap (λ (x : Reading). x.journal) n.kept

          history : new.history ≡ mid.history
          history = ap (λ (x : Reading). x.history) n.kept

          ends : AreAtEnds new.journal new.log new.history
          ends = record {
            whole = ap (λ (j : JournalView). j.start) (journal ∙ r.journal) ∙ start;
            ended = ap (λ (j : JournalView). j.ended) (journal ∙ r.journal);
            file = ap (λ (l : LogView). l.file) n.log ∙ log_opened.file;
            log_whole = ap (λ (l : LogView). l.start) n.log ∙ log_opened.start;
            log_ended = ap (λ (l : LogView). l.ended) n.log;
            none_wait = ap (λ (l : LogView). l.payload) n.log ∙ log_opened.none_wait;
            counted = omega (arith, r.counted, ap (λ (v : HistoryView). v.facts) history, ap (λ (j : JournalView). j.place) journal);
          }

          changed : ChangesFile g CrmLog (SameFrom mid.log.log.start) (IsErrOf (Ok over) SiteFault) b c
          changed = subst (λ (f : SiteFile). ChangesFile g f (SameFrom mid.log.log.start) (IsErrOf (Ok over) SiteFault) b c) log_opened.file n.keeps

          beside : is_log_of h new.lines.items ≡ true
          beside = as-history (λ cat sent l. is_log_legal cat sent l new.lines.items ≡ true) h mid.history mid.ended.items read.has.read.is ended n.legal

          same : g.told → SameSite (g.shown site) (g.shown c)
          same told =
              let shown = g.shown site in
              let between = g.shown b in
              let now = g.shown c in
              let closed = read.closed told in
              let step = changed.shown told (λ is. absurd cc) in
              let by : SameLog between.crm_log step.bytes = subst (λ (m : ℕ). SameFrom m between.crm_log step.bytes) log_opened.start step.by in
              let one = same-journal shown between between.journal (closed ∙ ap (λ (bytes : List ℕ). with_bytes Journal bytes shown) (sym (ap (λ (i : Image). i.journal) closed))) (read.same told) in
              same-joined shown between now one (same-crm_log between now step.bytes step.is by)

          shown-read : g.told → IsReadSite read.facts new.lines.items (g.shown site) (g.shown c)
          shown-read told =
              let spelled : SpellsLines (g.shown site).crm_log new.lines.items = subst (λ (f : List ℕ). SpellsLines f new.lines.items) (same_crm_log told) (n.spelled told) in
              record {
                log = spelled.groups;
                is = spelled.is;
                spells = record {
                  headers = o.headers told;
                  facts_spelled = read.spelled told;
                  legal = legal;
                  lines_spelled = spelled.spelled;
                  beside = subst (λ (l : List LogLine). is_log_of h l ≡ true) spelled.is beside;
                };
                same = same told;
                journal = ap (λ (i : Image). i.journal) (changed.shown told (λ is. absurd cc)).is ∙ ap (λ (i : Image). i.journal) (read.closed told);
              }

          pub exit-read : ReadsSite g (Ok new) site c
          exit-read = record {
            read = record {
              journal = subst (λ (j : JournalView). LogStands g (log_of j) c) (sym journal) (journal-stands g (SameFrom mid.log.log.start) mid.journal b c counts_c (λ is. cc) changed r.stands);
              log = n.stands;
              ends = ends;
              facts = read.facts;
              ended = ap (λ (x : Reading). x.ended.items) n.kept ∙ ended;
              read = record {
                legal = legal;
                kept = subst (λ (v : HistoryView). IsHistoryOf v h) (sym history) read.has.read.is;
                beside = beside;
                limits = n.limits;
              };
              shown = shown-read;
            };
            why = λ told. tt;
            unread = λ told. tt;
            any_moment = λ told. moments-log n.keeps told;
            cause = record { no_fewer = omega (arith, fewer, n.keeps.cause.no_fewer); cause = λ is. absurd cc };
          }
