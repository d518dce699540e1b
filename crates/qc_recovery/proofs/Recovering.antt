-- The exits of a recovery: each says all that the call promises.
use Rattle.std.proofs.Common.{◌≡◌, inl, inr, ◌≤◌, ℕ, max, List, [], ◌++◌, length, map, take, append-nil, refl, sym, ap, ◌∙◌, subst, arith, true, Result, Ok, Err, IsErrOf}
use Rattle.std.proofs.lemmas.Grind.{flat_map-append}
use Rattle.std.specs.Prelude.{Vec}
use Rattle.std.specs.declared.alloc.Global.{Global}
use Rattle.qc_base.specs.Rows.{OutsideRows}
use Rattle.qc_base.specs.declared.fact.Fact.{Fact}
use Rattle.qc_base.specs.declared.log_line.LogLine.{LogLine}
use Rattle.qc_base.specs.declared.log_line.Recovered.{Recovered}
use Rattle.qc_base.specs.LogLines.{attempt_of_line, unfinished}
use Rattle.std.specs.List.{list_all}
use Rattle.qc_catalogue.specs.Catalogue.{IsCatalogueOf}
use Rattle.qc_catalogue.specs.Rows.{has_its_phases}
use Rattle.qc_catalogue.specs.declared.catalogue.Catalogue.{Catalogue}
use Rattle.qc_history.specs.View.{HistoryView}
use Rattle.qc_history.specs.Stands.{IsHistoryOf, attempts_in}
use Rattle.qc_site.specs.declared.site.Site.{Ghosts}
use Rattle.qc_site.specs.declared.site.SiteFile.{SiteFile}
use Rattle.qc_site.specs.Disk.{Certain, LeavesOnly}
use Rattle.qc_site.specs.Image.{Image, bytes_of}
use Rattle.qc_site.proofs.Moments.{weaker, joined}
use Rattle.qc_frame.specs.Calls.{LogStands}
use Rattle.qc_frame.specs.Frame.{groups}
use Rattle.qc_frame.specs.Log.{StandsOn}
use Rattle.qc_entries.specs.Entries.{EntriesView}
use Rattle.qc_journal.specs.Journal.{JournalView, log_of}
use Rattle.crm_driver.specs.Puts.{RowPut}
use Rattle.crm_driver.proofs.PutLaws.{Lacks}
use Rattle.crm_history.specs.declared.ended.Ended.{Ended}
use Rattle.crm_history.specs.Legal.{is_log_legal}
use Rattle.crm_log.specs.Log.{IsLogOf, all_lines}
use Rattle.crm_recovery.specs.declared.error.FinishError.{FinishError}
use Rattle.crm_recovery.specs.declared.error.FinishError.TheVariants.{SiteFault as finish_fault, NoMemory as finish_memory}
use Rattle.crm_recovery.specs.Calls.{CanFinish, Finishes, ShowsFinished}
use Rattle.crm_recovery.specs.Moments.{finish_of, finishes, FinishesInTurn, GoesByFinishes, GoesByNext, LeavesFinishes}
use Rattle.crm_recovery.specs.Settling.{done_groups, recoveries, settling_puts, rows_after}
use Rattle.qc_machine.specs.Attempts.{greatest}
use Rattle.qc_machine.specs.declared.error.OpenError.{OpenError}
use Rattle.qc_machine.specs.declared.error.OpenError.TheVariants.{SiteFault}
use Rattle.qc_machine.specs.History.{History, by_text, history_of}
use Rattle.qc_machine.specs.Sound.{ended_in, is_log_of}
use Rattle.qc_machine.proofs.PlayerSlots.{greatest-append}
use Rattle.qc_recovery.specs.declared.parts.Parts.{Parts}
use Rattle.qc_recovery.specs.declared.reading.Reading.{Reading}
use Rattle.qc_recovery.specs.Stands.{AreKept, StandsFor, IsRecovered}
use Rattle.qc_recovery.specs.Opening.{unfinished_error}
use Rattle.qc_recovery.specs.Calls.{AreAtEnds, AreCertain, AreRead, GoesOnRecovered, IsReadSite, LeavesBegun, LeavesKept, LeavesRecovered, LeavesUnread, ReadsSite, Recovers, WasRead, WhyNot, finishes_of}
use Rattle.qc_recovery.proofs.Finished.{all-puts-in, finishes-keep, finishes-rows, spells-front, spells-here, spells-logs}
use Rattle.qc_recovery.proofs.Kept.{begun-recovered, recovered-kept, same-kept}
use Rattle.qc_recovery.proofs.Logs.{stands-among}
use Rattle.qc_recovery.proofs.OpeningSteps.{causes}
use Rattle.qc_recovery.proofs.Settled.{catalogue-heard}
use Rattle.qc_recovery.proofs.SiteRead.{other-failure}

-- a fact about three values is one about three that are equal to them
pub along : {A B C : Type 0} (T : A → B → C → Type 0) (a x : A) (b y : B) (c z : C) → a ≡ x → b ≡ y → c ≡ z → T a b c → T x y z
along T a x b y c z e f h t = subst (λ u. T u y z) e (subst (λ u. T a u z) f (subst (λ u. T a b u) h t))

-- the lines that were read can be finished
pub can-finish : ((text : List ℕ) (c : Catalogue) → IsCatalogueOf text c → list_all has_its_phases c.resources ≡ true) → (facts : List Fact) (lines : List LogLine) (v : HistoryView) (ended : List Ended) → AreRead facts lines v → ended ≡ ended_in (history_of by_text facts) → CanFinish v.catalogue ended lines
can-finish law facts lines v ended read same =
    let h = history_of by_text facts in
    record {
      phases = subst (λ (c : Catalogue). list_all has_its_phases c.resources ≡ true) (sym read.kept.catalogue) (catalogue-heard law facts);
      limits = read.limits;
      sent = length h.messages;
      legal = subst (λ (c : Catalogue). is_log_legal c (length h.messages) ended lines ≡ true) (sym read.kept.catalogue) (subst (λ (l : List Ended). is_log_legal h.catalogue (length h.messages) l lines ≡ true) (sym same) read.beside);
    }

-- What is kept of a history gives the same finishes, puts and reports.
module _ (h : History) (v : HistoryView) (ended : List Ended) (lines : List LogLine) (is : v.catalogue ≡ h.catalogue) (same : ended ≡ ended_in h) where
  all-finishes : finishes v.catalogue ended lines ≡ finishes_of h lines
  all-finishes = λ i. finishes (is i) (same i) lines

  all-puts : settling_puts v.catalogue ended lines ≡ settling_puts h.catalogue (ended_in h) lines
  all-puts = λ i. settling_puts (is i) (same i) lines

-- an image that goes on as a recovery does
pub goes-on-recovered : (facts : List Fact) (lines : List LogLine) (v : HistoryView) (ended : List Ended) (before mid now : Image) → IsHistoryOf v (history_of by_text facts) → ended ≡ ended_in (history_of by_text facts) → is_log_of (history_of by_text facts) (lines ++ all_lines (done_groups lines)) ≡ true
    → IsReadSite facts lines before mid → ShowsFinished (settling_puts v.catalogue ended lines) (done_groups lines) mid now → GoesOnRecovered facts lines before now
goes-on-recovered facts lines v ended before mid now kept same beside read finished =
    let h = history_of by_text facts in
    let spells = read.spells in
    let logs : IsLogOf mid read.log = record {
      header = read.same.others.log.front ∙ spells.headers.log;
      spelled = record { groups = read.same.others.log.same ∙ spells.lines_spelled.groups; limits = spells.lines_spelled.limits };
    } in
    let done = finished.log read.log logs in
    record {
      log = read.log;
      is = read.is;
      spells = spells;
      spells_done = record {
        headers = record { journal = ap (take 16) finished.journal ∙ read.same.journal.front ∙ spells.headers.journal; log = done.header };
        facts_spelled = record { groups = ap groups finished.journal ∙ read.same.journal.same ∙ spells.facts_spelled.groups; limits = spells.facts_spelled.limits };
        legal = spells.legal;
        lines_spelled = done.spelled;
        beside = subst (λ (l : List LogLine). is_log_of h l ≡ true) (ap (λ (l : List LogLine). l ++ all_lines (done_groups lines)) read.is ∙ sym (flat_map-append (λ (l : List LogLine). l) read.log (done_groups lines))) beside;
      };
      journal = finished.journal ∙ read.journal;
      rows = finished.rows ∙ (λ i. rows_after (all-puts h v ended lines kept.catalogue same i) (read.same.others.rows i));
      snap = finished.snap ∙ read.same.others.snap;
    }

module _ {S : Type 0} (g : Ghosts S) where
  -- the logs couldn't be read
  pub exit-unread : (e : OpenError) (site after : S) → ReadsSite g (Err e) site after → Recovers g (Err e) site after
  exit-unread e site after r = record {
    kept = λ told all. record { any_moment = weaker g.moment g.left_since site after _ _ (same-kept (g.may_leave site) all) (r.any_moment told); recovered = tt };
    recovered = tt;
    settled = λ told. tt;
    certain = λ told. tt;
    why = r.why;
    unread = r.unread;
    any_moment = λ told. weaker g.moment g.left_since site after _ _ (λ c here. inl here) (r.any_moment told);
    cause = record { no_fewer = r.cause.no_fewer; cause = λ is. r.cause.cause (other-failure e is) };
  }

  module _ (site mid : S) (reading : Reading) (r : ReadsSite g (Ok reading) site mid) (shows : g.told → g.may_leave site (g.shown site))
      (counts : (t : ℕ) (c : Image) → g.told → t ≤ g.moment mid → g.may_leave mid c → g.left_since mid t c) (after : S) where
    abbrev facts : List Fact
    facts = r.read.facts

    abbrev h : History
    h = history_of by_text facts

    abbrev lines : List LogLine
    lines = reading.lines.items

    -- an image from which the attempts are finished spells what was read
    was-read : (told : g.told) (c : Image) → g.may_leave mid c → WasRead facts (r.read.shown told).log (g.may_leave site) c
    was-read told c here =
        let shown = r.read.shown told in
        let first = r.any_moment told in
        let log : c.crm_log ≡ (g.shown mid).crm_log = subst (λ (file : SiteFile). bytes_of file c ≡ bytes_of file (g.shown mid)) r.read.ends.file ((r.read.log told).certain c here) in
        record {
          left = first.each c (counts (g.moment site) c told first.later here);
          spells = spells-here (g.shown mid) c facts shown.log ((r.read.journal told).certain c here) log
              (spells-logs (g.shown site) (g.shown mid) facts shown.log shown.same.journal shown.same.others.log shown.spells);
        }

    -- and it is gone on by a front of them
    abbrev begun : is_log_of h (lines ++ all_lines (done_groups lines)) ≡ true → (told : g.told) (c : Image) → LeavesFinishes (g.shown mid).rows (finishes reading.history.catalogue reading.ended.items lines) (g.may_leave mid) c
        → LeavesBegun (g.shown site) (g.may_leave site) c
    begun legal told c left =
        let shown = r.read.shown told in
        let rows : (g.shown mid).rows ≡ (g.shown site).rows = shown.same.others.rows in
        let from = was-read told left.was left.there in
        let split : finishes_of h (all_lines shown.log) ≡ left.done ++ left.left
        = sym (ap (finishes_of h) shown.is) ∙ sym (all-finishes h reading.history reading.ended.items lines r.read.read.kept.catalogue r.read.ended) ∙ left.split in
        let whole = subst (λ (rows : OutsideRows). GoesByFinishes rows left.done left.was left.mid) rows left.whole in
        let part = subst (λ (rows : OutsideRows). GoesByNext rows left.left left.mid c) rows left.part in
        record {
          facts = facts;
          log = shown.log;
          spells = shown.spells;
          left = record { was = left.was; there = from; done = left.done; left = left.left; split = split; mid = left.mid; whole = whole; part = part };
          now = spells-front (g.shown site).rows left.was left.mid c facts shown.log left.done left.left
              (subst (λ (l : List LogLine). is_log_of h (l ++ all_lines (done_groups l)) ≡ true) shown.is legal) split whole part from.spells;
        }

    -- the attempts are finished from what the reading left
    moments : {A E : Type 0} {result : Result A E} → is_log_of h (lines ++ all_lines (done_groups lines)) ≡ true → FinishesInTurn g (finishes reading.history.catalogue reading.ended.items lines) result mid after
        → g.told → LeavesOnly g.moment g.left_since site after (LeavesRecovered (g.shown site) (g.may_leave site))
    moments legal in_turn told =
        joined g.moment g.left_since site mid after _ (weaker g.moment g.left_since site mid _ _ (λ c here. inl here) (r.any_moment told))
        (weaker g.moment g.left_since mid after _ _ (λ c left. inr (begun legal told c left)) (in_turn.any_moment told))

    -- images that stand for a history keep it
    keeps : {A E : Type 0} {result : Result A E} → is_log_of h (lines ++ all_lines (done_groups lines)) ≡ true → FinishesInTurn g (finishes reading.history.catalogue reading.ended.items lines) result mid after
        → (told : g.told) → AreKept (g.may_leave site) → LeavesOnly g.moment g.left_since site after (LeavesKept (g.may_leave site))
    keeps legal in_turn told all = weaker g.moment g.left_since site after _ _ (recovered-kept (g.shown site) (g.may_leave site) all (shows told)) (moments legal in_turn told)

    -- an attempt couldn't be finished
    pub exit-unfinished : {puts : List RowPut} {done : List (List LogLine)} (e : FinishError) (log : EntriesView) → Finishes g {A = Vec Recovered Global} puts done (IsErrOf {T = Vec Recovered Global} (Err e) finish_fault) (Err e) reading.log mid log after
        → is_log_of h (lines ++ all_lines (done_groups lines)) ≡ true → FinishesInTurn g {A = Vec Recovered Global} (finishes reading.history.catalogue reading.ended.items lines) (Err e) mid after → Recovers g (Err (unfinished_error e)) site after
    exit-unfinished e log f legal in_turn = record {
      recovered = tt;
      settled = λ told. tt;
      certain = λ told. tt;
      why = λ told. why e;
      unread = λ told. left e;
      any_moment = moments legal in_turn;
      kept = λ told all. record { any_moment = keeps legal in_turn told all; recovered = tt };
      cause = causes (g.faults site) (g.faults mid) (g.faults after) _ _ (λ is. let same : unfinished_error e ≡ SiteFault = cc in ap Err (fault e same)) r.cause.no_fewer f.cause;
    }
      where
        why : (e : FinishError) → WhyNot (g.shown site) (unfinished_error e)
        why finish_fault = tt
        why finish_memory = tt

        left : (e : FinishError) → LeavesUnread (unfinished_error e) (g.shown site) (g.shown after)
        left finish_fault = tt
        left finish_memory = tt

        fault : (e : FinishError) → unfinished_error e ≡ SiteFault → e ≡ finish_fault
        fault finish_fault is = refl
        fault finish_memory is = absurd cc

    -- all are
    module _ (parts : Parts) (result : Vec Recovered Global) (is_journal : parts.journal ≡ reading.journal) (is_history : parts.history ≡ reading.history)
        (is_attempt : parts.attempt ≡ max reading.history.attempt (greatest (map attempt_of_line lines))) (is_told : parts.recovered.items ≡ recoveries reading.ended.items lines)
        (f : Finishes g {E = FinishError} (settling_puts reading.history.catalogue reading.ended.items lines) (done_groups lines) (IsErrOf {E = FinishError} (Ok result) finish_fault) (Ok result) reading.log mid parts.log after)
        (in_turn : FinishesInTurn g {E = FinishError} (finishes reading.history.catalogue reading.ended.items lines) (Ok result) mid after) where
      shown-recovered : is_log_of h (lines ++ all_lines (done_groups lines)) ≡ true → g.told → GoesOnRecovered facts lines (g.shown site) (g.shown after)
      shown-recovered beside told = goes-on-recovered facts lines reading.history reading.ended.items (g.shown site) (g.shown mid) (g.shown after) r.read.read.kept r.read.ended beside (r.read.shown told) (f.shown told)

      stands : LogStands g (log_of reading.journal) after
      stands = λ told.
          let st = r.read.journal told in
          let all = finishes reading.history.catalogue reading.ended.items lines in
          subst (λ (b : List ℕ). StandsOn b (g.may_leave after) (log_of reading.journal)) (sym (f.shown told).journal)
          (stands-among (g.shown mid).journal (g.may_leave mid) (g.may_leave after) (log_of reading.journal)
          (λ c here. let from = in_turn.certain told c here in finishes-keep (g.shown mid).rows all from.0 c from.2 ∙ st.certain from.0 from.1) st)

      ends : AreAtEnds parts.journal parts.log parts.history
      ends =
          let was = r.read.ends in
          record {
            whole = ap (λ (j : JournalView). j.start) is_journal ∙ was.whole;
            ended = ap (λ (j : JournalView). j.ended) is_journal ∙ was.ended;
            file = ap (λ (l : EntriesView). l.log.file) f.kept ∙ was.file;
            log_whole = ap (λ (l : EntriesView). l.log.start) f.kept ∙ was.log_whole;
            log_ended = ap (λ (l : EntriesView). l.log.ended) f.kept ∙ was.log_ended;
            none_wait = ap (λ (l : EntriesView). l.log.payload) f.kept ∙ was.none_wait;
            counted = omega (arith, was.counted, ap (λ (v : HistoryView). v.facts) is_history, ap (λ (j : JournalView). j.place) is_journal);
          }

      certain : g.told → AreCertain (g.shown site) (g.may_leave site) (g.shown after) (g.may_leave after)
      certain told = record {
        journal = (stands told).certain;
        log = subst (λ (file : SiteFile). Certain file (bytes_of file (g.shown after)) (g.may_leave after)) ends.file (f.stands told).certain;
        rows = λ had c here.
            let same = (r.read.shown told).same.others.rows in
            let all = finishes reading.history.catalogue reading.ended.items lines in
            let from = in_turn.certain told c here in
            let back = (r.any_moment told).each from.0 (counts (g.moment site) from.0 told (r.any_moment told).later from.1) in
            let rows : from.0.rows ≡ (g.shown mid).rows = back.same.others.rows ∙ had back.was back.there ∙ sym same in
            let puts = all-puts-in (finish_of reading.history.catalogue reading.ended.items lines) (unfinished lines) in
            finishes-rows (g.shown mid).rows all from.0 c (subst (Lacks (g.shown mid).rows) (sym rows) (λ r k none. none)) from.2
            ∙ (λ i. rows_after (puts i) (rows i)) ∙ sym (f.shown told).rows;
      }

      -- each image has all of them
      each-recovered : is_log_of h (lines ++ all_lines (done_groups lines)) ≡ true → ((ls : List LogLine) → unfinished (ls ++ all_lines (done_groups ls)) ≡ []) → (told : g.told) → AreKept (g.may_leave site)
          → (own : List Fact) → StandsFor by_text (g.shown site) own → (c : Image) → g.may_leave after c → IsRecovered c own
      each-recovered legal none told all own stands c here =
          let fs = finishes reading.history.catalogue reading.ended.items lines in
          let from = in_turn.certain told c here in
          let whole = begun legal told c (record { was = from.0; there = from.1; done = fs; left = []; split = sym (append-nil fs); mid = c; whole = from.2; part = refl }) in
          begun-recovered (g.shown site) (g.may_leave site) all (shows told) c whole refl none own stands

      pub exit-recovered : is_log_of h (lines ++ all_lines (done_groups lines)) ≡ true
          → ((before now : Image) (fs : List Fact) (ls : List LogLine) → GoesOnRecovered fs ls before now → (gs : List Fact) → StandsFor by_text before gs → IsRecovered now gs)
          → ((ls : List LogLine) → unfinished (ls ++ all_lines (done_groups ls)) ≡ []) → Recovers g (Ok parts) site after
      exit-recovered beside law none = record {
        recovered = record {
          journal = subst (λ (j : JournalView). LogStands g (log_of j) after) (sym is_journal) stands;
          log = f.stands;
          ends = ends;
          facts = facts;
          lines = lines;
          read = subst (λ (v : HistoryView). AreRead facts lines v) (sym is_history) r.read.read;
          tells = record {
            recovered = is_told ∙ ap (λ (l : List Ended). recoveries l lines) r.read.ended;
            attempt = is_attempt ∙ ap (λ n. max n (greatest (map attempt_of_line lines))) r.read.read.kept.attempt ∙ sym (greatest-append (attempts_in h) (map attempt_of_line lines));
          };
          shown = shown-recovered beside;
        };
        settled = λ told. law (g.shown site) (g.shown after) facts lines (shown-recovered beside told);
        certain = certain;
        why = λ told. tt;
        unread = λ told. tt;
        any_moment = moments beside in_turn;
        kept = λ told all. record { any_moment = keeps beside in_turn told all; recovered = each-recovered beside none told all };
        cause = record { no_fewer = omega (arith, r.cause.no_fewer, f.cause.no_fewer); cause = λ is. absurd cc };
      }
