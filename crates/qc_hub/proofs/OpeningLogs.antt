-- Opening both logs, and what each exit of that says.
use Rattle.std.proofs.Common.{◌≡◌, ◌≤◌, ℕ, max, refl, sym, ap, ◌∙◌, subst, arith, false, Ok, Err, IsErrOf}
use Rattle.qc_site.specs.declared.site.Site.{Ghosts}
use Rattle.qc_site.specs.declared.site.SiteFile.TheVariants.{Journal, CrmLog}
use Rattle.qc_site.specs.Causes.{Rose}
use Rattle.qc_site.specs.Image.{Image}
use Rattle.qc_site.proofs.Moments.{started, weaker, joined}
use Rattle.qc_frame.specs.declared.error.LogError.{LogError}
use Rattle.qc_frame.specs.declared.error.LogError.TheVariants.{SiteFault, Damaged}
use Rattle.qc_frame.specs.Calls.{LogStands, WritesNothing, OpensLog}
use Rattle.qc_frame.proofs.Staged.{stands_reserved}
use Rattle.qc_frame.specs.Frame.{HasHeader}
use Rattle.qc_frame.specs.Log.{LogView, just_opened}
use Rattle.qc_journal.specs.History.{journal_header}
use Rattle.qc_journal.specs.Journal.{JournalView, log_of, journal_of, journal_opened}
use Rattle.qc_machine.specs.declared.error.OpenError.TheVariants.{SiteFault as site_fault, NotMade as not_made, NoCatalogue as no_first, Damaged as damaged, NoMemory as no_memory}
use Rattle.qc_machine.specs.declared.limits.Limits.{Limits}
use Rattle.qc_history.specs.Stands.{IsHistoryOf}
use Rattle.qc_machine.specs.History.{no_facts}
use Rattle.qc_machine.specs.Sites.{log_header, no_clients, no_players}
use Rattle.qc_players.specs.Players.{players_of}
use Rattle.qc_hub.specs.declared.hub.Hub.{Hub}
use Rattle.qc_hub.specs.Opening.{in_journal, in_log, damage_at, FindsLogs}
use Rattle.qc_hub.proofs.Logs.{stands-still}
use Rattle.qc_hub.proofs.OpeningErrors.{by-fault, by-header, by-damage, no-first}
use Rattle.qc_hub.proofs.OpeningLog.{any_place}

rose : (a b c : ℕ) → a ≤ b → Rose b c → Rose a c
rose a b c le up = omega (arith, le, up)

module _ {S : Type 0} (g : Ghosts S) where
  writes-said : (failed then : Type 0) (site after : S) → (failed → then) → (then → failed) → WritesNothing g then site after → WritesNothing g failed site after
  writes-said failed then site after to back writes = record {
    same = λ told fine. writes.same told (λ f. fine (back f));
    crash = writes.crash;
    any_moment = writes.any_moment;
    cause = record { no_fewer = writes.cause.no_fewer; cause = λ f. writes.cause.cause (to f) };
  }

  writes-joined : (failed then : Type 0) (site mid after : S) → ¬ failed → WritesNothing g failed site mid → WritesNothing g then mid after → WritesNothing g then site after
  writes-joined failed then site mid after fine first second = record {
    same = λ told well. second.same told well ∙ first.same told fine;
    crash = λ told c here. first.crash told c (second.crash told c here);
    any_moment = λ told. joined g.moment g.left_since site mid after _ (first.any_moment told) (weaker g.moment g.left_since mid after _ _ (first.crash told) (second.any_moment told));
    cause = record { no_fewer = omega (arith, first.cause.no_fewer, second.cause.no_fewer); cause = λ f. rose (g.faults site) (g.faults mid) (g.faults after) first.cause.no_fewer (second.cause.cause f) };
  }

  module _ (limits : Limits) (site : S) where
    -- no call was made
    pub logs-starved : ((c : Image) → g.told → g.left_since site (g.moment site) c → g.may_leave site c) → FindsLogs g limits (Err no_memory) site site
    logs-starved now = record {
      unread = tt;
      journal = tt;
      log = tt;
      headers = λ told. tt;
      not_made = λ told is. absurd cc;
      not_empty = λ is. cc;
      not_damaged = λ d is. cc;
      writes = record {
        same = λ told fine. refl;
        crash = λ told c here. here;
        any_moment = λ told. started g.moment g.left_since site _ (λ c left. now c told left);
        cause = record { no_fewer = omega arith; cause = λ is. absurd cc };
      };
    }

    -- the journal couldn't be opened
    pub logs-none : (e : LogError) (after : S) → OpensLog g Journal journal_header 16 log_of (Err e) site after → ((at : ℕ) → ¬ IsErrOf {T = JournalView} (Err e) (Damaged at)) → FindsLogs g limits (Err (in_journal e)) site after
    logs-none e after opens whole = record {
      unread = tt;
      journal = tt;
      log = tt;
      headers = λ told. tt;
      not_made = λ told is has. let same : in_journal e ≡ not_made = cc in opens.not_made told (ap Err (by-header damage_at e same)) has.journal;
      not_empty = λ is. let same : in_journal e ≡ no_first = cc in no-first damage_at e same;
      not_damaged = λ d is. let same : in_journal e ≡ damaged d = cc in let by = by-damage damage_at e d same in whole by.0 (ap Err by.1);
      writes = writes-said _ _ site after (λ is. let same : in_journal e ≡ site_fault = cc in ap Err (by-fault damage_at e same)) (λ is. let same : e ≡ SiteFault = cc in ap (λ x. Err (in_journal x)) same) opens.writes;
    }

    module _ (mid after : S) (journal : JournalView) (first : OpensLog g Journal journal_header 16 log_of (Ok journal) site mid) where
      still : g.told → g.shown mid ≡ g.shown site
      still told = first.writes.same told (λ is. cc)

      -- the other log couldn't be opened
      pub logs-one : (e : LogError) → OpensLog g CrmLog log_header 16 (λ log. log) (Err e) mid after → ((at : ℕ) → ¬ IsErrOf {T = LogView} (Err e) (Damaged at)) → FindsLogs g limits (Err (in_log e)) site after
      logs-one e opens whole = record {
        unread = tt;
        journal = tt;
        log = tt;
        headers = λ told. tt;
        not_made = λ told is has.
            let same : in_log e ≡ not_made = cc in
            opens.not_made told (ap Err (by-header any_place e same)) (subst (λ (i : Image). HasHeader log_header i.crm_log) (sym (still told)) has.log);
        not_empty = λ is. let same : in_log e ≡ no_first = cc in no-first any_place e same;
        not_damaged = λ d is. let same : in_log e ≡ damaged d = cc in let by = by-damage any_place e d same in whole by.0 (ap Err by.1);
        writes = writes-joined _ _ site mid after (λ is. cc) first.writes
            (writes-said _ _ mid after (λ is. let same : in_log e ≡ site_fault = cc in ap Err (by-fault any_place e same)) (λ is. let same : e ≡ SiteFault = cc in ap (λ x. Err (in_log x)) same) opens.writes);
      }

      -- the journal took no room
      pub logs-full : FindsLogs g limits (Err no_memory) site mid
      logs-full = record {
        unread = tt;
        journal = tt;
        log = tt;
        headers = λ told. tt;
        not_made = λ told is. absurd cc;
        not_empty = λ is. cc;
        not_damaged = λ d is. cc;
        writes = writes-said _ _ site mid (λ is. absurd cc) (λ is. absurd cc) first.writes;
      }

      -- both were opened, and the journal has room
      pub logs-both : (log : LogView) (hub : Hub) → OpensLog g CrmLog log_header 16 (λ log. log) (Ok log) mid after → hub.journal ≡ record journal { spare = max journal.spare 30 } → hub.log ≡ log → IsHistoryOf hub.history no_facts → hub.clients ≡ no_clients → players_of hub.players ≡ no_players → hub.limits ≡ limits → hub.in_fault ≡ false
          → FindsLogs g limits (Ok hub) site after
      logs-both log hub opens is_journal is_log none idle free limited no_fault = record {
        unread = record {
          journal = is_journal
              ∙ ap (λ (j : JournalView). let k : JournalView = record j { spare = max journal.spare 30 } in k) (ap journal_of first.opened)
              ∙ (λ i. record (journal_opened ((ap (λ (j : JournalView). j.length) (sym is_journal)) i)) { spare = (ap (λ (j : JournalView). j.spare) (sym is_journal)) i });
          room = omega (arith, ap (λ (j : JournalView). j.spare) is_journal);
          log = subst (λ (l : LogView). l ≡ just_opened CrmLog 16 l.length) (sym is_log) opens.opened;
          none = none;
          clients = idle;
          players = free;
          limited = limited;
          in_fault = no_fault;
        };
        journal = stands_reserved g.told (g.shown after) (g.may_leave after) (log_of journal) (log_of hub.journal) (max journal.spare 30) (ap log_of is_journal) (stands-still g (log_of journal) mid after (λ is. cc) opens.writes first.stands);
        log = subst (λ (l : LogView). LogStands g l after) (sym is_log) opens.stands;
        headers = λ told. record { journal = first.header told; log = subst (λ (i : Image). HasHeader log_header i.crm_log) (still told) (opens.header told) };
        not_made = λ told is. absurd cc;
        not_empty = λ is. cc;
        not_damaged = λ d is. cc;
        writes = writes-joined _ _ site mid after (λ is. cc) first.writes (writes-said _ _ mid after (λ is. absurd cc) (λ is. absurd cc) opens.writes);
      }
