use Rattle.std.proofs.Common.{◌≡◌, ◌∙◌, ◌<◌, ◌≤◌, ◌+◌, ◌++◌, List, ℕ, length, ap, arith, rules}
use Rattle.qc_base.specs.Spelling.{spelled_fact}
use Rattle.qc_frame.specs.Log.{LogView, staged, forced}
use Rattle.qc_entries.specs.Entries.{EntriesView}
use Rattle.qc_journal.specs.History.{fact_payload}
use Rattle.qc_journal.specs.Journal.{JournalView}
use Rattle.qc_base.proofs.Facts.{fact-bounded}
use Rattle.qc_journal.proofs.Journals.{stands_log, stands_staged, stands_journal, log_is, length-payload, appended_is, made_of, changes_of}
use Rattle.qc_journal.proofs.journal.Journal.append_forced.Goals as goal

pub stage-requires-clause-can : goal.stage-requires-clause-can
stage-requires-clause-can g c =
    let bounds = fact-bounded c.args.fact.now c.requires.can.limits in
    record {
      some = bounds.0;
      ended = ap (λ (j : JournalView). j.ended) c.self.view_is ∙ c.requires.can.ended;
      room = omega (arith, c.requires.can.room, ap (λ (j : JournalView). j.spare) c.self.view_is);
      fits = omega (arith, bounds.1, ap length c.self.invariant.1);
    }

pub force-requires : goal.force-requires
force-requires g c =
    let fact = c.args.fact.now in
    let log = c.self.inside.entries.log in
    let waits : c.stage.new.self.log ≡ staged log (spelled_fact fact) = ap (λ (v : EntriesView). v.log) c.stage.ensures in
    let site = g.S.Site in
    record { stands = stands_staged site.told (site.shown c.args.site.now) (site.may_leave c.args.site.now) log c.stage.new.self.log (spelled_fact fact) waits (stands_log site.told (site.shown c.args.site.now) (site.may_leave c.args.site.now) log c.args.self.now c.self.invariant.0 c.self.invariant.1 c.self.view_is c.requires.stands) }

pub returns : goal.returns
returns g c = record {
  journal =
      let fact = c.args.fact.now in
      let log = c.self.inside.entries.log in
      let waits : c.stage.new.self.log ≡ staged log (spelled_fact fact) = ap (λ (v : EntriesView). v.log) c.stage.ensures in
      let payload : c.stage.new.self.log.payload ≡ fact_payload fact = ap (λ (l : LogView). l.payload) waits ∙ ap (λ (l : List ℕ). l ++ fact_payload fact) c.self.invariant.1 in
      let some : 0 < length c.stage.new.self.log.payload = omega (arith, ap length payload, length-payload fact) in
      let new : c.force.new.self.log ≡ forced (staged log (spelled_fact fact)) = c.in_ok-force.ensures.forces.moved some ∙ ap forced waits in
      let room : length (spelled_fact fact) + 4 ≤ log.spare = omega (arith, c.requires.can.room, ap (λ (j : JournalView). j.spare) c.self.view_is) in
      appended_is log c.force.new.self.log c.args.self.now fact c.self.invariant.1 c.self.view_is new room;
  failed = search rules;
  made = λ told.
      let fact = c.args.fact.now in
      let log = c.self.inside.entries.log in
      let waits : c.stage.new.self.log ≡ staged log (spelled_fact fact) = ap (λ (v : EntriesView). v.log) c.stage.ensures in
      let payload : c.stage.new.self.log.payload ≡ fact_payload fact = ap (λ (l : LogView). l.payload) waits ∙ ap (λ (l : List ℕ). l ++ fact_payload fact) c.self.invariant.1 in
      let some : 0 < length c.stage.new.self.log.payload = omega (arith, ap length payload, length-payload fact) in
      let site = g.S.Site in
      let journal = log_is log c.args.self.now c.self.invariant.0 c.self.invariant.1 c.self.view_is in
      made_of (site.shown c.args.site.now) (site.shown c.force.new.site) log c.stage.new.self.log c.args.self.now fact waits journal payload (c.in_ok-force.ensures.forces.made told some);
  makes =
      let fact = c.args.fact.now in
      let log = c.self.inside.entries.log in
      let waits : c.stage.new.self.log ≡ staged log (spelled_fact fact) = ap (λ (v : EntriesView). v.log) c.stage.ensures in
      let payload : c.stage.new.self.log.payload ≡ fact_payload fact = ap (λ (l : LogView). l.payload) waits ∙ ap (λ (l : List ℕ). l ++ fact_payload fact) c.self.invariant.1 in
      let some : 0 < length c.stage.new.self.log.payload = omega (arith, ap length payload, length-payload fact) in
      let new : c.force.new.self.log ≡ forced (staged log (spelled_fact fact)) = c.in_ok-force.ensures.forces.moved some ∙ ap forced waits in
      let site = g.S.Site in
      let journal = log_is log c.args.self.now c.self.invariant.0 c.self.invariant.1 c.self.view_is in
      record {
        stands = stands_journal site.told (site.shown c.force.new.site) (site.may_leave c.force.new.site) c.force.new.self.log (ap (λ (l : LogView). l.file) new ∙ c.self.invariant.0) (ap (λ (l : LogView). l.payload) new) c.in_ok-force.ensures.forces.makes.stands;
        changes = changes_of site c.stage.new.self.log log c.args.self.now fact _ c.args.site.now c.force.new.site waits journal payload c.in_ok-force.ensures.forces.makes.changes;
      };
}
