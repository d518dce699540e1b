-- The run that reads a journal, and what each of its exits says.
use Rattle.std.proofs.Common.{◌≡◌, ⊎_elim, ◌≤◌, ℕ, List, [], length, refl, sym, ap, ◌∙◌, subst, arith, true, false, Option, Some, None, Ok, Err, IsErrOf}
use Rattle.qc_base.specs.declared.fact.Fact.{Fact}
use Rattle.qc_site.specs.declared.site.Site.{Ghosts}
use Rattle.qc_site.specs.declared.site.SiteFile.TheVariants.{Journal}
use Rattle.qc_site.specs.Disk.{LeavesOnly}
use Rattle.qc_site.specs.Image.{Image, with_bytes}
use Rattle.qc_site.proofs.Moments.{started}
use Rattle.qc_frame.specs.declared.error.Damage.{Damage}
use Rattle.qc_frame.specs.declared.error.LogError.{LogError}
use Rattle.qc_frame.specs.declared.error.LogError.TheVariants.{SiteFault}
use Rattle.qc_frame.specs.Calls.{LogStands, KeepsGroups, ReadsOn}
use Rattle.qc_frame.specs.Gate.{After}
use Rattle.qc_frame.specs.Log.{SameFrom}
use Rattle.qc_frame.proofs.Chained.{keeps_on}
use Rattle.qc_frame.proofs.Same.{same_log, step_others}
use Rattle.qc_journal.specs.Calls.{FindsFact}
use Rattle.qc_journal.specs.Journal.{JournalView, log_of, NextFact, NoFact, DamagedFact}
use Rattle.qc_machine.specs.declared.error.OpenError.{OpenError}
use Rattle.qc_machine.specs.declared.error.OpenError.TheVariants.{SiteFault as site_fault, NotMade as not_made, NoCatalogue as no_first, Damaged as damaged, NoMemory as no_memory}
use Rattle.qc_machine.specs.Opening.{DamagedJournal}
use Rattle.qc_recovery.specs.declared.reading.Reading.{Reading}
use Rattle.qc_recovery.specs.Opening.{as_open_error, damage_in, HasFacts, IsUnread, TakesFact, ReadsFacts}
use Rattle.qc_recovery.proofs.OpeningErrors.{by-fault, by-header, by-damage, no-first}
use Rattle.qc_recovery.proofs.OpeningRead.{ReadSoFar, at-end, place-inside, read-none, read-more, read-end, not-next, no-fact}

-- what was read, with the journal where it stands now
abbrev pub at_place : Reading → JournalView → Reading
at_place r journal = record r { journal = journal }

module _ {S : Type 0} (g : Ghosts S) where
  -- the facts up to the place of the journal were read since the run began
  pub record Running (begun site : S) (first r : Reading) (numbers : List ℕ) : Type 0 where
    pub stands : LogStands g (log_of r.journal) site
    pub whole : first.journal.start ≡ 16
    pub journal : r.journal ≡ record first.journal { place = r.journal.place }
    pub few : r.history.facts ≤ r.journal.place
    pub kept : r ≡ record first { journal = r.journal; history = r.history; ended = r.ended }
    pub faults : g.faults begun ≤ g.faults site
    pub still : g.told → g.shown site ≡ g.shown begun
    pub left : g.told → LeavesOnly g.moment g.left_since begun site (After Journal (SameFrom first.journal.start) (g.may_leave begun))
    pub read : ReadSoFar g.told (g.shown begun).journal r numbers

  pub begins : (site : S) (r : Reading) → ((c : Image) → g.told → g.left_since site (g.moment site) c → g.may_leave site c) → LogStands g (log_of r.journal) site → IsUnread r → Running site site r r []
  begins site r now stands unread =
      let place : r.journal.place ≡ 16 = ap (λ (j : JournalView). j.place) unread.journal in
      record {
        stands = stands;
        whole = ap (λ (j : JournalView). j.start) unread.journal;
        journal = refl;
        few = omega (arith, unread.none.counted);
        kept = refl;
        faults = omega arith;
        still = λ told. refl;
        left = λ told. started g.moment g.left_since site _ (λ c left. same_log Journal r.journal.start (g.may_leave site) c (now c told left));
        read = read-none g.told (g.shown site).journal r place unread.none unread.none_ended;
      }

  module _ (begun site after : S) (first r : Reading) (numbers : List ℕ) (journal : JournalView) (so_far : Running begun site first r numbers) (counts : (t : ℕ) (c : Image) → g.told → t ≤ g.moment site → g.may_leave site c → g.left_since site t c) where
    same_start : r.journal.start ≡ first.journal.start
    same_start = ap (λ (j : JournalView). j.start) so_far.journal

    -- one call more keeps the groups since the run began
    run-keeps : (failed then : Type 0) → (failed → then) → (then → failed) → KeepsGroups g (log_of r.journal) then site after → KeepsGroups g (log_of first.journal) failed begun after
    run-keeps failed then to back keeps =
        keeps_on g (log_of first.journal) failed then begun site after to back counts so_far.still so_far.faults so_far.left
        (subst (λ (n : ℕ). KeepsGroups g (log_of (record r.journal { start = n })) then site after) same_start keeps)

    -- the facts are the same
    placed : (facts : List Fact) → HasFacts facts numbers r → HasFacts facts numbers (at_place r journal)
    placed facts has = record { read = has.read; ended = has.ended }

    -- other facts were read
    run-kept : (new : Reading) → new ≡ record (at_place r journal) { history = new.history; ended = new.ended } → new ≡ record first { journal = new.journal; history = new.history; ended = new.ended }
    run-kept new is =
        is ∙ ap (λ (h : Reading). let n : Reading = record h { journal = journal; history = new.history; ended = new.ended } in n) so_far.kept
        ∙ ap (λ (j : JournalView). let n : Reading = record first { journal = j; history = new.history; ended = new.ended } in n) (sym (ap (λ (h : Reading). h.journal) is))

    -- the journal couldn't be read on
    pub run-stopped : (e : LogError) → FindsFact g (Err e) r.journal site journal after → ReadsOn g {A = Option (ℕ × Fact)} (DamagedFact (g.shown site).journal r.journal.place) (Err e) (log_of r.journal) site (log_of journal) after
        → ReadsFacts g (Err (as_open_error Journal e)) first begun (at_place r journal) after
    run-stopped e finds reads = record {
      kept = run-kept (at_place r journal) refl;
      journal = tt;
      stands = tt;
      counted = tt;
      read = tt;
      damaged = λ told d is.
          let same : as_open_error Journal e ≡ damaged d = cc in
          let by = by-damage Journal e d same in
          let here : DamagedFact (g.shown site).journal r.journal.place by.0 = reads.damaged told by.0 (ap Err by.1) in
          let there : DamagedFact (g.shown begun).journal r.journal.place by.0 = subst (λ (i : Image). DamagedFact i.journal r.journal.place by.0) (so_far.still told) here in
          (ap (λ (x : Damage). x.file) by.2, subst (λ (n : ℕ). DamagedJournal (g.shown begun).journal n) (sym (ap (λ (x : Damage). x.at) by.2)) (no-fact g.told (g.shown begun).journal r by.0 numbers so_far.read told there));
      not_made = λ is. let same : as_open_error Journal e ≡ not_made = cc in reads.not_made (ap Err (by-header Journal e same));
      not_empty = λ is. let same : as_open_error Journal e ≡ no_first = cc in no-first Journal e same;
      unchanged = λ told err fine. reads.unchanged told err (λ is. let same : e ≡ SiteFault = cc in fine (ap (λ x. Err (as_open_error Journal x)) same)) ∙ so_far.still told;
      keeps = run-keeps _ _ (λ is. let same : as_open_error Journal e ≡ site_fault = cc in ap Err (by-fault Journal e same)) (λ is. let same : e ≡ SiteFault = cc in ap (λ x. Err (as_open_error Journal x)) same) reads.keeps;
    }

    -- a fact was found
    module _ (at : ℕ) (fact : Fact) (finds : FindsFact g (Ok (Some (at, fact))) r.journal site journal after) (reads : ReadsOn g {A = Option (ℕ × Fact)} (DamagedFact (g.shown site).journal r.journal.place) (Ok (Some (at, fact))) (log_of r.journal) site (log_of journal) after) (new : Reading) (more : List ℕ) where
      next : g.told → NextFact (g.shown begun).journal r.journal journal at fact
      next told = subst (λ (i : Image). NextFact i.journal r.journal journal at fact) (so_far.still told) (finds.fact told)

      moments : g.told → LeavesOnly g.moment g.left_since begun after (After Journal (SameFrom first.journal.start) (g.may_leave begun))
      moments told = (run-keeps _ _ (λ is. is) (λ is. is) reads.keeps).any_moment told

      -- but it may not follow, or there is no memory
      pub run-refused : (e : OpenError) → TakesFact at fact (Err e) (at_place r journal) numbers new more → ReadsFacts g (Err e) first begun new after
      run-refused e takes = record {
        kept = run-kept new takes.kept;
        journal = tt;
        stands = tt;
        counted = tt;
        read = tt;
        damaged = λ told d is. ⊎_elim
            (λ none. absurd (let same : Err (damaged d) ≡ Err no_memory = sym is ∙ none in cc))
            (λ bad.
            let same : damage_in Journal at ≡ d = let both : Err (damaged (damage_in Journal at)) ≡ Err (damaged d) = sym bad.0 ∙ is in cc in (
              ap (λ (x : Damage). x.file) (sym same),
              subst (λ (x : Damage). DamagedJournal (g.shown begun).journal x.at) same
                  (not-next g.told (g.shown begun).journal r journal at fact numbers so_far.read told (next told) (bad.1 so_far.read.facts (placed so_far.read.facts so_far.read.has))),
            ))
            takes.refused;
        not_made = λ is. ⊎_elim (λ none. let same : Err not_made ≡ Err no_memory = sym is ∙ none in cc) (λ bad. let same : Err not_made ≡ Err (damaged (damage_in Journal at)) = sym is ∙ bad.0 in cc) takes.refused;
        not_empty = λ is. ⊎_elim (λ none. let same : Err no_first ≡ Err no_memory = sym is ∙ none in cc) (λ bad. let same : Err no_first ≡ Err (damaged (damage_in Journal at)) = sym is ∙ bad.0 in cc) takes.refused;
        unchanged = λ told err fine. finds.still told ∙ so_far.still told;
        keeps = run-keeps _ _ (λ is. absurd (no_fault is)) (λ is. absurd cc) reads.keeps;
      }
        where
          no_fault : IsErrOf {T = Unit {0}} (Err e) site_fault → ⊥
          no_fault is = ⊎_elim (λ none. let same : Err site_fault ≡ Err no_memory = sym is ∙ none in cc) (λ bad. let same : Err site_fault ≡ Err (damaged (damage_in Journal at)) = sym is ∙ bad.0 in cc) takes.refused

      -- and is taken
      pub run-on : (done : Unit {0}) → TakesFact at fact (Ok done) (at_place r journal) numbers new more → Running begun after first new more
      run-on done takes =
          let same : new.journal ≡ journal = ap (λ (h : Reading). h.journal) takes.kept in
          let goes = takes.taken so_far.read.facts (placed so_far.read.facts so_far.read.has) in
          record {
            stands = subst (λ (j : JournalView). LogStands g (log_of j) after) (sym same) reads.stands;
            whole = so_far.whole;
            journal = same ∙ finds.moved ∙ (λ i. record ((so_far.journal) i) { place = journal.place }) ∙ (λ i. record first.journal { place = ((sym same) i).place });
            few = omega (arith, takes.counted, so_far.few, finds.onward.0, ap (λ (j : JournalView). j.place) same);
            kept = run-kept new takes.kept;
            faults = omega (arith, so_far.faults, reads.keeps.cause.no_fewer);
            still = λ told. finds.still told ∙ so_far.still told;
            left = moments;
            read = read-more g.told (g.shown begun).journal r new journal at fact numbers more so_far.read next finds.limits goes.0 goes.1 same;
          }

    -- the journal was read to its end
    pub run-ended : (done : Unit {0}) → FindsFact g (Ok None) r.journal site journal after → ReadsOn g {A = Option (ℕ × Fact)} (DamagedFact (g.shown site).journal r.journal.place) (Ok None) (log_of r.journal) site (log_of journal) after
        → ReadsFacts g (Ok done) first begun (at_place r journal) after
    run-ended done finds reads =
        let new : Reading = at_place r journal in
        let keeps = run-keeps (IsErrOf (Ok done) site_fault) _ (λ is. absurd cc) (λ is. absurd cc) reads.keeps in
        record {
          kept = run-kept new refl;
          journal = finds.ended ∙ (λ i. record ((so_far.journal) i) { length = journal.length; ended = true }) ∙ (λ i. record first.journal { place = (ap (λ (j : JournalView). j.place) (sym finds.ended)) i; length = journal.length; ended = true });
          stands = reads.stands;
          counted = omega (arith, so_far.few, ap (λ (j : JournalView). j.place) finds.ended);
          read = read-end g.told (g.shown begun) (g.shown after) r new numbers (same_start ∙ so_far.whole) so_far.read refl refl (λ told.
              let st = so_far.stands told in
              let before = g.shown begun in
              let now = g.shown after in
              let inside : r.journal.place ≤ length before.journal = subst (λ (i : Image). r.journal.place ≤ length i.journal) (so_far.still told) (place-inside (g.shown site).journal (g.may_leave site) (log_of r.journal) st) in
              let end : NoFact before.journal now.journal r.journal journal = subst (λ (i : Image). NoFact i.journal now.journal r.journal journal) (so_far.still told) (finds.end told) in
              let others : now ≡ with_bytes Journal now.journal before = step_others Journal (SameFrom first.journal.start) before now (keeps.shown told (λ is. absurd cc)) in
              at-end before now r new inside end others);
          damaged = λ told d is. absurd cc;
          not_made = λ is. absurd cc;
          not_empty = λ is. absurd cc;
          unchanged = λ told err fine. absurd (let no : false ≡ true = err in cc);
          keeps = keeps;
        }
