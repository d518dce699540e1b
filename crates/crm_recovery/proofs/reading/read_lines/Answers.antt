use Rattle.std.proofs.Common.{◌≡◌, ◌∙◌, ℕ, List, [], ◌∷◌, ◌++◌, ◌&&◌, true, false, sym, ap, subst, arith, rules, IsErrOf}
use Rattle.std.specs.Option.{IfSome}
use Rattle.qc_base.specs.Spelling.{is_line}
use Rattle.qc_base.specs.declared.log_line.LogLine.{LogLine}
use Rattle.qc_site.specs.Image.{Image, bytes_of}
use Rattle.qc_frame.specs.Log.{LogView}
use Rattle.qc_frame.specs.declared.error.LogError.{LogError}
use Rattle.qc_frame.specs.declared.error.LogError.TheVariants.{SiteFault}
use Rattle.qc_entries.specs.Entries.{EntriesView, NoEntries}
use Rattle.crm_log.specs.Lines.{NextLine}
use Rattle.crm_history.specs.Legal.{line_may_follow}
use Rattle.crm_recovery.specs.Reading.{DamagedLines}
use Rattle.crm_recovery.proofs.LinesRead.{ReadSoFar, same-file, damaged-line, refused-line, next-push, all-push, spelled-all, read-all, keeps-through, moments-through}
use Rattle.crm_recovery.proofs.reading.read_lines.Goals as goal

pub returns-in_err-next-clause-reads : goal.returns-in_err-next-clause-reads
returns-in_err-next-clause-reads g c =
    let site = g.S.Site in
    let loop = c.loop-lines in
    let so = loop.invariant in
    record {
      stands = search rules;
      damaged = λ told at is.
          let there : IsErrOf c.next_line.result (LogError.Damaged at) = search rules in
          damaged-line c.args.catalogue.now c.args.sent c.args.ended.now (site.shown c.args.site.now).crm_log (bytes_of loop.log.log.file (site.shown loop.site)) c.args.log.now loop.log loop.lines.items at
          (same-file site c.args.catalogue.now c.args.sent c.args.ended.now c.args.log.now c.args.site.now loop.log loop.lines.items loop.site c.requires.opened so told) so.legal (so.read told) (c.next_line.ensures.reads.damaged told at there);
      not_made = search rules;
      unchanged = λ told err fine. c.next_line.ensures.reads.unchanged told (search rules) (λ e. fine (search rules)) ∙ so.still told;
      keeps = keeps-through site c.args.catalogue.now c.args.sent c.args.ended.now c.args.log.now c.args.site.now loop.log loop.lines.items loop.site so (λ t i told le here. g.met.S.Site.counts_now loop.site t i told le here)
          _ (IsErrOf c.next_line.result SiteFault) c.next_line.new.site (λ e. search rules) (λ e. search rules) c.next_line.ensures.reads.keeps;
    }

pub returns-then-not-may_follow-clause-reads : goal.returns-then-not-may_follow-clause-reads
returns-then-not-may_follow-clause-reads g c =
    let site = g.S.Site in
    let loop = c.loop-lines in
    let so = loop.invariant in
    let old : EntriesView = loop.log in
    let new : EntriesView = c.next_line.new.self in
    let shown : Image = site.shown loop.site in
    let next : ℕ × LogLine = c.in-Some.next in
    let after : Image = site.shown c.next_line.new.site in
    let catalogue = c.args.catalogue.now in
    let ended = c.args.ended.now in
    let start : Image = site.shown c.args.site.now in
    record {
      stands = search rules;
      damaged = λ told at is.
          let here : next.0 ≡ at = cc in
          let found : NextLine (bytes_of old.log.file shown) old new next.0 next.1
          = subst (λ o. IfSome o (λ (x : ℕ × LogLine). NextLine (bytes_of old.log.file shown) old new x.0 x.1)) c.in-Some.is (c.in_ok-next.ensures.finds.line told) in
          let answer : c.may_follow.result ≡ false = search rules in
          let refused : line_may_follow catalogue c.args.sent ended loop.lines.items next.1 ≡ false
          = ap (λ (l : List LogLine). line_may_follow catalogue c.args.sent ended l next.1) (sym c.as_slice.ensures.value) ∙ sym c.may_follow.ensures ∙ answer in
          subst (λ n. DamagedLines catalogue c.args.sent ended start.crm_log c.args.log.now n) here
          (refused-line catalogue c.args.sent ended start.crm_log (bytes_of old.log.file shown) c.args.log.now old new loop.lines.items next.0 next.1
          (same-file site catalogue c.args.sent ended c.args.log.now c.args.site.now old loop.lines.items loop.site c.requires.opened so told) so.legal (so.read told) found refused);
      not_made = search rules;
      unchanged = λ told err fine.
          let still : after ≡ shown = subst (λ o. IfSome o (λ (x : ℕ × LogLine). after ≡ shown)) c.in-Some.is (c.in_ok-next.ensures.finds.still told) in
          still ∙ so.still told;
      keeps = keeps-through site catalogue c.args.sent ended c.args.log.now c.args.site.now old loop.lines.items loop.site so (λ t i told le here. g.met.S.Site.counts_now loop.site t i told le here)
          _ (IsErrOf c.next_line.result SiteFault) c.next_line.new.site (λ e. search rules) (λ e. search rules) c.next_line.ensures.reads.keeps;
    }

pub loop-lines-preserved : goal.loop-lines-preserved
loop-lines-preserved g c =
    let site = g.S.Site in
    let loop = c.loop-lines in
    let so = loop.invariant in
    let old : EntriesView = loop.log in
    let new : EntriesView = c.next_line.new.self in
    let shown : Image = site.shown loop.site in
    let next : ℕ × LogLine = c.in-Some.next in
    let after : Image = site.shown c.next_line.new.site in
    let catalogue = c.args.catalogue.now in
    let ended = c.args.ended.now in
    let start : Image = site.shown c.args.site.now in
    let lines : List LogLine = loop.lines.items in
    let moved : new.log ≡ record old.log { place = new.log.place } = subst (λ o. IfSome o (λ (x : ℕ × LogLine). new.log ≡ record old.log { place = new.log.place })) c.in-Some.is c.in_ok-next.ensures.finds.moved in
    let items : c.push.new.self.items ≡ lines ++ next.1 ∷ [] = c.in-Ok.ensures.items in
    let answer : c.may_follow.result ≡ true = search rules in
    let may : line_may_follow catalogue c.args.sent ended lines next.1 ≡ true
    = ap (λ (l : List LogLine). line_may_follow catalogue c.args.sent ended l next.1) (sym c.as_slice.ensures.value) ∙ sym c.may_follow.ensures ∙ answer in
    let fits : is_line next.1 ≡ true = subst (λ o. IfSome o (λ (x : ℕ × LogLine). is_line x.1 ≡ true)) c.in-Some.is c.in_ok-next.ensures.limits in
    let law = c.a_log_is_legal_line_by_line.ensures catalogue c.args.sent ended lines next.1 in
    let more : ReadSoFar site catalogue c.args.sent ended c.args.log.now c.args.site.now new (lines ++ next.1 ∷ []) c.next_line.new.site = record {
      kept = moved ∙ ap (λ (l : LogView). record l { place = new.log.place }) so.kept;
      faults = omega (arith, so.faults, c.next_line.ensures.reads.keeps.cause.no_fewer);
      still = λ told.
          let still : after ≡ shown = subst (λ o. IfSome o (λ (x : ℕ × LogLine). after ≡ shown)) c.in-Some.is (c.in_ok-next.ensures.finds.still told) in
          still ∙ so.still told;
      stands = c.in_ok-next.ensures.reads.stands;
      legal = law ∙ (λ i. so.legal i && may i);
      limits = all-push is_line lines next.1 so.limits fits;
      read = λ told.
          let found : NextLine (bytes_of old.log.file shown) old new next.0 next.1
          = subst (λ o. IfSome o (λ (x : ℕ × LogLine). NextLine (bytes_of old.log.file shown) old new x.0 x.1)) c.in-Some.is (c.in_ok-next.ensures.finds.line told) in
          let same = same-file site catalogue c.args.sent ended c.args.log.now c.args.site.now old lines loop.site c.requires.opened so told in
          next-push start.crm_log c.args.log.now old new lines next.0 next.1 (so.read told) (subst (λ (f : List ℕ). NextLine f old new next.0 next.1) same found);
      moments = moments-through site catalogue c.args.sent ended c.args.log.now c.args.site.now old lines loop.site so (λ t i told le here. g.met.S.Site.counts_now loop.site t i told le here)
          (IsErrOf c.next_line.result SiteFault) c.next_line.new.site c.next_line.ensures.reads.keeps;
    } in
    subst (λ (l : List LogLine). ReadSoFar site catalogue c.args.sent ended c.args.log.now c.args.site.now new l c.next_line.new.site) (sym items) more

pub returns-in_default-push-clause-reads : goal.returns-in_default-push-clause-reads
returns-in_default-push-clause-reads g c =
    let site = g.S.Site in
    let loop = c.loop-lines in
    let so = loop.invariant in
    let shown : Image = site.shown loop.site in
    let after : Image = site.shown c.next_line.new.site in
    record {
      stands = search rules;
      damaged = search rules;
      not_made = search rules;
      unchanged = λ told err fine.
          let still : after ≡ shown = subst (λ o. IfSome o (λ (x : ℕ × LogLine). after ≡ shown)) c.in-Some.is (c.in_ok-next.ensures.finds.still told) in
          still ∙ so.still told;
      keeps = keeps-through site c.args.catalogue.now c.args.sent c.args.ended.now c.args.log.now c.args.site.now loop.log loop.lines.items loop.site so (λ t i told le here. g.met.S.Site.counts_now loop.site t i told le here)
          _ (IsErrOf c.next_line.result SiteFault) c.next_line.new.site (λ e. search rules) (λ e. search rules) c.next_line.ensures.reads.keeps;
    }

pub returns-clause-spelled : goal.returns-clause-spelled
returns-clause-spelled g c = λ told.
    let site = g.S.Site in
    let loop = c.loop-lines in
    let so = loop.invariant in
    let old : EntriesView = loop.log in
    let new : EntriesView = c.next_line.new.self in
    let now : List ℕ = bytes_of old.log.file (site.shown c.next_line.new.site) in
    let here : List ℕ = bytes_of old.log.file (site.shown loop.site) in
    let end : NoEntries here now old new = search rules in
    let same = same-file site c.args.catalogue.now c.args.sent c.args.ended.now c.args.log.now c.args.site.now old loop.lines.items loop.site c.requires.opened so told in
    spelled-all (site.shown c.args.site.now).crm_log now c.args.log.now old new loop.lines.items c.requires.opened (so.read told) (subst (λ (f : List ℕ). NoEntries f now old new) same end)

pub returns-clause-reads : goal.returns-clause-reads
returns-clause-reads g c =
    let site = g.S.Site in
    let loop = c.loop-lines in
    let so = loop.invariant in
    record {
      stands = search rules;
      damaged = search rules;
      not_made = search rules;
      unchanged = search rules;
      keeps = keeps-through site c.args.catalogue.now c.args.sent c.args.ended.now c.args.log.now c.args.site.now loop.log loop.lines.items loop.site so (λ t i told le here. g.met.S.Site.counts_now loop.site t i told le here)
          _ (IsErrOf c.next_line.result SiteFault) c.next_line.new.site (λ e. search rules) (λ e. search rules) c.next_line.ensures.reads.keeps;
    }

pub returns-clause-read : goal.returns-clause-read
returns-clause-read g c = λ told log spells.
    let site = g.S.Site in
    let loop = c.loop-lines in
    let so = loop.invariant in
    let old : EntriesView = loop.log in
    let new : EntriesView = c.next_line.new.self in
    let now : List ℕ = bytes_of old.log.file (site.shown c.next_line.new.site) in
    let here : List ℕ = bytes_of old.log.file (site.shown loop.site) in
    let end : NoEntries here now old new = search rules in
    let same = same-file site c.args.catalogue.now c.args.sent c.args.ended.now c.args.log.now c.args.site.now old loop.lines.items loop.site c.requires.opened so told in
    read-all (site.shown c.args.site.now).crm_log now c.args.log.now old new loop.lines.items log c.requires.opened spells (so.read told) (subst (λ (f : List ℕ). NoEntries f now old new) same end)
