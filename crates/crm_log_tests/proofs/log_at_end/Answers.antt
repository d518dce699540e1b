use Rattle.std.proofs.Common.{◌≡◌, ◌∙◌, ℕ, List, map, sym, ap, subst, rules}
use Rattle.std.specs.Option.{IfSome}
use Rattle.qc_base.specs.declared.log_line.LogLine.{LogLine}
use Rattle.qc_site.specs.Image.{Image, bytes_of}
use Rattle.qc_frame.specs.Log.{LogView}
use Rattle.qc_entries.specs.Entries.{EntriesView, NoEntries}
use Rattle.crm_log.specs.Lines.{NextLine}
use Rattle.crm_log.specs.Log.{all_lines}
use Rattle.crm_log_tests.proofs.Reading.{ReadSoFar, none_read, one_read, all_read}
use Rattle.crm_log_tests.proofs.log_at_end.Goals as goal

pub loop-lines-init : goal.loop-lines-init
loop-lines-init g c =
    let shown : Image = g.S.Site.shown c.args.site.now in
    let after : Image = g.S.Site.shown c.open.new.site in
    let log : EntriesView = c.in_ok-log.log in
    let opens = c.in_ok-log.ensures.opens in (
      opens.stands,
      ap (λ (l : LogView). l.payload) opens.opened,
      ap (λ (l : LogView). l.file) opens.opened,
      λ told groups spells.
          let same : after ≡ shown = opens.writes.same told (search rules) in
          let none = none_read shown after log groups same c.in_ok-log.ensures.none_left (ap (λ (l : LogView). l.place) opens.opened) spells in
          subst (λ (l : List (ℕ × LogLine)). ReadSoFar after.crm_log log (all_lines groups) (map (λ (p : ℕ × LogLine). p.1) l)) (sym c.new-lines.ensures.items) none,
    )

pub loop-lines-preserved : goal.loop-lines-preserved
loop-lines-preserved g c =
    let shown : Image = g.S.Site.shown c.loop-lines.site in
    let after : Image = g.S.Site.shown c.next_line.new.site in
    let old : EntriesView = c.loop-lines.log in
    let new : EntriesView = c.next_line.new.self in
    let next : ℕ × LogLine = c.in-Some.next in
    let moved : new.log ≡ record old.log { place = new.log.place } = subst (λ o. IfSome o (λ (x : ℕ × LogLine). new.log ≡ record old.log { place = new.log.place })) c.in-Some.is c.in_ok-next.ensures.finds.moved in (
      c.in_ok-next.ensures.reads.stands,
      ap (λ (l : LogView). l.payload) moved ∙ c.loop-lines.invariant.1,
      ap (λ (l : LogView). l.file) moved ∙ c.loop-lines.invariant.2,
      λ told groups spells.
          let found : NextLine (bytes_of old.log.file shown) old new next.0 next.1
          = subst (λ o. IfSome o (λ (x : ℕ × LogLine). NextLine (bytes_of old.log.file shown) old new x.0 x.1)) c.in-Some.is (c.in_ok-next.ensures.finds.line told) in
          let still : after ≡ shown = subst (λ o. IfSome o (λ (x : ℕ × LogLine). after ≡ shown)) c.in-Some.is (c.in_ok-next.ensures.finds.still told) in
          let one = one_read shown after old new (all_lines groups) c.loop-lines.lines.items next c.loop-lines.invariant.2 still found (c.loop-lines.invariant.3 told groups spells) in
          subst (λ (l : List (ℕ × LogLine)). ReadSoFar after.crm_log new (all_lines groups) (map (λ (p : ℕ × LogLine). p.1) l)) (sym c.in-Ok.ensures.items) one,
    )

pub returns-clause-read : goal.returns-clause-read
returns-clause-read g c = λ told groups spells.
    let shown : Image = g.S.Site.shown c.loop-lines.site in
    let now : Image = g.S.Site.shown c.next_line.new.site in
    let old : EntriesView = c.loop-lines.log in
    let new : EntriesView = c.next_line.new.self in
    let end : NoEntries (bytes_of old.log.file shown) (bytes_of old.log.file now) old new = search rules in
    all_read shown now old new (all_lines groups) c.loop-lines.lines.items c.loop-lines.invariant.2 end (c.loop-lines.invariant.3 told groups spells)
