-- What a call of the log leaves of it and of its site. `g` has the members of the site's trait.
use Rattle.std.specs.Prelude.{◌≡◌, ◌<◌, ℕ, true, Option, OnErr}
use Rattle.std.specs.declared.result.Result.{Result}
use Rattle.qc_base.specs.declared.log_line.LogLine.{LogLine}
use Rattle.qc_site.specs.declared.site.Site.{Ghosts}
use Rattle.qc_frame.specs.Calls.{IfFound, IfAtEnd, shown_of}
use Rattle.qc_frame.specs.declared.error.LogError.{LogError}
use Rattle.qc_entries.specs.Entries.{EntriesView, NoEntries, way_left}
use Rattle.crm_log.specs.Lines.{NextLine}

module _ {S : Type 0} (g : Ghosts S) where
  -- The next line of the log with the offset of its entry, or none, and where the log then stands.
  pub record FindsLine (result : Result (Option (ℕ × LogLine)) LogError)
      (old : EntriesView) (site : S) (new : EntriesView) (after : S) : Type 0 where
    pub line : g.told → IfFound result (λ next. NextLine (shown_of g old.log site) old new next.0 next.1)
    pub still : g.told → IfFound result (λ next. g.shown after ≡ g.shown site)
    pub end : g.told → IfAtEnd result (NoEntries (shown_of g old.log site) (shown_of g old.log after) old new)
    -- whatever the site: what else of the log stays, and that a loop to the end ends
    pub moved : IfFound result (λ next. new.log ≡ record old.log { place = new.log.place })
    pub onward : IfFound result (λ next. way_left new < way_left old)
    pub ended : IfAtEnd result (new ≡ record old { log = record old.log { length = new.log.length; ended = true } })
    pub failed : OnErr result (new.log ≡ record old.log { place = new.log.place })
