-- What a call of a log of entries leaves of it and of its site. `g` has the members of the site's trait.
use Rattle.std.specs.Prelude.{◌≡◌, ◌≤◌, ◌<◌, ◌⊎◌, ℕ, true, length, Option, OnErr}
use Rattle.std.specs.declared.result.Result.{Result}
use Rattle.qc_site.specs.declared.site.Site.{Ghosts}
use Rattle.qc_frame.specs.Calls.{IfFound, IfAtEnd, shown_of}
use Rattle.qc_frame.specs.declared.error.LogError.{LogError}
use Rattle.qc_entries.specs.Entries.{EntriesView, Filled, FirstAt, NoEntries}

module _ {S : Type 0} (g : Ghosts S) where
  -- Entries are left, the first of them at this offset, or the end of the log was reached.
  pub record Fills (result : Result (Option ℕ) LogError)
      (old : EntriesView) (site : S) (new : EntriesView) (after : S) : Type 0 where
    pub filled : g.told → IfFound result (λ at. Filled (shown_of g old.log site) old new)
    pub still : g.told → IfFound result (λ at. g.shown after ≡ g.shown site)
    pub end : g.told → IfAtEnd result (NoEntries (shown_of g old.log site) (shown_of g old.log after) old new)
    -- whatever the site: what else of the log stays, and that a loop to the end ends
    pub first : IfFound result (λ at. FirstAt new at)
    pub onward : IfFound result (λ at. (new ≡ old) ⊎ ((old.log.place < new.log.place)
        × (new.log.place ≤ 4611686018427387904) × (length new.left < 18446744073709551616)))
    pub moved : IfFound result (λ at. new.log ≡ record old.log { place = new.log.place })
    pub ended : IfAtEnd result (new ≡ record old { log = record old.log { length = new.log.length; ended = true } })
    pub failed : OnErr result (new ≡ record old { log = record old.log { place = new.log.place } })
