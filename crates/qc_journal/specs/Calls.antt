-- What a call of the journal leaves of it and of its site. `g` has the members of the site's trait.
use Rattle.std.specs.Prelude.{◌≡◌, ◌<◌, ◌≤◌, ℕ, true, Option, OnOk, OnErr}
use Rattle.std.specs.declared.result.Result.{Result}
use Rattle.qc_base.specs.declared.fact.Fact.{Fact}
use Rattle.qc_base.specs.Spelling.{is_fact}
use Rattle.qc_site.specs.declared.site.Site.{Ghosts}
use Rattle.qc_frame.specs.Log.{HasGroup}
use Rattle.qc_frame.specs.Calls.{IfFound, IfAtEnd, MakesGroup}
use Rattle.qc_frame.specs.declared.error.LogError.{LogError}
use Rattle.qc_journal.specs.History.{fact_payload}
use Rattle.qc_journal.specs.Journal.{JournalView, log_of, NextFact, NoFact, appended, not_appended}

module _ {S : Type 0} (g : Ghosts S) where
  -- The next fact of the journal with the offset of its entry, or none, and where the journal then stands.
  pub record FindsFact (result : Result (Option (ℕ × Fact)) LogError)
      (journal : JournalView) (site : S) (new : JournalView) (after : S) : Type 0 where
    pub fact : g.told → IfFound result (λ next. NextFact (g.shown site).journal journal new next.0 next.1)
    pub still : g.told → IfFound result (λ next. g.shown after ≡ g.shown site)
    pub end : g.told → IfAtEnd result (NoFact (g.shown site).journal (g.shown after).journal journal new)
    -- whatever the site: the fact's limits, what else of the journal stays, and that a loop to the end ends
    pub limits : IfFound result (λ next. is_fact next.1 ≡ true)
    pub moved : IfFound result (λ next. new ≡ record journal { place = new.place })
    pub onward : IfFound result (λ next. (journal.place < new.place) × (new.place ≤ 4611686018427387904))
    pub ended : IfAtEnd result (new ≡ record journal { length = new.length; ended = true })
    pub failed : OnErr result (new ≡ record journal { place = new.place })

  -- A call that makes this fact a group of the journal, which stands at its end: after Ok the journal stands behind it,
  -- and a crash at any moment leaves it whole or not at all.
  pub record AppendsFact {A E : Type 0} (fact : Fact)
      (result : Result A E) (old : JournalView) (site : S) (new : JournalView) (after : S) : Type 0 where
    pub journal : OnOk result (new ≡ appended old fact)
    pub failed : OnErr result (new ≡ not_appended old fact)
    pub made : g.told → OnOk result (HasGroup (fact_payload fact) (log_of old) (g.shown site) (g.shown after))
    pub makes : MakesGroup g (fact_payload fact) result (log_of old) site (log_of new) after
