-- Which sites aren't refused.
use Rattle.std.proofs.Common.{◌≡◌, ◌∙◌, ◌⊎◌, ⊎_elim, inl, inr, ℕ, List, [], ◌∷◌, ◌++◌, length, length-append, map, refl, sym, ap, subst, arith, true}
use Rattle.std.proofs.lemmas.List.{length-map}
use Rattle.qc_base.specs.declared.fact.Fact.{Fact}
use Rattle.qc_base.specs.declared.log_line.LogLine.{LogLine}
use Rattle.qc_site.specs.Image.{Image}
use Rattle.qc_site.specs.declared.site.SiteFile.TheVariants.{Journal, CrmLog}
use Rattle.qc_catalogue.specs.declared.catalogue.Catalogue.{Catalogue}
use Rattle.qc_frame.specs.Frame.{groups, groups_at}
use Rattle.qc_frame.specs.declared.error.Damage.{Damage}
use Rattle.qc_entries.specs.Entries.{EntriesView}
use Rattle.qc_journal.specs.History.{SpellsHistory, fact_payload}
use Rattle.qc_journal.specs.Journal.{DamagedFact}
use Rattle.crm_history.specs.declared.ended.Ended.{Ended}
use Rattle.crm_history.specs.Legal.{is_log_legal}
use Rattle.crm_log.specs.Log.{SpellsLog, all_lines}
use Rattle.crm_recovery.specs.Reading.{DamagedLines, JustOpened}
use Rattle.qc_machine.specs.declared.error.OpenError.{OpenError}
use Rattle.qc_machine.specs.declared.error.OpenError.TheVariants.{SiteFault, NotMade, NoCatalogue, Damaged, NoMemory}
use Rattle.qc_machine.specs.History.{by_text, history_of, is_legal}
use Rattle.qc_machine.specs.Opening.{DamagedJournal, NotNext}
use Rattle.qc_machine.specs.Sound.{ended_in}
use Rattle.qc_machine.proofs.Histories.{legal-all, legal-some}
use Rattle.qc_recovery.specs.Stands.{Spells}
use Rattle.qc_recovery.specs.Calls.{DamagedLog, WhyNot}
use Rattle.qc_recovery.proofs.OpeningFacts.{facts-one, no-history}

-- a legal history has a group
some-group : (file : List ℕ) (facts : List Fact) → SpellsHistory file facts → is_legal by_text facts ≡ true → groups file ≡ [] → ⊥
some-group file facts spells legal none = omega (arith, legal-some by_text facts legal, length-map facts fact_payload, ap length (sym spells.groups ∙ none))

module _ (law : (c : Catalogue) (sent : ℕ) (ended : List Ended) (file : List ℕ) (log : List (List LogLine)) (start : EntriesView) (at : ℕ) → JustOpened start → SpellsLog file log → is_log_legal c sent ended (all_lines log) ≡ true
    → DamagedLines c sent ended file start at → ⊥) (image : Image) (facts : List Fact) (log : List (List LogLine)) (s : Spells by_text image facts log) where
  fits : (at : ℕ) → DamagedLog image at → ⊥
  fits at bad =
      let h = history_of by_text facts in
      let one : bad.facts ≡ facts = facts-one bad.facts facts bad.spelled.limits s.facts_spelled.limits (sym bad.spelled.groups ∙ s.facts_spelled.groups) in
      law h.catalogue (length h.messages) (ended_in h) image.crm_log log bad.start at bad.opened s.lines_spelled s.beside
      (subst (λ (fs : List Fact). DamagedLines (history_of by_text fs).catalogue (length (history_of by_text fs).messages) (ended_in (history_of by_text fs)) image.crm_log bad.start at) one bad.unfit)

  pub not-refused : (e : OpenError) → WhyNot image e → (e ≡ SiteFault) ⊎ (e ≡ NoMemory)
  not-refused SiteFault why = inl refl
  not-refused NotMade why = absurd (why s.headers)
  not-refused NoCatalogue why = absurd (some-group image.journal facts s.facts_spelled s.legal why.1)
  not-refused (Damaged d) why =
      absurd (⊎_elim
      (λ (bad : (d.file ≡ Journal) × DamagedJournal image.journal d.at). no-history image.journal d.at bad.1 facts s.facts_spelled (legal-all by_text facts s.legal))
      (λ (bad : (d.file ≡ CrmLog) × DamagedLog image d.at). fits d.at bad.1)
      why.1)
  not-refused NoMemory why = inr refl

-- a journal without a group isn't damaged

none-next : (file : List ℕ) (facts : List Fact) (place : ℕ) (payload : List ℕ) (rest : List (List ℕ)) → groups file ≡ [] → groups file ≡ map fact_payload facts ++ groups_at file place → groups_at file place ≡ payload ∷ rest → ⊥
none-next file facts place payload rest none spelled next =
    omega (arith, ap length (sym none ∙ spelled ∙ ap (λ (l : List (List ℕ)). map fact_payload facts ++ l) next), length-append (map fact_payload facts) (payload ∷ rest))

pub empty-not-damaged : (image : Image) (d : Damage) → WhyNot image NoCatalogue → WhyNot image (Damaged d) → ⊥
empty-not-damaged image d empty why =
    ⊎_elim
    (λ (bad : (d.file ≡ Journal) × DamagedJournal image.journal d.at).
    ⊎_elim
    (λ (unfit : DamagedFact image.journal bad.1.place d.at). none-next image.journal bad.1.facts bad.1.place unfit.payload _ empty.1 bad.1.front.spelled unfit.next)
    (λ (unfit : NotNext image.journal bad.1.place d.at bad.1.facts). none-next image.journal bad.1.facts bad.1.place (fact_payload unfit.fact) unfit.rest empty.1 bad.1.front.spelled unfit.next)
    bad.1.unfit)
    (λ (bad : (d.file ≡ CrmLog) × DamagedLog image d.at). some-group image.journal bad.1.facts bad.1.spelled bad.1.legal empty.1)
    why.1
