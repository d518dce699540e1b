-- How the program ends, by what it ran. `g` has the members of the site's trait.
use Rattle.std.specs.Prelude.{◌≡◌, ◌⊎◌, ℕ, List, Option, Result, Ok, Err, true, String}
use Rattle.std.specs.declared.alloc.Global.{Global}
use Rattle.qc_protocol.specs.declared.status.Status.{Status}
use Rattle.qc_protocol.specs.declared.status.Status.TheVariants.{SiteFault}
use Rattle.qc_protocol.specs.Statuses.{status_code}
use Rattle.qc_site.specs.declared.site.Site.{Ghosts}
use Rattle.qc_site.specs.Causes.{Rose}
use Rattle.qc_catalogue.specs.Sample.{sample}
use Rattle.qc_creation.specs.Calls.{CreatesSite}
use Rattle.qc_creation.specs.declared.error.CreateError.{CreateError}
use Rattle.qc_drill.specs.Headline.{Drills}
use Rattle.qc_drill.specs.Inits.{Inits}
use Rattle.qc_drill.specs.Words.{is_drill, is_init}
use Rattle.qc_realsite.specs.declared.folder.OpenError.{OpenError}
use Rattle.qcd.specs.Made.{status_made, status_unopened}

-- the exit status is the number of a status that is so
pub record Ends (P : Status → Type 0) (exit : ℕ) : Type 0 where
  pub status : Status
  pub is : exit ≡ status_code status
  pub ran : P status

-- making the site from the sample, as the call that does it answers
abbrev pub Making : Type 0
Making = Result (Unit {0}) CreateError

module _ {S : Type 0} (g : Ghosts S) where
  -- the site was made from the sample, and the drill ran over it
  pub record RanOver (status : Status) (site : S) (left contents : Option (List ℕ)) (after : S)
      (left_now now : Option (List ℕ)) : Type 0 where
    pub made : S
    pub answer : Making
    pub fine : answer ≡ Ok tt
    pub creation : CreatesSite g sample answer site made
    pub ran : Drills g status made left contents after left_now now

  -- the site couldn't be made, and nothing was read or written
  pub record NotMade (status : Status) (site : S) (left contents : Option (List ℕ)) (after : S)
      (left_now now : Option (List ℕ)) : Type 0 where
    pub error : CreateError
    pub answer : Making
    pub failed : answer ≡ Err error
    pub creation : CreatesSite g sample answer site after
    pub is : status ≡ status_made error
    pub source : left_now ≡ left
    pub sink : now ≡ contents

  -- a drill over a site that is first made from the sample
  abbrev pub DrillsOverSample : S → Option (List ℕ) → Option (List ℕ) → S → Option (List ℕ) → Option (List ℕ) → Status
      → Type 0
  DrillsOverSample site left contents after left_now now status =
      RanOver status site left contents after left_now now ⊎ NotMade status site left contents after left_now now

  -- the site was opened, and the command ran over it
  pub record RanOpened (opening : Result S OpenError → Type 0) (run : S → S → Type 0) (status : Status) : Type 0 where
    pub site : S
    pub after : S
    pub opened : opening (Ok site)
    pub ran : run site after
    pub site_fault : status ≡ SiteFault → Rose (g.faults site) (g.faults after)

  -- the site couldn't be opened, and nothing was read or written
  pub record NotOpened (opening : Result S OpenError → Type 0) (status : Status)
      (left contents left_now now : Option (List ℕ)) : Type 0 where
    pub error : OpenError
    pub refused : opening (Err error)
    pub is : status ≡ status_unopened error
    pub source : left_now ≡ left
    pub sink : now ≡ contents

  module _ (opening : Result S OpenError → Type 0) (words : List (String Global))
      (left contents left_now now : Option (List ℕ)) (status : Status) where
    -- a command over a site in memory, a drill over one that is made from the sample
    pub record RunsMemory : Type 0 where
      pub init : is_init words ≡ true
          → RanOpened opening (λ site after. Inits g status site left contents after left_now now) status
          ⊎ NotOpened opening status left contents left_now now
      pub drill : is_drill words ≡ true
          → RanOpened opening (λ site after. DrillsOverSample site left contents after left_now now status) status
          ⊎ NotOpened opening status left contents left_now now

    -- a command over the site in a folder
    pub record RunsFolder : Type 0 where
      pub init : is_init words ≡ true
          → RanOpened opening (λ site after. Inits g status site left contents after left_now now) status
          ⊎ NotOpened opening status left contents left_now now
      pub drill : is_drill words ≡ true
          → RanOpened opening (λ site after. Drills g status site left contents after left_now now) status
          ⊎ NotOpened opening status left contents left_now now
