-- What a call of a log leaves of its site. `g` has the members of the site's trait, so a journal and any other log say
-- their calls by the same records, with their file, header and payloads.
use Rattle.std.specs.Prelude.{◌≡◌, ◌<◌, ◌≤◌, ◌++◌, ℕ, List, [], ◌∷◌, true, length, map, Bool, MatchBool, Option, Vec, IfSome, IfNone, IfOk, OnOk, OnErr, IsOk, IsErr, IsErrOf}
use Rattle.std.specs.List.{flat_map}
use Rattle.std.specs.declared.result.Result.{Result}
use Rattle.std.specs.declared.alloc.Global.{Global}
use Rattle.qc_site.specs.declared.site.Site.{Ghosts}
use Rattle.qc_site.specs.declared.site.Failed.{Failed}
use Rattle.qc_site.specs.declared.site.SiteFile.{SiteFile}
use Rattle.qc_site.specs.Image.{bytes_of, with_bytes}
use Rattle.qc_site.specs.Causes.{HasCause}
use Rattle.qc_site.specs.Disk.{Certain, FileStep, LeavesOnly, NoMore}
use Rattle.qc_frame.specs.Frame.{groups, groups_at, entry, HasHeader, IsBegun}
use Rattle.qc_frame.specs.Gate.{After}
use Rattle.qc_frame.specs.Log.{LogView, Stands, SameFrom, Whole, WholeOrNotFrom, HasGroup, BeingMade, just_opened, forced, NextGroup, NoGroup, Spelled}
use Rattle.qc_frame.specs.declared.error.LogError.{LogError}
use Rattle.qc_frame.specs.declared.error.LogError.TheVariants.{SiteFault, NotMade, Damaged}
use Rattle.qc_frame.specs.declared.log.Group.{Group}

-- the bytes of the entries of each of these groups
abbrev pub entries_read : List Group → List (List (List ℕ))
entries_read groups = map (λ group. map (λ e. e.bytes) group.entries) groups

-- what is so of an item that a call found
abbrev pub IfFound : {A E : Type 0} → Result (Option A) E → (A → Type 0) → Type 0
IfFound result P = IfOk result (λ r. IfSome r P)

-- what is so where a call found none
abbrev pub IfAtEnd : {A E : Type 0} → Result (Option A) E → Type 0 → Type 0
IfAtEnd result P = IfOk result (λ r. IfNone r P)

module _ {S : Type 0} (g : Ghosts S) where
  -- the log stands on the site: what each call of it is given
  abbrev pub LogStands : LogView → S → Type 0
  LogStands log site = Stands g.told (g.shown site) (g.may_leave site) log

  -- what the site shows in the file of the log
  abbrev pub shown_of : LogView → S → List ℕ
  shown_of log site = bytes_of log.file (g.shown site)

  -- A call that writes nothing. Unless the site failed it shows what it showed, and at no moment of the call an image is
  -- new. The site failed only where its count of faults rose.
  pub record WritesNothing (failed : Type 0) (site after : S) : Type 0 where
    pub same : g.told → ¬ failed → g.shown after ≡ g.shown site
    pub crash : g.told → NoMore (g.may_leave site) (g.may_leave after)
    pub any_moment : g.told → LeavesOnly g.moment g.left_since site after (g.may_leave site)
    pub cause : HasCause (g.faults site) (g.faults after) failed

  -- A call that changes one file by this step, and nothing else of the site. Unless the site failed it shows the file
  -- so, and a crash at any moment of the call leaves it so. The site failed only where its count of faults rose.
  pub record ChangesFile (file : SiteFile) (step : List ℕ → List ℕ → Type 0)
      (failed : Type 0) (site after : S) : Type 0 where
    pub shown : g.told → ¬ failed → FileStep file step (g.shown site) (g.shown after)
    pub any_moment : g.told → LeavesOnly g.moment g.left_since site after (After file step (g.may_leave site))
    pub cause : HasCause (g.faults site) (g.faults after) failed

  -- a call that keeps what stands before the log's start, and the groups from there on
  abbrev pub KeepsGroups : LogView → Type 0 → S → S → Type 0
  KeepsGroups log = ChangesFile log.file (SameFrom log.start)

  -- A call that leaves a log without groups in a file.
  pub record MakesLog {A E : Type 0} (file : SiteFile) (header : List ℕ)
      (result : Result A E) (site after : S) : Type 0 where
    pub made : g.told → OnOk result (g.shown after ≡ with_bytes file (header ++ 0 ∷ []) (g.shown site))
    pub certain : g.told → OnOk result (Certain file (header ++ 0 ∷ []) (g.may_leave after))
    pub changes : ChangesFile file BeingMade (IsErr result) site after

  -- A call that gives the length of a file that has this header. After Ok each image has the file as it is shown.
  pub record FindsHeader (file : SiteFile) (header : List ℕ) (result : Result (Option ℕ) Failed) (site after : S) : Type 0 where
    pub there : g.told → IfOk result (λ r. IfSome r (λ n. HasHeader header (bytes_of file (g.shown site)) × (n ≡ length (bytes_of file (g.shown site)))))
    pub none : g.told → IfOk result (λ r. IfNone r (¬ HasHeader header (bytes_of file (g.shown site))))
    pub bound : IfOk result (λ r. IfSome r (λ n. (16 ≤ n) × (n ≤ 4611686018427387904)))
    pub certain : g.told → OnOk result (Certain file (bytes_of file (g.shown site)) (g.may_leave after))
    pub writes : WritesNothing (IsErr result) site after

  -- A call that looks whether the log of a file is begun. After Ok each image has the file as it is shown.
  pub record LooksAt (file : SiteFile) (header : List ℕ) (result : Result Bool Failed) (site after : S) : Type 0 where
    pub tells : g.told → IfOk result (λ begun. MatchBool begun (IsBegun header (bytes_of file (g.shown site))) (¬ IsBegun header (bytes_of file (g.shown site))))
    pub certain : g.told → OnOk result (Certain file (bytes_of file (g.shown site)) (g.may_leave after))
    pub writes : WritesNothing (IsErr result) site after

  -- A call that opens the log of a file at a place. What it gives is a log by `log_of`, which stands on the site;
  -- NotMade comes exactly where the first bytes of the file aren't these.
  pub record OpensLog {L : Type 0} (file : SiteFile) (first : List ℕ) (start : ℕ) (log_of : L → LogView)
      (result : Result L LogError) (site after : S) : Type 0 where
    pub opened : IfOk result (λ log. log_of log ≡ just_opened file start (log_of log).length)
    pub stands : IfOk result (λ log. LogStands (log_of log) after)
    pub header : g.told → OnOk result (HasHeader first (bytes_of file (g.shown site)))
    pub not_made : g.told → IsErrOf result NotMade → ¬ HasHeader first (bytes_of file (g.shown site))
    pub writes : WritesNothing (IsErrOf result SiteFault) site after

  -- A call that reads on in a log, whatever it gives: the log stands on the site again unless the answer is an error.
  -- Damaged tells a place that is damaged, and NotMade is never told. After want of memory and damage nothing changed.
  pub record ReadsOn {A : Type 0} (damage : ℕ → Type 0)
      (result : Result A LogError) (log : LogView) (site : S) (new : LogView) (after : S) : Type 0 where
    pub stands : OnOk result (LogStands new after)
    pub damaged : g.told → (at : ℕ) → IsErrOf result (Damaged at) → damage at
    pub not_made : ¬ IsErrOf result NotMade
    pub unchanged : g.told → IsErr result → ¬ IsErrOf result SiteFault → g.shown after ≡ g.shown site
    pub keeps : KeepsGroups log (IsErrOf result SiteFault) site after

  -- The next group of the log, or none, and where the log then stands.
  pub record FindsGroup (result : Result (Option Group) LogError)
      (log : LogView) (site : S) (new : LogView) (after : S) : Type 0 where
    pub group : g.told → IfFound result (λ group. NextGroup (shown_of log site) log new group.at group.entries)
    pub still : g.told → IfFound result (λ group. g.shown after ≡ g.shown site)
    pub end : g.told → IfAtEnd result (NoGroup (shown_of log site) (shown_of log after) log new)
    -- whatever the site: what else of the log stays, and that a loop to the end ends
    pub here : IfFound result (λ group. group.at ≡ log.place)
    pub moved : IfFound result (λ group. new ≡ record log { place = new.place })
    pub onward : IfFound result (λ group. (log.place < new.place) × (new.place ≤ 4611686018427387904))
    pub ended : IfAtEnd result (new ≡ record log { length = new.length; ended = true })
    pub failed : OnErr result (new ≡ log)

  -- A call that makes this payload a group of the log: a crash at any moment leaves it whole or not at all, and the log
  -- stands on the site again unless the site failed.
  pub record MakesGroup {A E : Type 0} (payload : List ℕ)
      (result : Result A E) (log : LogView) (site : S) (new : LogView) (after : S) : Type 0 where
    pub stands : OnOk result (LogStands new after)
    pub changes : ChangesFile log.file (WholeOrNotFrom log.start payload) (IsErr result) site after

  -- A call that makes the staged entries of a log one group, or makes no call of the site where there are none.
  pub record Forces {A E : Type 0}
      (result : Result A E) (log : LogView) (site : S) (new : LogView) (after : S) : Type 0 where
    pub nothing : log.payload ≡ [] → IsOk result × (new ≡ log) × (after ≡ site)
    pub moved : 0 < length log.payload → OnOk result (new ≡ forced log)
    pub failed : OnErr result (new ≡ record log { payload = [] })
    pub made : g.told → 0 < length log.payload → OnOk result (HasGroup log.payload log (g.shown site) (g.shown after))
    pub makes : MakesGroup log.payload result log site new after

  -- All groups from the log's place on, and the log stands behind the last one.
  pub record ReadsAll (result : Result (Vec Group Global) LogError)
      (log : LogView) (site : S) (new : LogView) : Type 0 where
    pub read : g.told → IfOk result (λ v. Spelled (groups_at (shown_of log site) log.place) (entries_read v.items))
    pub ended : OnOk result (new ≡ record log { place = new.place; length = new.length; ended = true })

  -- Entries are made one group of a log that stands at its end, and the whole log is read again: what is read is what
  -- was there, and these entries behind it. Only the site's faults and want of memory keep from it.
  pub record ReadsBack (entries : List (List ℕ)) (result : Result (Vec Group Global) LogError)
      (log : LogView) (site : S) (new : LogView) (after : S) : Type 0 where
    pub read : g.told → (before : List (List (List ℕ))) → Spelled (groups (shown_of log site)) before
        → IfOk result (λ v. entries_read v.items ≡ before ++ entries ∷ [])
    pub whole : g.told → OnOk result (Whole (flat_map entry entries) (shown_of log site) (shown_of log after))
    pub others : g.told → OnOk result (g.shown after ≡ with_bytes log.file (shown_of log after) (g.shown site))
    pub kept : OnOk result (new ≡ record log { place = new.place; length = new.length; spare = 0 })
    pub stands : OnOk result (LogStands new after)
    pub not_damaged : g.told → (before : List (List (List ℕ))) → Spelled (groups (shown_of log site)) before
        → (at : ℕ) → ¬ IsErrOf result (Damaged at)
    pub not_made : g.told → ¬ IsErrOf result NotMade
    pub cause : HasCause (g.faults site) (g.faults after) (IsErrOf result SiteFault)
