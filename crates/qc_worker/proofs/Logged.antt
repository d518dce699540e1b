-- A put behind a log that was forced, and lines behind a put. `g` has the members of the site's trait.
use Rattle.std.proofs.Common.{◌≡◌, ◌∙◌, ◌⊎◌, ◌<◌, ◌≤◌, inl, inr, ⊎_elim, ℕ, List, [], ◌∷◌, ◌++◌, length, Bool, true, false, cond, Option, Some, None, Result, Ok, Err, IsErr, refl, sym, ap, subst, arith, append-nil, length-append}
use Rattle.qc_base.specs.Rows.{OutsideRows}
use Rattle.qc_base.specs.declared.log_line.LogLine.{LogLine}
use Rattle.qc_base.specs.declared.log_line.LogRecord.{LogRecord}
use Rattle.qc_site.specs.declared.site.Failed.{Failed}
use Rattle.qc_site.specs.declared.site.Site.{Ghosts}
use Rattle.qc_site.specs.declared.site.SiteFile.{SiteFile}
use Rattle.qc_site.specs.declared.site.SiteFile.TheVariants.{Journal, CrmLog, Snap}
use Rattle.qc_site.specs.Image.{Image, bytes_of, with_bytes}
use Rattle.qc_site.specs.Causes.{HasCause, Rose}
use Rattle.qc_site.specs.Disk.{Certain, FileStep, Images, LeavesOnly}
use Rattle.qc_site.proofs.Images.{bytes_of-with_bytes}
use Rattle.qc_site.proofs.Moments.{weaker, joined}
use Rattle.qc_frame.specs.Calls.{LogStands, Forces}
use Rattle.qc_frame.specs.Frame.{HasHeader}
use Rattle.qc_frame.specs.Gate.{After, with_group}
use Rattle.qc_frame.specs.Log.{LogView, StandsOn, WholeFrom, WholeOrNotFrom}
use Rattle.qc_frame.proofs.Staged.{stands_still}
use Rattle.qc_entries.specs.Entries.{EntriesView}
use Rattle.crm_log.specs.Log.{IsLogOf, LinesWait, SpellsLog, log_header}
use Rattle.crm_clerk.specs.Calls.{HasStaged}
use Rattle.qc_catalogue.specs.declared.catalogue.Resource.{Resource}
use Rattle.crm_clerk.specs.Clerk.{ClerkView, last_kept}
use Rattle.crm_driver.specs.Puts.{RowPut, after_put, after_puts, GoesByPut, GoesByPuts, LeavesFront, MakesPuts}
use Rattle.crm_driver.specs.RowRules.{put_of}
use Rattle.qc_worker.proofs.Written.{staged-log}
use Rattle.qc_worker.specs.Effects.{puts_back, retract_puts}
use Rattle.qc_worker.specs.Calls.{LoggedThenPut, LeavesLogged, forced_lines, ForcesThenPuts, PutsThenWrites}

-- puts change no file, and a file's step no row

same-bytes : (file : SiteFile) (p : RowPut) (image : Image) → bytes_of file (after_put p image) ≡ bytes_of file image
same-bytes Journal p image = refl
same-bytes CrmLog p image = refl
same-bytes Snap p image = refl

puts-bytes : (file : SiteFile) (puts : List RowPut) (image : Image) → bytes_of file (after_puts puts image) ≡ bytes_of file image
puts-bytes file [] image = refl
puts-bytes file (p ∷ puts) image = puts-bytes file puts (after_put p image) ∙ same-bytes file p image

pub put-keeps : (file : SiteFile) (rows : OutsideRows) (p : RowPut) (a b : Image) → GoesByPut rows p a b → bytes_of file b ≡ bytes_of file a
put-keeps file rows p a b (inl put) = ap (bytes_of file) put ∙ same-bytes file p a
put-keeps file rows p a b (inr over) = ap (bytes_of file) over.1

puts-keep : (file : SiteFile) (rows : OutsideRows) (puts : List RowPut) (a b : Image) → GoesByPuts rows puts a b → bytes_of file b ≡ bytes_of file a
puts-keep file rows [] a b same = ap (bytes_of file) same
puts-keep file rows (p ∷ puts) a b by = puts-keep file rows puts by.0 b by.2 ∙ put-keeps file rows p a by.0 by.1

same-rows : (file : SiteFile) (bytes : List ℕ) (image : Image) → (with_bytes file bytes image).rows ≡ image.rows
same-rows Journal bytes image = refl
same-rows CrmLog bytes image = refl
same-rows Snap bytes image = refl

-- one put: it isn't made yet, or it is
one-front : (rows : OutsideRows) (p : RowPut) (before : Images) (c : Image) → LeavesFront rows (p ∷ []) before c → before c ⊎ ((was : Image) × before was × GoesByPut rows p was c)
one-front rows p before c front = by front.done front.left front.split front.by
  where
    by : (done left : List RowPut) → p ∷ [] ≡ done ++ left → GoesByPuts rows done front.was c → before c ⊎ ((was : Image) × before was × GoesByPut rows p was c)
    by [] left split same = inl (subst before (sym same) front.there)
    by (x ∷ []) left split goes =
        let is : x ≡ p = cc in
        inr (front.was, front.there, subst (λ (i : Image). GoesByPut rows p front.was i) (sym goes.2) (subst (λ (q : RowPut). GoesByPut rows q front.was goes.0) is goes.1))
    by (x ∷ y ∷ more) left split goes = absurd (omega (arith, ap length split, length-append more left))

-- the puts of a retract are one or none
at-most-one : (rows : OutsideRows) (puts done left : List RowPut) (was c : Image) → length puts ≤ 1 → puts ≡ done ++ left → GoesByPuts rows done was c → (c ≡ was) ⊎ GoesByPuts rows puts was c
at-most-one rows puts [] left was c few split same = inl same
at-most-one rows puts (x ∷ done) [] was c few split goes = inr (subst (λ (l : List RowPut). GoesByPuts rows l was c) (sym (split ∙ append-nil (x ∷ done))) goes)
at-most-one rows puts (x ∷ done) (y ∷ left) was c few split goes = absurd (omega (arith, few, ap length split, length-append done (y ∷ left)))

few-back : (r : Resource) (o : Option LogRecord) → length (puts_back r o) ≤ 1
few-back r None = omega arith
few-back r (Some last) = by r.early
  where
    by : (b : Bool) → length (cond b (put_of r.name last.key last.old ∷ []) []) ≤ 1
    by true = omega arith
    by false = omega arith

pub retract-front : (clerk : ClerkView) (r : Resource) (rows : OutsideRows) (done left : List RowPut) (was c : Image) → retract_puts clerk r ≡ done ++ left → GoesByPuts rows done was c
    → (c.crm_log ≡ was.crm_log) × ((c ≡ was) ⊎ GoesByPuts rows (retract_puts clerk r) was c)
retract-front clerk r rows done left was c split goes =
    (puts-keep CrmLog rows done was c goes, at-most-one rows (retract_puts clerk r) done left was c (few-back r (last_kept clerk.lines clerk.attempt r.name)) split goes)

rose : (old mid now : ℕ) → old ≤ mid → Rose mid now → Rose old now
rose old mid now le up = omega (arith, le, up)

-- the log of an image is another's
pub log-kept : (groups : List (List LogLine)) (old new : Image) → new.crm_log ≡ old.crm_log → IsLogOf old groups → IsLogOf new groups
log-kept groups old new same is =
    let both = subst (λ (file : List ℕ). HasHeader log_header file × SpellsLog file groups) (sym same) (is.header, is.spelled) in
    record { header = both.0; spelled = both.1 }

-- a log stands where it stood, after puts
module _ {S : Type 0} (g : Ghosts S) where
  pub stands-put : {A : Type 0} (a : A) (puts : List RowPut) (log : LogView) (site after : S) → MakesPuts g puts (Ok a) site after → LogStands g log site → LogStands g log after
  stands-put a puts log site after makes stood told =
      let st = stood told in
      let same : bytes_of log.file (g.shown after) ≡ bytes_of log.file (g.shown site) = ap (bytes_of log.file) (makes.made told) ∙ puts-bytes log.file puts (g.shown site) in
      let certain : Certain log.file (bytes_of log.file (g.shown site)) (g.may_leave after) =
      λ c here. let from = makes.certain told c here in puts-keep log.file (g.shown site).rows puts from.0 c from.2 ∙ st.certain from.0 from.1 in
      subst (λ (bytes : List ℕ). StandsOn bytes (g.may_leave after) log) (sym same)
      (record { size = st.size; certain = certain; behind = st.behind; payloads = st.payloads; led = st.led; closed = st.closed })

  -- lines are written behind puts
  pub written-behind : {A : Type 0} (a : A) (puts : List RowPut) (lines : List LogLine) (taken : ℕ) (old new : ClerkView) (log later : EntriesView) (site after : S) → MakesPuts g puts (Ok a) site after → HasStaged lines taken old log new later → LogStands g log.log site
      → PutsThenWrites g {A = A} puts lines taken (Ok a) old log site new later after
  written-behind a puts lines taken old new log later site after makes staged stood = record {
    makes = makes;
    written = staged;
    unwritten = tt;
    stands = stands_still g.told (g.shown after) (g.may_leave after) log.log later.log later.log.payload later.log.spare (staged-log lines taken old new log later staged) (stands-put a puts log.log site after makes stood);
  }

-- a put behind a log that was forced with what waited
module _ {S : Type 0} (g : Ghosts S) (put : RowPut) (log : EntriesView) (site mid : S) (new : EntriesView) (forced : Forces g {A = Unit {0}} {E = Failed} (Ok (tt {0})) log.log site new.log mid) (some : 0 < length log.log.payload)
    (stood : LogStands g log.log site) (counts : (t : ℕ) (c : Image) → g.told → t ≤ g.moment mid → g.may_leave mid c → g.left_since mid t c) where
  moments : g.told → LeavesOnly g.moment g.left_since site mid (After log.log.file (WholeOrNotFrom log.log.start log.log.payload) (g.may_leave site))
  moments told = forced.makes.changes.any_moment told

  -- each image now has the group
  grouped : (told : g.told) (m : Image) → g.may_leave mid m → (d : Image) × g.may_leave site d × FileStep log.log.file (WholeFrom log.log.start log.log.payload) d m
  grouped told m here =
      let from = (moments told).each m (counts (g.moment site) m told (moments told).later here) in
      let step = from.2 in
      let bytes : bytes_of log.log.file m ≡ step.bytes = ap (bytes_of log.log.file) step.is ∙ bytes_of-with_bytes log.log.file step.bytes from.0 in
      let same : new.log.file ≡ log.log.file = ap (λ (l : LogView). l.file) (forced.moved some) in
      let now : bytes_of log.log.file m ≡ bytes_of log.log.file (g.shown mid) = subst (λ (f : SiteFile). bytes_of f m ≡ bytes_of f (g.shown mid)) same ((forced.makes.stands told).certain m here) in
      let whole = (forced.made told some).whole in
      let was : bytes_of log.log.file from.0 ≡ bytes_of log.log.file (g.shown site) = (stood told).certain from.0 from.1 in
      let P : List ℕ → List ℕ → Type 0 = WholeFrom log.log.start log.log.payload in (
        from.0,
        from.1,
        record { bytes = step.bytes; is = step.is; by = subst (λ (l : List ℕ). P l step.bytes) (sym was) (subst (λ (l : List ℕ). P (bytes_of log.log.file (g.shown site)) l) (sym now ∙ bytes) whole) },
      )

  rows-stay : g.told → (g.shown mid).rows ≡ (g.shown site).rows
  rows-stay told =
      let group = forced.made told some in
      ap (λ (i : Image). i.rows) group.shown ∙ same-rows log.log.file (with_group (bytes_of log.log.file (g.shown site)) log.log.place log.log.payload) (g.shown site)

  behind : (told : g.told) (m c : Image) → g.may_leave mid m → GoesByPut (g.shown mid).rows put m c → (d : Image) × g.may_leave site d × LoggedThenPut log.log (g.shown site).rows put d c
  behind told m c here by =
      let from = grouped told m here in
      (from.0, from.1, record { logged = m; group = from.2; row = subst (λ (rows : OutsideRows). GoesByPut rows put m c) (rows-stay told) by })

  leaves : (told : g.told) (c : Image) → LeavesFront (g.shown mid).rows (put ∷ []) (g.may_leave mid) c → LeavesLogged log.log (g.shown site).rows put (g.may_leave site) c
  leaves told c front = ⊎_elim
      (λ here. let from = (moments told).each c (counts (g.moment site) c told (moments told).later here) in (from.0, from.1, inl from.2))
      (λ gone. let from = behind told gone.0 c gone.1 gone.2 in (from.0, from.1, inr from.2))
      (one-front (g.shown mid).rows put (g.may_leave mid) c front)

  module _ (after : S) (left : new.left ≡ log.left)
      (spelled : g.told → (groups : List (List LogLine)) (lines : List LogLine) → LinesWait log lines → 1 ≤ length lines → IsLogOf (g.shown site) groups → IsLogOf (g.shown mid) (groups ++ lines ∷ [])) where
    all-moments : {A : Type 0} (result : Result A Failed) → MakesPuts g (put ∷ []) result mid after → g.told → LeavesOnly g.moment g.left_since site after (LeavesLogged log.log (g.shown site).rows put (g.may_leave site))
    all-moments result makes told =
        let P = LeavesLogged log.log (g.shown site).rows put (g.may_leave site) in
        joined g.moment g.left_since site mid after P
        (weaker g.moment g.left_since site mid (After log.log.file (WholeOrNotFrom log.log.start log.log.payload) (g.may_leave site)) P (λ c here. (here.0, here.1, inl here.2)) (moments told))
        (weaker g.moment g.left_since mid after (LeavesFront (g.shown mid).rows (put ∷ []) (g.may_leave mid)) P (leaves told) (makes.any_moment told))

    caused : {A : Type 0} (result : Result A Failed) → MakesPuts g (put ∷ []) result mid after → HasCause (g.faults site) (g.faults after) (IsErr result)
    caused result makes =
        let first : g.faults site ≤ g.faults mid = forced.makes.changes.cause.no_fewer in
        record { no_fewer = omega (arith, first, makes.cause.no_fewer); cause = λ failed. rose (g.faults site) (g.faults mid) (g.faults after) first (makes.cause.cause failed) }

    is-forced : new ≡ forced_lines log
    is-forced = λ i. record { log = forced.moved some i; left = left i }

    pub put-behind : {A : Type 0} (result : Result A Failed) → MakesPuts g (put ∷ []) result mid after → ForcesThenPuts g put result log site new after
    put-behind (Ok a) makes = record {
      forces = is-forced;
      failed = tt;
      stands = stands-put g a (put ∷ []) new.log mid after makes forced.makes.stands;
      shown = λ told. record { logged = g.shown mid; group = forced.made told some; row = makes.made told };
      spells = λ told groups lines waits any had. log-kept (groups ++ lines ∷ []) (g.shown mid) (g.shown after) (ap (λ (i : Image). i.crm_log) (makes.made told)) (spelled told groups lines waits any had);
      certain = λ told c here. let from = makes.certain told c here in behind told from.0 c from.1 (subst (λ (i : Image). GoesByPut (g.shown mid).rows put from.0 i) (sym from.2.2) from.2.1);
      any_moment = all-moments (Ok a) makes;
      cause = caused (Ok a) makes;
    }
    put-behind (Err e) makes = record {
      forces = tt;
      failed = inr (record { kept = is-forced; mid = mid; forced = forced; failed = makes });
      stands = tt;
      shown = λ told. tt;
      spells = λ told groups lines waits any had. tt;
      certain = λ told. tt;
      any_moment = all-moments (Err e) makes;
      cause = caused (Err e) makes;
    }
