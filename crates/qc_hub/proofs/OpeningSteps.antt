-- Calls of an opening, one after the other, and what a crash in their midst leaves.
use Rattle.std.proofs.Common.{◌≡◌, ◌≢◌, ⊎_elim, ℕ, List, [], length, refl, sym, ap, ◌∙◌, subst, arith, Err, IsErrOf}
use Rattle.std.proofs.lemmas.List.{length-map}
use Rattle.qc_site.specs.declared.site.Site.{Ghosts}
use Rattle.qc_site.specs.declared.site.SiteFile.TheVariants.{Journal, CrmLog}
use Rattle.qc_site.specs.Causes.{HasCause}
use Rattle.qc_site.specs.Disk.{Certain, LeavesOnly}
use Rattle.qc_site.specs.Image.{Image}
use Rattle.qc_site.proofs.Moments.{weaker, joined}
use Rattle.qc_frame.specs.Calls.{LogStands, ChangesFile}
use Rattle.qc_frame.specs.Frame.{groups}
use Rattle.qc_frame.specs.Gate.{After}
use Rattle.qc_frame.specs.Log.{SameLog, StandsOn}
use Rattle.qc_journal.specs.History.{fact_payload}
use Rattle.qc_journal.specs.Journal.{JournalView, log_of}
use Rattle.qc_machine.specs.declared.error.OpenError.{OpenError}
use Rattle.qc_machine.specs.declared.error.OpenError.TheVariants.{SiteFault, NotMade, NoCatalogue, Damaged, NoMemory}
use Rattle.qc_machine.specs.declared.limits.Limits.{Limits}
use Rattle.qc_machine.specs.History.{by_text}
use Rattle.qc_machine.specs.Opening.{DamagedAt}
use Rattle.qc_machine.specs.Sites.{HasHeaders, ReadsAs, LeavesSame}
use Rattle.qc_machine.specs.State.{State}
use Rattle.qc_machine.proofs.Histories.{legal-all, legal-some}
use Rattle.qc_machine.proofs.Images.{same-site, same-joined, same-journal, same-crm_log}
use Rattle.qc_hub.specs.declared.hub.Hub.{Hub}
use Rattle.qc_hub.specs.Calls.{LeavesUnopened, OpensSite}
use Rattle.qc_hub.proofs.Logs.{stands-among}
use Rattle.qc_hub.proofs.OpeningFacts.{no-history}

-- why a site isn't opened

abbrev pub WhyNot : Image → OpenError → Type 0
WhyNot image SiteFault = Unit {0}
WhyNot image NotMade = ¬ HasHeaders image
WhyNot image NoCatalogue = HasHeaders image × (groups image.journal ≡ [])
WhyNot image (Damaged d) = HasHeaders image × DamagedAt image d
WhyNot image NoMemory = Unit {0}

-- no state is read where the files stand for none
no-state : (image : Image) (e : OpenError) → WhyNot image e → e ≢ SiteFault → e ≢ NoMemory → (limits : Limits) (s : State) → ReadsAs limits image s → ⊥
no-state image SiteFault why fault memory limits s r = fault refl
no-state image NotMade why fault memory limits s r = why r.stands.headers
no-state image NoCatalogue why fault memory limits s r = omega (arith, ap length (sym why.1 ∙ r.stands.spelled.groups), length-map r.facts fact_payload, legal-some by_text r.facts r.stands.legal)
no-state image (Damaged d) why fault memory limits s r =
    ⊎_elim (λ j. no-history image.journal d.at j.1 r.facts r.stands.spelled (legal-all by_text r.facts r.stands.legal)) (λ l. l.1.some r.stands.unused) why.1
no-state image NoMemory why fault memory limits s r = memory refl

module _ {S : Type 0} (g : Ghosts S) where
  -- an opening that ends in an error
  pub unopened : (e : OpenError) (limits : Limits) (site after : S) → (g.told → WhyNot (g.shown site) e) → (g.told → LeavesUnopened e (g.shown site) (g.shown after)) → (g.told → LeavesOnly g.moment g.left_since site after (LeavesSame (g.may_leave site)))
      → HasCause (g.faults site) (g.faults after) (IsErrOf {T = Hub} (Err e) SiteFault) → OpensSite g limits (Err e) site after
  unopened e limits site after why left moments cause = record {
    told = λ told. record {
      state = λ s r. tt;
      reads = tt;
      closed = tt;
      others = tt;
      not_made = λ is. let same : e ≡ NotMade = cc in subst (WhyNot (g.shown site)) same (why told);
      no_catalogue = λ is. let same : e ≡ NoCatalogue = cc in subst (WhyNot (g.shown site)) same (why told);
      damaged = λ d is. let same : e ≡ Damaged d = cc in subst (WhyNot (g.shown site)) same (why told);
      no_history = λ is fault memory s r. no-state (g.shown site) e (why told) (λ same. fault (ap Err same)) (λ same. memory (ap Err same)) limits s r;
      unopened = left told;
      any_moment = moments told;
    };
    ready = tt;
    limits = tt;
    cause = cause;
  }

  -- calls that keep the groups

  pub leaves-read : (site after : S) → LeavesOnly g.moment g.left_since site after (g.may_leave site) → LeavesOnly g.moment g.left_since site after (LeavesSame (g.may_leave site))
  leaves-read site after all = weaker g.moment g.left_since site after _ _ (λ c here. record { was = c; there = here; same = same-site c }) all

  pub leaves-journal : (site after : S) → LeavesOnly g.moment g.left_since site after (After Journal SameLog (g.may_leave site)) → LeavesOnly g.moment g.left_since site after (LeavesSame (g.may_leave site))
  leaves-journal site after all = weaker g.moment g.left_since site after _ _ (λ c left. record { was = left.0; there = left.1; same = same-journal left.0 c left.2.bytes left.2.is left.2.by }) all

  pub leaves-log : (site after : S) → LeavesOnly g.moment g.left_since site after (After CrmLog SameLog (g.may_leave site)) → LeavesOnly g.moment g.left_since site after (LeavesSame (g.may_leave site))
  leaves-log site after all = weaker g.moment g.left_since site after _ _ (λ c left. record { was = left.0; there = left.1; same = same-crm_log left.0 c left.2.bytes left.2.is left.2.by }) all

  pub leaves-on : (old mid new : S) → ((c : Image) → g.may_leave mid c → g.left_since mid (g.moment old) c) → LeavesOnly g.moment g.left_since old mid (LeavesSame (g.may_leave old)) → LeavesOnly g.moment g.left_since mid new (LeavesSame (g.may_leave mid))
      → LeavesOnly g.moment g.left_since old new (LeavesSame (g.may_leave old))
  leaves-on old mid new counts first second =
      let back : (c : Image) → LeavesSame (g.may_leave mid) c → LeavesSame (g.may_leave old) c
      = λ c left.
      let d = first.each left.was (counts left.was left.there) in
      record { was = d.was; there = d.there; same = same-joined d.was left.was c d.same left.same } in
      joined g.moment g.left_since old mid new _ first (weaker g.moment g.left_since mid new _ _ back second)

  -- the journal stands where the log of compensations alone changed
  pub journal-stands : {failed : Type 0} (step : List ℕ → List ℕ → Type 0) (journal : JournalView) (site after : S) → ((c : Image) → g.told → g.may_leave after c → g.left_since after (g.moment site) c) → ¬ failed → ChangesFile g CrmLog step failed site after → LogStands g (log_of journal) site → LogStands g (log_of journal) after
  journal-stands step journal site after counts fine changes stands = λ told.
      let st = stands told in
      let same : (g.shown after).journal ≡ (g.shown site).journal = ap (λ (i : Image). i.journal) (changes.shown told fine).is in
      let certain : Certain Journal (g.shown site).journal (g.may_leave after) = λ c here.
      let left = (changes.any_moment told).each c (counts c told here) in
      ap (λ (i : Image). i.journal) left.2.is ∙ st.certain left.0 left.1 in
      subst (λ (b : List ℕ). StandsOn b (g.may_leave after) (log_of journal)) (sym same) (stands-among (g.shown site).journal (g.may_leave site) (g.may_leave after) (log_of journal) certain st)

  -- a call is said to fail in other words
  pub same-failure : {file : _} (step : List ℕ → List ℕ → Type 0) (failed then : Type 0) (site after : S) → (failed → then) → (then → failed) → ChangesFile g file step then site after → ChangesFile g file step failed site after
  same-failure step failed then site after to back changes = record {
    shown = λ told fine. changes.shown told (λ f. fine (back f));
    any_moment = changes.any_moment;
    cause = record { no_fewer = changes.cause.no_fewer; cause = λ f. changes.cause.cause (to f) };
  }
