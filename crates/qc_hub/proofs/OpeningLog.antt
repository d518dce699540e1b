-- Reading the log of compensations, and what each of its exits says.
use Rattle.std.proofs.Common.{◌≡◌, ◌≢◌, ◌≤◌, ℕ, ◌+◌, List, [], ◌∷◌, length, refl, sym, ap, ◌∙◌, subst, arith, true, false, Option, is_some, Some, None, Ok, Err, IsErrOf}
use Rattle.std.specs.List.{sum_by}
use Rattle.qc_site.specs.declared.site.Site.{Ghosts}
use Rattle.qc_site.specs.declared.site.SiteFile.TheVariants.{CrmLog}
use Rattle.qc_site.specs.Disk.{written}
use Rattle.qc_site.specs.Image.{bytes_of, with_bytes}
use Rattle.qc_frame.specs.declared.error.Damage.{Damage}
use Rattle.qc_frame.specs.declared.error.LogError.{LogError}
use Rattle.qc_frame.specs.declared.error.LogError.TheVariants.{SiteFault}
use Rattle.qc_frame.specs.declared.log.Group.{Group}
use Rattle.qc_frame.specs.Calls.{LogStands, KeepsGroups, ReadsOn, FindsGroup}
use Rattle.qc_frame.specs.Frame.{groups, groups_at}
use Rattle.qc_frame.specs.Log.{LogView, SameFrom, NoGroup, DamagedGroup, just_opened}
use Rattle.qc_frame.proofs.Same.{step_others}
use Rattle.qc_machine.specs.declared.error.OpenError.TheVariants.{SiteFault as site_fault, NotMade as not_made, NoCatalogue as no_first, Damaged as damaged}
use Rattle.qc_machine.specs.Sites.{end_gate}
use Rattle.qc_hub.specs.declared.hub.Hub.{Hub}
use Rattle.qc_hub.specs.Opening.{in_log, log_used, FindsNoLine}
use Rattle.qc_hub.proofs.OpeningErrors.{by-fault, by-header, by-damage, no-first}
use Rattle.qc_hub.proofs.OpeningRead.{ended-at, place-inside}
use Rattle.qc_hub.proofs.OpeningSteps.{same-failure}

-- the hub with the log where it stands now
abbrev pub at_log : Hub → LogView → Hub
at_log hub log = record hub { log = log }

abbrev pub any_place : ℕ → Damage
any_place at = log_used

module _ {S : Type 0} (g : Ghosts S) (site after : S) (hub : Hub) (log : LogView) (opened : hub.log ≡ just_opened CrmLog 16 hub.log.length) where
  groups_here : groups (g.shown site).crm_log ≡ groups_at (bytes_of hub.log.file (g.shown site)) hub.log.place
  groups_here = ap (λ (l : LogView). groups_at (bytes_of l.file (g.shown site)) l.place) (sym opened)

  some_group : (payload : List ℕ) (rest : List (List ℕ)) → groups_at (bytes_of hub.log.file (g.shown site)) hub.log.place ≡ payload ∷ rest → groups (g.shown site).crm_log ≢ []
  some_group payload rest next none = let both : payload ∷ rest ≡ [] = sym next ∙ sym groups_here ∙ none in cc

  -- the log couldn't be read on
  pub log-stopped : (e : LogError) → FindsGroup g (Err e) hub.log site log after → ReadsOn g {A = Option Group} (DamagedGroup (bytes_of hub.log.file (g.shown site)) hub.log.place) (Err e) hub.log site log after → FindsNoLine g (Err (in_log e)) hub site (at_log hub log) after
  log-stopped e finds reads = record {
    kept = refl;
    log = tt;
    stands = tt;
    read = λ told. tt;
    damaged = λ told d is.
        let same : in_log e ≡ damaged d = cc in
        let by = by-damage any_place e d same in
        let here = reads.damaged told by.0 (ap Err by.1) in
        (by.2, some_group here.payload _ here.next);
    not_made = λ is. let same : in_log e ≡ not_made = cc in reads.not_made (ap Err (by-header any_place e same));
    not_empty = λ is. let same : in_log e ≡ no_first = cc in no-first any_place e same;
    unchanged = λ told err fine. reads.unchanged told err (λ is. let same : e ≡ SiteFault = cc in fine (ap (λ x. Err (in_log x)) same));
    keeps = same-failure g (SameFrom hub.log.start) _ _ site after (λ is. let same : in_log e ≡ site_fault = cc in ap Err (by-fault any_place e same)) (λ is. let same : e ≡ SiteFault = cc in ap (λ x. Err (in_log x)) same) reads.keeps;
  }

  -- the log has a group
  log-used : (group : Group) → FindsGroup g (Ok (Some group)) hub.log site log after → ReadsOn g {A = Option Group} (DamagedGroup (bytes_of hub.log.file (g.shown site)) hub.log.place) (Ok (Some group)) hub.log site log after → FindsNoLine g (Err (damaged log_used)) hub site (at_log hub log) after
  log-used group finds reads = record {
    kept = refl;
    log = tt;
    stands = tt;
    read = λ told. tt;
    damaged = λ told d is.
        let next = finds.group told in
        (let same : log_used ≡ d = cc in sym same, some_group next.payload _ next.next);
    not_made = λ is. cc;
    not_empty = λ is. cc;
    unchanged = λ told err fine. finds.still told;
    keeps = same-failure g (SameFrom hub.log.start) _ _ site after (λ is. absurd cc) (λ is. absurd cc) reads.keeps;
  }

  -- the log is at its end
  log-ended : (done : Unit {0}) → LogStands g hub.log site → FindsGroup g (Ok None) hub.log site log after → ReadsOn g {A = Option Group} (DamagedGroup (bytes_of hub.log.file (g.shown site)) hub.log.place) (Ok None) hub.log site log after → FindsNoLine g (Ok done) hub site (at_log hub log) after
  log-ended done stands finds reads =
      let keeps : KeepsGroups g hub.log (IsErrOf (Ok done) site_fault) site after = same-failure g (SameFrom hub.log.start) _ _ site after (λ is. absurd cc) (λ is. absurd cc) reads.keeps in
      record {
        kept = refl;
        log = finds.ended;
        stands = reads.stands;
        read = λ told.
            let before = g.shown site in
            let now = g.shown after in
            let place : hub.log.place ≡ 16 = ap (λ (l : LogView). l.place) opened in
            let placed : log.place ≡ hub.log.place = ap (λ (l : LogView). l.place) finds.ended in
            let end : NoGroup (bytes_of hub.log.file before) (bytes_of hub.log.file now) hub.log log = finds.end told in
            let none : groups before.crm_log ≡ [] = groups_here ∙ end.none in
            let gate : 16 ≡ end_gate before.crm_log = ap (λ (l : List (List ℕ)). 16 + sum_by (λ payload. 5 + length payload) l) (sym none) in
            let bytes : now.crm_log ≡ written before.crm_log 16 (0 ∷ []) = subst (λ (l : LogView). bytes_of l.file now ≡ written (bytes_of l.file before) l.place (0 ∷ [])) opened end.bytes in
            let same : SameFrom 16 before.crm_log now.crm_log = subst (λ (l : LogView). SameFrom l.start (bytes_of l.file before) (bytes_of l.file now)) opened end.same in
            let inside : hub.log.place ≤ length before.crm_log = subst (λ (l : LogView). hub.log.place ≤ length (bytes_of l.file before)) opened (place-inside (bytes_of hub.log.file before) (g.may_leave site) hub.log (stands told)) in
            let others : now ≡ with_bytes CrmLog now.crm_log before = subst (λ (l : LogView). now ≡ with_bytes l.file (bytes_of l.file now) before) opened (step_others hub.log.file (SameFrom hub.log.start) before now (keeps.shown told (λ is. absurd cc))) in
            let size : log.length ≡ length now.crm_log = subst (λ (l : LogView). log.length ≡ length (bytes_of l.file now)) opened (ap (λ (l : LogView). l.length) end.log) in
            record {
              none = none;
              closed = others ∙ ap (λ (b : List ℕ). with_bytes CrmLog b before) (bytes ∙ ap (λ (n : ℕ). written before.crm_log n (0 ∷ [])) gate);
              ended = ended-at before.crm_log now.crm_log log.place log.length (placed ∙ place ∙ gate) (omega (arith, placed, inside)) (bytes ∙ ap (λ (n : ℕ). written before.crm_log n (0 ∷ [])) (sym (placed ∙ place))) same size;
            };
        damaged = λ told d is. absurd cc;
        not_made = λ is. absurd cc;
        not_empty = λ is. absurd cc;
        unchanged = λ told err fine. absurd (let no : false ≡ true = err in cc);
        keeps = keeps;
      }

  -- by what was found

  pub log-found : (next : Option Group) → is_some next ≡ true → FindsGroup g (Ok next) hub.log site log after → ReadsOn g {A = Option Group} (DamagedGroup (bytes_of hub.log.file (g.shown site)) hub.log.place) (Ok next) hub.log site log after → FindsNoLine g (Err (damaged log_used)) hub site (at_log hub log) after
  log-found (Some group) is finds reads = log-used group finds reads
  log-found None is finds reads = absurd cc

  pub log-none : (next : Option Group) → is_some next ≡ false → LogStands g hub.log site → FindsGroup g (Ok next) hub.log site log after → ReadsOn g {A = Option Group} (DamagedGroup (bytes_of hub.log.file (g.shown site)) hub.log.place) (Ok next) hub.log site log after → FindsNoLine g (Ok tt) hub site (at_log hub log) after
  log-none (Some group) is stands finds reads = absurd cc
  log-none None is stands finds reads = log-ended tt stands finds reads
