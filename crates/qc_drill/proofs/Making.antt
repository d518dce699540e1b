-- The making of a site, by how it ended.
use Rattle.std.proofs.Common.{◌≡◌, ◌⊎◌, ◌≤◌, ◌<◌, ℕ, ◌+◌, List, [], ◌∷◌, ◌++◌, length, length-append, take, drop, refl, sym, ap, ◌∙◌, subst, inl, inr, ⊎_elim, take-append-drop, arith, true, false, cond, nat_le, Option, Some, IfSome, Ok, Err}
use Rattle.std.proofs.lemmas.Bool.{leb-true}
use Rattle.std.specs.Prelude.{Result, Vec, Bool}
use Rattle.std.specs.declared.alloc.Global.{Global}
use Rattle.qc_protocol.specs.declared.status.Status.{Status}
use Rattle.qc_protocol.specs.declared.status.Status.TheVariants.{Done, SinkFault as SinkStatus, SiteFault as SiteStatus, AlreadyMade as MadeStatus, BadCatalogue as BadStatus, NoMemory as MemoryStatus}
use Rattle.qc_site.specs.declared.site.Failed.{Failed}
use Rattle.qc_site.specs.declared.site.Site.{Ghosts}
use Rattle.qc_site.specs.declared.site.SiteFile.TheVariants.{Journal as the_file}
use Rattle.qc_site.specs.Image.{Image}
use Rattle.qc_site.specs.Disk.{LeavesOnly}
use Rattle.qc_site.proofs.Moments.{weaker, joined}
use Rattle.qc_frame.specs.Calls.{LooksAt}
use Rattle.qc_journal.specs.History.{IsMade, journal_header}
use Rattle.qc_catalogue.specs.declared.error.CatalogueError.{CatalogueError}
use Rattle.qc_catalogue.specs.declared.catalogue.Catalogue.{Catalogue}
use Rattle.qc_catalogue.specs.declared.error.CatalogueError.TheVariants.{TextTooLong}
use Rattle.qc_catalogue.specs.Catalogue.{IsCatalogueOf, catalogue_of, of_document, document_of}
use Rattle.qc_creation.specs.declared.error.CreateError.{CreateError}
use Rattle.qc_creation.specs.declared.error.CreateError.TheVariants.{SiteFault as create_fault, AlreadyMade as create_made, BadCatalogue as create_bad, NoMemory as create_memory}
use Rattle.qc_creation.specs.Calls.{CreatesSite}
use Rattle.qc_creation.specs.Sites.{IsCreated, IsUnfinished, LeavesCreating}
use Rattle.qc_drill.specs.declared.stop.Stop.{Stop}
use Rattle.qc_drill.specs.declared.stop.Stop.TheVariants.{SourceFault, NoMemory}
use Rattle.qc_drill.specs.Fronts.{IsFrontOf, Wrote, Took}
use Rattle.qc_drill.specs.Inits.{longest_text, refusal_line, is_of_init, GivesSome, ReadsText, SaysInit, LeavesInit, ReadsWhole, Inits, HoldsRefusal}
use Rattle.qc_drill.specs.Stops.{status_of}
use Rattle.qc_drill.proofs.Joined.{wrote-none}
use Rattle.qc_drill.proofs.Openings.{held-all, held-part, held-none}
use Rattle.qc_drill.proofs.Reading.{took-none, took-joined}

-- a text that is a catalogue isn't too long for one
short-text : (text : List ℕ) (c : Catalogue) → IsCatalogueOf text c → nat_le (length text) longest_text ≡ true
short-text text c is = by_test (nat_le (length text) longest_text) refl
  where
    not_ok : (r : Result Catalogue CatalogueError) → r ≡ Err TextTooLong → r ≡ Ok c → ⊥
    not_ok r bad good = cc

    by_test : (b : Bool) → nat_le (length text) longest_text ≡ b → b ≡ true
    by_test true e = refl
    by_test false e = absurd (not_ok (catalogue_of text) (ap (λ b. cond b (of_document (document_of text)) (Err TextTooLong)) e) is)

-- a text that was read
pub record HasText (text : List ℕ) (left left_now : Option (List ℕ)) : Type 0 where
  pub source : Took text left left_now
  pub most : length text ≤ 1048577
  pub whole : length text ≤ longest_text → (bytes : List ℕ) → left ≡ Some bytes → bytes ≡ text

pub text-read : (v : Vec ℕ Global) (left left_now : Option (List ℕ)) → ReadsText (Ok v) left left_now → HasText v.items left left_now
text-read v left left_now r = subst (λ (t : List ℕ). HasText t left left_now) (sym r.text) (record { source = r.source; most = r.most; whole = r.whole })

-- what was said of a text that is no catalogue
pub record Said (line : List ℕ) (status : Status) (before now : Option (List ℕ)) : Type 0 where
  pub text : List ℕ
  pub wrote : Wrote text before now
  pub by : ((status ≡ BadStatus) × (text ≡ line)) ⊎ (((status ≡ SinkStatus) × IsFrontOf line text) ⊎ ((status ≡ MemoryStatus) × (text ≡ [])))

pub refusal-said : (line : List ℕ) (status : Status) (before now : Option (List ℕ)) → IfSome before (λ held. HoldsRefusal held line status now) → (status ≡ BadStatus) ⊎ ((status ≡ SinkStatus) ⊎ (status ≡ MemoryStatus)) → Said line status before now
refusal-said line status before now told kinds = ⊎_elim all (⊎_elim part none) kinds
  where
    by : (s : Status) → status ≡ s → IfSome before (λ held. HoldsRefusal held line s now)
    by s e = subst (λ (x : Status). IfSome before (λ held. HoldsRefusal held line x now)) e told

    all : status ≡ BadStatus → Said line status before now
    all e = record { text = line; wrote = held-all line before now (by BadStatus e); by = inl (e, refl) }

    part : status ≡ SinkStatus → Said line status before now
    part e = let p = held-part line before now (by SinkStatus e) in record { text = take p.0 line; wrote = p.1; by = inr (inl (e, record { rest = drop p.0 line; is = sym (take-append-drop p.0 line) })) }

    none : status ≡ MemoryStatus → Said line status before now
    none e = record { text = []; wrote = held-none before now (by MemoryStatus e); by = inr (inr (e, refl)) }

pub stop-kind : {A : Type 0} (stop : Stop) → (let r : Result A Stop = Err stop in (r ≡ Err SourceFault) ⊎ (r ≡ Err NoMemory)) → (stop ≡ SourceFault) ⊎ (stop ≡ NoMemory)
stop-kind stop kinds = ⊎_elim (λ e. inl cc) (λ e. inr cc) kinds

-- a text that is read, up to here
pub record TextSoFar (text : List ℕ) (left left_now : Option (List ℕ)) : Type 0 where
  pub source : Took text left left_now
  pub most : length text ≤ 1048577

pub text-none : (text : List ℕ) (left : Option (List ℕ)) → text ≡ [] → TextSoFar text left left
text-none text left none = subst (λ (t : List ℕ). TextSoFar t left left) (sym none) (record { source = took-none left; most = omega arith })

pub text-on : (room : ℕ) (n : ℕ) (text new : List ℕ) (left mid left_now : Option (List ℕ)) → length text + room ≤ 1048577 → TextSoFar text left mid → GivesSome room (Ok n) text mid new left_now → TextSoFar new left left_now
text-on room n text new left mid left_now fits so r = subst (λ (t : List ℕ). TextSoFar t left left_now) (sym r.grown) (record { source = took-joined text r.given left mid left_now so.source r.took; most = omega (arith, length-append text r.given, r.few, fits) })

empty : (l : List ℕ) → length l ≡ 0 → l ≡ []
empty [] z = refl
empty (b ∷ l) z = absurd (omega (arith, z))

-- the source has no byte left
pub text-ended : (room n : ℕ) (v : Vec ℕ Global) (text : List ℕ) (left mid left_now : Option (List ℕ)) → length text + room ≤ 1048577 → TextSoFar text left mid → GivesSome room (Ok n) text mid v.items left_now → n ≡ 0 → ReadsText (Ok v) left left_now
text-ended room n v text left mid left_now fits so r zero-read =
    let on = text-on room n text v.items left mid left_now fits so r in
    let none : r.given ≡ [] = empty r.given (sym r.count ∙ zero-read) in
    record {
      taken = v.items;
      source = on.source;
      most = on.most;
      text = refl;
      whole = λ short bytes is. let f = so.source bytes is in f.is ∙ ap (λ (l : List ℕ). text ++ l) (r.end none f.rest f.left ∙ sym none) ∙ sym r.grown;
    }

-- the text is longer than any catalogue
pub text-long : (v : Vec ℕ Global) (left left_now : Option (List ℕ)) → TextSoFar v.items left left_now → longest_text < length v.items → ReadsText (Ok v) left left_now
text-long v left left_now so long = record { taken = v.items; source = so.source; most = so.most; text = refl; whole = λ short. absurd (omega (arith, short, long)) }

pub text-stopped : (room : ℕ) (stop : Stop) (text new : List ℕ) (left mid left_now : Option (List ℕ)) → length text + room ≤ 1048577 → TextSoFar text left mid → GivesSome room (Err stop) text mid new left_now → ReadsText (Err stop) left left_now
text-stopped room stop text new left mid left_now fits so r = record {
  taken = text ++ r.given;
  source = took-joined text r.given left mid left_now so.source r.took;
  most = omega (arith, length-append text r.given, r.few, fits);
  text = tt;
  whole = tt;
}

module _ {S : Type 0} (g : Ghosts S) where
  looked-moment : (r : Result Bool Failed) (text : List ℕ) (site mid : S) → LooksAt g the_file journal_header r site mid → g.told → LeavesOnly g.moment g.left_since site mid (LeavesCreating text (g.may_leave site))
  looked-moment r text site mid looks told = weaker g.moment g.left_since site mid _ _ (λ c here. (c, here, inl refl)) (looks.writes.any_moment told)

  pub was-made : (site mid : S) (left contents : Option (List ℕ)) → LooksAt g the_file journal_header (Ok true) site mid → Inits g MadeStatus site left contents mid left contents
  was-made site mid left contents looks = record {
    kinds = refl;
    text = [];
    said = [];
    source = took-none left;
    most = omega arith;
    whole = tt;
    wrote = wrote-none contents;
    says = refl;
    leaves = λ told. (looks.tells told, looks.writes.same told (λ e. absurd cc));
    certain = λ told e. absurd cc;
    any_moment = looked-moment (Ok true) [] site mid looks;
  }

  pub not-looked : (e : Failed) (site mid : S) (left contents : Option (List ℕ)) → LooksAt g the_file journal_header (Err e) site mid → Inits g SiteStatus site left contents mid left contents
  not-looked e site mid left contents looks = record {
    kinds = refl;
    text = [];
    said = [];
    source = took-none left;
    most = omega arith;
    whole = tt;
    wrote = wrote-none contents;
    says = refl;
    leaves = λ told. tt;
    certain = λ told e. absurd cc;
    any_moment = looked-moment (Err e) [] site mid looks;
  }

  pub not-read : (stop : Stop) (site mid : S) (left left_now contents : Option (List ℕ)) → LooksAt g the_file journal_header (Ok false) site mid → ReadsText (Err stop) left left_now → (stop ≡ SourceFault) ⊎ (stop ≡ NoMemory)
      → Inits g (status_of stop) site left contents mid left_now contents
  not-read stop site mid left left_now contents looks r kinds = ⊎_elim source memory kinds
    where
      same : g.told → g.shown mid ≡ g.shown site
      same told = looks.writes.same told (λ e. absurd cc)

      source : stop ≡ SourceFault → Inits g (status_of stop) site left contents mid left_now contents
      source e = subst (λ (x : Stop). Inits g (status_of x) site left contents mid left_now contents) (sym e) (record {
        kinds = refl;
        text = r.taken;
        said = [];
        source = r.source;
        most = r.most;
        whole = tt;
        wrote = wrote-none contents;
        says = refl;
        leaves = λ told. (looks.tells told, same told);
        certain = λ told e. absurd cc;
        any_moment = looked-moment (Ok false) r.taken site mid looks;
      })

      memory : stop ≡ NoMemory → Inits g (status_of stop) site left contents mid left_now contents
      memory e = subst (λ (x : Stop). Inits g (status_of x) site left contents mid left_now contents) (sym e) (record {
        kinds = refl;
        text = r.taken;
        said = [];
        source = r.source;
        most = r.most;
        whole = tt;
        wrote = wrote-none contents;
        says = refl;
        leaves = λ told. (looks.tells told, inl (same told));
        certain = λ told e. absurd cc;
        any_moment = looked-moment (Ok false) r.taken site mid looks;
      })

  -- the creation behind it
  module _ (text : List ℕ) (site mid after : S) (left left_now contents : Option (List ℕ)) (looks : LooksAt g the_file journal_header (Ok false) site mid) (has : HasText text left left_now) where
    same-here : g.told → g.shown mid ≡ g.shown site
    same-here told = looks.writes.same told (λ e. absurd cc)

    moments : (r : Result (Unit {0}) CreateError) → CreatesSite g text r mid after → g.told → LeavesOnly g.moment g.left_since site after (LeavesCreating text (g.may_leave site))
    moments r creates told = joined g.moment g.left_since site mid after (LeavesCreating text (g.may_leave site)) (looked-moment (Ok false) text site mid looks told)
        (weaker g.moment g.left_since mid after _ _ (λ c l. (l.0, looks.writes.crash told l.0 l.1, l.2)) (creates.any_moment told))

    pub was-created : (u : Unit {0}) → CreatesSite g text (Ok u) mid after → Inits g Done site left contents after left_now contents
    was-created u creates = record {
      kinds = refl;
      text = text;
      said = [];
      source = has.source;
      most = has.most;
      whole = (creates.valid, has.whole (leb-true (length text) longest_text (short-text text creates.valid.0 creates.valid.1)));
      wrote = wrote-none contents;
      says = refl;
      leaves = λ told. subst (λ (i : Image). IsCreated text i (g.shown after)) (same-here told) (creates.created told);
      certain = λ told e c here. let d = creates.certain told c here in (d.0, looks.writes.crash told d.0 d.1, d.2);
      any_moment = moments (Ok u) creates;
    }

    pub create-failed : CreatesSite g {A = Unit {0}} text (Err create_fault) mid after → Inits g SiteStatus site left contents after left_now contents
    create-failed creates = record {
      kinds = refl;
      text = text;
      said = [];
      source = has.source;
      most = has.most;
      whole = tt;
      wrote = wrote-none contents;
      says = refl;
      leaves = λ told. tt;
      certain = λ told e. absurd cc;
      any_moment = moments (Err create_fault) creates;
    }

    pub made-since : CreatesSite g {A = Unit {0}} text (Err create_made) mid after → Inits g MadeStatus site left contents after left_now contents
    made-since creates = record {
      kinds = refl;
      text = text;
      said = [];
      source = has.source;
      most = has.most;
      whole = tt;
      wrote = wrote-none contents;
      says = refl;
      leaves = λ told. (subst IsMade (same-here told) (creates.made told refl), (creates.unchanged refl (λ e. cc) (λ e. cc)).same told (λ f. f) ∙ same-here told);
      certain = λ told e. absurd cc;
      any_moment = moments (Err create_made) creates;
    }

    pub create-starved : CreatesSite g {A = Unit {0}} text (Err create_memory) mid after → Inits g MemoryStatus site left contents after left_now contents
    create-starved creates = record {
      kinds = refl;
      text = text;
      said = [];
      source = has.source;
      most = has.most;
      whole = tt;
      wrote = wrote-none contents;
      says = refl;
      leaves = λ told. (looks.tells told, ⊎_elim (λ e. inl (e ∙ same-here told)) (λ u. inr (subst (λ (i : Image). IsUnfinished text i (g.shown after)) (same-here told) u)) (creates.starved told refl));
      certain = λ told e. absurd cc;
      any_moment = moments (Err create_memory) creates;
    }

    pub text-refused : (e : CatalogueError) (status : Status) (now : Option (List ℕ)) → CreatesSite g {A = Unit {0}} text (Err (create_bad e)) mid after → Said (refusal_line e) status contents now → Inits g status site left contents after left_now now
    text-refused e status now creates s = ⊎_elim (λ is. all is.0 is.1) (⊎_elim (λ is. part is.0 is.1) (λ is. none is.0 is.1)) s.by
      where
        refused : catalogue_of text ≡ Err e
        refused = creates.refused e refl

        still : g.told → g.shown after ≡ g.shown site
        still told = (creates.unchanged refl (λ x. cc) (λ x. cc)).same told (λ f. f) ∙ same-here told

        by : (x : Status) → is_of_init x ≡ true → status ≡ x → ReadsWhole x text left → SaysInit x text s.text → (g.told → LeavesInit x text (g.shown site) (g.shown after)) → (x ≡ Done → ⊥) → Inits g status site left contents after left_now now
        by x kinds is whole says leaves never = subst (λ (y : Status). Inits g y site left contents after left_now now) (sym is) (record {
          kinds = kinds;
          text = text;
          said = s.text;
          source = has.source;
          most = has.most;
          whole = whole;
          wrote = s.wrote;
          says = says;
          leaves = leaves;
          certain = λ told e. absurd (never e);
          any_moment = moments (Err (create_bad e)) creates;
        })

        all : status ≡ BadStatus → s.text ≡ refusal_line e → Inits g status site left contents after left_now now
        all is line = by BadStatus refl is has.whole (e, refused, line) (λ told. (looks.tells told, still told)) (λ x. cc)

        part : status ≡ SinkStatus → IsFrontOf (refusal_line e) s.text → Inits g status site left contents after left_now now
        part is front = by SinkStatus refl is tt (record { error = e; refused = refused; front = front }) (λ told. (looks.tells told, still told)) (λ x. cc)

        none : status ≡ MemoryStatus → s.text ≡ [] → Inits g status site left contents after left_now now
        none is empty = by MemoryStatus refl is tt empty (λ told. (looks.tells told, inl (still told))) (λ x. cc)
