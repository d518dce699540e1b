-- How far a site is made, image by image.
use Rattle.std.proofs.Common.{◌≡◌, ◌⊎◌, inl, inr, ℕ, List, [], ◌∷◌, ◌++◌, length, refl, sym, ◌∙◌, ap, subst, arith, true, false, ◌&&◌, Bool, nat_le, is_some, if◌then◌else◌, Ok, Err, OnOk, IsErr, IsErrOf}
use Rattle.std.proofs.lemmas.List.{append-nil}
use Rattle.std.proofs.lemmas.Bool.{false≢true}
use Rattle.std.specs.declared.result.Result.{Result}
use Rattle.qc_base.specs.Spelling.{is_fact}
use Rattle.qc_base.specs.declared.fact.Fact.TheVariants.{Catalogue as InForce}
use Rattle.qc_site.specs.declared.site.SiteFile.TheVariants.{Journal, CrmLog}
use Rattle.qc_site.specs.Image.{Image, with_bytes}
use Rattle.qc_site.specs.Disk.{Follows, Certain, Images}
use Rattle.qc_frame.specs.Frame.{HasHeader, IsBegun, groups}
use Rattle.qc_frame.specs.Gate.{After}
use Rattle.qc_frame.specs.Log.{BeingMade}
use Rattle.qc_frame.proofs.Fronts.{groups_short}
use Rattle.qc_journal.specs.History.{IsMade, journal_header}
use Rattle.qc_catalogue.specs.declared.catalogue.Catalogue.{Catalogue}
use Rattle.qc_catalogue.specs.declared.error.CatalogueError.{CatalogueError}
use Rattle.qc_catalogue.specs.declared.error.CatalogueError.TheVariants.{TextTooLong}
use Rattle.qc_catalogue.specs.Catalogue.{IsCatalogueOf, catalogue_of, of_document, document_of}
use Rattle.qc_machine.specs.History.{by_text, if_ok, is_legal}
use Rattle.qc_machine.specs.Sites.{log_header}
use Rattle.qc_creation.specs.declared.error.CreateError.{CreateError}
use Rattle.qc_creation.specs.declared.error.CreateError.TheVariants.{SiteFault, AlreadyMade, BadCatalogue, NoMemory}
use Rattle.qc_creation.specs.Rows.{OpeningRow, opening_rows, with_rows, LeavesFront}
use Rattle.qc_creation.specs.Sites.{IsCreated, IsUnfinished, LeavesCreating}
use Rattle.qc_creation.specs.Parts.{HasOnly, Begins}
use Rattle.qc_creation.proofs.Rowing.{with_rows-journal, with_rows-log, with_rows-snap, with_rows-rows}

-- a text that is a catalogue isn't too long for a fact
pub fits : (text : List ℕ) (c : Catalogue) → IsCatalogueOf text c → is_fact (InForce text) ≡ true
fits text c is = by_test (nat_le (length text) 1048576) refl
  where
    by_test : (b : Bool) → nat_le (length text) 1048576 ≡ b → b ≡ true
    by_test true e = refl
    by_test false e = absurd (not_ok (catalogue_of text) (ap (λ b. if b then of_document (document_of text) else Err TextTooLong) e) is)
      where
        not_ok : (r : Result Catalogue CatalogueError) → r ≡ Err TextTooLong → r ≡ Ok c → ⊥
        not_ok r bad good = cc

-- that it comes into force is a legal history
legal : (text : List ℕ) (c : Catalogue) → IsCatalogueOf text c → is_legal by_text (InForce text ∷ []) ≡ true
unfolding by_text
legal text c is = (λ i. true && (fits text c is i && (true && is_some (if_ok (is i))) && true))

-- of an answer

pub on_ok : {A E : Type 0} (r : Result A E) (P Q : Type 0) → (P → Q) → OnOk r P → OnOk r Q
on_ok (Ok v) P Q next p = next p
on_ok (Err e) P Q next p = tt

pub on_any : {A E : Type 0} (r : Result A E) (P : Type 0) → P → OnOk r P
on_any (Ok v) P p = p
on_any (Err e) P p = tt

pub no_other : {A : Type 0} (r : Result A CreateError) → IsErr r → ¬ IsErrOf r SiteFault → ¬ IsErrOf r NoMemory → ¬ IsErrOf r AlreadyMade → ((e : CatalogueError) → ¬ IsErrOf r (BadCatalogue e)) → ⊥
no_other (Ok v) err fault memory made bad = absurd (false≢true err)
no_other (Err SiteFault) err fault memory made bad = fault refl
no_other (Err NoMemory) err fault memory made bad = memory refl
no_other (Err AlreadyMade) err fault memory made bad = made refl
no_other (Err (BadCatalogue e)) err fault memory made bad = bad e refl

-- some of the rows have their opening amounts, and the site isn't made
pub record Stage (done : List OpeningRow) (was now : Image) : Type 0 where
  pub fresh : ¬ IsMade was
  pub unmade : ¬ IsMade now
  pub rows : now.rows ≡ (with_rows done was).rows
  pub snap : now.snap ≡ was.snap

-- the log of compensations is made
abbrev pub HasLog : Image → Type 0
HasLog image = HasHeader log_header image.crm_log × (groups image.crm_log ≡ [])

pub new_log : (image : Image) → HasLog (with_bytes CrmLog (log_header ++ 0 ∷ []) image)
new_log image = (refl, groups_short (log_header ++ 0 ∷ []) (omega arith))

pub stage_none : (image : Image) → ¬ IsMade image → Stage [] image image
stage_none image unmade = record { fresh = unmade; unmade = unmade; rows = refl; snap = refl }

pub stage_log : (done : List OpeningRow) (was d c : Image) (bytes : List ℕ) → Stage done was d → c ≡ with_bytes CrmLog bytes d → Stage done was c
stage_log done was d c bytes st is = record {
  fresh = st.fresh;
  unmade = subst (λ (i : Image). ¬ IsMade i) (sym is) st.unmade;
  rows = ap (λ (i : Image). i.rows) is ∙ st.rows;
  snap = ap (λ (i : Image). i.snap) is ∙ st.snap;
}

pub stage_rows : (done : List OpeningRow) (was d c : Image) → Stage [] was d → c ≡ with_rows done d → Stage done was c
stage_rows done was d c st is = record {
  fresh = st.fresh;
  unmade = subst (λ (f : List ℕ). ¬ IsBegun journal_header f) (sym (ap (λ (i : Image). i.journal) is ∙ with_rows-journal done d)) st.unmade;
  rows = ap (λ (i : Image). i.rows) is ∙ with_rows-rows done d was st.rows;
  snap = ap (λ (i : Image). i.snap) is ∙ with_rows-snap done d ∙ st.snap;
}

pub log_rows : (done : List OpeningRow) (d c : Image) → HasLog d → c ≡ with_rows done d → HasLog c
log_rows done d c has is = subst (λ (f : List ℕ). HasHeader log_header f × (groups f ≡ [])) (sym (ap (λ (i : Image). i.crm_log) is ∙ with_rows-log done d)) has

pub stage_journal : (done : List OpeningRow) (was d c : Image) (bytes : List ℕ) → Stage done was d → ¬ IsBegun journal_header bytes → c ≡ with_bytes Journal bytes d → Stage done was c
stage_journal done was d c bytes st unbegun is = record {
  fresh = st.fresh;
  unmade = subst (λ (i : Image). ¬ IsMade i) (sym is) unbegun;
  rows = ap (λ (i : Image). i.rows) is ∙ st.rows;
  snap = ap (λ (i : Image). i.snap) is ∙ st.snap;
}

module _ (text : List ℕ) (catalogue : Catalogue) (read : IsCatalogueOf text catalogue) where
  pub unfinished : (done left : List OpeningRow) (was c : Image) → opening_rows catalogue ≡ done ++ left → Stage done was c → IsUnfinished text was c
  unfinished done left was c split st = record { fresh = st.fresh; unmade = st.unmade; catalogue = catalogue; read = read; done = done; left = left; split = split; rows = st.rows; snap = st.snap }

  pub none_done : (was c : Image) → Stage [] was c → IsUnfinished text was c
  none_done was c st = unfinished [] (opening_rows catalogue) was c refl st

  pub all_done : (was c : Image) → Stage (opening_rows catalogue) was c → IsUnfinished text was c
  all_done was c st = unfinished (opening_rows catalogue) [] was c (sym (append-nil (opening_rows catalogue))) st

  pub created : (was d c : Image) (bytes : List ℕ) → Stage (opening_rows catalogue) was d → HasLog d → HasOnly (InForce text) bytes → c ≡ with_bytes Journal bytes d → IsCreated text was c
  created was d c bytes st has only is = subst (λ (i : Image). IsCreated text was i) (sym is) (record {
    fresh = st.fresh;
    catalogue = catalogue;
    read = read;
    rows = st.rows;
    snap = st.snap;
    stands = record {
      headers = record { journal = only.header; log = has.0 };
      spelled = only.spelled;
      legal = legal text catalogue read;
      unused = has.1;
    };
  })

  -- how far each image is, of those that a moment may leave

  -- after the site was found not to be made
  abbrev pub AllFresh : Images → Images → Type 0
  AllFresh before images = (c : Image) → images c → before c × (¬ IsMade c)

  -- after so many rows were made
  abbrev pub AllStaged : List OpeningRow → Images → Images → Type 0
  AllStaged done before images = (c : Image) → images c → (was : Image) × before was × Stage done was c × HasLog c

  pub each_fresh : (before images : Images) (file : List ℕ) → ((c : Image) → images c → before c) → Certain Journal file images → ¬ IsBegun journal_header file → AllFresh before images
  each_fresh before images file less certain unbegun c here = (less c here, subst (λ (f : List ℕ). ¬ IsBegun journal_header f) (sym (certain c here)) unbegun)

  pub leaves_log : (before images : Images) → AllFresh before images → (c : Image) → After CrmLog BeingMade images c → LeavesCreating text before c
  leaves_log before images fresh c here =
      let d = here.0 in
      let from = fresh d here.1 in
      (d, from.0, inr (inl (none_done d c (stage_log [] d d c here.2.bytes (stage_none d from.1) here.2.is))))

  pub each_log : (before images later : Images) → AllFresh before images → ((c : Image) → later c → After CrmLog BeingMade images c) → Certain CrmLog (log_header ++ 0 ∷ []) later → AllStaged [] before later
  each_log before images later fresh each certain c here =
      let step = each c here in
      let d = step.0 in
      let from = fresh d step.1 in
      let bytes : step.2.bytes ≡ log_header ++ 0 ∷ [] = sym (ap (λ (i : Image). i.crm_log) step.2.is) ∙ certain c here in
      (d, from.0, stage_log [] d d c step.2.bytes (stage_none d from.1) step.2.is, subst (λ (f : List ℕ). HasHeader log_header f × (groups f ≡ [])) (sym (certain c here)) (new_log d))

  pub leaves_rows : (before images : Images) → AllStaged [] before images → (c : Image) → LeavesFront (opening_rows catalogue) images c → LeavesCreating text before c
  leaves_rows before images staged c here =
      let from = staged here.was here.there in
      (from.0, from.1, inr (inl (unfinished here.done here.left from.0 c here.split (stage_rows here.done from.0 here.was c from.2 here.is))))

  pub each_row : (before images later : Images) → AllStaged [] before images → Follows (λ d c. c ≡ with_rows (opening_rows catalogue) d) images later → AllStaged (opening_rows catalogue) before later
  each_row before images later staged follows c here =
      let step = follows c here in
      let from = staged step.0 step.1 in
      (from.0, from.1, stage_rows (opening_rows catalogue) from.0 step.0 c from.2 step.2, log_rows (opening_rows catalogue) step.0 c from.3 step.2)

  pub leaves_journal : (before images : Images) → AllStaged (opening_rows catalogue) before images → (c : Image) → After Journal (Begins (InForce text)) images c → LeavesCreating text before c
  leaves_journal before images staged c here =
      let d = here.0 in
      let from = staged d here.1 in
      (from.0, from.1, inr (by_case from.0 d here.2.bytes from.2 from.3 here.2.is here.2.by))
    where
      by_case : (was d : Image) (bytes : List ℕ) → Stage (opening_rows catalogue) was d → HasLog d → c ≡ with_bytes Journal bytes d → Begins (InForce text) d.journal bytes → IsUnfinished text was c ⊎ IsCreated text was c
      by_case was d bytes st has is (inl not_yet) = inl (all_done was c (stage_journal (opening_rows catalogue) was d c bytes st (not_yet st.unmade) is))
      by_case was d bytes st has is (inr only) = inr (created was d c bytes st has only is)

  pub each_created : (before images later : Images) → AllStaged (opening_rows catalogue) before images → ((c : Image) → later c → After Journal (λ old new. HasOnly (InForce text) new) images c) → (c : Image) → later c → (was : Image) × before was × IsCreated text was c
  each_created before images later staged each c here =
      let step = each c here in
      let from = staged step.0 step.1 in
      (from.0, from.1, created from.0 step.0 c step.2.bytes from.2 from.3 step.2.by step.2.is)
