-- The lines that are read of an image which a crash leaves in the midst of an early change.
use Rattle.std.proofs.Common.{◌≡◌, ◌∙◌, ◌⊎◌, ⊎_elim, inl, inr, ℕ, List, [], ◌∷◌, ◌++◌, Bool, true, false, cond, refl, sym, ap, subst, append_assoc, append-nil}
use Rattle.std.proofs.lemmas.Grind.{flat_map-append}
use Rattle.std.proofs.lemmas.Slice.Eq.{bytes_eq-Decides}
use Rattle.qc_base.specs.Rows.{OutsideRows, put_row}
use Rattle.qc_base.specs.LogLines.{Registration, is_opened, is_registered, unforgotten}
use Rattle.qc_base.specs.declared.log_line.LogLine.{LogLine}
use Rattle.qc_base.specs.declared.log_line.LogLine.TheVariants.{Opened, Registered, Written}
use Rattle.qc_base.specs.declared.log_line.LogRecord.{LogRecord}
use Rattle.qc_site.specs.Image.{Image}
use Rattle.qc_site.specs.Disk.{FileStep}
use Rattle.qc_site.specs.declared.site.SiteFile.{SiteFile}
use Rattle.qc_site.specs.declared.site.SiteFile.TheVariants.{CrmLog}
use Rattle.qc_frame.specs.Log.{WholeFrom, WholeOrNotFrom}
use Rattle.qc_entries.specs.Entries.{EntriesView}
use Rattle.qc_catalogue.specs.declared.catalogue.Resource.{Resource}
use Rattle.crm_log.specs.Lines.{staged_line}
use Rattle.crm_log.specs.Log.{SpellsLog, LinesWait, lines_payload, all_lines}
use Rattle.crm_log.proofs.Spells.{spells_more, whole_or_not}
use Rattle.crm_clerk.specs.Clerk.{ClerkView, unless, next_record, registering_lines}
use Rattle.crm_clerk.specs.Staging.{staged_lines}
use Rattle.crm_clerk.proofs.Said.{is_named, SaysMore, says-itself, says-opened, says-registered, says-on}
use Rattle.crm_clerk.proofs.Keeping.{unforgotten-same, unforgotten-own}
use Rattle.crm_driver.specs.Puts.{RowPut, after_put}
use Rattle.crm_driver.specs.RowRules.{put_of}
use Rattle.qc_worker.specs.Calls.{LoggedThenPut, GoesByLogged}
use Rattle.qc_worker.specs.Crashes.{ChangeWaits, RecordIsRead}
use Rattle.qc_worker.specs.Effects.{first_lines, change_lines}
use Rattle.qc_worker.proofs.Logged.{put-keeps}

module _ (log : EntriesView) (waiting : List LogLine) (groups : List (List LogLine)) (is_file : log.log.file ≡ CrmLog) (begins : log.log.start ≡ 16) (waits : LinesWait log waiting) where
  -- a step of the log's file, by what it is
  step-of : (P : ℕ → List ℕ → List ℕ → List ℕ → Type 0) (was c : Image) → FileStep log.log.file (P log.log.start log.log.payload) was c → FileStep CrmLog (P 16 (lines_payload waiting)) was c
  step-of P was c step =
      subst (λ (p : List ℕ). FileStep CrmLog (P 16 p) was c) waits.payload
      (subst (λ (n : ℕ). FileStep CrmLog (P n log.log.payload) was c) begins (subst (λ (f : SiteFile). FileStep f (P log.log.start log.log.payload) was c) is_file step))

  one-of : (was c : Image) → SpellsLog was.crm_log groups → FileStep log.log.file (WholeOrNotFrom log.log.start log.log.payload) was c → SpellsLog c.crm_log groups ⊎ SpellsLog c.crm_log (groups ++ waiting ∷ [])
  one-of was c spells step =
      let here = step-of WholeOrNotFrom was c step in
      subst (λ (file : List ℕ). SpellsLog file groups ⊎ SpellsLog file (groups ++ waiting ∷ [])) (sym (ap (λ (i : Image). i.crm_log) here.is)) (whole_or_not was.crm_log here.bytes groups waiting waits.limits spells here.by)

  rows-of : (was c : Image) → FileStep log.log.file (WholeOrNotFrom log.log.start log.log.payload) was c → c.rows ≡ was.rows
  rows-of was c step = ap (λ (i : Image). i.rows) (step-of WholeOrNotFrom was c step).is

  logged-rows : (rows : OutsideRows) (put : RowPut) (was c : Image) (logged : LoggedThenPut log.log rows put was c) → logged.logged.rows ≡ was.rows
  logged-rows rows put was c logged = ap (λ (i : Image). i.rows) (step-of WholeFrom was logged.logged logged.group).is

  all-of : (rows : OutsideRows) (put : RowPut) (was c : Image) → SpellsLog was.crm_log groups → LoggedThenPut log.log rows put was c → SpellsLog c.crm_log (groups ++ waiting ∷ [])
  all-of rows put was c spells logged =
      let here = step-of WholeFrom was logged.logged logged.group in
      let file = put-keeps CrmLog rows put logged.logged c logged.row ∙ ap (λ (i : Image). i.crm_log) here.is in
      subst (λ (file : List ℕ). SpellsLog file (groups ++ waiting ∷ [])) (sym file) (spells_more was.crm_log here.bytes groups waiting here.by.more waits.limits spells)

  module _ (rows : OutsideRows) (put : RowPut) (was c : Image) (spells : SpellsLog was.crm_log groups) where
    group-read : GoesByLogged log.log rows put was c → SpellsLog c.crm_log groups ⊎ SpellsLog c.crm_log (groups ++ waiting ∷ [])
    group-read goes = ⊎_elim (λ step. one-of was c spells step) (λ logged. inr (all-of rows put was c spells logged)) goes

    -- the rows are those that were, or with the put, where the image spells all
    row-or-not : GoesByLogged log.log rows put was c → (c.rows ≡ was.rows) ⊎ ((c.rows ≡ (after_put put was).rows) × SpellsLog c.crm_log (groups ++ waiting ∷ []))
    row-or-not goes = ⊎_elim (λ step. inl (rows-of was c step)) (λ logged. behind logged) goes
      where
        behind : LoggedThenPut log.log rows put was c → (c.rows ≡ was.rows) ⊎ ((c.rows ≡ (after_put put was).rows) × SpellsLog c.crm_log (groups ++ waiting ∷ []))
        behind logged = ⊎_elim
            (λ made. inr (ap (λ (i : Image). i.rows) made ∙ ap (put_row put.resource put.key put.amount) (logged-rows rows put was c logged), all-of rows put was c spells logged))
            (λ over. inl (ap (λ (i : Image). i.rows) over.1 ∙ logged-rows rows put was c logged))
            logged.row

-- lines that say no more of the records of a resource
record SaysNoMore (attempt : ℕ) (resource : List ℕ) (lines now : List LogLine) : Type 0 where
  records : unforgotten now attempt resource ≡ unforgotten lines attempt resource
  named : (seq : ℕ) → is_named now attempt resource seq ≡ is_named lines attempt resource seq

no-more : (attempt : ℕ) (resource : List ℕ) (lines now : List LogLine) (more : List Registration) → SaysMore attempt lines now more → SaysNoMore attempt resource lines now
no-more attempt resource lines now more says = record {
  records = unforgotten-same attempt lines now resource (says.records resource) (says.named resource);
  named = says.named resource;
}

-- a registration, behind any lines
module _ (clerk : ClerkView) (r : Resource) (lines : List LogLine) where
  opening-says : (b : Bool) → SaysNoMore clerk.attempt r.name lines (lines ++ (unless b (Opened clerk.attempt clerk.id) ++ Registered clerk.attempt r.name r.phases ∷ []))
  opening-says true =
      let one : Registration = record { resource = r.name; phases = r.phases } in
      no-more clerk.attempt r.name lines (lines ++ Registered clerk.attempt r.name r.phases ∷ []) (one ∷ []) (says-registered clerk.attempt r.name r.phases lines)
  opening-says false =
      let one : Registration = record { resource = r.name; phases = r.phases } in
      let mid = lines ++ Opened clerk.attempt clerk.id ∷ [] in
      let now = mid ++ Registered clerk.attempt r.name r.phases ∷ [] in
      subst (λ (l : List LogLine). SaysNoMore clerk.attempt r.name lines l) (append_assoc lines (Opened clerk.attempt clerk.id ∷ []) (Registered clerk.attempt r.name r.phases ∷ []))
      (no-more clerk.attempt r.name lines now (one ∷ []) (says-on clerk.attempt lines mid now (one ∷ []) (says-opened clerk.attempt clerk.id lines) (says-registered clerk.attempt r.name r.phases mid)))

  first-says : (b : Bool) → SaysNoMore clerk.attempt r.name lines (lines ++ cond b [] (registering_lines clerk r.name r.phases))
  first-says true = subst (λ (l : List LogLine). SaysNoMore clerk.attempt r.name lines l) (sym (append-nil lines)) (no-more clerk.attempt r.name lines lines [] (says-itself clerk.attempt lines))
  first-says false = opening-says (is_opened clerk.lines clerk.attempt)

  -- so the record of a change is the last that isn't forgotten
  change-read : (key : List ℕ) (old new : ℕ) → is_named lines clerk.attempt r.name (next_record clerk r.name key old new).seq ≡ false
      → unforgotten (lines ++ change_lines clerk r key old new) clerk.attempt r.name ≡ unforgotten lines clerk.attempt r.name ++ next_record clerk r.name key old new ∷ []
  change-read key old new fresh =
      let entry : LogRecord = next_record clerk r.name key old new in
      let line : LogLine = Written clerk.attempt r.name entry in
      let first = first_lines clerk r in
      let says : SaysNoMore clerk.attempt r.name lines (lines ++ first) = first-says (is_registered clerk.lines clerk.attempt r.name) in
      ap (λ (l : List LogLine). unforgotten l clerk.attempt r.name) (sym (append_assoc lines first (line ∷ [])))
      ∙ unforgotten-own clerk.attempt r.name entry (lines ++ first) r.name ((bytes_eq-Decides r.name r.name).1 refl) (says.named entry.seq ∙ fresh)
      ∙ ap (λ (l : List LogRecord). l ++ entry ∷ []) says.records

-- all lines, with a group more
lines-more : (groups : List (List LogLine)) (before more : List LogLine) → all_lines (groups ++ (before ++ more) ∷ []) ≡ (all_lines groups ++ before) ++ more
lines-more groups before more =
    flat_map-append (λ (l : List LogLine). l) groups ((before ++ more) ∷ [])
    ∙ ap (λ (l : List LogLine). all_lines groups ++ l) (append-nil (before ++ more))
    ∙ sym (append_assoc (all_lines groups) before more)

-- of the log beneath, staged lines change neither file nor start
staged-file : (log : EntriesView) (lines : List LogLine) → (staged_lines log lines).log.file ≡ log.log.file
staged-file log [] = refl
staged-file log (line ∷ lines) = staged-file (staged_line log line) lines

staged-start : (log : EntriesView) (lines : List LogLine) → (staged_lines log lines).log.start ≡ log.log.start
staged-start log [] = refl
staged-start log (line ∷ lines) = staged-start (staged_line log line) lines

module _ (clerk : ClerkView) (r : Resource) (key : List ℕ) (old new : ℕ) (log : EntriesView) (before : List LogLine) (groups : List (List LogLine)) (waits : ChangeWaits clerk r key old new log before groups) where
  module _ (rows : OutsideRows) (was c : Image) (spells : SpellsLog was.crm_log groups) (goes : GoesByLogged (staged_lines log (change_lines clerk r key old new)).log rows (put_of r.name key new) was c) where
    pub lines-read : SpellsLog c.crm_log groups ⊎ SpellsLog c.crm_log (groups ++ (before ++ change_lines clerk r key old new) ∷ [])
    lines-read =
        group-read (staged_lines log (change_lines clerk r key old new)) (before ++ change_lines clerk r key old new) groups (staged-file log (change_lines clerk r key old new) ∙ waits.file) (staged-start log (change_lines clerk r key old new) ∙ waits.start) waits.waits
        rows (put_of r.name key new) was c spells goes

    pub row-read : (c.rows ≡ was.rows) ⊎ ((c.rows ≡ (after_put (put_of r.name key new) was).rows) × RecordIsRead clerk.attempt r.name (next_record clerk r.name key old new) (all_lines groups ++ before) c)
    row-read =
        let lines = change_lines clerk r key old new in
        let all = groups ++ (before ++ lines) ∷ [] in
        let last = ap (λ (l : List LogLine). unforgotten l clerk.attempt r.name) (lines-more groups before lines) ∙ change-read clerk r (all_lines groups ++ before) key old new waits.not_forgotten in
        ⊎_elim (λ same. inl same) (λ put. inr (put.0, record { groups = all; spelled = put.1; last = last }))
        (row-or-not (staged_lines log lines) (before ++ lines) groups (staged-file log lines ∙ waits.file) (staged-start log lines ∙ waits.start) waits.waits rows (put_of r.name key new) was c spells goes)
