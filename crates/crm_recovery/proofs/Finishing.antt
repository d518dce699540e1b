-- Attempts finished one after another. `g` has the members of the site's trait.
use Rattle.std.proofs.Common.{◌≡◌, ◌∙◌, ◌<◌, ◌≤◌, inl, inr, ℕ, List, [], ◌∷◌, ◌++◌, length, true, Result, Ok, Err, IsErr, OnOk, refl, sym, ap, subst, arith, append_assoc, append-nil}
use Rattle.std.proofs.lemmas.Result.{on_ok_weaker}
use Rattle.qc_base.specs.Rows.{OutsideRows, put_row}
use Rattle.qc_base.specs.Spelling.{is_line}
use Rattle.qc_base.specs.declared.log_line.LogLine.{LogLine}
use Rattle.qc_base.specs.declared.log_line.LogLine.TheVariants.{Done}
use Rattle.qc_site.specs.declared.site.Failed.{Failed}
use Rattle.qc_site.specs.declared.site.Site.{Ghosts}
use Rattle.qc_site.specs.declared.site.SiteFile.{SiteFile}
use Rattle.qc_site.specs.declared.site.SiteFile.TheVariants.{Journal, CrmLog, Snap}
use Rattle.qc_site.specs.Image.{Image, bytes_of, with_bytes}
use Rattle.qc_site.specs.Causes.{HasCause, Rose}
use Rattle.qc_site.specs.Disk.{Certain}
use Rattle.qc_frame.specs.Calls.{LogStands, Forces}
use Rattle.qc_frame.specs.Frame.{HasHeader}
use Rattle.qc_frame.specs.Gate.{with_group}
use Rattle.qc_frame.specs.Log.{LogView, StandsOn, forced}
use Rattle.qc_entries.specs.Entries.{EntriesView}
use Rattle.crm_log.specs.Lines.{staged_line}
use Rattle.crm_log.specs.Log.{IsLogOf, LinesWait, SpellsLog, log_header}
use Rattle.crm_log.proofs.Spells.{one_waits, some_wait}
use Rattle.crm_driver.specs.Puts.{RowPut, after_put, after_puts, GoesByPut, GoesByPuts, MakesPuts}
use Rattle.crm_driver.proofs.PutLaws.{after_puts-journal, after_puts-log, after_puts-snap}
use Rattle.crm_recovery.specs.Settling.{rows_after, done_group}
use Rattle.crm_recovery.specs.Calls.{ShowsFinished, IsSameLog, Finishes}

-- puts change rows alone

pub rows-after : (puts : List RowPut) (image : Image) → (after_puts puts image).rows ≡ rows_after puts image.rows
rows-after [] image = refl
rows-after (p ∷ puts) image = rows-after puts (after_put p image)

pub rows_after-append : (xs ys : List RowPut) (rows : OutsideRows) → rows_after (xs ++ ys) rows ≡ rows_after ys (rows_after xs rows)
rows_after-append [] ys rows = refl
rows_after-append (p ∷ xs) ys rows = rows_after-append xs ys (put_row p.resource p.key p.amount rows)

same-bytes : (file : SiteFile) (p : RowPut) (image : Image) → bytes_of file (after_put p image) ≡ bytes_of file image
same-bytes Journal p image = refl
same-bytes CrmLog p image = refl
same-bytes Snap p image = refl

puts-bytes : (file : SiteFile) (puts : List RowPut) (image : Image) → bytes_of file (after_puts puts image) ≡ bytes_of file image
puts-bytes file [] image = refl
puts-bytes file (p ∷ puts) image = puts-bytes file puts (after_put p image) ∙ same-bytes file p image

put-keeps : (file : SiteFile) (rows : OutsideRows) (p : RowPut) (a b : Image) → GoesByPut rows p a b → bytes_of file b ≡ bytes_of file a
put-keeps file rows p a b (inl put) = ap (bytes_of file) put ∙ same-bytes file p a
put-keeps file rows p a b (inr over) = ap (bytes_of file) over.1

puts-keep : (file : SiteFile) (rows : OutsideRows) (puts : List RowPut) (a b : Image) → GoesByPuts rows puts a b → bytes_of file b ≡ bytes_of file a
puts-keep file rows [] a b same = ap (bytes_of file) same
puts-keep file rows (p ∷ puts) a b by = puts-keep file rows puts by.0 b by.2 ∙ put-keeps file rows p a by.0 by.1

log-kept : (groups : List (List LogLine)) (old new : Image) → new.crm_log ≡ old.crm_log → IsLogOf old groups → IsLogOf new groups
log-kept groups old new same is =
    let both = subst (λ (file : List ℕ). HasHeader log_header file × SpellsLog file groups) (sym same) (is.header, is.spelled) in
    record { header = both.0; spelled = both.1 }

shows-puts : (puts : List RowPut) (old new : Image) → new ≡ after_puts puts old → ShowsFinished puts [] old new
shows-puts puts old new is = record {
  rows = ap (λ (i : Image). i.rows) is ∙ rows-after puts old;
  log = λ groups had. subst (λ (l : List (List LogLine)). IsLogOf new l) (sym (append-nil groups)) (log-kept groups old new (ap (λ (i : Image). i.crm_log) is ∙ after_puts-log puts old) had);
  journal = ap (λ (i : Image). i.journal) is ∙ after_puts-journal puts old;
  snap = ap (λ (i : Image). i.snap) is ∙ after_puts-snap puts old;
}

shows-on : (p q : List RowPut) (d e : List (List LogLine)) (old mid new : Image) → ShowsFinished p d old mid → ShowsFinished q e mid new → ShowsFinished (p ++ q) (d ++ e) old new
shows-on p q d e old mid new first then = record {
  rows = then.rows ∙ ap (rows_after q) first.rows ∙ sym (rows_after-append p q old.rows);
  log = λ groups had. subst (λ (l : List (List LogLine)). IsLogOf new l) (append_assoc groups d e) (then.log (groups ++ d) (first.log groups had));
  journal = then.journal ∙ first.journal;
  snap = then.snap ∙ first.snap;
}

same-log-on : (log mid new : EntriesView) → IsSameLog log mid → IsSameLog mid new → IsSameLog log new
same-log-on log mid new first then = then ∙ ap (λ (m : EntriesView). record m { log = record m.log { place = new.log.place; length = new.log.length; spare = new.log.spare } }) first

rose : (old mid now : ℕ) → old ≤ mid → Rose mid now → Rose old now
rose old mid now le up = omega (arith, le, up)

module _ {S : Type 0} (g : Ghosts S) where
  -- a log stands where it stood, after puts
  pub stands-put : {A : Type 0} (a : A) (puts : List RowPut) (log : LogView) (site after : S) → MakesPuts g puts (Ok a) site after → LogStands g log site → LogStands g log after
  stands-put a puts log site after makes stood told =
      let st = stood told in
      let same : bytes_of log.file (g.shown after) ≡ bytes_of log.file (g.shown site) = ap (bytes_of log.file) (makes.made told) ∙ puts-bytes log.file puts (g.shown site) in
      let certain : Certain log.file (bytes_of log.file (g.shown site)) (g.may_leave after) =
      λ c here. let from = makes.certain told c here in puts-keep log.file (g.shown site).rows puts from.0 c from.2 ∙ st.certain from.0 from.1 in
      subst (λ (bytes : List ℕ). StandsOn bytes (g.may_leave after) log) (sym same)
      (record { size = st.size; certain = certain; behind = st.behind; payloads = st.payloads; led = st.led; closed = st.closed })

  -- nothing is done yet
  pub none-finished : {A E : Type 0} (a : A) (failed : Type 0) (log : EntriesView) (site : S) → (failed → ⊥) → LogStands g log.log site → Finishes g {A = A} {E = E} [] [] failed (Ok a) log site log site
  none-finished a failed log site fine stood = record {
    shown = λ told. shows-puts [] (g.shown site) (g.shown site) refl;
    kept = refl;
    stands = stood;
    cause = record { no_fewer = omega arith; cause = λ f. absurd (fine f) };
  }

  -- puts that were all made
  pub puts-finished : {A : Type 0} (a : A) (puts : List RowPut) (log : EntriesView) (site after : S) → MakesPuts g {A = A} puts (Ok a) site after → LogStands g log.log site → Finishes g {A = A} {E = Failed} puts [] (IsErr {T = A} {E = Failed} (Ok a)) (Ok a) log site log after
  puts-finished a puts log site after makes stood = record {
    shown = λ told. shows-puts puts (g.shown site) (g.shown after) (makes.made told);
    kept = refl;
    stands = stands-put a puts log.log site after makes stood;
    cause = makes.cause;
  }

  -- a failure says no more than its cause
  pub unfinished-by : {A E : Type 0} (puts : List RowPut) (done : List (List LogLine)) (failed : Type 0) (e : E) (log : EntriesView) (site : S) (new : EntriesView) (after : S) → HasCause (g.faults site) (g.faults after) failed → Finishes g {A = A} puts done failed (Err e) log site new after
  unfinished-by puts done failed e log site new after cause = record { shown = λ told. tt; kept = tt; stands = tt; cause = cause }

  pub caused-on : (failed : Type 0) (site mid after : S) → g.faults site ≤ g.faults mid → HasCause (g.faults mid) (g.faults after) failed → HasCause (g.faults site) (g.faults after) failed
  caused-on failed site mid after le then = record { no_fewer = omega (arith, le, then.no_fewer); cause = λ f. rose (g.faults site) (g.faults mid) (g.faults after) le (then.cause f) }

  -- one after another
  pub finishes-on : {A B E F : Type 0} (p q : List RowPut) (d e : List (List LogLine)) (f then_f : Type 0) (a : A) (result : Result B F) (log mid new : EntriesView) (site between after : S)
      → Finishes g {A = A} {E = E} p d f (Ok a) log site mid between → Finishes g q e then_f result mid between new after → Finishes g (p ++ q) (d ++ e) then_f result log site new after
  finishes-on p q d e f then_f a result log mid new site between after first then = record {
    shown = λ told. on_ok_weaker result (λ shows. shows-on p q d e (g.shown site) (g.shown between) (g.shown after) (first.shown told) shows) (then.shown told);
    kept = on_ok_weaker result (λ same. same-log-on log mid new first.kept same) then.kept;
    stands = then.stands;
    cause = caused-on then_f site between after first.cause.no_fewer then.cause;
  }

  -- Done of an attempt
  module _ (a : ℕ) (log staged new : EntriesView) (site after : S) (file : log.log.file ≡ CrmLog) (waits : log.log.payload ≡ []) (is : staged ≡ staged_line log (Done a)) (fit : is_line (Done a) ≡ true) (left : new.left ≡ staged.left) where
    abbrev line : LogLine
    line = Done a

    wait : LinesWait staged (done_group a)
    wait = one_waits log staged line [] is fit (record { limits = refl; payload = waits })

    some : 0 < length staged.log.payload
    some = some_wait staged (done_group a) wait (omega arith)

    same-file : staged.log.file ≡ CrmLog
    same-file = ap (λ (v : EntriesView). v.log.file) is ∙ file

    kept : new.log ≡ forced staged.log → IsSameLog log new
    kept moved =
        let v : LogView = forced (staged_line log line).log in
        let now : new ≡ record log { log = v } = λ i. record { log = (moved ∙ ap (λ (x : EntriesView). forced x.log) is) i; left = (left ∙ ap (λ (x : EntriesView). x.left) is) i } in
        let there : IsSameLog log (record log { log = v }) = λ i. record log { log = record log.log { place = v.place; length = v.length; payload = sym waits i; spare = v.spare } } in
        subst (λ (x : EntriesView). IsSameLog log x) (sym now) there

    pub done-finished : (result : Result (Unit {0}) Failed) → Forces g {A = Unit {0}} {E = Failed} result staged.log site new.log after
        → (g.told → (groups : List (List LogLine)) (lines : List LogLine) → LinesWait staged lines → 1 ≤ length lines → IsLogOf (g.shown site) groups → OnOk result (IsLogOf (g.shown after) (groups ++ lines ∷ [])))
        → Finishes g {A = Unit {0}} {E = Failed} [] (done_group a ∷ []) (IsErr result) result log site new after
    done-finished (Err e) forces spells = unfinished-by [] (done_group a ∷ []) (IsErr {T = Unit {0}} (Err e)) e log site new after forces.makes.changes.cause
    done-finished (Ok u) forces spells = record {
      shown = λ told.
          let made = forces.made told some in
          let shown : g.shown after ≡ with_bytes CrmLog (with_group (bytes_of staged.log.file (g.shown site)) staged.log.place staged.log.payload) (g.shown site)
          = made.shown ∙ ap (λ (f : SiteFile). with_bytes f (with_group (bytes_of staged.log.file (g.shown site)) staged.log.place staged.log.payload) (g.shown site)) same-file in
          record {
            rows = ap (λ (i : Image). i.rows) shown;
            log = λ groups had. spells told groups (done_group a) wait (omega arith) had;
            journal = ap (λ (i : Image). i.journal) shown;
            snap = ap (λ (i : Image). i.snap) shown;
          };
      kept = kept (forces.moved some);
      stands = forces.makes.stands;
      cause = forces.makes.changes.cause;
    }

module _ {S : Type 0} (g : Ghosts S) where
  -- the log had more room
  pub from-reserved : {A E : Type 0} (puts : List RowPut) (done : List (List LogLine)) (failed : Type 0) (result : Result A E) (log mid new : EntriesView) (site after : S) → IsSameLog log mid → Finishes g puts done failed result mid site new after → Finishes g puts done failed result log site new after
  from-reserved puts done failed result log mid new site after same fin = record {
    shown = fin.shown;
    kept = on_ok_weaker result (λ is. same-log-on log mid new same is) fin.kept;
    stands = fin.stands;
    cause = fin.cause;
  }

  -- another answer of the same call
  pub retold : {A B E F : Type 0} (puts : List RowPut) (done : List (List LogLine)) (failed then : Type 0) (a : A) (b : B) (log new : EntriesView) (site after : S) → (then → ⊥) → Finishes g {A = A} {E = E} puts done failed (Ok a) log site new after → Finishes g {A = B} {E = F} puts done then (Ok b) log site new after
  retold puts done failed then a b log new site after fine fin = record { shown = fin.shown; kept = fin.kept; stands = fin.stands; cause = record { no_fewer = fin.cause.no_fewer; cause = λ f. absurd (fine f) } }

  -- one attempt: its puts, and then its Done
  pub one-finished : {B E : Type 0} (puts : List RowPut) (a : ℕ) (failed then : Type 0) (b : B) (log mid new : EntriesView) (site between after : S) → (then → ⊥) → IsSameLog log mid → LogStands g mid.log site
      → MakesPuts g {A = Unit {0}} puts (Ok (tt {0})) site between → Finishes g {A = Unit {0}} {E = Failed} [] (done_group a ∷ []) failed (Ok (tt {0})) mid between new after
      → Finishes g {A = B} {E = E} puts (done_group a ∷ []) then (Ok b) log site new after
  one-finished {B} {E} puts a failed then b log mid new site between after fine same stood makes done =
      let first = puts-finished g (tt {0}) puts mid site between makes stood in
      let both = finishes-on g puts [] [] (done_group a ∷ []) (IsErr {T = Unit {0}} {E = Failed} (Ok (tt {0}))) failed (tt {0}) (Ok (tt {0})) mid mid new site between after first done in
      let whole = subst (λ (l : List RowPut). Finishes g {A = Unit {0}} {E = Failed} l (done_group a ∷ []) failed (Ok (tt {0})) mid site new after) (append-nil puts) both in
      from-reserved puts (done_group a ∷ []) then (Ok b) log mid new site after same (retold puts (done_group a ∷ []) failed then (tt {0}) b mid new site after fine whole)
