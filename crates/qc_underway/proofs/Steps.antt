-- Steps of log, clerk and site beside those of the machine: lines are written, all that waits is forced, rows are put.
use Rattle.std.proofs.Common.{◌≡◌, ◌∙◌, ℕ, ◌+◌, ◌≤◌, max, List, [], ◌∷◌, ◌++◌, length, ◌||◌, refl, sym, ap, subst, arith, append_assoc, append-nil}
use Rattle.std.proofs.lemmas.List.Elements.{filter-append}
use Rattle.std.proofs.lemmas.List.Folds.{list_any-append}
use Rattle.std.proofs.lemmas.List.Concat.{flat_map-append}
use Rattle.qc_base.specs.declared.log_line.LogLine.{LogLine}
use Rattle.qc_base.specs.LogLines.{is_done_line}
use Rattle.qc_site.specs.Image.{Image, with_bytes}
use Rattle.qc_site.specs.declared.site.SiteFile.{SiteFile}
use Rattle.qc_site.specs.declared.site.SiteFile.TheVariants.{Journal, CrmLog, Snap}
use Rattle.qc_entries.specs.Entries.{EntriesView}
use Rattle.crm_log.specs.Log.{IsLogOf, all_lines, lines_payload}
use Rattle.crm_clerk.specs.Calls.{HasStaged}
use Rattle.crm_clerk.specs.Clerk.{ClerkView, with_lines as with_written}
use Rattle.crm_driver.specs.Puts.{RowPut, after_put, after_puts}
use Rattle.crm_recovery.specs.Settling.{rows_after}
use Rattle.qc_worker.specs.Calls.{forced_lines}
use Rattle.qc_worker.proofs.Logged.{log-kept}
use Rattle.qc_machine.specs.LogAndRows.{LogAndRows, after_force, lines_of, with_lines, with_puts}
use Rattle.qc_machine.specs.State.{after_group}
use Rattle.qc_machine.specs.OwnLines.{is_own, own_lines}
use Rattle.qc_underway.specs.Standing.{IsAt, IsClerkOf}
use Rattle.qc_underway.proofs.OwnWords.{AreOwn}

-- the log and the site

pub written-at : (shown : Image) (log later : EntriesView) (o : LogAndRows) (lines : List LogLine) (taken : ℕ) (old new : ClerkView) → HasStaged lines taken old log new later → IsAt shown log o → IsAt shown later (with_lines lines o)
written-at shown log later o lines taken old new staged at = record {
  spelled = at.spelled;
  waits = staged.waits o.staged at.waits;
  rows = at.rows;
  gate = ap (λ (e : EntriesView). e.log.place) staged.room.same ∙ at.gate;
  size = ap (λ (e : EntriesView). e.log.length) staged.room.same ∙ at.size;
}

rows-put : (puts : List RowPut) (image : Image) → (after_puts puts image).rows ≡ rows_after puts image.rows
rows-put [] image = refl
rows-put (p ∷ puts) image = rows-put puts (after_put p image)

log-put : (puts : List RowPut) (image : Image) → (after_puts puts image).crm_log ≡ image.crm_log
log-put [] image = refl
log-put (p ∷ puts) image = log-put puts (after_put p image)

pub put-at : (shown now : Image) (log : EntriesView) (o : LogAndRows) (puts : List RowPut) → now ≡ after_puts puts shown → IsAt shown log o → IsAt now log (with_puts puts o)
put-at shown now log o puts is at = record {
  spelled = log-kept o.groups shown now (ap (λ (i : Image). i.crm_log) is ∙ log-put puts shown) at.spelled;
  waits = at.waits;
  rows = ap (λ (i : Image). i.rows) is ∙ rows-put puts shown ∙ ap (rows_after puts) at.rows;
  gate = at.gate;
  size = at.size;
}

pub rows-of-file : (file : SiteFile) (bytes : List ℕ) (image : Image) → (with_bytes file bytes image).rows ≡ image.rows
rows-of-file Journal bytes image = refl
rows-of-file CrmLog bytes image = refl
rows-of-file Snap bytes image = refl

-- all that waits, which is something, is one group more
abbrev pub grouped : LogAndRows → LogAndRows
grouped o = record o { groups = o.groups ++ o.staged ∷ []; staged = []; log = after_group (length (lines_payload o.staged)) o.log }

pub forced-is : (o : LogAndRows) (lines : List LogLine) → lines ≡ o.staged → 1 ≤ length lines → after_force o ≡ grouped o
forced-is o [] is some = absurd (omega (arith, some))
forced-is o (line ∷ lines) is some =
    let P : List LogLine → LogAndRows = λ l. elim l [
      | [] ↦ o
      | line ∷ lines ↦ record o { groups = o.groups ++ o.staged ∷ []; staged = []; log = after_group (length (lines_payload o.staged)) o.log }
    ] in
    sym (ap P is)

pub forced-put-at : (shown logged now : Image) (log later : EntriesView) (o : LogAndRows) (put : RowPut) → IsAt shown log o → later ≡ forced_lines log → logged.rows ≡ shown.rows → now ≡ after_put put logged → IsLogOf now (o.groups ++ o.staged ∷ [])
    → IsAt now later (with_puts (put ∷ []) (grouped o))
forced-put-at shown logged now log later o put at forced rows is spelled =
    let order : o.log.gate + 6 + length (lines_payload o.staged) ≡ o.log.gate + length (lines_payload o.staged) + 6 = omega arith in
    record {
      spelled = spelled;
      waits = record { limits = refl; payload = ap (λ (e : EntriesView). e.log.payload) forced };
      rows = ap (λ (i : Image). i.rows) is ∙ ap (rows_after (put ∷ [])) (rows ∙ at.rows);
      gate = ap (λ (e : EntriesView). e.log.place) forced ∙ (λ i. at.gate i + 5 + length (at.waits.payload i));
      size = ap (λ (e : EntriesView). e.log.length) forced ∙ (λ i. max (at.size i) (at.gate i + 6 + length (at.waits.payload i))) ∙ ap (max o.log.size) order;
    }

-- the clerk

pub clerk-on : (old new : ClerkView) (o after : LogAndRows) (lines : List LogLine) (taken : ℕ) → new ≡ with_written taken lines old → AreOwn old.attempt lines → lines_of after ≡ lines_of o ++ lines → IsClerkOf old o → IsClerkOf new after
clerk-on old new o after lines taken is own more had = subst (λ (c : ClerkView). IsClerkOf c after) (sym is) (record {
  lines = (λ i. had.lines i ++ sym own.own i) ∙ sym (filter-append (is_own old.attempt) (lines_of o) lines) ∙ ap (own_lines old.attempt) (sym more);
  going = list_any-append (is_done_line old.attempt) old.lines lines ∙ (λ i. had.going i || own.going i);
})

pub lines-written : (o : LogAndRows) (lines : List LogLine) → lines_of (with_lines lines o) ≡ lines_of o ++ lines
lines-written o lines = sym (append_assoc (all_lines o.groups) o.staged lines)

pub lines-grouped : (o : LogAndRows) → lines_of (grouped o) ≡ lines_of o
lines-grouped o =
    append-nil (all_lines (o.groups ++ o.staged ∷ []))
    ∙ flat_map-append (λ (l : List LogLine). l) o.groups (o.staged ∷ [])
    ∙ ap (λ (l : List LogLine). all_lines o.groups ++ l) (append-nil o.staged)
