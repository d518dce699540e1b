-- A log that is read to its end, line by line.
use Rattle.std.proofs.Common.{◌≡◌, ◌∙◌, ℕ, List, [], ◌∷◌, ◌++◌, map, refl, sym, ap, subst, append_assoc}
use Rattle.std.proofs.lemmas.List.{append-nil, map-append}
use Rattle.qc_base.specs.declared.log_line.LogLine.{LogLine}
use Rattle.qc_site.specs.Image.{Image, bytes_of}
use Rattle.qc_site.specs.declared.site.SiteFile.{SiteFile}
use Rattle.qc_site.specs.declared.site.SiteFile.TheVariants.{CrmLog}
use Rattle.qc_entries.specs.Entries.{EntriesView, NoEntries}
use Rattle.crm_log.specs.Lines.{NextLine}
use Rattle.crm_log.specs.Log.{LinesAhead, SpellsLog, all_lines}
use Rattle.crm_log.proofs.Spells.{all_ahead, first_ahead, none_ahead}

-- of all lines these were read, and the others are ahead
pub record ReadSoFar (file : List ℕ) (entries : EntriesView) (all read : List LogLine) : Type 0 where
  pub rest : List LogLine
  pub is : all ≡ read ++ rest
  pub ahead : LinesAhead file entries rest

pub none_read : (shown after : Image) (entries : EntriesView) (log : List (List LogLine)) → after ≡ shown → entries.left ≡ [] → entries.log.place ≡ 16 → SpellsLog shown.crm_log log → ReadSoFar after.crm_log entries (all_lines log) []
none_read shown after entries log same none place spells = subst (λ (i : Image). ReadSoFar i.crm_log entries (all_lines log) []) (sym same) (record { rest = all_lines log; is = refl; ahead = all_ahead shown.crm_log entries log none place spells })

pub one_read : (shown after : Image) (old new : EntriesView) (all : List LogLine) (read : List (ℕ × LogLine)) (next : ℕ × LogLine) → old.log.file ≡ CrmLog → after ≡ shown → NextLine (bytes_of old.log.file shown) old new next.0 next.1
    → ReadSoFar shown.crm_log old all (map (λ p. p.1) read) → ReadSoFar after.crm_log new all (map (λ p. p.1) (read ++ next ∷ []))
one_read shown after old new all read next file same found so_far =
    let here = subst (λ (f : SiteFile). NextLine (bytes_of f shown) old new next.0 next.1) file found in
    let from = first_ahead shown.crm_log old new next.0 next.1 so_far.rest so_far.ahead here in
    let before : List LogLine = map (λ (p : ℕ × LogLine). p.1) read in
    let pushed : map (λ (p : ℕ × LogLine). p.1) (read ++ next ∷ []) ≡ before ++ next.1 ∷ [] = map-append (λ (p : ℕ × LogLine). p.1) read (next ∷ []) in
    subst (λ (i : Image). ReadSoFar i.crm_log new all (map (λ (p : ℕ × LogLine). p.1) (read ++ next ∷ []))) (sym same) (record {
      rest = from.rest;
      is = so_far.is ∙ ap (λ (l : List LogLine). before ++ l) from.is ∙ sym (append_assoc before (next.1 ∷ []) from.rest) ∙ ap (λ (l : List LogLine). l ++ from.rest) (sym pushed);
      ahead = from.ahead;
    })

pub all_read : (shown now : Image) (old new : EntriesView) (all : List LogLine) (read : List (ℕ × LogLine)) → old.log.file ≡ CrmLog → NoEntries (bytes_of old.log.file shown) (bytes_of old.log.file now) old new → ReadSoFar shown.crm_log old all (map (λ p. p.1) read)
    → map (λ p. p.1) read ≡ all
all_read shown now old new all read file end so_far =
    let here = subst (λ (f : SiteFile). NoEntries (bytes_of f shown) (bytes_of f now) old new) file end in
    let before : List LogLine = map (λ (p : ℕ × LogLine). p.1) read in
    sym (so_far.is ∙ ap (λ (l : List LogLine). before ++ l) (none_ahead shown.crm_log now.crm_log old new so_far.rest so_far.ahead here) ∙ append-nil before)
