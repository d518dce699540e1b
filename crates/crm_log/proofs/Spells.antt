-- The lines that a file spells: a group of lines more, and the lines that are ahead.
use Rattle.std.proofs.Common.{◌≡◌, ◌∙◌, ◌⊎◌, ⊎_elim, inl, inr, ◌^◌, ◌<◌, ◌≤◌, ℕ, zero, List, [], ◌∷◌, ◌++◌, ◌&&◌, Bool, true, length, drop, map, get_or, refl, sym, ap, subst, arith, length-append, All}
use Rattle.std.specs.List.{flat_map, list_all}
use Rattle.std.proofs.lemmas.List.{append-nil, map-append}
use Rattle.std.proofs.lemmas.List.Elements.{All-nil, All-cons, All-head}
use Rattle.std.proofs.lemmas.List.Folds.{flat_map-map, list_all-append}
use Rattle.std.proofs.lemmas.Grind.{flat_map-append}
use Rattle.std.proofs.lemmas.Bool.{and_parts}
use Rattle.qc_base.specs.Spelling.{spelled_line, is_line, SpellsLine}
use Rattle.qc_base.specs.declared.log_line.LogLine.{LogLine}
use Rattle.qc_base.proofs.LogSpellings.{line-free, line-bounded}
use Rattle.qc_site.specs.Image.{Image, bytes_of, with_bytes}
use Rattle.qc_site.specs.declared.site.SiteFile.{SiteFile}
use Rattle.qc_site.specs.declared.site.SiteFile.TheVariants.{CrmLog}
use Rattle.qc_frame.specs.Frame.{groups, groups_at, entry}
use Rattle.qc_frame.specs.Log.{WholeFrom, Whole, WholeOrNot, HasGroup}
use Rattle.qc_frame.specs.declared.entries.Entry.{Entry}
use Rattle.qc_frame.proofs.Fronts as fronts
use Rattle.qc_frame.proofs.Payload.{entries_alone, length-entry}
use Rattle.qc_frame.proofs.ReadBack.{groups_short}
use Rattle.qc_entries.specs.Entries.{EntriesView, NextEntries, NoEntries, DamagedNext}
use Rattle.crm_log.specs.Lines.{Passed, NextLine, NotLine, DamagedLine, staged_line}
use Rattle.crm_log.specs.Log.{log_header, lines_payload, all_lines, SpellsLog, IsLogOf, LinesWait, LinesAhead, LinesFrom}

-- a log without lines

pub new_log : (shown after : Image) → after ≡ with_bytes CrmLog (log_header ++ 0 ∷ []) shown → IsLogOf after []
new_log shown after is = subst (λ (i : Image). IsLogOf i []) (sym is) (record { header = refl; spelled = record { groups = fronts.groups_short (log_header ++ 0 ∷ []) (omega arith); limits = refl } })

-- lines that wait

payload_push : (lines : List LogLine) (line : LogLine) → lines_payload lines ++ entry (spelled_line line) ≡ lines_payload (lines ++ line ∷ [])
payload_push lines line =
    let spell : LogLine → List ℕ = λ l. entry (spelled_line l) in
    sym (flat_map-append spell lines (line ∷ []) ∙ ap (λ (l : List ℕ). lines_payload lines ++ l) (append-nil (entry (spelled_line line))))

both_fit : {A : Type 0} (fits : A → Bool) (xs ys : List A) → list_all fits xs ≡ true → list_all fits ys ≡ true → list_all fits (xs ++ ys) ≡ true
both_fit fits xs ys one other = list_all-append fits xs ys ∙ (λ i. one i && other i)

one_fits : {A : Type 0} (fits : A → Bool) (x : A) → fits x ≡ true → list_all fits (x ∷ []) ≡ true
one_fits fits x h = λ i. h i && true

pub one_waits : (old new : EntriesView) (line : LogLine) (lines : List LogLine) → new ≡ staged_line old line → is_line line ≡ true → LinesWait old lines → LinesWait new (lines ++ line ∷ [])
one_waits old new line lines is fits waits = record {
  limits = both_fit is_line lines (line ∷ []) waits.limits (one_fits is_line line fits);
  payload = ap (λ (v : EntriesView). v.log.payload) is ∙ ap (λ (l : List ℕ). l ++ entry (spelled_line line)) waits.payload ∙ payload_push lines line;
}

pub some_wait : (view : EntriesView) (lines : List LogLine) → LinesWait view lines → 1 ≤ length lines → 0 < length view.log.payload
some_wait view [] waits some = absurd (omega (arith, some))
some_wait view (line ∷ lines) waits some = omega (arith, ap length waits.payload, length-append (entry (spelled_line line)) (lines_payload lines), length-entry (spelled_line line))

-- a group of lines more

pub spells_more : (old new : List ℕ) (log : List (List LogLine)) (lines : List LogLine) → groups new ≡ groups old ++ lines_payload lines ∷ [] → list_all is_line lines ≡ true → SpellsLog old log → SpellsLog new (log ++ lines ∷ [])
spells_more old new log lines more fit had = record {
  groups = more ∙ ap (λ (l : List (List ℕ)). l ++ lines_payload lines ∷ []) had.groups ∙ sym (map-append lines_payload log (lines ∷ []));
  limits = both_fit (list_all is_line) log (lines ∷ []) had.limits (one_fits (list_all is_line) lines fit);
}

pub spells_same : (old new : List ℕ) (log : List (List LogLine)) → groups new ≡ groups old → SpellsLog old log → SpellsLog new log
spells_same old new log same had = record { groups = same ∙ had.groups; limits = had.limits }

pub log_more : (shown after : Image) (view : EntriesView) (log : List (List LogLine)) (lines : List LogLine) → view.log.file ≡ CrmLog → view.log.start ≡ 16 → LinesWait view lines
    → HasGroup view.log.payload view.log shown after → IsLogOf shown log → IsLogOf after (log ++ lines ∷ [])
log_more shown after view log lines file start waits made had =
    let whole : Whole (lines_payload lines) shown.crm_log after.crm_log
    = subst (λ (p : List ℕ). Whole p shown.crm_log after.crm_log) waits.payload (
    subst (λ n. WholeFrom n view.log.payload shown.crm_log after.crm_log) start (
    subst (λ (f : SiteFile). WholeFrom view.log.start view.log.payload (bytes_of f shown) (bytes_of f after)) file made.whole)) in
    record {
      header = whole.front ∙ had.header;
      spelled = spells_more shown.crm_log after.crm_log log lines whole.more waits.limits had.spelled;
    }

pub whole_or_not : (old new : List ℕ) (log : List (List LogLine)) (lines : List LogLine) → list_all is_line lines ≡ true → SpellsLog old log → WholeOrNot (lines_payload lines) old new → SpellsLog new log ⊎ SpellsLog new (log ++ lines ∷ [])
whole_or_not old new log lines fit had step = ⊎_elim
    (λ (same : groups new ≡ groups old). inl (spells_same old new log same had))
    (λ (more : groups new ≡ groups old ++ lines_payload lines ∷ []). inr (spells_more old new log lines more fit had))
    step.either

-- the lines that are ahead

pub all_ahead : (file : List ℕ) (view : EntriesView) (log : List (List LogLine)) → view.left ≡ [] → view.log.place ≡ 16 → SpellsLog file log → LinesAhead file view (all_lines log)
all_ahead file view log none place spells = record {
  first = [];
  log = log;
  left = ap (λ (l : List Entry). map (λ (e : Entry). e.bytes) l) none;
  to_come = ap (λ n. groups_at file n) place ∙ spells.groups;
  first_fit = refl;
  others_fit = spells.limits;
  is = refl;
}

-- an entry that was passed is a line
record PassedLine (file : List ℕ) (new : EntriesView) (entry : Entry) (lines : List LogLine) : Type 0 where
  line : LogLine
  spelled : SpellsLine entry.bytes line
  from : LinesFrom line file new lines

of_entries : (file : List ℕ) (new : EntriesView) (entry : Entry) (first : List LogLine) (log : List (List LogLine)) (lines : List LogLine) → entry.bytes ∷ map (λ (e : Entry). e.bytes) new.left ≡ map spelled_line first
    → groups_at file new.log.place ≡ map lines_payload log → list_all is_line first ≡ true → list_all (list_all is_line) log ≡ true → lines ≡ first ++ all_lines log → PassedLine file new entry lines
of_entries file new entry [] log lines left to_come fit others is = absurd (omega (arith, ap length left))
of_entries file new entry (f ∷ first) log lines left to_come fit others is =
    let parts = and_parts (is_line f) (list_all is_line first) fit in
    record {
      line = f;
      spelled = record { limits = parts.0; is = ap (λ (l : List (List ℕ)). get_or l 0 []) left };
      from = record {
        rest = first ++ all_lines log;
        is = is;
        ahead = record { first = first; log = log; left = ap (λ (l : List (List ℕ)). drop 1 l) left; to_come = to_come; first_fit = parts.1; others_fit = others; is = refl };
      };
    }

-- the entries of a payload of lines are those lines
same_entries : (entries : List (List ℕ)) (lines : List LogLine) (payload : List ℕ) → length payload < 2 ^ 32 → payload ≡ flat_map entry entries → payload ≡ lines_payload lines → entries ≡ map spelled_line lines
same_entries entries lines payload short spelled is =
    let others = map spelled_line lines in
    let there : payload ≡ flat_map entry others = is ∙ sym (flat_map-map entry spelled_line lines) in
    entries_alone entries others (omega (arith, short, ap length there)) (sym spelled ∙ there)

of_group : (file : List ℕ) (old new : EntriesView) (entry : Entry) (first : List LogLine) (log : List (List LogLine)) (lines : List LogLine) → NextEntries file old (record new { left = entry ∷ new.left })
    → map (λ (e : Entry). e.bytes) old.left ≡ map spelled_line first → groups_at file old.log.place ≡ map lines_payload log → list_all (list_all is_line) log ≡ true → lines ≡ first ++ all_lines log → PassedLine file new entry lines
of_group file old new entry (f ∷ first) log lines next left to_come others is = absurd (omega (arith, ap length left, ap (λ (l : List Entry). length (map (λ (e : Entry). e.bytes) l)) next.none))
of_group file old new entry [] [] lines next left to_come others is = absurd (omega (arith, ap length (sym next.group.next ∙ to_come)))
of_group file old new entry [] (r ∷ log) lines next left to_come others is =
    let both = sym next.group.next ∙ to_come in
    let payload : next.group.payload ≡ lines_payload r = ap (λ (l : List (List ℕ)). get_or l 0 []) both in
    let short = All-head (λ p. length p < 2 ^ 32) next.group.payload (groups_at file new.log.place) (subst (λ (l : List (List ℕ)). All (λ p. length p < 2 ^ 32) l) next.group.next (groups_short zero (drop old.log.place file))) in
    let parts = and_parts (list_all is_line r) (list_all (list_all is_line) log) others in
    of_entries file new entry r log lines (same_entries (entry.bytes ∷ map (λ (e : Entry). e.bytes) new.left) r next.group.payload short next.group.spelled.spelled.0 payload)
    (ap (λ (l : List (List ℕ)). drop 1 l) both) parts.0 parts.1 is

passed_line : (file : List ℕ) (old new : EntriesView) (at : ℕ) (entry : Entry) (lines : List LogLine) → LinesAhead file old lines → Passed file old new at entry → PassedLine file new entry lines
passed_line file old new at entry lines ahead passed = ⊎_elim
    (λ (same : record new { left = entry ∷ new.left } ≡ old).
    of_entries file new entry ahead.first ahead.log lines (ap (λ (v : EntriesView). map (λ (e : Entry). e.bytes) v.left) same ∙ ahead.left)
    (ap (λ (v : EntriesView). groups_at file v.log.place) same ∙ ahead.to_come) ahead.first_fit ahead.others_fit ahead.is)
    (λ (next : NextEntries file old (record new { left = entry ∷ new.left })). of_group file old new entry ahead.first ahead.log lines next ahead.left ahead.to_come ahead.others_fit ahead.is)
    passed.filled

-- the line that is read is the first of those
pub first_ahead : (file : List ℕ) (old new : EntriesView) (at : ℕ) (line : LogLine) (lines : List LogLine) → LinesAhead file old lines → NextLine file old new at line → LinesFrom line file new lines
first_ahead file old new at line lines ahead next =
    let found = passed_line file old new at next.entry lines ahead next.passed in
    let same : found.line ≡ line = (line-free found.line line [] [] found.spelled.limits next.spelled.limits (ap (λ (l : List ℕ). l ++ []) (sym found.spelled.is ∙ next.spelled.is))).0 in
    subst (λ (l : LogLine). LinesFrom l file new lines) same found.from

-- at the end none is
pub none_ahead : (file now : List ℕ) (old new : EntriesView) (lines : List LogLine) → LinesAhead file old lines → NoEntries file now old new → lines ≡ []
none_ahead file now old new lines ahead end =
    by ahead.first ahead.log (sym (ap (λ (l : List Entry). map (λ (e : Entry). e.bytes) l) end.none) ∙ ahead.left) (sym end.group.none ∙ ahead.to_come) ahead.is
  where
    by : (first : List LogLine) (log : List (List LogLine)) → [] ≡ map spelled_line first → [] ≡ map lines_payload log → lines ≡ first ++ all_lines log → lines ≡ []
    by (f ∷ first) log left to_come is = absurd (omega (arith, ap length left))
    by [] (r ∷ log) left to_come is = absurd (omega (arith, ap length to_come))
    by [] [] left to_come is = is

-- and there is no damage
some_bytes : (lines : List LogLine) → list_all is_line lines ≡ true → All (λ e. 1 ≤ length e) (map spelled_line lines)
some_bytes [] fit = All-nil (λ e. 1 ≤ length e)
some_bytes (line ∷ lines) fit =
    let parts = and_parts (is_line line) (list_all is_line lines) fit in
    All-cons (λ e. 1 ≤ length e) (spelled_line line) (map spelled_line lines) (line-bounded line parts.0).0 (some_bytes lines parts.1)

sound_group : (file : List ℕ) (old : EntriesView) (at : ℕ) (log : List (List LogLine)) → DamagedNext file old at → groups_at file old.log.place ≡ map lines_payload log → list_all (list_all is_line) log ≡ true → ⊥
sound_group file old at [] damage to_come others = absurd (omega (arith, ap length (sym damage.group.next ∙ to_come)))
sound_group file old at (r ∷ log) damage to_come others =
    let payload : damage.group.payload ≡ lines_payload r = ap (λ (l : List (List ℕ)). get_or l 0 []) (sym damage.group.next ∙ to_come) in
    damage.group.stops.none (map spelled_line r) (payload ∙ sym (flat_map-map entry spelled_line r), some_bytes r (and_parts (list_all is_line r) (list_all (list_all is_line) log) others).0)

pub sound_ahead : (file : List ℕ) (old : EntriesView) (at : ℕ) (lines : List LogLine) → LinesAhead file old lines → DamagedLine file old at → ⊥
sound_ahead file old at lines ahead damaged = ⊎_elim
    (λ (damage : DamagedNext file old at). sound_group file old at ahead.log damage ahead.to_come ahead.others_fit)
    (λ (damage : NotLine file old at).
    let found = passed_line file old damage.behind at damage.entry lines ahead damage.passed in
    damage.no_line found.line found.spelled.limits found.spelled.is)
    damaged
