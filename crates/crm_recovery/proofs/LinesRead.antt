-- A log that is read line by line: how far it was read, and what it spells at its end.
use Rattle.std.proofs.Common.{◌≡◌, ◌∙◌, ⊎_elim, inl, inr, ◌≤◌, ℕ, List, [], ◌∷◌, ◌++◌, ◌&&◌, length, map, true, false, true≢false, Bool, refl, sym, ap, subst, arith}
use Rattle.std.specs.List.{flat_map, list_all}
use Rattle.std.proofs.lemmas.List.{append-nil}
use Rattle.std.proofs.lemmas.List.Folds.{flat_map-map, list_all-append}
use Rattle.qc_base.specs.Spelling.{is_line, spelled_line}
use Rattle.qc_base.specs.declared.log_line.LogLine.{LogLine}
use Rattle.qc_site.specs.Image.{Image, bytes_of}
use Rattle.qc_site.specs.Disk.{LeavesOnly}
use Rattle.qc_site.specs.declared.site.Site.{Ghosts}
use Rattle.qc_frame.specs.Calls.{LogStands, KeepsGroups}
use Rattle.qc_frame.proofs.Chained.{chained, keeps_on}
use Rattle.qc_frame.specs.Frame.{entry, groups_at}
use Rattle.qc_frame.specs.Gate.{After}
use Rattle.qc_frame.specs.Log.{LogView, SameFrom}
use Rattle.qc_frame.specs.declared.entries.Entry.{Entry}
use Rattle.qc_entries.specs.Entries.{EntriesView, NextEntries, NoEntries}
use Rattle.qc_catalogue.specs.declared.catalogue.Catalogue.{Catalogue}
use Rattle.crm_log.specs.Lines.{NextLine, DamagedLine}
use Rattle.crm_log.specs.Log.{SpellsLog, LinesAhead, all_lines, lines_payload}
use Rattle.crm_log.proofs.Spells.{first_ahead, none_ahead, all_ahead, sound_ahead}
use Rattle.crm_history.specs.declared.ended.Ended.{Ended}
use Rattle.crm_history.specs.Legal.{is_log_legal, line_may_follow, lines_follow}
use Rattle.crm_recovery.proofs.Unfinished.{follow-append}
use Rattle.std.proofs.lemmas.Bool.{and_parts}
use Rattle.crm_recovery.specs.Reading.{JustOpened, NextLines, NotNext, DamagedLines, SpellsLines}

-- one line more
pub next-push : (file : List ℕ) (start mid new : EntriesView) (lines : List LogLine) (at : ℕ) (line : LogLine) → NextLines file start lines mid → NextLine file mid new at line → NextLines file start (lines ++ line ∷ []) new
next-push file start mid new [] at line read next = (new, at, subst (λ (v : EntriesView). NextLine file v new at line) read next, refl)
next-push file start mid new (l ∷ lines) at line read next = (read.0, read.1, read.2, next-push file read.0 mid new lines at line read.3 next)

pub all-push : {A : Type 0} (p : A → Bool) (xs : List A) (x : A) → list_all p xs ≡ true → p x ≡ true → list_all p (xs ++ x ∷ []) ≡ true
all-push p xs x all one = list_all-append p xs (x ∷ []) ∙ (λ i. all i && (one i && true))

-- lines in front of those that are ahead

entries-spelled : (file : List ℕ) (old new : EntriesView) (entry_ : Entry) (line : LogLine) (rest : List LogLine) → entry_.bytes ≡ spelled_line line → is_line line ≡ true → NextEntries file old (record new { left = entry_ ∷ new.left }) → LinesAhead file new rest → LinesAhead file old (line ∷ rest)
entries-spelled file old new entry_ line rest spelled fit next ahead =
    let bytes : List Entry → List (List ℕ) = map (λ (e : Entry). e.bytes) in
    let heads : entry_.bytes ∷ bytes new.left ≡ map spelled_line (line ∷ ahead.first) = λ i. spelled i ∷ ahead.left i in
    let payload : next.group.payload ≡ lines_payload (line ∷ ahead.first) = next.group.spelled.spelled.0 ∙ ap (flat_map entry) heads ∙ flat_map-map entry spelled_line (line ∷ ahead.first) in
    record {
      first = [];
      log = (line ∷ ahead.first) ∷ ahead.log;
      left = ap bytes next.none;
      to_come = next.group.next ∙ (λ i. payload i ∷ ahead.to_come i);
      first_fit = refl;
      others_fit = rw (fit, ahead.first_fit) ahead.others_fit;
      is = ap (λ (l : List LogLine). line ∷ l) ahead.is;
    }

in-front : (file : List ℕ) (old new : EntriesView) (at : ℕ) (line : LogLine) (rest : List LogLine) → NextLine file old new at line → LinesAhead file new rest → LinesAhead file old (line ∷ rest)
in-front file old new at line rest next ahead = ⊎_elim
    (λ (same : record new { left = next.entry ∷ new.left } ≡ old).
    record {
      first = line ∷ ahead.first;
      log = ahead.log;
      left = sym (ap (λ (v : EntriesView). map (λ (e : Entry). e.bytes) v.left) same) ∙ (λ i. next.spelled.is i ∷ ahead.left i);
      to_come = sym (ap (λ (v : EntriesView). groups_at file v.log.place) same) ∙ ahead.to_come;
      first_fit = rw next.spelled.limits ahead.first_fit;
      others_fit = ahead.others_fit;
      is = ap (λ (l : List LogLine). line ∷ l) ahead.is;
    })
    (λ (more : NextEntries file old (record new { left = next.entry ∷ new.left })). entries-spelled file old new next.entry line rest next.spelled.is next.spelled.limits more ahead)
    next.passed.filled

none-left : (file now : List ℕ) (old new : EntriesView) → NoEntries file now old new → LinesAhead file old []
none-left file now old new end = record {
  first = [];
  log = [];
  left = ap (map (λ (e : Entry). e.bytes)) end.none;
  to_come = end.group.none;
  first_fit = refl;
  others_fit = refl;
  is = refl;
}

all-ahead : (file : List ℕ) (start end : EntriesView) (lines : List LogLine) → NextLines file start lines end → LinesAhead file end [] → LinesAhead file start lines
all-ahead file start end [] read ahead = subst (λ (v : EntriesView). LinesAhead file v []) read ahead
all-ahead file start end (l ∷ lines) read ahead = in-front file start read.0 read.1 l lines read.2 (all-ahead file read.0 end lines read.3 ahead)

pub spelled-all : (file now : List ℕ) (start end new : EntriesView) (lines : List LogLine) → JustOpened start → NextLines file start lines end → NoEntries file now end new → SpellsLines file lines
spelled-all file now start end new lines opened read none =
    let ahead = all-ahead file start end lines read (none-left file now end new none) in
    by ahead.first ahead.log (sym (ap (map (λ (e : Entry). e.bytes)) opened.none_left) ∙ ahead.left) (sym (ap (groups_at file) opened.place) ∙ ahead.to_come) ahead.others_fit ahead.is
  where
    by : (first : List LogLine) (log : List (List LogLine)) → [] ≡ map spelled_line first → groups_at file 16 ≡ map lines_payload log → list_all (list_all is_line) log ≡ true → lines ≡ first ++ all_lines log → SpellsLines file lines
    by (f ∷ first) log left to_come others is = absurd (omega (arith, ap length left))
    by [] log left to_come others is = record { groups = log; spelled = record { groups = to_come; limits = others }; is = is }

-- of the lines that a file spells

ahead-on : (file : List ℕ) (start end : EntriesView) (lines all : List LogLine) → LinesAhead file start all → NextLines file start lines end → (rest : List LogLine) × (all ≡ lines ++ rest) × LinesAhead file end rest
ahead-on file start end [] all ahead read = (all, refl, subst (λ (v : EntriesView). LinesAhead file v all) (sym read) ahead)
ahead-on file start end (l ∷ lines) all ahead read =
    let from = first_ahead file start read.0 read.1 l all ahead read.2 in
    let more = ahead-on file read.0 end lines from.rest from.ahead read.3 in
    (more.0, from.is ∙ ap (λ (x : List LogLine). l ∷ x) more.1, more.2)

-- these are read, in order
pub read-all : (file now : List ℕ) (start end new : EntriesView) (lines : List LogLine) (log : List (List LogLine)) → JustOpened start → SpellsLog file log → NextLines file start lines end → NoEntries file now end new → lines ≡ all_lines log
read-all file now start end new lines log opened spells read none =
    let more = ahead-on file start end lines (all_lines log) (all_ahead file start log opened.none_left opened.place spells) read in
    sym (more.1 ∙ ap (λ (x : List LogLine). lines ++ x) (none_ahead file now end new more.0 more.2 none) ∙ append-nil lines)

-- and no damage is met, where they are legal
pub not-damaged : (c : Catalogue) (sent : ℕ) (ended : List Ended) (file : List ℕ) (log : List (List LogLine)) (start : EntriesView) (at : ℕ) → JustOpened start → SpellsLog file log → is_log_legal c sent ended (all_lines log) ≡ true → ¬ DamagedLines c sent ended file start at
not-damaged c sent ended file log start at opened spells legal damage =
    let more = ahead-on file start damage.behind damage.lines (all_lines log) (all_ahead file start log opened.none_left opened.place spells) damage.read in
    ⊎_elim
    (λ (line : DamagedLine file damage.behind at). sound_ahead file damage.behind at more.0 more.2 line)
    (λ (next : NotNext c sent ended file damage.behind at damage.lines).
    let from = first_ahead file damage.behind next.behind at next.line more.0 more.2 next.next in
    let all : all_lines log ≡ damage.lines ++ next.line ∷ from.rest = more.1 ∙ ap (λ (x : List LogLine). damage.lines ++ x) from.is in
    let parts = and_parts (is_log_legal c sent ended damage.lines) (lines_follow c sent ended damage.lines (next.line ∷ from.rest)) (sym (follow-append c sent ended [] damage.lines (next.line ∷ from.rest)) ∙ ap (is_log_legal c sent ended) (sym all) ∙ legal) in
    let may = and_parts (line_may_follow c sent ended damage.lines next.line) (lines_follow c sent ended (damage.lines ++ next.line ∷ []) from.rest) parts.1 in
    true≢false (sym may.0 ∙ next.refused))
    damage.unfit

-- how far a log was read
pub record ReadSoFar {S : Type 0} (g : Ghosts S) (c : Catalogue) (sent : ℕ) (ended : List Ended) (start : EntriesView) (site : S) (now : EntriesView) (lines : List LogLine) (mid : S) : Type 0 where
  pub kept : now.log ≡ record start.log { place = now.log.place }
  pub faults : g.faults site ≤ g.faults mid
  pub still : g.told → g.shown mid ≡ g.shown site
  pub stands : LogStands g now.log mid
  pub legal : is_log_legal c sent ended lines ≡ true
  pub limits : list_all is_line lines ≡ true
  pub read : g.told → NextLines (g.shown site).crm_log start lines now
  pub moments : g.told → LeavesOnly g.moment g.left_since site mid (After start.log.file (SameFrom start.log.start) (g.may_leave site))

-- the file of a log that is read is the one that was opened
pub same-file : {S : Type 0} (g : Ghosts S) (c : Catalogue) (sent : ℕ) (ended : List Ended) (start : EntriesView) (site : S) (now : EntriesView) (lines : List LogLine) (mid : S) → JustOpened start → ReadSoFar g c sent ended start site now lines mid → g.told
    → bytes_of now.log.file (g.shown mid) ≡ (g.shown site).crm_log
same-file g c sent ended start site now lines mid opened so told = λ i. bytes_of ((ap (λ (l : LogView). l.file) so.kept ∙ opened.file) i) (so.still told i)

-- damage behind what was read
pub damaged-line : (c : Catalogue) (sent : ℕ) (ended : List Ended) (file here : List ℕ) (start now : EntriesView) (lines : List LogLine) (at : ℕ) → here ≡ file → is_log_legal c sent ended lines ≡ true → NextLines file start lines now → DamagedLine here now at → DamagedLines c sent ended file start at
damaged-line c sent ended file here start now lines at same legal read damage = record {
  lines = lines;
  behind = now;
  read = read;
  legal = legal;
  unfit = inl (subst (λ (f : List ℕ). DamagedLine f now at) same damage);
}

pub refused-line : (c : Catalogue) (sent : ℕ) (ended : List Ended) (file here : List ℕ) (start now new : EntriesView) (lines : List LogLine) (at : ℕ) (line : LogLine) → here ≡ file → is_log_legal c sent ended lines ≡ true → NextLines file start lines now → NextLine here now new at line
    → line_may_follow c sent ended lines line ≡ false → DamagedLines c sent ended file start at
refused-line c sent ended file here start now new lines at line same legal read next refused = record {
  lines = lines;
  behind = now;
  read = read;
  legal = legal;
  unfit = inr (record { line = line; behind = new; next = subst (λ (f : List ℕ). NextLine f now new at line) same next; refused = refused });
}

module _ {S : Type 0} (g : Ghosts S) (c : Catalogue) (sent : ℕ) (ended : List Ended) (start : EntriesView) (site : S) (now : EntriesView) (lines : List LogLine) (mid : S) (so : ReadSoFar g c sent ended start site now lines mid)
    (counts : (t : ℕ) (i : Image) → g.told → t ≤ g.moment mid → g.may_leave mid i → g.left_since mid t i) where
  -- the next call keeps the groups, and so does the whole run
  pub keeps-through : (failed then : Type 0) (after : S) → (failed → then) → (then → failed) → KeepsGroups g now.log then mid after → KeepsGroups g start.log failed site after
  keeps-through failed then after to back keeps =
      keeps_on g start.log failed then site mid after to back counts so.still so.faults so.moments (subst (λ (l : LogView). KeepsGroups g l then mid after) so.kept keeps)

  pub moments-through : (then : Type 0) (after : S) → KeepsGroups g now.log then mid after → g.told → LeavesOnly g.moment g.left_since site after (After start.log.file (SameFrom start.log.start) (g.may_leave site))
  moments-through then after keeps told =
      let last = subst (λ (l : LogView). KeepsGroups g l then mid after) so.kept keeps in
      chained g.moment g.left_since g.may_leave start.log.file start.log.start site mid after (λ t i le here. counts t i told le here) (so.moments told) (last.any_moment told)
