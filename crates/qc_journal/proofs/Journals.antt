-- A journal as the log that it stands on.
use Rattle.std.proofs.Common.{take, drop, get_or, take-append-drop, ◌≡◌, ◌≢◌, ◌⊎◌, ⊎_elim, inl, inr, ◌<◌, ◌≤◌, ◌+◌, ◌-◌, max, ℕ, List, [], ◌∷◌, ◌++◌, length, map, All, true, refl, sym, ◌∙◌, ap, subst, arith}
use Rattle.std.specs.List.{flat_map}
use Rattle.std.proofs.lemmas.List.{append-nil, length-drop}
use Rattle.std.proofs.lemmas.List.Elements.{All-push, All-nil}
use Rattle.qc_base.specs.Spelling.{spelled_fact, is_fact, SpellsFact}
use Rattle.qc_base.specs.declared.fact.Fact.{Fact}
use Rattle.qc_site.specs.Image.{Image, bytes_of}
use Rattle.qc_site.specs.Disk.{Images}
use Rattle.qc_site.specs.declared.site.Site.{Ghosts}
use Rattle.qc_site.specs.declared.site.SiteFile.TheVariants.{Journal}
use Rattle.qc_frame.specs.Frame.{entry, groups_at, offsets}
use Rattle.qc_frame.specs.declared.entries.Entry.{Entry}
use Rattle.qc_frame.specs.Log.{LogView, Stands, NextGroup, DamagedGroup, HasGroup, WholeOrNotFrom, staged, forced}
use Rattle.qc_frame.specs.Calls.{ChangesFile}
use Rattle.qc_frame.proofs.Payload.{entries_alone, length-entry}
use Rattle.qc_frame.proofs.Staged.{still_stands}
use Rattle.qc_journal.specs.History.{fact_payload}
use Rattle.qc_journal.specs.Journal.{JournalView, journal_of, log_of, JournalStands, NextFact, DamagedFact, appended, not_appended}
use Rattle.qc_base.proofs.Facts.{fact-free, fact-bounded}
use Rattle.qc_entries.specs.Entries.{EntriesView, Filled, FirstAt, NextEntries}

-- the log of a journal, from what is seen of it
pub log_is : (log : LogView) (journal : JournalView) → log.file ≡ Journal → log.payload ≡ [] → journal_of log ≡ journal → log ≡ log_of journal
log_is log journal file payload seen = (λ i. record { file = file i; start = log.start; place = log.place; length = log.length; ended = log.ended; payload = payload i; spare = log.spare }) ∙ ap log_of seen

pub stands_log : (told : Type 0) (shown : Image) (images : Images) (log : LogView) (journal : JournalView) → log.file ≡ Journal → log.payload ≡ [] → journal_of log ≡ journal → JournalStands told shown images journal → Stands told shown images log
stands_log told shown images log journal file payload seen st = subst (λ (l : LogView). Stands told shown images l) (sym (log_is log journal file payload seen)) st

pub stands_journal : (told : Type 0) (shown : Image) (images : Images) (log : LogView) → log.file ≡ Journal → log.payload ≡ [] → Stands told shown images log → JournalStands told shown images (journal_of log)
stands_journal told shown images log file payload st = subst (λ (l : LogView). Stands told shown images l) (log_is log (journal_of log) file payload refl) st

pub stands_staged : (told : Type 0) (shown : Image) (images : Images) (log new : LogView) (bytes : List ℕ) → new ≡ staged log bytes → Stands told shown images log → Stands told shown images new
stands_staged told shown images log new bytes is st = subst (λ (l : LogView). Stands told shown images l) (sym is) (λ t. still_stands (bytes_of log.file shown) images log (staged log bytes) (log.payload ++ entry bytes) (log.spare - (length bytes + 4)) refl (st t))

-- a payload of one entry
pub one_entry : (bytes : List ℕ) → flat_map entry (bytes ∷ []) ≡ entry bytes
one_entry bytes = append-nil (entry bytes)

pub length-payload : (fact : Fact) → length (fact_payload fact) ≡ 4 + length (spelled_fact fact)
length-payload fact = length-entry (spelled_fact fact)

-- a fact that was staged, and forced or not
pub appended_is : (log new : LogView) (journal : JournalView) (fact : Fact) → log.payload ≡ [] → journal_of log ≡ journal → new ≡ forced (staged log (spelled_fact fact)) → length (spelled_fact fact) + 4 ≤ log.spare → journal_of new ≡ appended journal fact
appended_is log new journal fact payload seen is room =
    let size = length (spelled_fact fact) in
    let waits : log.payload ++ fact_payload fact ≡ fact_payload fact = ap (λ (l : List ℕ). l ++ fact_payload fact) payload in
    let long : length (log.payload ++ fact_payload fact) ≡ 4 + size = ap length waits ∙ length-payload fact in
    let place : log.place + 5 + length (log.payload ++ fact_payload fact) ≡ log.place + 9 + size = omega (arith, long) in
    let end : max log.length (log.place + 6 + length (log.payload ++ fact_payload fact)) ≡ max log.length (log.place + 10 + size) = omega (arith, long) in
    let spare : log.spare - (size + 4) + length (log.payload ++ fact_payload fact) ≡ log.spare = omega (arith, long, room) in
    let each : journal_of (forced (staged log (spelled_fact fact))) ≡ appended (journal_of log) fact = λ i. record { start = log.start; place = place i; length = end i; ended = log.ended; spare = spare i } in
    ap journal_of is ∙ each ∙ ap (λ (j : JournalView). appended j fact) seen

pub not_appended_is : (log new : LogView) (journal : JournalView) (fact : Fact) → journal_of log ≡ journal → new ≡ record (staged log (spelled_fact fact)) { payload = [] } → journal_of new ≡ not_appended journal fact
not_appended_is log new journal fact seen is = ap journal_of is ∙ ap (λ (j : JournalView). not_appended j fact) seen

-- what the log's force made is the fact's group
pub made_of : (old new : Image) (log stage : LogView) (journal : JournalView) (fact : Fact) → stage ≡ staged log (spelled_fact fact) → log ≡ log_of journal → stage.payload ≡ fact_payload fact → HasGroup stage.payload stage old new → HasGroup (fact_payload fact) (log_of journal) old new
made_of old new log stage journal fact waits is payload made =
    let of_fact : HasGroup (fact_payload fact) stage old new = subst (λ (p : List ℕ). HasGroup p stage old new) payload made in
    let of_staged : HasGroup (fact_payload fact) (staged log (spelled_fact fact)) old new = subst (λ (l : LogView). HasGroup (fact_payload fact) l old new) waits of_fact in
    subst (λ (l : LogView). HasGroup (fact_payload fact) l old new) is (record { shown = of_staged.shown; whole = of_staged.whole })

pub changes_of : {S : Type 0} (g : Ghosts S) (stage log : LogView) (journal : JournalView) (fact : Fact) (failed : Type 0) (site after : S) → stage ≡ staged log (spelled_fact fact) → log ≡ log_of journal → stage.payload ≡ fact_payload fact
    → ChangesFile g stage.file (WholeOrNotFrom stage.start stage.payload) failed site after → ChangesFile g Journal (WholeOrNotFrom journal.start (fact_payload fact)) failed site after
changes_of g stage log journal fact failed site after waits is payload changes =
    let file : stage.file ≡ Journal = ap (λ (l : LogView). l.file) (waits ∙ ap (λ (l : LogView). staged l (spelled_fact fact)) is) in
    let start : stage.start ≡ journal.start = ap (λ (l : LogView). l.start) (waits ∙ ap (λ (l : LogView). staged l (spelled_fact fact)) is) in
    subst (λ f. ChangesFile g f (WholeOrNotFrom journal.start (fact_payload fact)) failed site after) file (
    subst (λ n. ChangesFile g stage.file (WholeOrNotFrom n (fact_payload fact)) failed site after) start (
    subst (λ (p : List ℕ). ChangesFile g stage.file (WholeOrNotFrom stage.start p) failed site after) payload changes))

-- a payload that spells a fact is the fact's alone
pub spelled_by : (fact : Fact) (entries : List (List ℕ)) (payload : List ℕ) → is_fact fact ≡ true → payload ≡ flat_map entry entries → payload ≡ fact_payload fact → entries ≡ spelled_fact fact ∷ []
spelled_by fact entries payload limits is by =
    entries_alone entries (spelled_fact fact ∷ []) (omega (arith, ap length (one_entry (spelled_fact fact)), length-entry (spelled_fact fact), (fact-bounded fact limits).1)) (sym is ∙ by ∙ sym (one_entry (spelled_fact fact)))

pub one_some : (fact : Fact) → is_fact fact ≡ true → All (λ e. 1 ≤ length e) (spelled_fact fact ∷ [])
one_some fact limits = All-push (λ e. 1 ≤ length e) [] (spelled_fact fact) (All-nil (λ e. 1 ≤ length e)) (fact-bounded fact limits).0

-- the next group is a fact
pub next_fact : (file : List ℕ) (old new : LogView) (journal : JournalView) (at : ℕ) (entries : List Entry) (fact : Fact) → journal_of old ≡ journal → NextGroup file old new at entries → is_fact fact ≡ true → map (λ e. e.bytes) entries ≡ spelled_fact fact ∷ []
    → NextFact file journal (journal_of new) (at + 5) fact
next_fact file old new journal at entries fact seen group limits one =
    let payload : group.payload ≡ fact_payload fact = group.spelled.spelled.0 ∙ ap (λ (l : List (List ℕ)). flat_map entry l) one ∙ one_entry (spelled_fact fact) in
    let place : old.place + 5 + length group.payload ≡ old.place + 9 + length (spelled_fact fact) = omega (arith, ap length payload, length-payload fact) in
    subst (λ (j : JournalView). NextFact file j (journal_of new) (at + 5) fact) seen (record {
      here = ap (λ n. n + 5) group.here;
      limits = limits;
      next = group.next ∙ ap (λ (l : List ℕ). l ∷ groups_at file new.place) payload;
      journal = ap journal_of group.log ∙ ap (λ n. record (journal_of old) { place = n }) place;
    })

-- the next group is no list of entries
pub damaged_group : (file : List ℕ) (old : LogView) (journal : JournalView) (at : ℕ) → journal_of old ≡ journal → DamagedGroup file old.place at → DamagedFact file journal.place at
damaged_group file old journal at seen damage = subst (λ (j : JournalView). DamagedFact file j.place at) seen (record {
  payload = damage.payload;
  next = damage.next;
  no_fact = λ fact limits is. damage.stops.none (spelled_fact fact ∷ []) (is ∙ sym (one_entry (spelled_fact fact)), one_some fact limits);
  there = inl damage.stops;
})

-- the next group is entries, and no fact
pub no_fact : (file : List ℕ) (old new : LogView) (journal : JournalView) (at : ℕ) (entries : List Entry) → journal_of old ≡ journal → NextGroup file old new at entries
    → ((fact : Fact) → is_fact fact ≡ true → map (λ e. e.bytes) entries ≢ spelled_fact fact ∷ []) → DamagedFact file journal.place (at + 5)
no_fact file old new journal at entries seen group none = subst (λ (j : JournalView). DamagedFact file j.place (at + 5)) seen (record {
  payload = group.payload;
  next = group.next ∙ ap (λ (l : LogView). group.payload ∷ groups_at file l.place) group.log;
  no_fact = λ fact limits is. none fact limits (spelled_by fact (map (λ e. e.bytes) entries) group.payload limits group.spelled.spelled.0 is);
  there = inr (map (λ e. e.bytes) entries, group.spelled.spelled, ap (λ n. n + 5) group.here);
})

-- bytes that begin with no spelling are no fact's only entry
pub not_begun : (entries : List Entry) (entry : Entry) (bytes : List ℕ) → entry ≡ get_or entries 0 entry → bytes ≡ entry.bytes → ((fact : Fact) (rest : List ℕ) → is_fact fact ≡ true → bytes ≢ spelled_fact fact ++ rest)
    → (fact : Fact) → is_fact fact ≡ true → map (λ e. e.bytes) entries ≢ spelled_fact fact ∷ []
not_begun [] entry bytes first is none fact limits all = absurd (omega (arith, ap length all))
not_begun (e ∷ entries) entry bytes first is none fact limits all =
    let head : e.bytes ≡ spelled_fact fact = cc in
    none fact [] limits (is ∙ ap (λ (x : Entry). x.bytes) first ∙ head ∙ sym (append-nil (spelled_fact fact)))

-- nor are bytes that begin with a shorter spelling
pub not_whole : (entries : List Entry) (entry : Entry) (bytes : List ℕ) (size : ℕ) (read : Fact) → entry ≡ get_or entries 0 entry → bytes ≡ entry.bytes → size ≤ length bytes → size ≢ length bytes → SpellsFact (take size bytes) read
    → (fact : Fact) → is_fact fact ≡ true → map (λ e. e.bytes) entries ≢ spelled_fact fact ∷ []
not_whole [] entry bytes size read first is within other spells fact limits all = absurd (omega (arith, ap length all))
not_whole (e ∷ entries) entry bytes size read first is within other spells fact limits all =
    let head : e.bytes ≡ spelled_fact fact = cc in
    let whole : bytes ≡ spelled_fact fact = is ∙ ap (λ (x : Entry). x.bytes) first ∙ head in
    let begins : spelled_fact read ++ drop size bytes ≡ spelled_fact fact ++ [] = ap (λ (l : List ℕ). l ++ drop size bytes) (sym spells.is) ∙ take-append-drop size bytes ∙ whole ∙ sym (append-nil (spelled_fact fact)) in
    let left : drop size bytes ≡ [] = (fact-free read fact (drop size bytes) [] spells.limits limits begins).1 in
    other (omega (arith, within, ap length left, length-drop size bytes))

-- where none was left, the entries that are left are those of the next group
pub filled_next : (file : List ℕ) (old mid : EntriesView) (at : ℕ) → old.left ≡ [] → Filled file old mid → FirstAt mid at → NextEntries file old mid
filled_next file old mid at none filled first =
    ⊎_elim (λ (same : mid ≡ old). absurd (omega (arith, ap (λ (v : EntriesView). length v.left) same, ap length none, ap length first.is))) (λ (next : NextEntries file old mid). next) filled

-- and the first of them stands behind the group's gate and length
pub first_at : (file : List ℕ) (old mid : EntriesView) (at : ℕ) → NextEntries file old mid → FirstAt mid at → old.log.place + 5 ≡ at
first_at file old mid at next first =
    let places : map (λ (e : Entry). e.at) (first.entry ∷ first.rest) ≡ offsets (old.log.place + 5) (map (λ (e : Entry). e.bytes) (first.entry ∷ first.rest))
    = subst (λ (l : List Entry). map (λ (e : Entry). e.at) l ≡ offsets (old.log.place + 5) (map (λ (e : Entry). e.bytes) l)) first.is next.group.spelled.placed in
    sym (first.here ∙ ap (λ (l : List ℕ). get_or l 0 0) places)

-- so the next group was read, and a loop to the end ends
pub further : (old mid : EntriesView) (at : ℕ) → old.left ≡ [] → FirstAt mid at → (mid ≡ old) ⊎ ((old.log.place < mid.log.place) × (mid.log.place ≤ 4611686018427387904) × (length mid.left < 18446744073709551616))
    → (old.log.place < mid.log.place) × (mid.log.place ≤ 4611686018427387904)
further old mid at none first on =
    ⊎_elim (λ (same : mid ≡ old). absurd (omega (arith, ap (λ (v : EntriesView). length v.left) same, ap length none, ap length first.is)))
    (λ (on : (old.log.place < mid.log.place) × (mid.log.place ≤ 4611686018427387904) × (length mid.left < 18446744073709551616)). (on.0, on.1)) on
