-- What an image spells and holds that finished attempts lead to.
use Rattle.std.proofs.Common.{◌≡◌, ◌∙◌, ◌||◌, inl, inr, ℕ, ◌==◌, List, [], ◌∷◌, ◌++◌, length, map, flat_map, take, true, false, Option, is_some, Bool, cond, refl, sym, ap, subst, append-nil, append_assoc}
use Rattle.std.specs.List.{AllByRecursion, list_all}
use Rattle.std.proofs.lemmas.Bool.{and_parts, and_from, eqb-true, or_left, or_right, eq-eqb}
use Rattle.std.proofs.lemmas.Grind.{flat_map-append}
use Rattle.std.proofs.lemmas.List.{map-append}
use Rattle.std.proofs.lemmas.List.Folds.{list_all-append}
use Rattle.qc_base.specs.Rows.{OutsideRows, put_row, set_row}
use Rattle.qc_base.specs.declared.fact.Fact.{Fact}
use Rattle.qc_base.specs.declared.log_line.LogLine.{LogLine}
use Rattle.qc_base.specs.declared.log_line.LogLine.TheVariants.{Opened, Registered, Written, Forgot, Done}
use Rattle.qc_base.specs.LogLines.{is_opened, unfinished}
use Rattle.qc_base.specs.Spelling.{is_attempt, is_id, is_line}
use Rattle.qc_site.specs.Image.{Image}
use Rattle.qc_frame.specs.Frame.{groups}
use Rattle.qc_frame.specs.Log.{SameLog}
use Rattle.crm_driver.specs.Puts.{RowPut, GoesByPut, GoesByPuts}
use Rattle.crm_driver.proofs.PutLaws.{Lacks}
use Rattle.crm_log.specs.Log.{SpellsLog, all_lines}
use Rattle.crm_log.proofs.Spells.{spells_more, spells_same}
use Rattle.crm_recovery.specs.Moments.{Finish, finish_of, GoesByFinish, GoesByFinishes, GoesByNext}
use Rattle.crm_recovery.specs.Settling.{done_group, done_groups, rows_after}
use Rattle.qc_machine.specs.Finishable.{is_among}
use Rattle.qc_machine.specs.History.{History, by_text, history_of}
use Rattle.qc_machine.specs.Sites.{log_header}
use Rattle.qc_machine.specs.Sound.{ended_in, is_log_of}
use Rattle.qc_machine.proofs.Images.{same-log}
use Rattle.qc_machine.proofs.LinesBehind.{legal-front}
use Rattle.qc_machine.proofs.PutRows.{puts-behind, same-put}
use Rattle.qc_machine.proofs.Unfinished.{unfinished-among}
use Rattle.qc_recovery.specs.Stands.{Spells}
use Rattle.qc_recovery.specs.Calls.{finishes_of, groups_done}
use Rattle.qc_recovery.proofs.PutAgain.{none-there}

-- the same groups behind the same headers spell the same

pub spells-logs : (d c : Image) (facts : List Fact) (log : List (List LogLine)) → SameLog d.journal c.journal → SameLog d.crm_log c.crm_log → Spells by_text d facts log → Spells by_text c facts log
spells-logs d c facts log journal lines s = record {
  headers = record { journal = journal.front ∙ s.headers.journal; log = lines.front ∙ s.headers.log };
  facts_spelled = record { groups = journal.same ∙ s.facts_spelled.groups; limits = s.facts_spelled.limits };
  legal = s.legal;
  lines_spelled = record { groups = lines.same ∙ s.lines_spelled.groups; limits = s.lines_spelled.limits };
  beside = s.beside;
}

same-file : (old new : List ℕ) → new ≡ old → SameLog old new
same-file old new is = subst (λ (file : List ℕ). SameLog old file) (sym is) (same-log old)

pub spells-here : (d c : Image) (facts : List Fact) (log : List (List LogLine)) → c.journal ≡ d.journal → c.crm_log ≡ d.crm_log → Spells by_text d facts log → Spells by_text c facts log
spells-here d c facts log journal lines s = spells-logs d c facts log (same-file d.journal c.journal journal) (same-file d.crm_log c.crm_log lines) s

-- puts leave the files

put-keeps : (rows : OutsideRows) (p : RowPut) (old new : Image) → GoesByPut rows p old new → (new.journal ≡ old.journal) × (new.crm_log ≡ old.crm_log)
put-keeps rows p old new (inl put) = (ap (λ (i : Image). i.journal) put, ap (λ (i : Image). i.crm_log) put)
put-keeps rows p old new (inr over) = (ap (λ (i : Image). i.journal) over.1, ap (λ (i : Image). i.crm_log) over.1)

pub puts-keep : (rows : OutsideRows) (puts : List RowPut) (old new : Image) → GoesByPuts rows puts old new → (new.journal ≡ old.journal) × (new.crm_log ≡ old.crm_log)
puts-keep rows [] old new is = (ap (λ (i : Image). i.journal) is, ap (λ (i : Image). i.crm_log) is)
puts-keep rows (p ∷ puts) old new by =
    let one = put-keeps rows p old by.0 by.1 in
    let all = puts-keep rows puts by.0 new by.2 in
    (all.0 ∙ one.0, all.1 ∙ one.1)

-- the journal stays
pub finishes-keep : (rows : OutsideRows) (fs : List Finish) (old new : Image) → GoesByFinishes rows fs old new → new.journal ≡ old.journal
finishes-keep rows [] old new is = ap (λ (i : Image). i.journal) is
finishes-keep rows (f ∷ fs) old new by =
    finishes-keep rows fs by.0 new by.2 ∙ ap (λ (i : Image). i.journal) by.1.done.is ∙ (puts-keep rows f.puts old by.1.put by.1.puts).0

next-keeps : (rows : OutsideRows) (left : List Finish) (old new : Image) → GoesByNext rows left old new → (new.journal ≡ old.journal) × SameLog old.crm_log new.crm_log
next-keeps rows [] old new is = (ap (λ (i : Image). i.journal) is, same-file old.crm_log new.crm_log (ap (λ (i : Image). i.crm_log) is))
next-keeps rows (f ∷ left) old new part =
    let puts = puts-keep rows part.made old part.put part.by in
    let step : SameLog part.put.crm_log part.undone.bytes = part.undone.by in
    let behind : SameLog part.put.crm_log new.crm_log = subst (λ (file : List ℕ). SameLog part.put.crm_log file) (sym (ap (λ (i : Image). i.crm_log) part.undone.is)) step in
    (ap (λ (i : Image). i.journal) part.undone.is ∙ puts.0, subst (λ (file : List ℕ). SameLog file new.crm_log) puts.1 behind)

-- a log has the lines Done of the attempts that were finished

record HasLines (image : Image) (header : List ℕ) (log : List (List LogLine)) : Type 0 where
  pub front : take 16 image.crm_log ≡ header
  pub lines : SpellsLog image.crm_log log

abbrev AllFit : List Finish → Type 0
AllFit fs = AllByRecursion (λ (f : Finish). is_attempt f.attempt ≡ true) fs

finish-adds : (rows : OutsideRows) (f : Finish) (old new : Image) (header : List ℕ) (log : List (List LogLine)) → is_attempt f.attempt ≡ true → GoesByFinish rows f old new → HasLines old header log → HasLines new header (log ++ done_group f.attempt ∷ [])
finish-adds rows f old new header log fits by had =
    let file : by.put.crm_log ≡ old.crm_log = (puts-keep rows f.puts old by.put by.puts).1 in
    let mid : HasLines by.put header log = record { front = ap (take 16) file ∙ had.front; lines = spells_same old.crm_log by.put.crm_log log (ap groups file) had.lines } in
    let bytes : new.crm_log ≡ by.done.bytes = ap (λ (i : Image). i.crm_log) by.done.is in
    record {
      front = ap (take 16) bytes ∙ by.done.by.front ∙ mid.front;
      lines = spells_more by.put.crm_log new.crm_log log (done_group f.attempt) (ap groups bytes ∙ by.done.by.more) (and_from (is_attempt f.attempt) true fits refl) mid.lines;
    }

finishes-add : (rows : OutsideRows) (fs : List Finish) (old new : Image) (header : List ℕ) (log : List (List LogLine)) → AllFit fs → GoesByFinishes rows fs old new → HasLines old header log → HasLines new header (log ++ groups_done fs)
finishes-add rows [] old new header log fit is had = subst (λ (l : List (List LogLine)). HasLines new header l) (sym (append-nil log)) (subst (λ (i : Image). HasLines i header log) (sym is) had)
finishes-add rows (f ∷ fs) old new header log fit by had =
    subst (λ (l : List (List LogLine)). HasLines new header l) (append_assoc log (done_group f.attempt ∷ []) (groups_done fs))
    (finishes-add rows fs by.0 new header (log ++ done_group f.attempt ∷ []) fit.1 by.2 (finish-adds rows f old by.0 header log fit.0 by.1 had))

-- each of them is a number of an attempt

opened-fits : (lines : List LogLine) (a : ℕ) → list_all is_line lines ≡ true → is_opened lines a ≡ true → is_attempt a ≡ true
opened-fits [] a fit here = absurd cc
opened-fits (Opened b id ∷ lines) a fit here = by (b == a) refl (opened-fits lines a parts.1)
  where
    parts : (is_line (Opened b id) ≡ true) × (list_all is_line lines ≡ true)
    parts = and_parts (is_line (Opened b id)) (list_all is_line lines) fit

    by : (e : Bool) → (b == a) ≡ e → (is_opened lines a ≡ true → is_attempt a ≡ true) → is_attempt a ≡ true
    by true e others = ap is_attempt (sym (eqb-true b a e)) ∙ (and_parts (is_attempt b) (is_id id) parts.0).0
    by false e others = others (sym (ap (λ (t : Bool). t || is_opened lines a) e) ∙ here)
opened-fits (Registered b name phases ∷ lines) a fit here = opened-fits lines a (and_parts (is_line (Registered b name phases)) (list_all is_line lines) fit).1 here
opened-fits (Written b name r ∷ lines) a fit here = opened-fits lines a (and_parts (is_line (Written b name r)) (list_all is_line lines) fit).1 here
opened-fits (Forgot b name seq ∷ lines) a fit here = opened-fits lines a (and_parts (is_line (Forgot b name seq)) (list_all is_line lines) fit).1 here
opened-fits (Done b ∷ lines) a fit here = opened-fits lines a (and_parts (is_line (Done b)) (list_all is_line lines) fit).1 here

each-fits : (f : ℕ → Finish) (ns : List ℕ) → ((n : ℕ) → (f n).attempt ≡ n) → ((n : ℕ) → is_among n ns ≡ true → is_attempt n ≡ true) → AllFit (map f ns)
each-fits f [] same fit = tt
each-fits f (n ∷ ns) same fit =
    (ap is_attempt (same n) ∙ fit n (or_left (n == n) (is_among n ns) (eq-eqb n n refl)), each-fits f ns same (λ m here. fit m (or_right (n == m) (is_among m ns) here)))

front-fits : (done left : List Finish) → AllFit (done ++ left) → AllFit done
front-fits [] left fit = tt
front-fits (f ∷ done) left fit = (fit.0, front-fits done left fit.1)

all-fit : (h : History) (lines : List LogLine) → is_log_of h lines ≡ true → list_all is_line lines ≡ true → AllFit (finishes_of h lines)
all-fit h lines legal limits =
    each-fits (finish_of h.catalogue (ended_in h) lines) (unfinished lines) (λ n. refl) (λ n here.
    opened-fits lines n limits (and_parts (is_opened lines n) _ (sym (unfinished-among h.catalogue (length h.messages) (ended_in h) lines legal n) ∙ here)).0)

all-limits : (log : List (List LogLine)) → list_all (list_all is_line) log ≡ true → list_all is_line (all_lines log) ≡ true
all-limits [] fit = refl
all-limits (lines ∷ log) fit =
    let parts = and_parts (list_all is_line lines) (list_all (list_all is_line) log) fit in
    list_all-append is_line lines (all_lines log) ∙ and_from (list_all is_line lines) _ parts.0 (all-limits log parts.1)

-- a log with the lines Done of a front of the unfinished attempts is legal

pub groups-all : (f : ℕ → Finish) (ns : List ℕ) → ((n : ℕ) → (f n).attempt ≡ n) → groups_done (map f ns) ≡ map done_group ns
groups-all f [] same = refl
groups-all f (n ∷ ns) same = λ i. done_group (same n i) ∷ groups-all f ns same i

pub front-legal : (h : History) (log : List (List LogLine)) (done left : List Finish) → is_log_of h (all_lines log ++ all_lines (done_groups (all_lines log))) ≡ true → finishes_of h (all_lines log) ≡ done ++ left → is_log_of h (all_lines (log ++ groups_done done)) ≡ true
front-legal h log done left whole split =
    let lines = all_lines log in
    let all : all_lines (done_groups lines) ≡ all_lines (groups_done done) ++ all_lines (groups_done left) =
    ap all_lines (sym (groups-all (finish_of h.catalogue (ended_in h) lines) (unfinished lines) (λ n. refl)) ∙ ap groups_done split ∙ map-append (λ (f : Finish). done_group f.attempt) done left)
    ∙ flat_map-append (λ (l : List LogLine). l) (groups_done done) (groups_done left) in
    ap (is_log_of h) (flat_map-append (λ (l : List LogLine). l) log (groups_done done))
    ∙ legal-front h.catalogue (length h.messages) (ended_in h) (lines ++ all_lines (groups_done done)) (all_lines (groups_done left))
    (ap (is_log_of h) (append_assoc lines (all_lines (groups_done done)) (all_lines (groups_done left)) ∙ sym (ap (λ (l : List LogLine). lines ++ l) all)) ∙ whole)

-- an image that is gone on by a front of the unfinished attempts
pub spells-front : (rows : OutsideRows) (was mid c : Image) (facts : List Fact) (log : List (List LogLine)) (done left : List Finish)
    → is_log_of (history_of by_text facts) (all_lines log ++ all_lines (done_groups (all_lines log))) ≡ true → finishes_of (history_of by_text facts) (all_lines log) ≡ done ++ left
    → GoesByFinishes rows done was mid → GoesByNext rows left mid c → Spells by_text was facts log → Spells by_text c facts (log ++ groups_done done)
spells-front rows was mid c facts log done left whole split by next s =
    let h = history_of by_text facts in
    let fit = front-fits done left (subst AllFit split (all-fit h (all_lines log) s.beside (all-limits log s.lines_spelled.limits))) in
    let added = finishes-add rows done was mid log_header log fit by (record { front = s.headers.log; lines = s.lines_spelled }) in
    let kept = next-keeps rows left mid c next in
    let journal : c.journal ≡ was.journal = kept.0 ∙ finishes-keep rows done was mid by in
    record {
      headers = record { journal = ap (take 16) journal ∙ s.headers.journal; log = kept.1.front ∙ added.front };
      facts_spelled = record { groups = ap groups journal ∙ s.facts_spelled.groups; limits = s.facts_spelled.limits };
      legal = s.legal;
      lines_spelled = spells_same mid.crm_log c.crm_log (log ++ groups_done done) kept.1.same added.lines;
      beside = front-legal h log done left whole split;
    }

-- outside rows

lacks-put : (rows held : OutsideRows) (p : RowPut) → Lacks rows held → Lacks rows (put_row p.resource p.key p.amount held)
lacks-put rows held p lacks r k none =
    none-there (put_row p.resource p.key p.amount held r k) (same-put p.resource p.key p.amount held r k ∙ ap is_some (lacks r k none))

pub lacks-puts : (rows held : OutsideRows) (puts : List RowPut) → Lacks rows held → Lacks rows (rows_after puts held)
lacks-puts rows held [] lacks = lacks
lacks-puts rows held (p ∷ puts) lacks = lacks-puts rows (put_row p.resource p.key p.amount held) puts (lacks-put rows held p lacks)

put-rows : (rows : OutsideRows) (p : RowPut) (old new : Image) → Lacks rows old.rows → GoesByPut rows p old new → new.rows ≡ put_row p.resource p.key p.amount old.rows
put-rows rows p old new lacks (inl put) = ap (λ (i : Image). i.rows) put
put-rows rows p old new lacks (inr over) =
    ap (λ (i : Image). i.rows) over.1
    ∙ sym (ap (λ (o : Option ℕ). cond (is_some o) (set_row p.resource p.key p.amount old.rows) old.rows) (lacks p.resource p.key over.0))

pub puts-rows : (rows : OutsideRows) (puts : List RowPut) (old new : Image) → Lacks rows old.rows → GoesByPuts rows puts old new → new.rows ≡ rows_after puts old.rows
puts-rows rows [] old new lacks is = ap (λ (i : Image). i.rows) is
puts-rows rows (p ∷ puts) old new lacks by =
    let one = put-rows rows p old by.0 lacks by.1 in
    puts-rows rows puts by.0 new (subst (Lacks rows) (sym one) (lacks-put rows old.rows p lacks)) by.2 ∙ ap (rows_after puts) one

-- what these attempts put
abbrev pub puts_in : List Finish → List RowPut
puts_in fs = flat_map (λ (f : Finish). f.puts) fs

pub finishes-rows : (rows : OutsideRows) (fs : List Finish) (old new : Image) → Lacks rows old.rows → GoesByFinishes rows fs old new → new.rows ≡ rows_after (puts_in fs) old.rows
finishes-rows rows [] old new lacks is = ap (λ (i : Image). i.rows) is
finishes-rows rows (f ∷ fs) old new lacks by =
    let one : by.0.rows ≡ rows_after f.puts old.rows = ap (λ (i : Image). i.rows) by.1.done.is ∙ puts-rows rows f.puts old by.1.put lacks by.1.puts in
    finishes-rows rows fs by.0 new (subst (Lacks rows) (sym one) (lacks-puts rows old.rows f.puts lacks)) by.2
    ∙ ap (rows_after (puts_in fs)) one ∙ sym (puts-behind f.puts (puts_in fs) old.rows)

pub all-puts-in : (f : ℕ → Finish) (ns : List ℕ) → puts_in (map f ns) ≡ flat_map (λ n. (f n).puts) ns
all-puts-in f [] = refl
all-puts-in f (n ∷ ns) = ap (λ (l : List RowPut). (f n).puts ++ l) (all-puts-in f ns)
