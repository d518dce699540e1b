-- Images that stand for a history keep it while a site is recovered.
use Rattle.std.proofs.Common.{◌≡◌, ◌∙◌, inl, inr, List, [], ◌∷◌, ◌++◌, is_some, refl, sym, ap, subst, append_assoc, append-nil}
use Rattle.std.proofs.lemmas.Grind.{flat_map-append}
use Rattle.qc_base.specs.Rows.{OutsideRows}
use Rattle.qc_base.specs.declared.fact.Fact.{Fact}
use Rattle.qc_base.specs.declared.log_line.LogLine.{LogLine}
use Rattle.qc_base.specs.LogLines.{unfinished}
use Rattle.qc_site.specs.Disk.{Images}
use Rattle.qc_site.specs.Image.{Image}
use Rattle.crm_driver.specs.Puts.{RowPut}
use Rattle.crm_driver.proofs.PutLaws.{Lacks}
use Rattle.crm_log.specs.Log.{all_lines}
use Rattle.crm_recovery.specs.Moments.{Finish, finish_of, GoesByNext}
use Rattle.crm_recovery.specs.Settling.{done_groups, rows_after}
use Rattle.qc_machine.specs.History.{History, by_text, history_of}
use Rattle.qc_machine.specs.Sites.{LeavesSame, SameSite}
use Rattle.qc_machine.specs.Sound.{ended_in, is_log_of, IsSound}
use Rattle.qc_machine.proofs.PutRows.{sound-settled, sound-there}
use Rattle.qc_recovery.specs.Stands.{AreKept, IsRecovered, Spells, StandsFor}
use Rattle.qc_recovery.specs.Calls.{LeavesBegun, LeavesKept, LeavesRecovered, groups_done}
use Rattle.qc_recovery.proofs.Finished.{finishes-rows, groups-all, lacks-puts, puts-rows, puts_in, spells-logs}
use Rattle.qc_recovery.proofs.LinesAlone.{log-one}
use Rattle.qc_recovery.proofs.OpeningFacts.{facts-one}
use Rattle.qc_recovery.proofs.PutAgain.{none-there}
use Rattle.qc_recovery.proofs.Stopped.{sound-stopped}

-- the same groups and rows stand for the same history
pub stands-same : (d c : Image) (facts : List Fact) → SameSite d c → StandsFor by_text d facts → StandsFor by_text c facts
stands-same d c facts same s = record {
  log = s.log;
  spells = spells-logs d c facts s.log same.journal same.others.log s.spells;
  sound = subst (λ (rows : OutsideRows). IsSound (history_of by_text facts) (all_lines s.log) rows) (sym same.others.rows) s.sound;
}

-- an image stands for the facts that it spells alone, and its lines are those that it spells

pub own-facts : (image : Image) (facts own : List Fact) (log : List (List LogLine)) → Spells by_text image facts log → StandsFor by_text image own → own ≡ facts
own-facts image facts own log spells stands =
    let mine = spells.facts_spelled in
    let other = stands.spells.facts_spelled in
    facts-one own facts other.limits mine.limits (sym other.groups ∙ mine.groups)

pub own-sound : (image : Image) (facts own : List Fact) (log : List (List LogLine)) → Spells by_text image facts log → StandsFor by_text image own → IsSound (history_of by_text facts) (all_lines log) image.rows
own-sound image facts own log spells stands =
    let lines = log-one image.crm_log stands.log log stands.spells.lines_spelled spells.lines_spelled in
    subst (λ (l : List (List LogLine)). IsSound (history_of by_text facts) (all_lines l) image.rows) lines
    (subst (λ (fs : List Fact). IsSound (history_of by_text fs) (all_lines stands.log) image.rows) (own-facts image facts own log spells stands) stands.sound)

-- sound sites of one history have the same rows
same-there : (h : History) (lines more : List LogLine) (rows others : OutsideRows) → IsSound h lines rows → IsSound h more others → Lacks rows others
same-there h lines more rows others one other r k none =
    none-there (others r k) (sound-there h more others other r k ∙ sym (sound-there h lines rows one r k) ∙ ap is_some none)

-- the first of the attempts that are left may have begun

record HasBegun (left : List Finish) (mid now : OutsideRows) : Type 0 where
  made : List RowPut
  more : List RowPut
  split : puts_in left ≡ made ++ more
  is : now ≡ rows_after made mid

has-begun : (rows : OutsideRows) (left : List Finish) (mid c : Image) → Lacks rows mid.rows → GoesByNext rows left mid c → HasBegun left mid.rows c.rows
has-begun rows [] mid c lacks is = record { made = []; more = []; split = refl; is = ap (λ (i : Image). i.rows) is }
has-begun rows (f ∷ left) mid c lacks part = record {
  made = part.made;
  more = part.left ++ puts_in left;
  split = ap (λ (l : List RowPut). l ++ puts_in left) part.split ∙ append_assoc part.made part.left (puts_in left);
  is = ap (λ (i : Image). i.rows) part.undone.is ∙ puts-rows rows part.made mid part.put lacks part.by;
}

module _ (shown : Image) (before : Images) (all : AreKept before) (here : before shown) (c : Image) (begun : LeavesBegun shown before c) where
  abbrev h : History
  h = history_of by_text begun.facts

  abbrev lines : List LogLine
  lines = all_lines begun.log

  -- the image from which the attempts were finished
  from : StandsFor by_text begun.left.was (all begun.left.there.left.was begun.left.there.left.there).0
  from =
      let left = begun.left.there.left in
      stands-same left.was begun.left.was (all left.was left.there).0 left.same (all left.was left.there).1

  pub sound-begun : IsSound h (all_lines (begun.log ++ groups_done begun.left.done)) c.rows
  sound-begun =
      let was = begun.left.was in
      let sound = own-sound was begun.facts (all begun.left.there.left.was begun.left.there.left.there).0 begun.log begun.left.there.spells from in
      let first = own-sound shown begun.facts (all shown here).0 begun.log begun.spells (all shown here).1 in
      let lacks : Lacks shown.rows was.rows = same-there h lines lines shown.rows was.rows first sound in
      let mid : begun.left.mid.rows ≡ rows_after (puts_in begun.left.done) was.rows = finishes-rows shown.rows begun.left.done was begun.left.mid lacks begun.left.whole in
      let next = has-begun shown.rows begun.left.left begun.left.mid c (subst (Lacks shown.rows) (sym mid) (lacks-puts shown.rows was.rows (puts_in begun.left.done) lacks)) begun.left.part in
      let joined : all_lines (begun.log ++ groups_done begun.left.done) ≡ lines ++ all_lines (groups_done begun.left.done) = flat_map-append (λ (l : List LogLine). l) begun.log (groups_done begun.left.done) in
      subst (λ (l : List LogLine). IsSound h l c.rows) (sym joined)
      (sound-stopped h lines begun.left.done begun.left.left begun.spells.beside (ap (is_log_of h) (sym joined) ∙ begun.now.beside) begun.left.split next.made next.more was.rows c.rows next.split (next.is ∙ ap (rows_after next.made) mid) sound)

  begun-kept : LeavesKept before c
  begun-kept =
      let left = begun.left.there.left in
      let own = all left.was left.there in
      record {
        was = left.was;
        there = left.there;
        facts = begun.facts;
        stood = subst (λ (fs : List Fact). StandsFor by_text left.was fs) (own-facts begun.left.was begun.facts own.0 begun.log begun.left.there.spells from) own.1;
        stands = record { log = begun.log ++ groups_done begun.left.done; spells = begun.now; sound = sound-begun };
      }

  -- all attempts are finished
  pub begun-recovered : begun.left.left ≡ [] → ((lines : List LogLine) → unfinished (lines ++ all_lines (done_groups lines)) ≡ []) → (own : List Fact) → StandsFor by_text shown own → IsRecovered c own
  begun-recovered none law own stands =
      let groups : groups_done begun.left.done ≡ done_groups lines
      = ap groups_done (sym (append-nil begun.left.done) ∙ ap (λ (l : List Finish). begun.left.done ++ l) (sym none) ∙ sym begun.left.split) ∙ groups-all (finish_of h.catalogue (ended_in h) lines) (unfinished lines) (λ n. refl) in
      let finished : unfinished (all_lines (begun.log ++ groups_done begun.left.done)) ≡ []
      = ap unfinished (flat_map-append (λ (l : List LogLine). l) begun.log (groups_done begun.left.done) ∙ ap (λ (l : List (List LogLine)). lines ++ all_lines l) groups) ∙ law lines in
      subst (λ (fs : List Fact). IsRecovered c fs) (sym (own-facts shown begun.facts own begun.log begun.spells stands))
      (record {
        stands = record { log = begun.log ++ groups_done begun.left.done; spells = begun.now; sound = sound-begun };
        finished = finished;
        settled = sound-settled h (all_lines (begun.log ++ groups_done begun.left.done)) c.rows sound-begun finished;
      })

pub same-kept : (before : Images) → AreKept before → (c : Image) → LeavesSame before c → LeavesKept before c
same-kept before all c left =
    let own = all left.was left.there in
    record { was = left.was; there = left.there; facts = own.0; stood = own.1; stands = stands-same left.was c own.0 left.same own.1 }

pub recovered-kept : (shown : Image) (before : Images) → AreKept before → before shown → (c : Image) → LeavesRecovered shown before c → LeavesKept before c
recovered-kept shown before all here c (inl left) = same-kept before all c left
recovered-kept shown before all here c (inr begun) = begun-kept shown before all here c begun
