-- The end of an attempt. `g` has the members of the site's trait.
use Rattle.std.proofs.Common.{◌≡◌, ◌∙◌, ◌≤◌, ◌<◌, ◌+◌, ◌==◌, ◌&&◌, suc, ℕ, List, [], ◌∷◌, ◌++◌, length, map, max, Bool, true, false, not, cond, Result, Ok, Err, OnOk, refl, sym, ap, subst, arith, length-append, ne_eqb}
use Rattle.std.proofs.lemmas.Bool.{false≢true}
use Rattle.qc_base.specs.declared.log_line.LogLine.{LogLine}
use Rattle.qc_base.specs.declared.log_line.LogLine.TheVariants.{Done}
use Rattle.qc_base.specs.LogLines.{Registration, is_done, is_opened}
use Rattle.qc_site.specs.declared.site.Failed.{Failed}
use Rattle.qc_site.specs.declared.site.Site.{Ghosts}
use Rattle.qc_site.specs.declared.site.SiteFile.{SiteFile}
use Rattle.qc_site.specs.declared.site.SiteFile.TheVariants.{Journal, CrmLog, Snap}
use Rattle.qc_site.specs.Image.{Image, bytes_of, with_bytes}
use Rattle.qc_frame.specs.Calls.{LogStands, Forces}
use Rattle.qc_frame.specs.Gate.{with_group}
use Rattle.qc_frame.specs.Log.{LogView, forced}
use Rattle.qc_frame.proofs.Staged.{stands_still}
use Rattle.qc_entries.specs.Entries.{EntriesView}
use Rattle.crm_log.specs.Log.{IsLogOf, LinesWait, lines_payload}
use Rattle.crm_log.proofs.Spells.{some_wait}
use Rattle.crm_clerk.specs.Clerk.{ClerkView, finishing_lines}
use Rattle.crm_clerk.specs.Keeps.{is_begun}
use Rattle.crm_clerk.specs.Staging.{HasRoomFor, TakesRoom, staged_lines}
use Rattle.qc_machine.specs.LogAndRows.{LogAndRows, after_force, lines_of, with_lines}
use Rattle.qc_machine.specs.State.{after_group}
use Rattle.qc_machine.specs.Underway.{done_where}
use Rattle.qc_underway.specs.Compensators.{IsOrderly, registered_by}
use Rattle.qc_underway.specs.Phase.{EndsAttempt}
use Rattle.qc_underway.specs.Standing.{IsAt}
use Rattle.qc_machine.proofs.OwnLines.{own-opened}

-- whether the attempt was opened is told by its registrations
pub opened-by : (clerk : ClerkView) (pairs : List (List ℕ × ℕ)) → IsOrderly clerk → pairs ≡ map {B = List ℕ × ℕ} (λ (r : Registration). (r.resource, r.phases)) (registered_by clerk) → not (length pairs == 0) ≡ is_opened clerk.lines clerk.attempt
opened-by clerk pairs so is = ap (λ (l : List (List ℕ × ℕ)). not (length l == 0)) is ∙ by (registered_by clerk) ∙ sym so.opened
  where
    by : (rs : List Registration) → not (length (map {B = List ℕ × ℕ} (λ (r : Registration). (r.resource, r.phases)) rs) == 0) ≡ is_begun rs
    by [] = refl
    by (r ∷ rs) =
        let pairs : List (List ℕ × ℕ) = map {B = List ℕ × ℕ} (λ (r : Registration). (r.resource, r.phases)) rs in
        ap not (ne_eqb (suc (length pairs)) 0 (λ (e : suc (length pairs) ≡ 0). absurd (omega (arith, e))))

-- Done is one line
pub one-line : (clerk : ClerkView) (log : EntriesView) → HasRoomFor 1 log → HasRoomFor (length (finishing_lines clerk)) log
one-line clerk log has = by (is_opened clerk.lines clerk.attempt && not (is_done clerk.lines clerk.attempt))
  where
    by : (b : Bool) → HasRoomFor (length (cond b (Done clerk.attempt ∷ []) [])) log
    by true = has
    by false = record { ended = has.ended; room = omega (arith, has.room); fits = omega (arith, has.fits) }

-- what waits is a group
forced-some : (o : LogAndRows) → 1 ≤ length o.staged
    → after_force o ≡ record o { groups = o.groups ++ o.staged ∷ []; staged = []; log = after_group (length (lines_payload o.staged)) o.log }
forced-some o some = by o.staged some
  where
    moved : LogAndRows
    moved = record o { groups = o.groups ++ o.staged ∷ []; staged = []; log = after_group (length (lines_payload o.staged)) o.log }

    by : (l : List LogLine) → 1 ≤ length l → elim l [ [] ↦ o | line ∷ lines ↦ moved ] ≡ moved
    by [] none = absurd (omega (arith, none))
    by (line ∷ lines) some = refl

same-rows : (file : SiteFile) (bytes : List ℕ) (image : Image) → (with_bytes file bytes image).rows ≡ image.rows
same-rows Journal bytes image = refl
same-rows CrmLog bytes image = refl
same-rows Snap bytes image = refl

module _ {S : Type 0} (g : Ghosts S) where
  pub stands-taken : (n : ℕ) (log later : EntriesView) (site : S) → TakesRoom n log later → LogStands g log.log site → LogStands g later.log site
  stands-taken n log later site takes stood =
      stands_still g.told (g.shown site) (g.may_leave site) log.log later.log later.log.payload later.log.spare (ap (λ (e : EntriesView). e.log) takes.same) stood

  pub not-opened : (clerk : ClerkView) (log : EntriesView) (site : S) → is_opened clerk.lines clerk.attempt ≡ false → LogStands g log.log site → EndsAttempt g clerk (Ok (tt {0})) log site log site
  not-opened clerk log site none stood = record {
    nothing = λ still. (refl, refl, refl);
    shown = λ told o u.
        let a = clerk.attempt in
        let is : is_opened (lines_of o) a ≡ false = sym (own-opened a (lines_of o)) ∙ ap (λ (l : List LogLine). is_opened l a) (sym u.own.lines) ∙ none in
        subst (λ (b : Bool). IsAt (g.shown site) log (done_where b a o)) (sym is) u.site;
    forces = λ opened. absurd (false≢true (sym none ∙ opened));
    stands = stood;
    cause = record { no_fewer = omega arith; cause = λ failed. absurd (false≢true failed) };
  }

  -- the log and the rows, once what waited behind an attempt's Done is a group
  at-done : (o : LogAndRows) (a : ℕ) (log staged later : EntriesView) (shown now : Image) (n : ℕ) → IsAt shown log o → TakesRoom n log staged → LinesWait staged (o.staged ++ Done a ∷ []) → later.log ≡ forced staged.log
      → now ≡ with_bytes staged.log.file (with_group (bytes_of staged.log.file shown) staged.log.place staged.log.payload) shown → IsLogOf now (o.groups ++ (o.staged ++ Done a ∷ []) ∷ []) → IsAt now later (done_where true a o)
  at-done o a log staged later shown now n at takes wait moved is spelled =
      let o' : LogAndRows = with_lines (Done a ∷ []) o in
      let place : staged.log.place ≡ o.log.gate = ap (λ (e : EntriesView). e.log.place) takes.same ∙ at.gate in
      let size : staged.log.length ≡ o.log.size = ap (λ (e : EntriesView). e.log.length) takes.same ∙ at.size in
      let count : length staged.log.payload ≡ length (lines_payload (o.staged ++ Done a ∷ [])) = ap length wait.payload in
      let gates : staged.log.place + 5 + length staged.log.payload ≡ o.log.gate + 5 + length (lines_payload (o.staged ++ Done a ∷ [])) = omega (arith, place, count) in
      let ends : staged.log.place + 6 + length staged.log.payload ≡ o.log.gate + length (lines_payload (o.staged ++ Done a ∷ [])) + 6 = omega (arith, place, count) in
      subst (λ (x : LogAndRows). IsAt now later x) (sym (forced-some o' (omega (arith, length-append o.staged (Done a ∷ [])))))
      (record {
        spelled = spelled;
        waits = record { limits = refl; payload = ap (λ (l : LogView). l.payload) moved };
        rows = ap (λ (i : Image). i.rows) is ∙ same-rows staged.log.file (with_group (bytes_of staged.log.file shown) staged.log.place staged.log.payload) shown ∙ at.rows;
        gate = ap (λ (l : LogView). l.place) moved ∙ gates;
        size = ap (λ (l : LogView). l.length) moved ∙ (λ i. max (size i) (ends i));
      })

  pub ends-opened : (result : Result (Unit {0}) Failed) (clerk : ClerkView) (log staged later : EntriesView) (site after : S) → is_opened clerk.lines clerk.attempt ≡ true → staged ≡ staged_lines log (finishing_lines clerk) → TakesRoom (length (finishing_lines clerk)) log staged
      → ((waiting : List LogLine) → LinesWait log waiting → LinesWait staged (waiting ++ finishing_lines clerk)) → Forces g {A = Unit {0}} {E = Failed} result staged.log site later.log after
      → (g.told → (groups : List (List LogLine)) (lines : List LogLine) → LinesWait staged lines → 1 ≤ length lines → IsLogOf (g.shown site) groups → OnOk result (IsLogOf (g.shown after) (groups ++ lines ∷ [])))
      → EndsAttempt g clerk result log site later after
  ends-opened (Err e) clerk log staged later site after opened lines takes waits forces spells = record {
    nothing = λ none. absurd (false≢true (sym none ∙ opened));
    shown = λ told o u. tt;
    forces = λ told. subst (λ (v : EntriesView). Forces g {A = Unit {0}} {E = Failed} (Err e) v.log site later.log after) lines forces;
    stands = tt;
    cause = forces.makes.changes.cause;
  }
  ends-opened (Ok u) clerk log staged later site after opened lines takes waits forces spells = record {
    nothing = λ none. absurd (false≢true (sym none ∙ opened));
    shown = λ told o way.
        let a = clerk.attempt in
        let is : is_opened (lines_of o) a ≡ true = sym (own-opened a (lines_of o)) ∙ ap (λ (l : List LogLine). is_opened l a) (sym way.own.lines) ∙ opened in
        let done : finishing_lines clerk ≡ Done a ∷ [] = λ i. cond (opened i && not (way.own.going i)) (Done a ∷ []) [] in
        let wait : LinesWait staged (o.staged ++ Done a ∷ []) = subst (λ (l : List LogLine). LinesWait staged (o.staged ++ l)) done (waits o.staged way.site.waits) in
        let any : 1 ≤ length (o.staged ++ Done a ∷ []) = omega (arith, length-append o.staged (Done a ∷ [])) in
        let some : 0 < length staged.log.payload = some_wait staged (o.staged ++ Done a ∷ []) wait any in
        subst (λ (b : Bool). IsAt (g.shown after) later (done_where b a o)) (sym is)
        (at-done o a log staged later (g.shown site) (g.shown after) (length (finishing_lines clerk)) way.site takes wait (forces.moved some) (forces.made told some).shown (spells told o.groups (o.staged ++ Done a ∷ []) wait any way.site.spelled));
    forces = λ told. subst (λ (v : EntriesView). Forces g {A = Unit {0}} {E = Failed} (Ok u) v.log site later.log after) lines forces;
    stands = forces.makes.stands;
    cause = forces.makes.changes.cause;
  }
