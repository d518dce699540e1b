-- Records that are forgotten, one after another: what these lines say, and what is left to forget.
use Rattle.std.proofs.Common.{◌≡◌, ◌∙◌, ◌≤◌, ◌<◌, ◌+◌, ◌-◌, ◌==◌, ◌&&◌, ◌||◌, ℕ, List, [], ◌∷◌, ◌++◌, length, map, filter, filter_map, Bool, true, false, not, cond, bytes_eq, refl, sym, ap, subst, arith, append_assoc, append-nil, length-append, eqb-true, eq-eqb, ne_eqb}
use Rattle.std.specs.List.{list_any, list_all}
use Rattle.std.proofs.lemmas.Bool.{and_parts, and_from, false≢true}
use Rattle.std.proofs.Math.Bool.{or-false}
use Rattle.std.proofs.lemmas.List.Elements.{filter-append, filter_map-append}
use Rattle.std.proofs.lemmas.List.Folds.{list_any-append, list_all-append}
use Rattle.qc_base.specs.declared.log_line.LogRecord.{LogRecord}
use Rattle.qc_base.specs.declared.log_line.LogLine.{LogLine}
use Rattle.qc_base.specs.declared.log_line.LogLine.TheVariants.{Opened, Registered, Written, Forgot, Done}
use Rattle.qc_base.specs.LogLines.{opened_by, registered_by, written_by, forgets_entry, is_done_line, is_opened, is_done, registrations, entries, of_resource, unforgotten}
use Rattle.qc_entries.specs.Entries.{EntriesView}
use Rattle.qc_site.specs.Image.{Image}
use Rattle.crm_log.specs.Log.{LinesWait, all_lines}
use Rattle.crm_clerk.specs.Calls.{HasStaged}
use Rattle.crm_clerk.specs.Clerk.{ClerkView, records_in, with_lines}
use Rattle.crm_clerk.specs.Keeps.{are_numbered, are_distinct, is_begun}
use Rattle.crm_clerk.specs.Staging.{HasRoomFor, TakesRoom, staged_lines}
use Rattle.crm_clerk.proofs.Rooms.{staged-append, takes-none, takes-on}
use Rattle.crm_clerk.proofs.Said.{is_named, unforgotten-those, forgot-records, forgot-named}
use Rattle.qc_machine.specs.LogAndRows.{LogAndRows, lines_of, with_lines as with_more}
use Rattle.qc_underway.specs.Compensators.{IsOrderly, records_of}
use Rattle.qc_machine.specs.OwnLines.{is_own, own_lines}
use Rattle.qc_underway.specs.Standing.{IsClerkOf, IsUnderway}
use Rattle.qc_underway.specs.Votes.{CanForget, forgot_all}

-- a line that forgets a record of the attempt
abbrev pub is_forgot : ℕ → LogLine → Bool
is_forgot attempt (Forgot a resource seq) = a == attempt
is_forgot attempt _ = false

abbrev pub AreForgot : ℕ → List LogLine → Type 0
AreForgot attempt more = list_all (is_forgot attempt) more ≡ true

-- they say nothing else
pub record SaysForgot (attempt : ℕ) (more : List LogLine) : Type 0 where
  pub registered : filter_map (registered_by attempt) more ≡ []
  pub written : filter_map (written_by attempt) more ≡ []
  pub opened : filter_map opened_by more ≡ []
  pub done : list_any (is_done_line attempt) more ≡ false
  pub own : own_lines attempt more ≡ more

pub says-forgot : (attempt : ℕ) (more : List LogLine) → AreForgot attempt more → SaysForgot attempt more
says-forgot attempt [] all = record { registered = refl; written = refl; opened = refl; done = refl; own = refl }
says-forgot attempt (Opened a id ∷ more) all = absurd (false≢true all)
says-forgot attempt (Registered a resource phases ∷ more) all = absurd (false≢true all)
says-forgot attempt (Written a resource r ∷ more) all = absurd (false≢true all)
says-forgot attempt (Done a ∷ more) all = absurd (false≢true all)
says-forgot attempt (Forgot a resource seq ∷ more) all =
    let both = and_parts (a == attempt) (list_all (is_forgot attempt) more) all in
    let rest = says-forgot attempt more both.1 in
    let line : LogLine = Forgot a resource seq in
    record {
      registered = rest.registered;
      written = rest.written;
      opened = rest.opened;
      done = rest.done;
      own = ap (λ (b : Bool). cond b (line ∷ own_lines attempt more) (own_lines attempt more)) both.0 ∙ ap (λ (l : List LogLine). line ∷ l) rest.own;
    }

pub all-forgot : (attempt : ℕ) (resource : List ℕ) (seqs : List ℕ) → AreForgot attempt (forgot_all attempt resource seqs)
all-forgot attempt resource [] = refl
all-forgot attempt resource (n ∷ seqs) = and_from (attempt == attempt) (list_all (is_forgot attempt) (forgot_all attempt resource seqs)) (same attempt) (all-forgot attempt resource seqs)
  where
    same : (n : ℕ) → (n == n) ≡ true
    same n = eq-eqb n n refl

pub more-forgot : (attempt : ℕ) (xs ys : List LogLine) → AreForgot attempt xs → AreForgot attempt ys → AreForgot attempt (xs ++ ys)
more-forgot attempt xs ys one other = list_all-append (is_forgot attempt) xs ys ∙ (λ i. one i && other i)

-- numbers, and the lines of records that have them
pub by-numbers : (attempt : ℕ) (resource : List ℕ) (rs : List LogRecord) → forgot_all attempt resource (map (λ (r : LogRecord). r.seq) rs) ≡ map (λ (r : LogRecord). Forgot attempt resource r.seq) rs
by-numbers attempt resource [] = refl
by-numbers attempt resource (r ∷ rs) = ap (λ (l : List LogLine). Forgot attempt resource r.seq ∷ l) (by-numbers attempt resource rs)

-- what is said behind them

module _ (attempt : ℕ) (lines more : List LogLine) (all : AreForgot attempt more) where
  says : SaysForgot attempt more
  says = says-forgot attempt more all

  pub behind-registered : registrations (lines ++ more) attempt ≡ registrations lines attempt
  behind-registered = filter_map-append (registered_by attempt) lines more ∙ ap (λ l. registrations lines attempt ++ l) says.registered ∙ append-nil (registrations lines attempt)

  behind-entries : entries (lines ++ more) attempt ≡ entries lines attempt
  behind-entries = filter_map-append (written_by attempt) lines more ∙ ap (λ l. entries lines attempt ++ l) says.written ∙ append-nil (entries lines attempt)

  behind-opened : is_opened (lines ++ more) attempt ≡ is_opened lines attempt
  behind-opened = ap (list_any (λ n. n == attempt)) (filter_map-append opened_by lines more ∙ ap (λ l. filter_map opened_by lines ++ l) says.opened ∙ append-nil (filter_map opened_by lines))

  behind-done : is_done (lines ++ more) attempt ≡ is_done lines attempt
  behind-done = list_any-append (is_done_line attempt) lines more ∙ ap (λ b. is_done lines attempt || b) says.done ∙ or-false (is_done lines attempt)

  behind-own : own_lines attempt (lines ++ more) ≡ own_lines attempt lines ++ more
  behind-own = filter-append (is_own attempt) lines more ∙ ap (λ l. own_lines attempt lines ++ l) says.own

  behind-records : (resource : List ℕ) → records_in (lines ++ more) attempt resource ≡ records_in lines attempt resource
  behind-records resource = ap (of_resource resource) behind-entries

fewer-left : (gone more : ℕ → Bool) (rs : List LogRecord) → length (filter (λ (r : LogRecord). not (gone r.seq || more r.seq)) rs) ≤ length (filter (λ (r : LogRecord). not (gone r.seq)) rs)
fewer-left gone more [] = omega arith
fewer-left gone more (r ∷ rs) = by (gone r.seq) (more r.seq) (fewer-left gone more rs)
  where
    xs : List LogRecord
    xs = filter (λ (r : LogRecord). not (gone r.seq || more r.seq)) rs

    ys : List LogRecord
    ys = filter (λ (r : LogRecord). not (gone r.seq)) rs

    by : (a b : Bool) → length xs ≤ length ys → length (cond (not (a || b)) (r ∷ xs) xs) ≤ length (cond (not a) (r ∷ ys) ys)
    by true b le = le
    by false true le = omega (arith, le)
    by false false le = omega (arith, le)

-- no more records are left behind them
pub fewer-behind : (attempt : ℕ) (lines more : List LogLine) (resource : List ℕ) → AreForgot attempt more → length (unforgotten (lines ++ more) attempt resource) ≤ length (unforgotten lines attempt resource)
fewer-behind attempt lines more resource all =
    let rs = records_in lines attempt resource in
    let gone : ℕ → Bool = is_named lines attempt resource in
    let also : ℕ → Bool = is_named more attempt resource in
    let now : unforgotten (lines ++ more) attempt resource ≡ filter (λ (r : LogRecord). not (gone r.seq || also r.seq)) rs =
    unforgotten-those (lines ++ more) attempt resource
    ∙ (λ i. filter (λ (r : LogRecord). not (list_any-append (forgets_entry attempt resource r.seq) lines more i)) (behind-records attempt lines more all resource i)) in
    let was : unforgotten lines attempt resource ≡ filter (λ (r : LogRecord). not (gone r.seq)) rs = unforgotten-those lines attempt resource in
    omega (arith, ap length now, ap length was, fewer-left gone also rs)

-- a clerk stays in order
pub orderly-behind : (clerk new : ClerkView) (more : List LogLine) → IsOrderly clerk → AreForgot clerk.attempt more → new ≡ with_lines 0 more clerk → IsOrderly new
orderly-behind clerk new more so all is =
    let a = clerk.attempt in
    let regs = behind-registered a clerk.lines more all in
    subst (λ (v : ClerkView). IsOrderly v) (sym is) (record {
      opened = behind-opened a clerk.lines more all ∙ so.opened ∙ sym (ap is_begun regs);
      distinct = ap are_distinct regs ∙ so.distinct;
      numbered = λ resource. ap (are_numbered 1) (behind-records a clerk.lines more all resource) ∙ so.numbered resource;
    })

pub clerk-behind : (clerk new : ClerkView) (o : LogAndRows) (more : List LogLine) → IsClerkOf clerk o → AreForgot clerk.attempt more → new ≡ with_lines 0 more clerk → IsClerkOf new (with_more more o)
clerk-behind clerk new o more own all is =
    let a = clerk.attempt in
    subst (λ (v : ClerkView). IsClerkOf v (with_more more o)) (sym is) (record {
      lines = ap (λ (l : List LogLine). l ++ more) own.lines ∙ sym (behind-own a (lines_of o) more all) ∙ ap (own_lines a) (append_assoc (all_lines o.groups) o.staged more);
      going = behind-done a clerk.lines more all ∙ own.going;
    })

-- log, clerk and site stand for the machine's behind them
pub underway-behind : (shown : Image) (log later : EntriesView) (clerk new : ClerkView) (o : LogAndRows) (more : List LogLine) → IsUnderway shown log clerk o → AreForgot clerk.attempt more → HasStaged more 0 clerk log new later → IsUnderway shown later new (with_more more o)
underway-behind shown log later clerk new o more u all staged =
    record {
      site = record {
        spelled = u.site.spelled;
        waits = staged.waits o.staged u.site.waits;
        rows = u.site.rows;
        gate = ap (λ (v : EntriesView). v.log.place) staged.room.same ∙ u.site.gate;
        size = ap (λ (v : EntriesView). v.log.length) staged.room.same ∙ u.site.size;
      };
      own = clerk-behind clerk new o more u.own all staged.clerk;
    }

-- lines staged one after another

pub staged-none : (clerk : ClerkView) (log : EntriesView) → HasStaged [] 0 clerk log clerk log
staged-none clerk log =
    let lines : clerk.lines ≡ clerk.lines ++ [] = sym (append-nil clerk.lines) in
    let room : clerk.room ≡ clerk.room - 0 = omega arith in
    record {
      clerk = λ i. record clerk { lines = lines i; room = room i };
      log = refl;
      room = takes-none log;
      waits = λ before wait. subst (λ (l : List LogLine). LinesWait log l) (sym (append-nil before)) wait;
    }

pub staged-on : (xs ys : List LogLine) (clerk mid new : ClerkView) (log between later : EntriesView) → HasStaged xs 0 clerk log mid between → HasStaged ys 0 mid between new later → HasStaged (xs ++ ys) 0 clerk log new later
staged-on xs ys clerk mid new log between later first then =
    let lines : (clerk.lines ++ xs) ++ ys ≡ clerk.lines ++ (xs ++ ys) = append_assoc clerk.lines xs ys in
    let room : clerk.room - 0 - 0 ≡ clerk.room - 0 = omega arith in
    record {
      clerk = then.clerk ∙ ap (with_lines 0 ys) first.clerk ∙ (λ i. record clerk { lines = lines i; room = room i });
      log = then.log ∙ ap (λ (e : EntriesView). staged_lines e ys) first.log ∙ sym (staged-append log xs ys);
      room = subst (λ n. TakesRoom n log later) (sym (length-append xs ys)) (takes-on (length xs) (length ys) log between later first.room then.room);
      waits = λ before wait. subst (λ (l : List LogLine). LinesWait later l) (append_assoc before xs ys) (then.waits (before ++ xs) (first.waits before wait));
    }

-- what can be forgotten

there-still : (gone : ℕ → Bool) (b : Bool) (s n : ℕ) (rs : List LogRecord) → (s == n) ≡ false → list_any (λ (r : LogRecord). r.seq == n) (filter (λ (r : LogRecord). not (gone r.seq)) rs) ≡ true
    → list_any (λ (r : LogRecord). r.seq == n) (filter (λ (r : LogRecord). not (gone r.seq || (b && (s == r.seq)))) rs) ≡ true
there-still gone b s n [] apart there = there
there-still gone b s n (r ∷ rs) apart there =
    by (gone r.seq) (r.seq == n) refl (b && (s == r.seq)) refl there (there-still gone b s n rs apart)
  where
    has : List LogRecord → Bool
    has l = list_any (λ (x : LogRecord). x.seq == n) l

    was : List LogRecord
    was = filter (λ (x : LogRecord). not (gone x.seq)) rs

    now : List LogRecord
    now = filter (λ (x : LogRecord). not (gone x.seq || (b && (s == x.seq)))) rs

    none : (b : Bool) → (b && false) ≡ false
    none true = refl
    none false = refl

    by : (g e : Bool) → (r.seq == n) ≡ e → (d : Bool) → (b && (s == r.seq)) ≡ d → has (cond (not g) (r ∷ was) was) ≡ true → (has was ≡ true → has now ≡ true) → has (cond (not (g || d)) (r ∷ now) now) ≡ true
    by true e is d is_d found rest = rest found
    by false true is true is_d found rest =
        let no : (b && (s == r.seq)) ≡ false = ap (λ (x : ℕ). b && (s == x)) (eqb-true r.seq n is) ∙ ap (λ (x : Bool). b && x) apart ∙ none b in
        absurd (false≢true (sym no ∙ is_d))
    by false true is false is_d found rest = ap (λ (x : Bool). x || has now) is
    by false false is true is_d found rest = rest (sym (ap (λ (x : Bool). x || has was) is) ∙ found)
    by false false is false is_d found rest = ap (λ (x : Bool). x || has now) is ∙ rest (sym (ap (λ (x : Bool). x || has was) is) ∙ found)

-- behind one that is forgotten, and below all that are left
pub can-forget-on : (attempt : ℕ) (lines : List LogLine) (resource : List ℕ) (s low : ℕ) (seqs : List ℕ) → s < low → CanForget (unforgotten lines attempt resource) low seqs
    → CanForget (unforgotten (lines ++ Forgot attempt resource s ∷ []) attempt resource) low seqs
can-forget-on attempt lines resource s low [] lt can = can
can-forget-on attempt lines resource s low (n ∷ seqs) lt can =
    let now = lines ++ Forgot attempt resource s ∷ [] in
    let gone : ℕ → Bool = is_named lines attempt resource in
    let own = bytes_eq resource resource in
    let left : unforgotten now attempt resource ≡ filter (λ (r : LogRecord). not (gone r.seq || (own && (s == r.seq)))) (records_in lines attempt resource) =
    unforgotten-those now attempt resource ∙ (λ i. filter (λ (r : LogRecord). not (forgot-named attempt resource resource s r.seq lines i)) (forgot-records attempt resource resource s lines i)) in
    let was = ap (λ (l : List LogRecord). list_any (λ (r : LogRecord). r.seq == n) l) (sym (unforgotten-those lines attempt resource)) ∙ can.1 in
    let le : low ≤ n = can.0 in
    let apart : (s == n) ≡ false = ne_eqb s n (λ (e : s ≡ n). absurd (omega (arith, e, lt, le))) in
    let there = ap (λ (l : List LogRecord). list_any (λ (r : LogRecord). r.seq == n) l) left ∙ there-still gone own s n (records_in lines attempt resource) apart was in
    (le, there, can-forget-on attempt lines resource s (n + 1) seqs (omega (arith, lt, le)) can.2)

can-lower : (rs : List LogRecord) (low high : ℕ) (seqs : List ℕ) → low ≤ high → CanForget rs high seqs → CanForget rs low seqs
can-lower rs low high [] le can = can
can-lower rs low high (n ∷ seqs) le can = let at : high ≤ n = can.0 in (omega (arith, le, at), can.1, can.2)

can-some : (all : List LogRecord) (keep : LogRecord → Bool) (forgets : LogRecord → Bool) (k : ℕ) (rs : List LogRecord) → are_numbered k rs ≡ true
    → ((n : ℕ) → list_any (λ (r : LogRecord). r.seq == n) (filter keep rs) ≡ true → list_any (λ (r : LogRecord). r.seq == n) all ≡ true)
    → CanForget all k (map (λ (r : LogRecord). r.seq) (filter forgets (filter keep rs)))
can-some all keep forgets k [] numbered among = tt
can-some all keep forgets k (r ∷ rs) numbered among =
    let both = and_parts (r.seq == k) (are_numbered (k + 1) rs) numbered in
    by (eqb-true r.seq k both.0) (keep r) (forgets r) among (λ further. can-some all keep forgets (k + 1) rs both.1 further)
  where
    left : List LogRecord
    left = filter keep rs

    chosen : List LogRecord
    chosen = filter forgets left

    has : ℕ → List LogRecord → Bool
    has n l = list_any (λ (x : LogRecord). x.seq == n) l

    seqs : List LogRecord → List ℕ
    seqs l = map (λ (x : LogRecord). x.seq) l

    more : (b : Bool) → b ≡ true → (d : Bool) → (b || d) ≡ true
    more b is d = ap (λ (x : Bool). x || d) is

    or-true : (b d : Bool) → d ≡ true → (b || d) ≡ true
    or-true true d is = refl
    or-true false d is = is

    by : r.seq ≡ k → (b f : Bool) → ((n : ℕ) → has n (cond b (r ∷ left) left) ≡ true → has n all ≡ true) → (((n : ℕ) → has n left ≡ true → has n all ≡ true) → CanForget all (k + 1) (seqs chosen))
        → CanForget all k (seqs (filter forgets (cond b (r ∷ left) left)))
    by at false f among rest = can-lower all k (k + 1) (seqs chosen) (omega arith) (rest among)
    by at true f among rest = pick (forgets r) (rest (λ n there. among n (or-true (r.seq == n) (has n left) there)))
      where
        pick : (f : Bool) → CanForget all (k + 1) (seqs chosen) → CanForget all k (seqs (cond f (r ∷ chosen) chosen))
        pick false can = can-lower all k (k + 1) (seqs chosen) (omega arith) can
        pick true can = (
          omega (arith, at),
          among r.seq (more (r.seq == r.seq) (eq-eqb r.seq r.seq refl) (has r.seq left)),
          subst (λ n. CanForget all (n + 1) (seqs chosen)) (sym at) can,
        )

-- a clerk's records can be forgotten that are answered so
pub can-answer : (clerk : ClerkView) (resource : List ℕ) (forgets : LogRecord → Bool) → IsOrderly clerk → CanForget (records_of clerk resource) 1 (map (λ (r : LogRecord). r.seq) (filter forgets (records_of clerk resource)))
can-answer clerk resource forgets so =
    let keep : LogRecord → Bool = λ r. not (is_named clerk.lines clerk.attempt resource r.seq) in
    let is = unforgotten-those clerk.lines clerk.attempt resource in
    subst (λ (l : List LogRecord). CanForget l 1 (map (λ (r : LogRecord). r.seq) (filter forgets l))) (sym is)
    (can-some (filter keep (records_in clerk.lines clerk.attempt resource)) keep forgets 1 (records_in clerk.lines clerk.attempt resource) (so.numbered resource) (λ n there. there))

-- how far a list of them is forgotten
pub record Forgetting (resource : List ℕ) (all : List ℕ) (clerk : ClerkView) (log : EntriesView) (left : List ℕ) (new : ClerkView) (later : EntriesView) : Type 0 where
  pub done : List ℕ
  pub split : all ≡ done ++ left
  pub staged : HasStaged (forgot_all clerk.attempt resource done) 0 clerk log new later
  pub low : ℕ
  pub can : CanForget (records_of new resource) low left
  pub room : HasRoomFor (length left) later

pub forget-begun : (resource : List ℕ) (all : List ℕ) (clerk : ClerkView) (log : EntriesView) → CanForget (records_of clerk resource) 1 all → HasRoomFor (length all) log → Forgetting resource all clerk log all clerk log
forget-begun resource all clerk log can has = record { done = []; split = refl; staged = staged-none clerk log; low = 1; can = can; room = has }

forgot-more : (attempt : ℕ) (resource xs ys : List ℕ) → forgot_all attempt resource (xs ++ ys) ≡ forgot_all attempt resource xs ++ forgot_all attempt resource ys
forgot-more attempt resource [] ys = refl
forgot-more attempt resource (x ∷ xs) ys = ap (λ (l : List LogLine). Forgot attempt resource x ∷ l) (forgot-more attempt resource xs ys)

same-attempt : (taken : ℕ) (lines : List LogLine) (clerk new : ClerkView) → new ≡ with_lines taken lines clerk → new.attempt ≡ clerk.attempt
same-attempt taken lines clerk new is = ap (λ (v : ClerkView). v.attempt) is

pub forget-one : (resource : List ℕ) (all : List ℕ) (clerk : ClerkView) (log : EntriesView) (n : ℕ) (left : List ℕ) (mid new : ClerkView) (between later : EntriesView) → Forgetting resource all clerk log (n ∷ left) mid between
    → HasStaged (Forgot mid.attempt resource n ∷ []) 0 mid between new later → Forgetting resource all clerk log left new later
forget-one resource all clerk log n left mid new between later so one =
    let a = clerk.attempt in
    let same : mid.attempt ≡ a = same-attempt 0 (forgot_all a resource so.done) clerk mid so.staged.clerk in
    let last : HasStaged (Forgot a resource n ∷ []) 0 mid between new later = subst (λ x. HasStaged (Forgot x resource n ∷ []) 0 mid between new later) same one in
    let both = staged-on (forgot_all a resource so.done) (Forgot a resource n ∷ []) clerk mid new log between later so.staged last in
    let on = can-forget-on mid.attempt mid.lines resource n (n + 1) left (omega arith) so.can.2 in
    record {
      done = so.done ++ n ∷ [];
      split = so.split ∙ sym (append_assoc so.done (n ∷ []) left);
      staged = subst (λ (l : List LogLine). HasStaged l 0 clerk log new later) (sym (forgot-more a resource so.done (n ∷ []))) both;
      low = n + 1;
      can = subst (λ (v : ClerkView). CanForget (records_of v resource) (n + 1) left) (sym one.clerk) on;
      room = record {
        ended = ap (λ (x : EntriesView). x.log.ended) one.room.same ∙ so.room.ended;
        room = omega (arith, so.room.room, one.room.room);
        fits = omega (arith, so.room.fits, one.room.fits);
      };
    }

pub all-forgotten : (resource : List ℕ) (all : List ℕ) (clerk : ClerkView) (log : EntriesView) (left : List ℕ) (new : ClerkView) (later : EntriesView) → left ≡ [] → Forgetting resource all clerk log left new later → HasStaged (forgot_all clerk.attempt resource all) 0 clerk log new later
all-forgotten resource all clerk log left new later none so =
    let is : so.done ≡ all = sym (so.split ∙ ap (λ (l : List ℕ). so.done ++ l) none ∙ append-nil so.done) in
    subst (λ (l : List ℕ). HasStaged (forgot_all clerk.attempt resource l) 0 clerk log new later) is so.staged
