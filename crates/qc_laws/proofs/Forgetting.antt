-- The prepare phases write Forgot lines alone, and each may follow.
use Rattle.std.proofs.Common.{◌≡◌, ◌∙◌, ℕ, ◌+◌, ◌<◌, ◌==◌, List, [], ◌∷◌, ◌++◌, Bool, true, false, not, cond, ◌&&◌, ◌||◌, map, filter, refl, sym, ap, arith, true≢false, Option, Some, None, append-nil, append_assoc, eq-eqb, ne_eqb}
use Rattle.std.specs.List.{list_any, list_all}
use Rattle.std.specs.Str.{bytes_eq}
use Rattle.std.proofs.lemmas.Bool.{and_parts, and_from, or_parts, or_from, or_left, or_right, false_from_ne_true, not-true, not_from_false, eqb-true, eqb-false}
use Rattle.std.proofs.lemmas.List.Folds.{list_any-append}
use Rattle.qc_base.specs.declared.log_line.LogLine.{LogLine}
use Rattle.qc_base.specs.declared.log_line.LogLine.TheVariants.{Opened, Registered, Written, Forgot, Done}
use Rattle.qc_base.specs.declared.log_line.LogRecord.{LogRecord}
use Rattle.qc_base.specs.declared.log_line.Why.{Why}
use Rattle.qc_base.specs.declared.recording.Row.{Row}
use Rattle.qc_base.specs.LogLines.{Entry, Registration, forgets_entry, is_opened, is_done, entries, registrations, is_forgotten, of_resource, unforgotten}
use Rattle.qc_catalogue.specs.declared.catalogue.Catalogue.{Catalogue}
use Rattle.qc_catalogue.specs.declared.catalogue.Resource.{Resource}
use Rattle.crm_driver.specs.RowRules.{rules_of}
use Rattle.crm_history.specs.declared.ended.Ended.{Ended}
use Rattle.crm_history.specs.Legal.{line_may_follow, lines_follow}
use Rattle.qc_play.specs.declared.record.PlayRecord.{PlayRecord}
use Rattle.qc_play.specs.Play.{is_of}
use Rattle.qc_play.specs.Effects.{AreNumbers, numbers_of}
use Rattle.qc_machine.specs.LogAndRows.{LogAndRows, lines_of}
use Rattle.qc_machine.specs.OwnLines.{is_own}
use Rattle.qc_machine.specs.Preparing.{asked, prepared_all, prepared_one}
use Rattle.qc_machine.specs.Underway.{Underway, at_end, forced_unless, prepared, unless_forced, why_prepared}
use Rattle.qc_machine.specs.Preparing.{Prepared, unasked}
use Rattle.qc_laws.specs.Logged.{entry_of, forgot_by, LeavesOthers}
use Rattle.qc_laws.proofs.LineWords.{done-append, entries-append}
use Rattle.qc_laws.proofs.Carried.{lines-with, lines-forced, rows-forced}
use Rattle.qc_laws.proofs.Votes.{one-after, then-after}

-- lines that follow one another

pub follow-append : (c : Catalogue) (sent : ℕ) (ended : List Ended) (before xs ys : List LogLine) → lines_follow c sent ended before xs ≡ true → lines_follow c sent ended (before ++ xs) ys ≡ true → lines_follow c sent ended before (xs ++ ys) ≡ true
follow-append c sent ended before [] ys e f = ap (λ l. lines_follow c sent ended l ys) (sym (append-nil before)) ∙ f
follow-append c sent ended before (x ∷ xs) ys e f =
    let parts = and_parts (line_may_follow c sent ended before x) _ e in
    and_from (line_may_follow c sent ended before x) _ parts.0 (follow-append c sent ended (before ++ x ∷ []) xs ys parts.1 (ap (λ l. lines_follow c sent ended l ys) (append_assoc before (x ∷ []) xs) ∙ f))

pub any-weaker : {A : Type 0} (p q : A → Bool) (xs : List A) → ((x : A) → p x ≡ true → q x ≡ true) → list_any p xs ≡ true → list_any q xs ≡ true
any-weaker p q [] h e = e
any-weaker p q (x ∷ xs) h e = by (p x) refl (list_any p xs) refl e (λ g. any-weaker p q xs h g)
  where
    by : (b : Bool) → p x ≡ b → (c : Bool) → list_any p xs ≡ c → (b || c) ≡ true → (list_any p xs ≡ true → list_any q xs ≡ true) → (q x || list_any q xs) ≡ true
    by true f c g e on = or_left (q x) _ (h x f)
    by false f true g e on = or_right (q x) _ (on g)
    by false f false g e on = absurd (true≢false (sym e))

-- a test on the records of a resource is one on the entries
pub any-of : (Q : LogRecord → Bool) (w : List ℕ) (p : Entry → Bool) (es : List Entry) → list_any Q (of_resource w (filter p es)) ≡ list_any (λ (e : Entry). p e && (bytes_eq e.resource w && Q e.entry)) es
any-of Q w p [] = refl
any-of Q w p (e ∷ es) = by (p e) (bytes_eq e.resource w) (any-of Q w p es)
  where
    by : (b c : Bool) → list_any Q (of_resource w (filter p es)) ≡ list_any (λ (e : Entry). p e && (bytes_eq e.resource w && Q e.entry)) es → list_any Q (of_resource w (cond b (e ∷ filter p es) (filter p es))) ≡ ((b && (bytes_eq e.resource w && Q e.entry)) || list_any (λ (e : Entry). p e && (bytes_eq e.resource w && Q e.entry)) es)
    by false c on = on
    by true c on = kept (bytes_eq e.resource w)
      where
        kept : (c : Bool) → list_any Q (map (λ (e : Entry). e.entry) (cond c (e ∷ filter (λ (e : Entry). bytes_eq e.resource w) (filter p es)) (filter (λ (e : Entry). bytes_eq e.resource w) (filter p es)))) ≡ ((c && Q e.entry) || list_any (λ (e : Entry). p e && (bytes_eq e.resource w && Q e.entry)) es)
        kept true = ap (λ b. Q e.entry || b) on
        kept false = on

-- records of different numbers

abbrev pub seqs_apart : List LogRecord → Bool
seqs_apart [] = true
seqs_apart (x ∷ xs) = not (list_any (λ (r : LogRecord). r.seq == x.seq) xs) && seqs_apart xs

any-filter : (p q : LogRecord → Bool) (xs : List LogRecord) → list_any q xs ≡ false → list_any q (filter p xs) ≡ false
any-filter p q [] e = refl
any-filter p q (x ∷ xs) e = let parts = or_parts (q x) _ e in by (p x) parts.0 (any-filter p q xs parts.1)
  where
    by : (b : Bool) → q x ≡ false → list_any q (filter p xs) ≡ false → list_any q (cond b (x ∷ filter p xs) (filter p xs)) ≡ false
    by true f on = or_from (q x) _ f on
    by false f on = on

pub apart-filter : (p : LogRecord → Bool) (xs : List LogRecord) → seqs_apart xs ≡ true → seqs_apart (filter p xs) ≡ true
apart-filter p [] e = refl
apart-filter p (x ∷ xs) e = let parts = and_parts (not (list_any (λ (r : LogRecord). r.seq == x.seq) xs)) _ e in by (p x) parts.0 (apart-filter p xs parts.1)
  where
    by : (b : Bool) → not (list_any (λ (r : LogRecord). r.seq == x.seq) xs) ≡ true → seqs_apart (filter p xs) ≡ true → seqs_apart (cond b (x ∷ filter p xs) (filter p xs)) ≡ true
    by true f on = and_from (not (list_any (λ (r : LogRecord). r.seq == x.seq) (filter p xs))) _ (not_from_false _ (any-filter p (λ (r : LogRecord). r.seq == x.seq) xs (not-true _ f))) on
    by false f on = on

none-of : (Q : LogRecord → Bool) (w : List ℕ) (p : Entry → Bool) (es : List Entry) → list_any Q (of_resource w es) ≡ false → list_any Q (of_resource w (filter p es)) ≡ false
none-of Q w p [] e = refl
none-of Q w p (x ∷ es) e = by (p x) (bytes_eq x.resource w) refl e (none-of Q w p es)
  where
    by : (b c : Bool) → bytes_eq x.resource w ≡ c → list_any Q (map (λ (e : Entry). e.entry) (cond c (x ∷ filter (λ (e : Entry). bytes_eq e.resource w) es) (filter (λ (e : Entry). bytes_eq e.resource w) es))) ≡ false
        → (list_any Q (of_resource w es) ≡ false → list_any Q (of_resource w (filter p es)) ≡ false) → list_any Q (of_resource w (cond b (x ∷ filter p es) (filter p es))) ≡ false
    by false true f e on = on (or_parts (Q x.entry) _ e).1
    by false false f e on = on e
    by true true f e on = ap (λ c. list_any Q (map (λ (e : Entry). e.entry) (cond c (x ∷ filter (λ (e : Entry). bytes_eq e.resource w) (filter p es)) (filter (λ (e : Entry). bytes_eq e.resource w) (filter p es))))) f ∙ or_from (Q x.entry) _ (or_parts (Q x.entry) _ e).0 (on (or_parts (Q x.entry) _ e).1)
    by true false f e on = ap (λ c. list_any Q (map (λ (e : Entry). e.entry) (cond c (x ∷ filter (λ (e : Entry). bytes_eq e.resource w) (filter p es)) (filter (λ (e : Entry). bytes_eq e.resource w) (filter p es))))) f ∙ on e

apart-of : (w : List ℕ) (p : Entry → Bool) (es : List Entry) → seqs_apart (of_resource w es) ≡ true → seqs_apart (of_resource w (filter p es)) ≡ true
apart-of w p [] e = refl
apart-of w p (x ∷ es) e = by (p x) (bytes_eq x.resource w) refl e (apart-of w p es)
  where
    by : (b c : Bool) → bytes_eq x.resource w ≡ c → seqs_apart (map (λ (e : Entry). e.entry) (cond c (x ∷ filter (λ (e : Entry). bytes_eq e.resource w) es) (filter (λ (e : Entry). bytes_eq e.resource w) es))) ≡ true
        → (seqs_apart (of_resource w es) ≡ true → seqs_apart (of_resource w (filter p es)) ≡ true) → seqs_apart (of_resource w (cond b (x ∷ filter p es) (filter p es))) ≡ true
    by false true f e on = on (and_parts (not (list_any (λ (r : LogRecord). r.seq == x.entry.seq) (of_resource w es))) _ e).1
    by false false f e on = on e
    by true false f e on = ap (λ c. seqs_apart (map (λ (e : Entry). e.entry) (cond c (x ∷ filter (λ (e : Entry). bytes_eq e.resource w) (filter p es)) (filter (λ (e : Entry). bytes_eq e.resource w) (filter p es))))) f ∙ on e
    by true true f e on =
        let parts = and_parts (not (list_any (λ (r : LogRecord). r.seq == x.entry.seq) (of_resource w es))) _ e in
        ap (λ c. seqs_apart (map (λ (e : Entry). e.entry) (cond c (x ∷ filter (λ (e : Entry). bytes_eq e.resource w) (filter p es)) (filter (λ (e : Entry). bytes_eq e.resource w) (filter p es))))) f
        ∙ and_from (not (list_any (λ (r : LogRecord). r.seq == x.entry.seq) (of_resource w (filter p es)))) _ (not_from_false _ (none-of (λ (r : LogRecord). r.seq == x.entry.seq) w p es (not-true _ parts.0))) (on parts.1)

-- the numbers of a play state's records

none-below : (m k : ℕ) (w : List ℕ) (rs : List PlayRecord) → AreNumbers m (numbers_of w rs) → k < m → list_any (λ (r : LogRecord). r.seq == k) (of_resource w (map entry_of rs)) ≡ false
none-below m k w [] all lt = refl
none-below m k w (r ∷ rs) all lt = by (bytes_eq r.resource w) all (λ j all lt. none-below j k w rs all lt)
  where
    by : (b : Bool) → AreNumbers m (map (λ (r : PlayRecord). r.entry.seq) (cond b (r ∷ filter (is_of w) rs) (filter (is_of w) rs))) → ((j : ℕ) → AreNumbers j (numbers_of w rs) → k < j → list_any (λ (r : LogRecord). r.seq == k) (of_resource w (map entry_of rs)) ≡ false)
        → list_any (λ (r : LogRecord). r.seq == k) (map (λ (e : Entry). e.entry) (cond b (entry_of r ∷ filter (λ (e : Entry). bytes_eq e.resource w) (map entry_of rs)) (filter (λ (e : Entry). bytes_eq e.resource w) (map entry_of rs)))) ≡ false
    by true all on = or_from (r.entry.seq == k) _ (ne_eqb _ _ (omega (arith, all.0, lt))) (on (m + 1) all.1 (omega (arith, lt)))
    by false all on = on m all lt

pub numbers-apart : (m : ℕ) (w : List ℕ) (rs : List PlayRecord) → AreNumbers m (numbers_of w rs) → seqs_apart (of_resource w (map entry_of rs)) ≡ true
numbers-apart m w [] all = refl
numbers-apart m w (r ∷ rs) all = by (bytes_eq r.resource w) all (λ j all. numbers-apart j w rs all)
  where
    by : (b : Bool) → AreNumbers m (map (λ (r : PlayRecord). r.entry.seq) (cond b (r ∷ filter (is_of w) rs) (filter (is_of w) rs))) → ((j : ℕ) → AreNumbers j (numbers_of w rs) → seqs_apart (of_resource w (map entry_of rs)) ≡ true)
        → seqs_apart (map (λ (e : Entry). e.entry) (cond b (entry_of r ∷ filter (λ (e : Entry). bytes_eq e.resource w) (map entry_of rs)) (filter (λ (e : Entry). bytes_eq e.resource w) (map entry_of rs)))) ≡ true
    by true all on = and_from (not (list_any (λ (x : LogRecord). x.seq == r.entry.seq) (of_resource w (map entry_of rs)))) _ (not_from_false _ (none-below (m + 1) r.entry.seq w rs all.1 (omega (arith, all.0)))) (on (m + 1) all.1)
    by false all on = on m all

-- Forgot lines

pub record SaysOf (n : ℕ) (more : List LogLine) : Type 0 where
  pub own : list_all (is_own n) more ≡ true
  pub unopened : (m : ℕ) → is_opened more m ≡ false
  pub undone : (m : ℕ) → is_done more m ≡ false
  pub entries : (m : ℕ) → entries more m ≡ []
  pub registers : (m : ℕ) → registrations more m ≡ []

pub says-of : (n : ℕ) (more : List LogLine) → list_all (forgot_by n) more ≡ true → SaysOf n more
says-of n [] e = record { own = refl; unopened = λ m. refl; undone = λ m. refl; entries = λ m. refl; registers = λ m. refl }
says-of n (line ∷ more) e = let parts = and_parts (forgot_by n line) _ e in by line parts.0 (says-of n more parts.1)
  where
    by : (line : LogLine) → forgot_by n line ≡ true → SaysOf n more → SaysOf n (line ∷ more)
    by (Forgot a r k) f rest = record { own = and_from (a == n) _ f rest.own; unopened = rest.unopened; undone = rest.undone; entries = rest.entries; registers = rest.registers }
    by (Opened a id) f rest = absurd (true≢false (sym f))
    by (Registered a r p) f rest = absurd (true≢false (sym f))
    by (Written a r x) f rest = absurd (true≢false (sym f))
    by (Done a) f rest = absurd (true≢false (sym f))

-- a record that isn't the one forgotten
still-there : (lines : List LogLine) (n : ℕ) (w : List ℕ) (k q : ℕ) → (k == q) ≡ false → list_any (λ (r : LogRecord). r.seq == q) (unforgotten lines n w) ≡ true → list_any (λ (r : LogRecord). r.seq == q) (unforgotten (lines ++ Forgot n w k ∷ []) n w) ≡ true
still-there lines n w k q other e =
    ap (λ es. list_any (λ (r : LogRecord). r.seq == q) (of_resource w (filter (λ e. not (is_forgotten (lines ++ Forgot n w k ∷ []) n e)) es))) (entries-append lines (Forgot n w k ∷ []) n ∙ append-nil (entries lines n))
    ∙ any-of (λ (r : LogRecord). r.seq == q) w (λ e. not (is_forgotten (lines ++ Forgot n w k ∷ []) n e)) (entries lines n)
    ∙ any-weaker (λ (e : Entry). not (is_forgotten lines n e) && (bytes_eq e.resource w && (e.entry.seq == q))) (λ (e : Entry). not (is_forgotten (lines ++ Forgot n w k ∷ []) n e) && (bytes_eq e.resource w && (e.entry.seq == q))) (entries lines n) (λ x f. keeps x f)
    (sym (any-of (λ (r : LogRecord). r.seq == q) w (λ e. not (is_forgotten lines n e)) (entries lines n)) ∙ e)
  where
    keeps : (x : Entry) → (not (is_forgotten lines n x) && (bytes_eq x.resource w && (x.entry.seq == q))) ≡ true → (not (is_forgotten (lines ++ Forgot n w k ∷ []) n x) && (bytes_eq x.resource w && (x.entry.seq == q))) ≡ true
    keeps x f =
        let parts = and_parts (not (is_forgotten lines n x)) _ f in
        let more = and_parts (bytes_eq x.resource w) _ parts.1 in
        let differ : (k == x.entry.seq) ≡ false = ap (λ m. k == m) (eqb-true _ _ more.1) ∙ other in
        let none : list_any (forgets_entry n x.resource x.entry.seq) (Forgot n w k ∷ []) ≡ false = or_from ((n == n) && (bytes_eq w x.resource && (k == x.entry.seq))) false (false_from_ne_true _ (λ t. true≢false (sym (and_parts (bytes_eq w x.resource) _ (and_parts (n == n) _ t).1).1 ∙ differ))) refl in
        and_from (not (is_forgotten (lines ++ Forgot n w k ∷ []) n x)) _ (not_from_false _ (list_any-append (forgets_entry n x.resource x.entry.seq) lines (Forgot n w k ∷ []) ∙ or_from (is_forgotten lines n x) _ (not-true _ parts.0) none)) parts.1

-- numbers that are all among records
abbrev pub are_there : List LogRecord → List LogRecord → Bool
are_there xs ys = list_all (λ (x : LogRecord). list_any (λ (r : LogRecord). r.seq == x.seq) ys) xs

all-there : (lines : List LogLine) (n : ℕ) (w : List ℕ) (k : ℕ) (xs : List LogRecord) → list_any (λ (r : LogRecord). r.seq == k) xs ≡ false → are_there xs (unforgotten lines n w) ≡ true → are_there xs (unforgotten (lines ++ Forgot n w k ∷ []) n w) ≡ true
all-there lines n w k [] none e = refl
all-there lines n w k (x ∷ xs) none e =
    let other = or_parts (x.seq == k) _ none in
    let parts = and_parts (list_any (λ (r : LogRecord). r.seq == x.seq) (unforgotten lines n w)) _ e in
    and_from (list_any (λ (r : LogRecord). r.seq == x.seq) (unforgotten (lines ++ Forgot n w k ∷ []) n w)) _ (still-there lines n w k x.seq (ne_eqb k x.seq (λ h. eqb-false x.seq k other.0 (sym h))) parts.0) (all-there lines n w k xs other.1 parts.1)

pub forgot-follow : (c : Catalogue) (sent : ℕ) (ended : List Ended) (lines : List LogLine) (n : ℕ) (w : List ℕ) (xs : List LogRecord) → is_done lines n ≡ false → seqs_apart xs ≡ true → are_there xs (unforgotten lines n w) ≡ true → lines_follow c sent ended lines (map (λ (r : LogRecord). Forgot n w r.seq) xs) ≡ true
forgot-follow c sent ended lines n w [] undone apart there = refl
forgot-follow c sent ended lines n w (x ∷ xs) undone apart there =
    let one = and_parts (list_any (λ (r : LogRecord). r.seq == x.seq) (unforgotten lines n w)) _ there in
    let other = and_parts (not (list_any (λ (r : LogRecord). r.seq == x.seq) xs)) _ apart in
    and_from (line_may_follow c sent ended lines (Forgot n w x.seq)) _ (and_from (not (is_done lines n)) _ (not_from_false _ undone) one.0)
    (forgot-follow c sent ended (lines ++ Forgot n w x.seq ∷ []) n w xs (done-append lines (Forgot n w x.seq ∷ []) n ∙ or_from (is_done lines n) false undone refl) other.1 (all-there lines n w x.seq xs (not-true _ other.0) one.1))

are-there : (p : LogRecord → Bool) (xs ys : List LogRecord) → ((q : ℕ) → list_any (λ (r : LogRecord). r.seq == q) xs ≡ true → list_any (λ (r : LogRecord). r.seq == q) ys ≡ true) → are_there (filter p xs) ys ≡ true
are-there p [] ys h = refl
are-there p (x ∷ xs) ys h = by (p x) (are-there p xs ys (λ q e. h q (or_right (x.seq == q) _ e)))
  where
    by : (b : Bool) → are_there (filter p xs) ys ≡ true → are_there (cond b (x ∷ filter p xs) (filter p xs)) ys ≡ true
    by true rest = and_from (list_any (λ (r : LogRecord). r.seq == x.seq) ys) _ (h x.seq (or_left (x.seq == x.seq) _ (eq-eqb x.seq x.seq refl))) rest
    by false rest = rest

only-forgot : (n : ℕ) (w : List ℕ) (xs : List LogRecord) → list_all (forgot_by n) (map (λ (r : LogRecord). Forgot n w r.seq) xs) ≡ true
only-forgot n w [] = refl
only-forgot n w (x ∷ xs) = and_from (n == n) _ (eq-eqb n n refl) (only-forgot n w xs)

-- from a log to one with Forgot lines of an attempt behind, where no row changed
pub record Forgets (n : ℕ) (o after : LogAndRows) : Type 0 where
  pub more : List LogLine
  pub lines : lines_of after ≡ lines_of o ++ more
  pub only : list_all (forgot_by n) more ≡ true
  pub same_rows : after.rows ≡ o.rows
  pub follow : (c : Catalogue) (sent : ℕ) (ended : List Ended) → is_done (lines_of o) n ≡ false
      → ((w : List ℕ) → seqs_apart (of_resource w (entries (lines_of o) n)) ≡ true) → lines_follow c sent ended (lines_of o) more ≡ true

forgets-none : (n : ℕ) (o : LogAndRows) → Forgets n o o
forgets-none n o = record { more = []; lines = sym (append-nil (lines_of o)); only = refl; same_rows = refl; follow = λ c sent ended d a. refl }

only-append : (n : ℕ) (xs ys : List LogLine) → list_all (forgot_by n) xs ≡ true → list_all (forgot_by n) ys ≡ true → list_all (forgot_by n) (xs ++ ys) ≡ true
only-append n [] ys e f = f
only-append n (x ∷ xs) ys e f = let parts = and_parts (forgot_by n x) _ e in and_from (forgot_by n x) _ parts.0 (only-append n xs ys parts.1 f)

forgets-on : (n : ℕ) (o mid after : LogAndRows) → Forgets n o mid → Forgets n mid after → Forgets n o after
forgets-on n o mid after a b = record {
  more = a.more ++ b.more;
  lines = b.lines ∙ ap (λ l. l ++ b.more) a.lines ∙ append_assoc (lines_of o) a.more b.more;
  only = only-append n a.more b.more a.only b.only;
  same_rows = b.same_rows ∙ a.same_rows;
  follow = λ c sent ended d apart.
      let says = says-of n a.more a.only in
      let undone : is_done (lines_of mid) n ≡ false = ap (λ l. is_done l n) a.lines ∙ done-append (lines_of o) a.more n ∙ or_from (is_done (lines_of o) n) _ d (says.undone n) in
      let same : entries (lines_of mid) n ≡ entries (lines_of o) n = ap (λ l. entries l n) a.lines ∙ entries-append (lines_of o) a.more n ∙ ap (λ l. entries (lines_of o) n ++ l) (says.entries n) ∙ append-nil (entries (lines_of o) n) in
      follow-append c sent ended (lines_of o) a.more b.more (a.follow c sent ended d apart)
      (ap (λ l. lines_follow c sent ended l b.more) (sym a.lines) ∙ b.follow c sent ended undone (λ w. ap (λ es. seqs_apart (of_resource w es)) same ∙ apart w));
}

forgets-asked : (n : ℕ) (r : Resource) (o : LogAndRows) → Forgets n o (asked r n o).after
forgets-asked n r o = record {
  more = map (λ (x : LogRecord). Forgot n r.name x.seq) (filter (rules_of r).forgets (unforgotten (lines_of o) n r.name));
  lines = lines-with (map (λ (x : LogRecord). Forgot n r.name x.seq) (filter (rules_of r).forgets (unforgotten (lines_of o) n r.name))) o;
  only = only-forgot n r.name (filter (rules_of r).forgets (unforgotten (lines_of o) n r.name));
  same_rows = refl;
  follow = λ c sent ended d apart. forgot-follow c sent ended (lines_of o) n r.name (filter (rules_of r).forgets (unforgotten (lines_of o) n r.name)) d
      (apart-filter (rules_of r).forgets (unforgotten (lines_of o) n r.name) (apart-of r.name (λ e. not (is_forgotten (lines_of o) n e)) (entries (lines_of o) n) (apart r.name)))
      (are-there (rules_of r).forgets (unforgotten (lines_of o) n r.name) (unforgotten (lines_of o) n r.name) (λ q e. e));
}

forgets-all : (c : Catalogue) (n : ℕ) (gs : List Registration) (o : LogAndRows) → Forgets n o (prepared_all c n gs o).after
forgets-all c n [] o = forgets-none n o
forgets-all c n (g ∷ gs) o =
    let p : Prepared = prepared_one c n g o in
    let one : Forgets n o p.after = one-after (Forgets n o) c n g o (forgets-none n o) (λ r found. forgets-asked n r o) in
    then-after (Forgets n o) (prepared_all c n gs) p one (forgets-on n o p.after (prepared_all c n gs p.after).after one (forgets-all c n gs p.after))

-- the end of an attempt
pub end-forgets : (c : Catalogue) (x : Underway) → Forgets x.held.attempt x.site (at_end c x).left.site
end-forgets c x = forced (why_prepared x.held (prepared c x))
  where
    votes : (w : Option Why) (f : Bool) → Forgets x.held.attempt x.site (elim w as (λ x. Prepared) [ Some why ↦ unasked x.site | None ↦ unless_forced c x f ]).after
    votes (Some why) f = forgets-none x.held.attempt x.site
    votes None true = forgets-none x.held.attempt x.site
    votes None false = forgets-all c x.held.attempt (registrations (lines_of x.site) x.held.attempt) x.site

    forced : (w : Option Why) → Forgets x.held.attempt x.site (forced_unless w (prepared c x).after)
    forced (Some why) = votes x.held.why x.held.play.forced
    forced None =
        let is = votes x.held.why x.held.play.forced in
        let o : LogAndRows = (prepared c x).after in
        record { more = is.more; lines = lines-forced o ∙ is.lines; only = is.only; same_rows = rows-forced o ∙ is.same_rows; follow = is.follow }

pub end-leaves : (c : Catalogue) (rows : List Row) (x : Underway) → LeavesOthers x.held.attempt rows x.site (at_end c x).left.site
end-leaves c rows x =
    let is = end-forgets c x in
    record { more = is.more; lines = is.lines; own = (says-of x.held.attempt is.more is.only).own; rows_stay = λ r k none. (λ i. is.same_rows i r k) }
