-- The lines of effects may follow those before them.
use Rattle.std.proofs.Common.{◌≡◌, ◌∙◌, ℕ, ◌+◌, ◌==◌, List, [], ◌∷◌, ◌++◌, Bool, true, false, not, cond, ◌&&◌, ◌||◌, length, map, filter, filter_map, reverse, refl, sym, ap, Option, Some, None, append-nil, append_assoc, eq-eqb}
use Rattle.std.specs.List.{list_any, list_all, cons_option}
use Rattle.std.specs.Str.{bytes_eq}
use Rattle.std.proofs.lemmas.Bool.{and_parts, and_from, or_from, or_left, or_right, not_from_false, not-true}
use Rattle.std.proofs.lemmas.List.{reverse-append, reverse-reverse}
use Rattle.std.proofs.lemmas.List.Elements.{filter-append, filter_map-append}
use Rattle.std.proofs.lemmas.List.Folds.{list_any-append, list_all-append}
use Rattle.qc_base.specs.declared.log_line.LogLine.{LogLine}
use Rattle.qc_base.specs.declared.log_line.LogLine.TheVariants.{Opened, Registered, Written, Forgot, Done}
use Rattle.qc_base.specs.declared.log_line.LogRecord.{LogRecord}
use Rattle.qc_base.specs.Spelling.{is_between}
use Rattle.qc_base.specs.LogLines.{Entry, Registration, opened_by, is_opened, is_done, is_unfinished, is_registered, is_forgotten, registrations, entries, of_resource, unforgotten}
use Rattle.qc_catalogue.specs.declared.catalogue.Catalogue.{Catalogue}
use Rattle.qc_catalogue.specs.declared.catalogue.Resource.{Resource}
use Rattle.crm_clerk.specs.Clerk.{ClerkView, forgetting_lines, forgot_lines, last_kept, records_in, unless_forgotten}
use Rattle.crm_history.specs.declared.ended.Ended.{Ended}
use Rattle.crm_history.specs.Legal.{has_phases, has_row, is_about, is_log_legal, is_row_free, line_may_follow, lines_follow, next_seq, wrote_row}
use Rattle.qc_play.proofs.OuterLaws.{bytes-same, bytes-itself}
use Rattle.qc_machine.specs.OwnLines.{is_own, is_named}
use Rattle.qc_machine.proofs.LinesBehind.{of-one-alone, unfinished-behind}
use Rattle.qc_machine.proofs.OwnLines.{no-own, own-behind, own-entries, own-registrations}
use Rattle.qc_machine.proofs.Unfinished.{unopened-unnamed}
use Rattle.qc_laws.proofs.Forgetting.{follow-append}
use Rattle.qc_laws.proofs.LineWords.{itself, lines_by, opened-append, done-append, entries-append, registrations-append, own-append}

-- a row that is free stays so behind the attempt's own lines

module _ (n : ℕ) (lines more : List LogLine) (r k : List ℕ) (own : list_all (is_own n) more ≡ true) where
  abbrev leaves : List LogLine → ℕ → Bool
  leaves l a = (a == n) || not (is_unfinished l a && wrote_row l r k a)

  entries-behind : (a : ℕ) → (a == n) ≡ false → entries (lines ++ more) a ≡ entries lines a
  entries-behind a differ = sym (own-entries a (lines ++ more)) ∙ ap (λ l. entries l a) (own-behind a lines more (of-one-alone n a more own differ)) ∙ own-entries a lines

  leaves-same : (a : ℕ) → leaves (lines ++ more) a ≡ leaves lines a
  leaves-same a = by (a == n) refl
    where
      by : (b : Bool) → (a == n) ≡ b → (b || not (is_unfinished (lines ++ more) a && wrote_row (lines ++ more) r k a)) ≡ (b || not (is_unfinished lines a && wrote_row lines r k a))
      by true e = refl
      by false e = λ i. not (unfinished-behind lines more a (of-one-alone n a more own e) i && list_any (λ (x : Entry). bytes_eq x.resource r && bytes_eq x.entry.key k) (entries-behind a e i))

  opened-own : (l ls : List LogLine) → list_all (is_own n) ls ≡ true → list_all (leaves l) (filter_map opened_by ls) ≡ true
  opened-own l [] e = refl
  opened-own l (line ∷ ls) e = let parts = and_parts (is_own n line) _ e in by line parts.0 (opened-own l ls parts.1)
    where
      by : (line : LogLine) → is_own n line ≡ true → list_all (leaves l) (filter_map opened_by ls) ≡ true → list_all (leaves l) (cons_option (opened_by line) (filter_map opened_by ls)) ≡ true
      by (Opened a id) f rest = and_from (leaves l a) _ (or_left (a == n) _ f) rest
      by (Registered a w p) f rest = rest
      by (Written a w x) f rest = rest
      by (Forgot a w q) f rest = rest
      by (Done a) f rest = rest

  pub free-behind : is_row_free lines r k n ≡ true → is_row_free (lines ++ more) r k n ≡ true
  free-behind free =
      ap (list_all (leaves (lines ++ more))) (filter_map-append opened_by lines more)
      ∙ list_all-append (leaves (lines ++ more)) (filter_map opened_by lines) (filter_map opened_by more)
      ∙ and_from (list_all (leaves (lines ++ more)) (filter_map opened_by lines)) _ ((λ i. list_all (λ a. leaves-same a i) (filter_map opened_by lines)) ∙ free) (opened-own (lines ++ more) more own)

-- the lines in front of a record

record Prepares (c : Catalogue) (sent : ℕ) (ended : List Ended) (lines front : List LogLine) (n : ℕ) (name : List ℕ) : Type 0 where
  follows : lines_follow c sent ended lines front ≡ true
  going : is_unfinished (lines ++ front) n ≡ true
  there : is_registered (lines ++ front) n name ≡ true
  same : entries (lines ++ front) n ≡ entries lines n
  own : list_all (is_own n) front ≡ true

module _ (c : Catalogue) (sent : ℕ) (ended : List Ended) (n id : ℕ) (r : Resource) (lines : List LogLine) (legal : is_log_legal c sent ended lines ≡ true) (undone : is_done lines n ≡ false) where
  abbrev open_if : Bool → List LogLine
  open_if a = cond a [] (Opened n id ∷ [])

  abbrev registers : List LogLine
  registers = Registered n r.name r.phases ∷ []

  -- a resource is registered only where the attempt is opened
  opened-before : is_registered lines n r.name ≡ true → is_opened lines n ≡ true
  opened-before e = by (is_opened lines n) refl
    where
      by : (b : Bool) → is_opened lines n ≡ b → b ≡ true
      by true f = refl
      by false f =
          let none : registrations lines n ≡ [] = sym (own-registrations n lines) ∙ ap (λ l. registrations l n) (no-own n lines (unopened-unnamed c sent ended lines n legal f)) in
          sym (ap (list_any (λ (g : Registration). bytes_eq g.resource r.name)) none) ∙ e

  open-follows : (a : Bool) → is_opened lines n ≡ a → is_between 1 sent id ≡ true → list_all (is_about n id) ended ≡ true → lines_follow c sent ended lines (open_if a) ≡ true
  open-follows true e message about = refl
  open-follows false e message about = and_from (line_may_follow c sent ended lines (Opened n id)) true
      (and_from (not (is_named lines n)) _ (not_from_false _ (unopened-unnamed c sent ended lines n legal e)) (and_from (is_between 1 sent id) _ message about)) refl

  open-own : (a : Bool) → list_all (is_own n) (open_if a) ≡ true
  open-own true = refl
  open-own false = and_from (n == n) true (itself n) refl

  open-unfinished : (a : Bool) → is_opened lines n ≡ a → is_unfinished (lines ++ open_if a) n ≡ true
  open-unfinished true e = and_from (is_opened (lines ++ []) n) _ (ap (λ l. is_opened l n) (append-nil lines) ∙ e) (not_from_false _ (ap (λ l. is_done l n) (append-nil lines) ∙ undone))
  open-unfinished false e = and_from (is_opened (lines ++ Opened n id ∷ []) n) _
      (opened-append lines (Opened n id ∷ []) n ∙ or_right (is_opened lines n) _ (or_left (n == n) false (itself n)))
      (not_from_false _ (done-append lines (Opened n id ∷ []) n ∙ or_from (is_done lines n) false undone refl))

  open-registrations : (a : Bool) → registrations (lines ++ open_if a) n ≡ registrations lines n
  open-registrations true = ap (λ l. registrations l n) (append-nil lines)
  open-registrations false = registrations-append lines (Opened n id ∷ []) n ∙ append-nil (registrations lines n)

  open-entries : (a : Bool) → entries (lines ++ open_if a) n ≡ entries lines n
  open-entries true = ap (λ l. entries l n) (append-nil lines)
  open-entries false = entries-append lines (Opened n id ∷ []) n ∙ append-nil (entries lines n)

  -- the registration behind these
  registers-behind : (before : List LogLine) → is_unfinished before n ≡ true → is_registered before n r.name ≡ false → has_phases c r.name r.phases ≡ true → Prepares c sent ended before registers n r.name
  registers-behind before going none phases =
      let parts = and_parts (is_opened before n) _ going in
      record {
        follows = and_from (line_may_follow c sent ended before (Registered n r.name r.phases)) true (and_from (is_unfinished before n) _ going (and_from (not (is_registered before n r.name)) _ (not_from_false _ none) phases)) refl;
        going = and_from (is_opened (before ++ registers) n) _ (opened-append before registers n ∙ or_left (is_opened before n) _ parts.0)
            (not_from_false _ (done-append before registers n ∙ or_from (is_done before n) false (not-true _ parts.1) refl));
        there = ap (list_any (λ (g : Registration). bytes_eq g.resource r.name)) (registrations-append before registers n)
            ∙ list_any-append (λ (g : Registration). bytes_eq g.resource r.name) (registrations before n) (registrations registers n)
            ∙ or_right (is_registered before n r.name) _
            (ap (λ t. list_any (λ (g : Registration). bytes_eq g.resource r.name) (cons_option (cond t (Some (record { resource = r.name; phases = r.phases })) None) [])) (itself n) ∙ or_left (bytes_eq r.name r.name) false (bytes-itself r.name));
        same = entries-append before registers n ∙ append-nil (entries before n);
        own = and_from (n == n) true (itself n) refl;
      }

  prepares : (b a : Bool) → is_registered lines n r.name ≡ b → is_opened lines n ≡ a → is_between 1 sent id ≡ true → list_all (is_about n id) ended ≡ true → has_phases c r.name r.phases ≡ true
      → Prepares c sent ended lines (cond b [] (open_if a ++ registers)) n r.name
  prepares true a e f message about phases = record {
    follows = refl;
    going = ap (λ l. is_unfinished l n) (append-nil lines) ∙ and_from (is_opened lines n) _ (opened-before e) (not_from_false _ undone);
    there = ap (λ l. is_registered l n r.name) (append-nil lines) ∙ e;
    same = ap (λ l. entries l n) (append-nil lines);
    own = refl;
  }
  prepares false a e f message about phases =
      let before : List LogLine = lines ++ open_if a in
      let none : is_registered before n r.name ≡ false = ap (list_any (λ (g : Registration). bytes_eq g.resource r.name)) (open-registrations a) ∙ e in
      let on = registers-behind before (open-unfinished a f) none phases in
      let joined : before ++ registers ≡ lines ++ (open_if a ++ registers) = append_assoc lines (open_if a) registers in
      record {
        follows = follow-append c sent ended lines (open_if a) registers (open-follows a f message about) on.follows;
        going = ap (λ l. is_unfinished l n) (sym joined) ∙ on.going;
        there = ap (λ l. is_registered l n r.name) (sym joined) ∙ on.there;
        same = ap (λ l. entries l n) (sym joined) ∙ on.same ∙ open-entries a;
        own = own-append n (open_if a) registers (open-own a) on.own;
      }

  pub change-follow : (rec : LogRecord) → is_between 1 sent id ≡ true → list_all (is_about n id) ended ≡ true → has_phases c r.name r.phases ≡ true → rec.seq ≡ next_seq lines n r.name
      → has_row c r.name rec.key ≡ true → is_row_free lines r.name rec.key n ≡ true → lines_follow c sent ended lines (lines_by (is_registered lines n r.name) (is_opened lines n) n id r rec) ≡ true
  change-follow rec message about phases seq key free =
      let front : List LogLine = cond (is_registered lines n r.name) [] (open_if (is_opened lines n) ++ registers) in
      let on = prepares (is_registered lines n r.name) (is_opened lines n) refl refl message about phases in
      follow-append c sent ended lines front (Written n r.name rec ∷ []) on.follows
      (and_from (line_may_follow c sent ended (lines ++ front) (Written n r.name rec)) true
      (and_from (is_unfinished (lines ++ front) n) _ on.going
      (and_from (is_registered (lines ++ front) n r.name) _ on.there
      (and_from (rec.seq == next_seq (lines ++ front) n r.name) _ (eq-eqb _ _ (seq ∙ ap (λ es. length (of_resource r.name es) + 1) (sym on.same)))
      (and_from (has_row c r.name rec.key) _ key (free-behind n lines front r.name rec.key on.own free))))) refl)

-- the last record that isn't forgotten is among those that aren't

kept-of : (p : Entry → Bool) (w : List ℕ) (es : List Entry) → of_resource w (filter p es) ≡ filter (λ (x : LogRecord). p (record { resource = w; entry = x })) (of_resource w es)
kept-of p w [] = refl
kept-of p w (e ∷ es) = by (bytes_eq e.resource w) refl (p e) refl (kept-of p w es)
  where
    by : (b : Bool) → bytes_eq e.resource w ≡ b → (x : Bool) → p e ≡ x → of_resource w (filter p es) ≡ filter (λ (x : LogRecord). p (record { resource = w; entry = x })) (of_resource w es)
        → of_resource w (cond x (e ∷ filter p es) (filter p es)) ≡ filter (λ (x : LogRecord). p (record { resource = w; entry = x })) (map (λ (e : Entry). e.entry) (cond b (e ∷ filter (λ (e : Entry). bytes_eq e.resource w) es) (filter (λ (e : Entry). bytes_eq e.resource w) es)))
    by true g x f rest = here x f
      where
        same : e ≡ record { resource = w; entry = e.entry }
        same = λ i. record { resource = bytes-same e.resource w g i; entry = e.entry }

        here : (x : Bool) → p e ≡ x → of_resource w (cond x (e ∷ filter p es) (filter p es)) ≡ cond (p (record { resource = w; entry = e.entry })) (e.entry ∷ filter (λ (x : LogRecord). p (record { resource = w; entry = x })) (of_resource w es)) (filter (λ (x : LogRecord). p (record { resource = w; entry = x })) (of_resource w es))
        here true f =
            ap (λ b. map (λ (e : Entry). e.entry) (cond b (e ∷ filter (λ (e : Entry). bytes_eq e.resource w) (filter p es)) (filter (λ (e : Entry). bytes_eq e.resource w) (filter p es)))) g
            ∙ ap (λ l. e.entry ∷ l) rest
            ∙ sym (ap (λ t. cond t (e.entry ∷ filter (λ (x : LogRecord). p (record { resource = w; entry = x })) (of_resource w es)) (filter (λ (x : LogRecord). p (record { resource = w; entry = x })) (of_resource w es))) (sym (ap p same) ∙ f))
        here false f =
            rest
            ∙ sym (ap (λ t. cond t (e.entry ∷ filter (λ (x : LogRecord). p (record { resource = w; entry = x })) (of_resource w es)) (filter (λ (x : LogRecord). p (record { resource = w; entry = x })) (of_resource w es))) (sym (ap p same) ∙ f))
    by false g true f rest =
        ap (λ b. map (λ (e : Entry). e.entry) (cond b (e ∷ filter (λ (e : Entry). bytes_eq e.resource w) (filter p es)) (filter (λ (e : Entry). bytes_eq e.resource w) (filter p es)))) g ∙ rest
    by false g false f rest = rest

last-there : (lines : List LogLine) (n : ℕ) (w : List ℕ) (e : LogRecord) → last_kept lines n w ≡ Some e → list_any (λ (x : LogRecord). x.seq == e.seq) (unforgotten lines n w) ≡ true
last-there lines n w e h = by (reverse (records_in lines n w)) refl h
  where
    none-is : None ≡ Some e → ⊥
    none-is f = cc

    by : (l : List LogRecord) → reverse (records_in lines n w) ≡ l → unless_forgotten lines n w l ≡ Some e → list_any (λ (x : LogRecord). x.seq == e.seq) (unforgotten lines n w) ≡ true
    by [] f h = absurd (none-is h)
    by (first ∷ others) f h = kept (is_forgotten lines n (record { resource = w; entry = first })) refl h
      where
        kept : (b : Bool) → is_forgotten lines n (record { resource = w; entry = first }) ≡ b → cond b None (Some first) ≡ Some e → list_any (λ (x : LogRecord). x.seq == e.seq) (unforgotten lines n w) ≡ true
        kept true g h = absurd (none-is h)
        kept false g h =
            let same : first ≡ e = cc in
            let all : records_in lines n w ≡ reverse others ++ first ∷ [] = sym (reverse-reverse (records_in lines n w)) ∙ ap reverse f ∙ reverse-append (first ∷ []) others in
            ap (list_any (λ (x : LogRecord). x.seq == e.seq)) (kept-of (λ x. not (is_forgotten lines n x)) w (entries lines n)
            ∙ ap (filter (λ (x : LogRecord). not (is_forgotten lines n (record { resource = w; entry = x })))) all
            ∙ filter-append (λ (x : LogRecord). not (is_forgotten lines n (record { resource = w; entry = x }))) (reverse others) (first ∷ [])
            ∙ ap (λ b. filter (λ (x : LogRecord). not (is_forgotten lines n (record { resource = w; entry = x }))) (reverse others) ++ cond (not b) (first ∷ []) []) g)
            ∙ list_any-append (λ (x : LogRecord). x.seq == e.seq) (filter (λ (x : LogRecord). not (is_forgotten lines n (record { resource = w; entry = x }))) (reverse others)) (first ∷ [])
            ∙ or_right (list_any (λ (x : LogRecord). x.seq == e.seq) (filter (λ (x : LogRecord). not (is_forgotten lines n (record { resource = w; entry = x }))) (reverse others))) _
            (or_left (first.seq == e.seq) false (eq-eqb _ _ (ap (λ (x : LogRecord). x.seq) same)))

-- a retract

pub retract-follow : (c : Catalogue) (sent : ℕ) (ended : List Ended) (k : ClerkView) (w : List ℕ) → is_done k.lines k.attempt ≡ false → lines_follow c sent ended k.lines (forgetting_lines k w) ≡ true
retract-follow c sent ended k w undone = by (last_kept k.lines k.attempt w) refl
  where
    by : (o : Option LogRecord) → last_kept k.lines k.attempt w ≡ o → lines_follow c sent ended k.lines (forgot_lines k w o) ≡ true
    by None e = refl
    by (Some last) e = and_from (line_may_follow c sent ended k.lines (Forgot k.attempt w last.seq)) true (and_from (not (is_done k.lines k.attempt)) _ (not_from_false _ undone) (last-there k.lines k.attempt w last e)) refl

pub retract-own : (k : ClerkView) (w : List ℕ) → list_all (is_own k.attempt) (forgetting_lines k w) ≡ true
retract-own k w = by (last_kept k.lines k.attempt w)
  where
    by : (o : Option LogRecord) → list_all (is_own k.attempt) (forgot_lines k w o) ≡ true
    by None = refl
    by (Some last) = and_from (k.attempt == k.attempt) true (itself k.attempt) refl
