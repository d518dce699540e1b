-- A prepare phase forgets the records that changed nothing, and what is left leads from the first amounts to the same.
use Rattle.std.proofs.Common.{◌≡◌, ◌∙◌, ◌⊎◌, inl, inr, ℕ, ◌+◌, ◌≤◌, ◌<◌, ◌==◌, List, [], ◌∷◌, ◌++◌, All, Bool, true, false, not, cond, ◌&&◌, ◌||◌, map, filter, reverse, refl, sym, ap, subst, arith, Option, Some, None, eq-eqb, ne_eqb, eqb-true, append-nil}
use Rattle.std.proofs.Math.Logic.{⊎_elim}
use Rattle.std.specs.List.{list_any}
use Rattle.std.specs.Str.{bytes_eq}
use Rattle.std.proofs.lemmas.Bool.{and_parts, or_from, or_left}
use Rattle.std.proofs.lemmas.List.{reverse-append}
use Rattle.std.proofs.lemmas.List.Elements.{All-head, filter-append}
use Rattle.std.proofs.lemmas.List.Folds.{list_any-append}
use Rattle.qc_base.specs.declared.log_line.LogLine.{LogLine}
use Rattle.qc_base.specs.declared.log_line.LogLine.TheVariants.{Forgot}
use Rattle.qc_base.specs.declared.log_line.LogRecord.{LogRecord}
use Rattle.qc_base.specs.declared.log_line.Why.{Why}
use Rattle.qc_base.specs.LogLines.{Entry, entries, forgets_entry, is_forgotten, of_resource, unforgotten}
use Rattle.qc_catalogue.specs.declared.catalogue.Catalogue.{Catalogue}
use Rattle.qc_catalogue.specs.declared.catalogue.Resource.{Resource}
use Rattle.qc_catalogue.specs.Orderly.{are_apart}
use Rattle.crm_driver.specs.RowRules.{rules_of}
use Rattle.qc_play.specs.declared.record.PlayRecord.{PlayRecord}
use Rattle.qc_play.specs.Play.{is_of}
use Rattle.qc_play.specs.Effects.{AreNumbers, IsChain, numbers_of, records_of}
use Rattle.qc_play.proofs.OuterLaws.{bytes-same, bytes-itself, chain-same}
use Rattle.qc_machine.specs.Finishable.{registration_in}
use Rattle.qc_machine.specs.LogAndRows.{LogAndRows, lines_of}
use Rattle.qc_machine.specs.Preparing.{Prepared, asked, prepared_all, prepared_one, unasked}
use Rattle.qc_machine.specs.Underway.{Underway, at_end, forced_unless, prepared, unless_forced, why_prepared}
use Rattle.qc_laws.specs.Logged.{names_of, IsLogged}
use Rattle.qc_laws.proofs.Carried.{lines-with, lines-forced}
use Rattle.qc_laws.proofs.LineWords.{entries-append}
use Rattle.qc_laws.proofs.Logging.{resource-name}
use Rattle.qc_laws.proofs.Votes.{agree-of, agrees, each-agrees, forgot-entries, names-apart, one-after, rest-agree, then-after, unforgotten-is, unforgotten-other}

-- records that change nothing

abbrev pub is_idle : LogRecord → Bool
is_idle r = r.old == r.new

abbrev undone : LogRecord → (List ℕ → Option ℕ) → List ℕ → Option ℕ
undone r now k = cond (bytes_eq k r.key) (Some r.old) (now k)

abbrev pub changes_row : LogRecord → Bool
changes_row r = not (is_idle r)

pub chain-thinned : (first now : List ℕ → Option ℕ) (rs : List LogRecord) → IsChain first rs now → IsChain first (filter changes_row rs) now
chain-thinned first now [] c = c
chain-thinned first now (r ∷ rs) c = by (r.old == r.new) refl (chain-thinned first (undone r now) rs c.1)
  where
    by : (b : Bool) → (r.old == r.new) ≡ b → IsChain first (filter changes_row rs) (undone r now) → IsChain first (cond (not b) (r ∷ filter changes_row rs) (filter changes_row rs)) now
    by false e rest = (c.0, rest)
    by true e rest = chain-same first (filter changes_row rs) (undone r now) now (λ k. same k (bytes_eq k r.key) refl) rest
      where
        same : (k : List ℕ) (b : Bool) → bytes_eq k r.key ≡ b → now k ≡ cond (bytes_eq k r.key) (Some r.old) (now k)
        same k true f = (λ i. now (bytes-same k r.key f i)) ∙ c.0 ∙ ap Some (sym (eqb-true _ _ e)) ∙ sym (ap (λ b. cond b (Some r.old) (now k)) f)
        same k false f = sym (ap (λ b. cond b (Some r.old) (now k)) f)

pub filter-reverse : (p : LogRecord → Bool) (xs : List LogRecord) → filter p (reverse xs) ≡ reverse (filter p xs)
filter-reverse p [] = refl
filter-reverse p (x ∷ xs) = ap (filter p) (reverse-append (x ∷ []) xs) ∙ filter-append p (reverse xs) (x ∷ []) ∙ ap (λ l. l ++ filter p (x ∷ [])) (filter-reverse p xs) ∙ by (p x)
  where
    by : (b : Bool) → reverse (filter p xs) ++ cond b (x ∷ []) [] ≡ reverse (cond b (x ∷ filter p xs) (filter p xs))
    by true = sym (reverse-append (x ∷ []) (filter p xs))
    by false = append-nil (reverse (filter p xs))

-- Forgot lines of a resource, and its unforgotten records behind them

of-filter : (resource : List ℕ) (p : Entry → Bool) (q : LogRecord → Bool) (es : List Entry) → of_resource resource (filter (λ (e : Entry). p e && q e.entry) es) ≡ filter q (of_resource resource (filter p es))
of-filter resource p q [] = refl
of-filter resource p q (e ∷ es) = by (p e) (q e.entry) refl (bytes_eq e.resource resource) refl (of-filter resource p q es)
  where
    mine : (b : Bool) (l : List Entry) → bytes_eq e.resource resource ≡ b → of_resource resource (e ∷ l) ≡ cond b (e.entry ∷ of_resource resource l) (of_resource resource l)
    mine b l f = ap (λ b. map (λ (e : Entry). e.entry) (cond b (e ∷ filter (λ (e : Entry). bytes_eq e.resource resource) l) (filter (λ (e : Entry). bytes_eq e.resource resource) l))) f ∙ split b
      where
        split : (b : Bool) → map (λ (e : Entry). e.entry) (cond b (e ∷ filter (λ (e : Entry). bytes_eq e.resource resource) l) (filter (λ (e : Entry). bytes_eq e.resource resource) l)) ≡ cond b (e.entry ∷ of_resource resource l) (of_resource resource l)
        split true = refl
        split false = refl

    by : (x y : Bool) → q e.entry ≡ y → (b : Bool) → bytes_eq e.resource resource ≡ b → of_resource resource (filter (λ (e : Entry). p e && q e.entry) es) ≡ filter q (of_resource resource (filter p es))
        → of_resource resource (cond (x && y) (e ∷ filter (λ (e : Entry). p e && q e.entry) es) (filter (λ (e : Entry). p e && q e.entry) es)) ≡ filter q (of_resource resource (cond x (e ∷ filter p es) (filter p es)))
    by false y g b f rest = rest
    by true true g true f rest = mine true (filter (λ (e : Entry). p e && q e.entry) es) f ∙ ap (λ l. e.entry ∷ l) rest ∙ sym (ap (filter q) (mine true (filter p es) f) ∙ ap (λ t. cond t (e.entry ∷ filter q (of_resource resource (filter p es))) (filter q (of_resource resource (filter p es)))) g)
    by true true g false f rest = mine false (filter (λ (e : Entry). p e && q e.entry) es) f ∙ rest ∙ sym (ap (filter q) (mine false (filter p es) f))
    by true false g true f rest = rest ∙ sym (ap (filter q) (mine true (filter p es) f) ∙ ap (λ t. cond t (e.entry ∷ filter q (of_resource resource (filter p es))) (filter q (of_resource resource (filter p es)))) g)
    by true false g false f rest = rest ∙ sym (ap (filter q) (mine false (filter p es) f))

forgot-here : (n : ℕ) (resource : List ℕ) (seq : ℕ) (xs : List LogRecord) → list_any (forgets_entry n resource seq) (map (λ (r : LogRecord). Forgot n resource r.seq) xs) ≡ list_any (λ (r : LogRecord). r.seq == seq) xs
forgot-here n resource seq [] = refl
forgot-here n resource seq (x ∷ xs) =
    let here : ((n == n) && (bytes_eq resource resource && (x.seq == seq))) ≡ (x.seq == seq) = ap (λ b. b && (bytes_eq resource resource && (x.seq == seq))) (eq-eqb n n refl) ∙ ap (λ b. b && (x.seq == seq)) (bytes-itself resource) in
    λ i. here i || forgot-here n resource seq xs i

not-or : (a b : Bool) → not (a || b) ≡ (not a && not b)
not-or true b = refl
not-or false b = refl

unforgotten-here : (lines : List LogLine) (n : ℕ) (resource : List ℕ) (xs : List LogRecord) → unforgotten (lines ++ map (λ (r : LogRecord). Forgot n resource r.seq) xs) n resource ≡ filter (λ (r : LogRecord). not (list_any (λ (x : LogRecord). x.seq == r.seq) xs)) (unforgotten lines n resource)
unforgotten-here lines n resource xs =
    let more : List LogLine = map (λ (r : LogRecord). Forgot n resource r.seq) xs in
    ap (λ es. of_resource resource (filter (λ e. not (is_forgotten (lines ++ more) n e)) es)) (entries-append lines more n ∙ ap (λ l. entries lines n ++ l) (forgot-entries n resource xs n) ∙ append-nil (entries lines n))
    ∙ agree-of resource (λ e. not (is_forgotten (lines ++ more) n e)) (λ (e : Entry). not (is_forgotten lines n e) && not (list_any (λ (x : LogRecord). x.seq == e.entry.seq) xs)) (entries lines n) (λ e f.
    ap not (list_any-append (forgets_entry n e.resource e.entry.seq) lines more ∙ ap (λ b. list_any (forgets_entry n e.resource e.entry.seq) lines || b) ((λ i. list_any (forgets_entry n (bytes-same e.resource resource f i) e.entry.seq) more) ∙ forgot-here n resource e.entry.seq xs))
    ∙ not-or (list_any (forgets_entry n e.resource e.entry.seq) lines) (list_any (λ (x : LogRecord). x.seq == e.entry.seq) xs))
    ∙ of-filter resource (λ e. not (is_forgotten lines n e)) (λ (r : LogRecord). not (list_any (λ (x : LogRecord). x.seq == r.seq) xs)) (entries lines n)

-- a prepare phase forgets the records that changed nothing

above : (resource : List ℕ) (m : ℕ) (rs : List PlayRecord) (seq : ℕ) → AreNumbers m (numbers_of resource rs) → seq < m → list_any (λ (r : LogRecord). r.seq == seq) (filter is_idle (records_of resource rs)) ≡ false
above resource m [] seq all lt = refl
above resource m (p ∷ rs) seq all lt = by (bytes_eq p.resource resource) all p.forgotten (is_idle p.entry) (λ k all lt. above resource k rs seq all lt)
  where
    by : (b : Bool) → AreNumbers m (map (λ (r : PlayRecord). r.entry.seq) (cond b (p ∷ filter (is_of resource) rs) (filter (is_of resource) rs))) → (d e : Bool)
        → ((k : ℕ) → AreNumbers k (numbers_of resource rs) → seq < k → list_any (λ (r : LogRecord). r.seq == seq) (filter is_idle (records_of resource rs)) ≡ false)
        → list_any (λ (r : LogRecord). r.seq == seq) (filter is_idle (cond (b && not d) (p.entry ∷ records_of resource rs) (records_of resource rs))) ≡ false
    by true all true e on = on (m + 1) all.1 (omega (arith, lt))
    by true all false e on = pick (is_idle p.entry)
      where
        pick : (x : Bool) → list_any (λ (r : LogRecord). r.seq == seq) (cond x (p.entry ∷ filter is_idle (records_of resource rs)) (filter is_idle (records_of resource rs))) ≡ false
        pick true = or_from (p.entry.seq == seq) _ (ne_eqb _ _ (omega (arith, all.0, lt))) (on (m + 1) all.1 (omega (arith, lt)))
        pick false = on (m + 1) all.1 (omega (arith, lt))
    by false all d e on = on m all lt

-- the own records, each by whether a Forgot of its number is among those
pub thinned : (resource : List ℕ) (m : ℕ) (rs : List PlayRecord) (gone : ℕ → Bool) → AreNumbers m (numbers_of resource rs) → ((seq : ℕ) → m ≤ seq → gone seq ≡ list_any (λ (r : LogRecord). r.seq == seq) (filter is_idle (records_of resource rs)))
    → filter (λ (r : LogRecord). not (gone r.seq)) (records_of resource rs) ≡ filter changes_row (records_of resource rs)
thinned resource m [] gone all h = refl
thinned resource m (p ∷ rs) gone all h = by (bytes_eq p.resource resource) refl all p.forgotten refl (λ k all h. thinned resource k rs gone all h)
  where
    by : (b : Bool) → bytes_eq p.resource resource ≡ b → AreNumbers m (map (λ (r : PlayRecord). r.entry.seq) (cond b (p ∷ filter (is_of resource) rs) (filter (is_of resource) rs))) → (d : Bool) → p.forgotten ≡ d
        → ((k : ℕ) → AreNumbers k (numbers_of resource rs) → ((seq : ℕ) → k ≤ seq → gone seq ≡ list_any (λ (r : LogRecord). r.seq == seq) (filter is_idle (records_of resource rs))) → filter (λ (r : LogRecord). not (gone r.seq)) (records_of resource rs) ≡ filter changes_row (records_of resource rs))
        → filter (λ (r : LogRecord). not (gone r.seq)) (cond (b && not d) (p.entry ∷ records_of resource rs) (records_of resource rs)) ≡ filter changes_row (cond (b && not d) (p.entry ∷ records_of resource rs) (records_of resource rs))
    by false f all d g on = on m all (λ seq le. h seq le ∙ ap (λ t. list_any (λ (r : LogRecord). r.seq == seq) (filter is_idle (cond (t && not p.forgotten) (p.entry ∷ records_of resource rs) (records_of resource rs)))) f)
    by true f all true g on =
        on (m + 1) all.1 (λ seq le. h seq (omega (arith, le)) ∙ (λ i. list_any (λ (r : LogRecord). r.seq == seq) (filter is_idle (cond (f i && not (g i)) (p.entry ∷ records_of resource rs) (records_of resource rs)))))
    by true f all false g on =
        let rest = on (m + 1) all.1 (λ seq le. h seq (omega (arith, le)) ∙ (λ i. list_any (λ (r : LogRecord). r.seq == seq) (filter is_idle (cond (f i && not (g i)) (p.entry ∷ records_of resource rs) (records_of resource rs)))) ∙ skip seq (omega (arith, le, all.0)) (is_idle p.entry)) in
        let mine : gone p.entry.seq ≡ is_idle p.entry = h p.entry.seq (omega (arith, all.0)) ∙ (λ i. list_any (λ (r : LogRecord). r.seq == p.entry.seq) (filter is_idle (cond (f i && not (g i)) (p.entry ∷ records_of resource rs) (records_of resource rs)))) ∙ here (is_idle p.entry) in
        ap (λ t. cond (not t) (p.entry ∷ filter (λ (r : LogRecord). not (gone r.seq)) (records_of resource rs)) (filter (λ (r : LogRecord). not (gone r.seq)) (records_of resource rs))) mine ∙ join (is_idle p.entry) rest
      where
        skip : (seq : ℕ) → p.entry.seq < seq → (x : Bool) → list_any (λ (r : LogRecord). r.seq == seq) (cond x (p.entry ∷ filter is_idle (records_of resource rs)) (filter is_idle (records_of resource rs))) ≡ list_any (λ (r : LogRecord). r.seq == seq) (filter is_idle (records_of resource rs))
        skip seq lt true = ap (λ t. t || list_any (λ (r : LogRecord). r.seq == seq) (filter is_idle (records_of resource rs))) (ne_eqb _ _ (omega (arith, lt)))
        skip seq lt false = refl

        here : (x : Bool) → list_any (λ (r : LogRecord). r.seq == p.entry.seq) (cond x (p.entry ∷ filter is_idle (records_of resource rs)) (filter is_idle (records_of resource rs))) ≡ x
        here true = or_left (p.entry.seq == p.entry.seq) _ (eq-eqb _ _ refl)
        here false = above resource (m + 1) rs p.entry.seq all.1 (omega (arith, all.0))

        join : (x : Bool) → filter (λ (r : LogRecord). not (gone r.seq)) (records_of resource rs) ≡ filter changes_row (records_of resource rs)
            → cond (not x) (p.entry ∷ filter (λ (r : LogRecord). not (gone r.seq)) (records_of resource rs)) (filter (λ (r : LogRecord). not (gone r.seq)) (records_of resource rs)) ≡ cond (not x) (p.entry ∷ filter changes_row (records_of resource rs)) (filter changes_row (records_of resource rs))
        join true rest = rest
        join false rest = ap (λ l. p.entry ∷ l) rest

-- the log has for each resource all records of the play state that aren't forgotten, or those of them that change a row
abbrev pub IsThin : ℕ → List PlayRecord → List LogLine → Type 0
IsThin n rs lines = (w : List ℕ) → (unforgotten lines n w ≡ records_of w rs) ⊎ (unforgotten lines n w ≡ filter changes_row (records_of w rs))

module _ (c : Catalogue) (n : ℕ) (rs : List PlayRecord) (numbers : (w : List ℕ) → AreNumbers 1 (numbers_of w rs)) where
  asked-thins : (o : LogAndRows) (r : Resource) → agrees c n rs o r.name → IsThin n rs (lines_of o) → IsThin n rs (lines_of (asked r n o).after)
  asked-thins o r agree thin w = by (bytes_eq r.name w) refl
    where
      xs : List LogRecord
      xs = filter (rules_of r).forgets (unforgotten (lines_of o) n r.name)

      more : List LogLine
      more = map (λ (x : LogRecord). Forgot n r.name x.seq) (filter (rules_of r).forgets (unforgotten (lines_of o) n r.name))

      by : (b : Bool) → bytes_eq r.name w ≡ b → (unforgotten (lines_of (asked r n o).after) n w ≡ records_of w rs) ⊎ (unforgotten (lines_of (asked r n o).after) n w ≡ filter changes_row (records_of w rs))
      by false e =
          let same : unforgotten (lines_of (asked r n o).after) n w ≡ unforgotten (lines_of o) n w = ap (λ l. unforgotten l n w) (lines-with more o) ∙ unforgotten-other (lines_of o) n r.name w xs e in
          ⊎_elim (λ (f : unforgotten (lines_of o) n w ≡ records_of w rs). inl (same ∙ f)) (λ (f : unforgotten (lines_of o) n w ≡ filter changes_row (records_of w rs)). inr (same ∙ f)) (thin w)
      by true e = inr (subst (λ w. unforgotten (lines_of (asked r n o).after) n w ≡ filter changes_row (records_of w rs)) (bytes-same r.name w e)
          (ap (λ l. unforgotten l n r.name) (lines-with more o)
          ∙ unforgotten-here (lines_of o) n r.name xs
          ∙ (λ i. filter (λ (x : LogRecord). not (list_any (λ (y : LogRecord). y.seq == x.seq) (filter is_idle (agree i)))) (agree i))
          ∙ thinned r.name 1 rs (λ seq. list_any (λ (y : LogRecord). y.seq == seq) (filter is_idle (records_of r.name rs))) (numbers r.name) (λ seq le. refl)))

  all-thin : (names : List (List ℕ)) (o : LogAndRows) → are_apart names ≡ true → All (agrees c n rs o) names → IsThin n rs (lines_of o) → IsThin n rs (lines_of (prepared_all c n (map (registration_in c) names) o).after)
  all-thin [] o apart all thin = thin
  all-thin (name ∷ names) o apart all thin =
      let p : Prepared = prepared_one c n (registration_in c name) o in
      let one : IsThin n rs (lines_of p.after) = one-after (λ t. IsThin n rs (lines_of t)) c n (registration_in c name) o thin
      (λ r found. asked-thins o r (subst (agrees c n rs o) (sym (resource-name c name r found)) (All-head (agrees c n rs o) name names all)) thin) in
      then-after (λ t. IsThin n rs (lines_of t)) (prepared_all c n (map (registration_in c) names)) p one
      (all-thin names p.after (and_parts (not (list_any (bytes_eq name) names)) _ apart).1 (rest-agree c n rs name names o apart all) one)

-- so it is at the end of an attempt
pub end-thin : (c : Catalogue) (x : Underway) → IsLogged c (lines_of x.site) x.held.attempt x.held.id x.held.play.records → ((w : List ℕ) → AreNumbers 1 (numbers_of w x.held.play.records))
    → IsThin x.held.attempt x.held.play.records (lines_of (at_end c x).left.site)
end-thin c x is numbers = forced (why_prepared x.held (prepared c x))
  where
    n : ℕ
    n = x.held.attempt

    rs : List PlayRecord
    rs = x.held.play.records

    before : IsThin x.held.attempt x.held.play.records (lines_of x.site)
    before w = inl (unforgotten-is c (lines_of x.site) x.held.attempt x.held.id x.held.play.records is w)

    votes : (w : Option Why) (f : Bool) → IsThin x.held.attempt x.held.play.records (lines_of (elim w as (λ x. Prepared) [ Some why ↦ unasked x.site | None ↦ unless_forced c x f ]).after)
    votes (Some why) f = before
    votes None true = before
    votes None false = subst (λ gs. IsThin x.held.attempt x.held.play.records (lines_of (prepared_all c x.held.attempt gs x.site).after)) (sym is.registered)
        (all-thin c n rs numbers (names_of rs) x.site (names-apart rs) (each-agrees c x.site n x.held.id rs is (names_of rs)) before)

    forced : (w : Option Why) → IsThin x.held.attempt x.held.play.records (lines_of (forced_unless w (prepared c x).after))
    forced (Some why) = votes x.held.why x.held.play.forced
    forced None = subst (IsThin x.held.attempt x.held.play.records) (sym (lines-forced (prepared c x).after)) (votes x.held.why x.held.play.forced)
