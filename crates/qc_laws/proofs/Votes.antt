-- The prepare phases find the resource that the outcome of the records names.
use Rattle.std.proofs.Common.{◌≡◌, ◌∙◌, ℕ, ◌==◌, List, [], ◌∷◌, ◌++◌, All, Bool, true, false, not, cond, ◌&&◌, ◌||◌, map, filter, find, refl, sym, ap, true≢false, Option, Some, None, append-nil}
use Rattle.std.specs.List.{list_any}
use Rattle.std.specs.Option.{option_map_or}
use Rattle.std.specs.Str.{bytes_eq}
use Rattle.std.proofs.lemmas.Bool.{and_parts, and_from, or_parts, or_from, and_left, and_right, not-true}
use Rattle.std.proofs.lemmas.List.Elements.{All-cons, All-head, All-nil, All-tail}
use Rattle.std.proofs.lemmas.List.Folds.{list_any-append}
use Rattle.qc_base.specs.declared.log_line.LogLine.{LogLine}
use Rattle.qc_base.specs.declared.log_line.LogLine.TheVariants.{Forgot}
use Rattle.qc_base.specs.declared.log_line.LogRecord.{LogRecord}
use Rattle.qc_base.specs.declared.log_line.Why.{Why}
use Rattle.qc_base.specs.LogLines.{Entry, Registration, has_phase, entries, forgets_entry, is_forgotten, of_resource, registrations, unforgotten}
use Rattle.qc_catalogue.specs.declared.catalogue.Catalogue.{Catalogue}
use Rattle.qc_catalogue.specs.declared.catalogue.Resource.{Resource}
use Rattle.qc_catalogue.specs.Lookup.{resource_named}
use Rattle.qc_catalogue.specs.Orderly.{are_apart}
use Rattle.qc_script.specs.Naming.{names_with}
use Rattle.crm_driver.specs.Ready.{is_ready, is_ready_by}
use Rattle.crm_driver.specs.RowRules.{rules_of}
use Rattle.qc_play.specs.declared.record.PlayRecord.{PlayRecord}
use Rattle.qc_play.specs.Effects.{records_of}
use Rattle.qc_play.proofs.OuterLaws.{bytes-same, bytes-flip}
use Rattle.qc_txn.specs.Outcome.{decision, ended, not_ready, votes_no, why_by}
use Rattle.qc_machine.specs.Finishable.{registration_in}
use Rattle.qc_machine.specs.LogAndRows.{LogAndRows, lines_of, with_lines}
use Rattle.qc_machine.specs.Playing.{ended_attempt, why_ended}
use Rattle.qc_machine.specs.Preparing.{Prepared, and_then_prepared, asked, prepared_all, prepared_one, unasked}
use Rattle.qc_machine.specs.Underway.{Underway, at_end, unless_forced}
use Rattle.qc_laws.specs.Logged.{entry_of, names_of, IsLogged}
use Rattle.qc_laws.proofs.Carried.{lines-with}
use Rattle.qc_laws.proofs.LineWords.{entries-append, or-false}
use Rattle.qc_laws.proofs.Logging.{resource-name}

-- the unforgotten records by the lines are those of the play state
pub unforgotten-is : (c : Catalogue) (lines : List LogLine) (n id : ℕ) (rs : List PlayRecord) → IsLogged c lines n id rs → (resource : List ℕ) → unforgotten lines n resource ≡ records_of resource rs
unforgotten-is c lines n id rs is resource = ap (λ es. of_resource resource (filter (λ e. not (is_forgotten lines n e)) es)) is.entries ∙ by rs is.forgotten
  where
    by : (rs : List PlayRecord) → All (λ (p : PlayRecord). is_forgotten lines n (entry_of p) ≡ p.forgotten) rs → of_resource resource (filter (λ e. not (is_forgotten lines n e)) (map entry_of rs)) ≡ records_of resource rs
    by [] all = refl
    by (r ∷ rs) all =
        ap (λ b. of_resource resource (cond (not b) (entry_of r ∷ filter (λ e. not (is_forgotten lines n e)) (map entry_of rs)) (filter (λ e. not (is_forgotten lines n e)) (map entry_of rs)))) (All-head (λ (p : PlayRecord). is_forgotten lines n (entry_of p) ≡ p.forgotten) r rs all)
        ∙ one r.forgotten (by rs (All-tail (λ (p : PlayRecord). is_forgotten lines n (entry_of p) ≡ p.forgotten) r rs all))
      where
        one : (b : Bool) → of_resource resource (filter (λ e. not (is_forgotten lines n e)) (map entry_of rs)) ≡ records_of resource rs
            → of_resource resource (cond (not b) (entry_of r ∷ filter (λ e. not (is_forgotten lines n e)) (map entry_of rs)) (filter (λ e. not (is_forgotten lines n e)) (map entry_of rs))) ≡ cond (bytes_eq r.resource resource && not b) (r.entry ∷ records_of resource rs) (records_of resource rs)
        one true rest = rest ∙ sym (ap (λ b. cond b (r.entry ∷ records_of resource rs) (records_of resource rs)) (and_right (bytes_eq r.resource resource) false refl))
        one false rest = two (bytes_eq r.resource resource)
          where
            two : (d : Bool) → map (λ (e : Entry). e.entry) (cond d (entry_of r ∷ filter (λ (e : Entry). bytes_eq e.resource resource) (filter (λ e. not (is_forgotten lines n e)) (map entry_of rs))) (filter (λ (e : Entry). bytes_eq e.resource resource) (filter (λ e. not (is_forgotten lines n e)) (map entry_of rs)))) ≡ cond (d && true) (r.entry ∷ records_of resource rs) (records_of resource rs)
            two true = ap (λ l. r.entry ∷ l) rest
            two false = rest

-- Forgot lines of one resource say nothing of another

pub forgot-entries : (n : ℕ) (resource : List ℕ) (xs : List LogRecord) (m : ℕ) → entries (map (λ (r : LogRecord). Forgot n resource r.seq) xs) m ≡ []
forgot-entries n resource [] m = refl
forgot-entries n resource (x ∷ xs) m = forgot-entries n resource xs m

forgot-other : (n : ℕ) (resource other : List ℕ) (seq : ℕ) (xs : List LogRecord) → bytes_eq resource other ≡ false → list_any (forgets_entry n other seq) (map (λ (r : LogRecord). Forgot n resource r.seq) xs) ≡ false
forgot-other n resource other seq [] e = refl
forgot-other n resource other seq (x ∷ xs) e = or_from ((n == n) && (bytes_eq resource other && (x.seq == seq))) _ (and_right (n == n) _ (and_left (bytes_eq resource other) _ e)) (forgot-other n resource other seq xs e)

pub agree-of : (resource : List ℕ) (p q : Entry → Bool) (es : List Entry) → ((e : Entry) → bytes_eq e.resource resource ≡ true → p e ≡ q e) → of_resource resource (filter p es) ≡ of_resource resource (filter q es)
agree-of resource p q [] h = refl
agree-of resource p q (e ∷ es) h = by (bytes_eq e.resource resource) refl (p e) refl (q e) refl (agree-of resource p q es h)
  where
    drop-it : (l : List Entry) → bytes_eq e.resource resource ≡ false → of_resource resource (e ∷ l) ≡ of_resource resource l
    drop-it l f = ap (λ b. map (λ (e : Entry). e.entry) (cond b (e ∷ filter (λ (e : Entry). bytes_eq e.resource resource) l) (filter (λ (e : Entry). bytes_eq e.resource resource) l))) f

    keep-it : (l : List Entry) → bytes_eq e.resource resource ≡ true → of_resource resource (e ∷ l) ≡ e.entry ∷ of_resource resource l
    keep-it l f = ap (λ b. map (λ (e : Entry). e.entry) (cond b (e ∷ filter (λ (e : Entry). bytes_eq e.resource resource) l) (filter (λ (e : Entry). bytes_eq e.resource resource) l))) f

    by : (b : Bool) → bytes_eq e.resource resource ≡ b → (x : Bool) → p e ≡ x → (y : Bool) → q e ≡ y → of_resource resource (filter p es) ≡ of_resource resource (filter q es) → of_resource resource (cond x (e ∷ filter p es) (filter p es)) ≡ of_resource resource (cond y (e ∷ filter q es) (filter q es))
    by true f true g true k rest = keep-it (filter p es) f ∙ ap (λ l. e.entry ∷ l) rest ∙ sym (keep-it (filter q es) f)
    by true f false g false k rest = rest
    by true f true g false k rest = absurd (true≢false (sym g ∙ h e f ∙ k))
    by true f false g true k rest = absurd (true≢false (sym k ∙ sym (h e f) ∙ g))
    by false f true g true k rest = drop-it (filter p es) f ∙ rest ∙ sym (drop-it (filter q es) f)
    by false f true g false k rest = drop-it (filter p es) f ∙ rest
    by false f false g true k rest = rest ∙ sym (drop-it (filter q es) f)
    by false f false g false k rest = rest

pub unforgotten-other : (lines : List LogLine) (n : ℕ) (resource other : List ℕ) (xs : List LogRecord) → bytes_eq resource other ≡ false → unforgotten (lines ++ map (λ (r : LogRecord). Forgot n resource r.seq) xs) n other ≡ unforgotten lines n other
unforgotten-other lines n resource other xs e =
    let more : List LogLine = map (λ (r : LogRecord). Forgot n resource r.seq) xs in
    ap (λ es. of_resource other (filter (λ e. not (is_forgotten (lines ++ more) n e)) es)) (entries-append lines more n ∙ ap (λ l. entries lines n ++ l) (forgot-entries n resource xs n) ∙ append-nil (entries lines n))
    ∙ agree-of other (λ e. not (is_forgotten (lines ++ more) n e)) (λ e. not (is_forgotten lines n e)) (entries lines n) (λ x f.
    let other_x : bytes_eq resource x.resource ≡ false = ap (bytes_eq resource) (bytes-same x.resource other f) ∙ e in
    ap not (list_any-append (forgets_entry n x.resource x.entry.seq) lines more ∙ ap (λ b. list_any (forgets_entry n x.resource x.entry.seq) lines || b) (forgot-other n resource x.resource x.entry.seq xs other_x) ∙ or-false (list_any (forgets_entry n x.resource x.entry.seq) lines)))

-- what one resource's prepare phase, and one before others, comes to

pub one-after : (P : LogAndRows → Type 0) (c : Catalogue) (n : ℕ) (g : Registration) (o : LogAndRows) → P o → ((r : Resource) → resource_named g.resource c.resources ≡ Some r → P (asked r n o).after) → P (prepared_one c n g o).after
one-after P c n g o p h = by (has_phase 1 g.phases) (resource_named g.resource c.resources) refl
  where
    by : (b : Bool) (x : Option Resource) → resource_named g.resource c.resources ≡ x → P (cond b (option_map_or (λ (r : Resource). asked r n o) x (unasked o)) (unasked o)).after
    by true None e = p
    by true (Some r) e = h r e
    by false x e = p

pub then-after : (P : LogAndRows → Type 0) (next : LogAndRows → Prepared) (p : Prepared) → P p.after → P (next p.after).after → P (and_then_prepared next p).after
then-after P next p one rest = by p.refuser
  where
    by : (x : Option (List ℕ)) → P (elim x as (λ x. Prepared) [ Some name ↦ p | None ↦ record (next p.after) { notices = p.notices ++ (next p.after).notices } ]).after
    by (Some name) = one
    by None = rest

then-refuser : (next : LogAndRows → Prepared) (p : Prepared) → (and_then_prepared next p).refuser ≡ (elim p.refuser as (λ x. Option (List ℕ)) [ Some name ↦ Some name | None ↦ (next p.after).refuser ])
then-refuser next p = by p.refuser refl
  where
    by : (x : Option (List ℕ)) → p.refuser ≡ x → (elim x as (λ x. Prepared) [ Some name ↦ p | None ↦ record (next p.after) { notices = p.notices ++ (next p.after).notices } ]).refuser ≡ (elim x as (λ x. Option (List ℕ)) [ Some name ↦ Some name | None ↦ (next p.after).refuser ])
    by (Some name) e = e
    by None e = refl

-- the prepare phases of distinct resources

module _ (c : Catalogue) (n : ℕ) (rs : List PlayRecord) where
  abbrev pub agrees : LogAndRows → List ℕ → Type 0
  agrees o name = unforgotten (lines_of o) n name ≡ records_of name rs

  one-vote : (name : List ℕ) (o : LogAndRows) → agrees o name → (prepared_one c n (registration_in c name) o).refuser ≡ cond (votes_no c rs name) (Some name) None
  one-vote name o agree = by (resource_named name c.resources) refl
    where
      either : (b : Bool) → (cond b (unasked o) (unasked o)).refuser ≡ None
      either true = refl
      either false = refl

      flip : (b : Bool) → cond b None (Some name) ≡ cond (not b) (Some name) None
      flip true = refl
      flip false = refl

      by : (x : Option Resource) → resource_named name c.resources ≡ x
          → (cond (has_phase 1 (option_map_or (λ (r : Resource). r.phases) x 0)) (option_map_or (λ (r : Resource). asked r n o) x (unasked o)) (unasked o)).refuser
          ≡ cond (option_map_or (λ (r : Resource). has_phase 1 r.phases && not (is_ready r (records_of name rs))) x false) (Some name) None
      by None e = either (has_phase 1 0)
      by (Some r) e = phase (has_phase 1 r.phases)
        where
          named : r.name ≡ name
          named = resource-name c name r e

          records-are : unforgotten (lines_of o) n r.name ≡ records_of name rs
          records-are = ap (unforgotten (lines_of o) n) named ∙ agree

          phase : (b : Bool) → (cond b (asked r n o) (unasked o)).refuser ≡ cond (b && not (is_ready r (records_of name rs))) (Some name) None
          phase false = refl
          phase true = (λ i. cond (is_ready_by r.bounds (records-are i)) None (Some (named i))) ∙ flip (is_ready r (records_of name rs))

  still-agree : (o : LogAndRows) (name : List ℕ) (xs : List LogRecord) (names : List (List ℕ)) → list_any (bytes_eq name) names ≡ false → All (agrees o) names
      → All (agrees (with_lines (map (λ (r : LogRecord). Forgot n name r.seq) xs) o)) names
  still-agree o name xs [] none all = All-nil (agrees (with_lines (map (λ (r : LogRecord). Forgot n name r.seq) xs) o))
  still-agree o name xs (x ∷ names) none all =
      let parts = or_parts (bytes_eq name x) _ none in
      All-cons (agrees (with_lines (map (λ (r : LogRecord). Forgot n name r.seq) xs) o)) x names
      (ap (λ l. unforgotten l n x) (lines-with (map (λ (r : LogRecord). Forgot n name r.seq) xs) o) ∙ unforgotten-other (lines_of o) n name x xs parts.0 ∙ All-head (agrees o) x names all)
      (still-agree o name xs names parts.1 (All-tail (agrees o) x names all))

  pub rest-agree : (name : List ℕ) (names : List (List ℕ)) (o : LogAndRows) → are_apart (name ∷ names) ≡ true → All (agrees o) (name ∷ names) → All (agrees (prepared_one c n (registration_in c name) o).after) names
  rest-agree name names o apart all =
      let none = not-true _ (and_parts (not (list_any (bytes_eq name) names)) _ apart).0 in
      one-after (λ t. All (agrees t) names) c n (registration_in c name) o (All-tail (agrees o) name names all)
      (λ r found. still-agree o r.name (filter (rules_of r).forgets (unforgotten (lines_of o) n r.name)) names (ap (λ w. list_any (bytes_eq w) names) (resource-name c name r found) ∙ none) (All-tail (agrees o) name names all))

  votes-found : (names : List (List ℕ)) (o : LogAndRows) → are_apart names ≡ true → All (agrees o) names → (prepared_all c n (map (registration_in c) names) o).refuser ≡ find (votes_no c rs) names
  votes-found [] o apart all = refl
  votes-found (name ∷ names) o apart all =
      let parts = and_parts (not (list_any (bytes_eq name) names)) _ apart in
      let p : Prepared = prepared_one c n (registration_in c name) o in
      then-refuser (prepared_all c n (map (registration_in c) names)) p
      ∙ ap (λ x. elim x as (λ x. Option (List ℕ)) [ Some name ↦ Some name | None ↦ (prepared_all c n (map (registration_in c) names) p.after).refuser ]) (one-vote name o (All-head (agrees o) name names all))
      ∙ by (votes_no c rs name) (prepared_all c n (map (registration_in c) names) p.after).refuser (votes-found names p.after parts.1 (rest-agree name names o apart all))
    where
      by : (b : Bool) (x : Option (List ℕ)) → x ≡ find (votes_no c rs) names → (elim (cond b (Some name) None) as (λ x. Option (List ℕ)) [ Some name ↦ Some name | None ↦ x ]) ≡ cond b (Some name) (find (votes_no c rs) names)
      by true x h = refl
      by false x h = h

-- the resources of records are distinct

push-apart : (names : List (List ℕ)) (x : List ℕ) → are_apart names ≡ true → list_any (bytes_eq x) names ≡ false → are_apart (names ++ x ∷ []) ≡ true
push-apart [] x apart none = refl
push-apart (n ∷ names) x apart none =
    let parts = and_parts (not (list_any (bytes_eq n) names)) _ apart in
    let other = or_parts (bytes_eq x n) _ none in
    and_from (not (list_any (bytes_eq n) (names ++ x ∷ []))) _
    (ap not (list_any-append (bytes_eq n) names (x ∷ []) ∙ or_from (list_any (bytes_eq n) names) _ (not-true _ parts.0) (or_from (bytes_eq n x) false (bytes-flip x n false other.0) refl)))
    (push-apart names x parts.1 other.1)

with-apart : (names more : List (List ℕ)) → are_apart names ≡ true → are_apart (names_with names more) ≡ true
with-apart names [] apart = apart
with-apart names (x ∷ more) apart = with-apart (cond (list_any (bytes_eq x) names) names (names ++ x ∷ [])) more (by (list_any (bytes_eq x) names) refl)
  where
    by : (b : Bool) → list_any (bytes_eq x) names ≡ b → are_apart (cond b names (names ++ x ∷ [])) ≡ true
    by true e = apart
    by false e = push-apart names x apart e

pub names-apart : (rs : List PlayRecord) → are_apart (names_of rs) ≡ true
names-apart rs = with-apart [] (map (λ (r : PlayRecord). r.resource) rs) refl

pub each-agrees : (c : Catalogue) (o : LogAndRows) (n id : ℕ) (rs : List PlayRecord) → IsLogged c (lines_of o) n id rs → (names : List (List ℕ)) → All (agrees c n rs o) names
each-agrees c o n id rs is [] = All-nil (agrees c n rs o)
each-agrees c o n id rs is (name ∷ names) = All-cons (agrees c n rs o) name names (unforgotten-is c (lines_of o) n id rs is name) (each-agrees c o n id rs is names)

-- what the prepare phases find is the outcome's
pub votes-stand : (c : Catalogue) (o : LogAndRows) (n id : ℕ) (rs : List PlayRecord) → IsLogged c (lines_of o) n id rs → (prepared_all c n (registrations (lines_of o) n) o).refuser ≡ not_ready c rs
votes-stand c o n id rs is =
    ap (λ gs. (prepared_all c n gs o).refuser) is.registered ∙ votes-found c n rs (names_of rs) o (names-apart rs) (each-agrees c o n id rs is (names_of rs))

-- and so is why the attempt fails, where it does
pub why-stands : (c : Catalogue) (x : Underway) → IsLogged c (lines_of x.site) x.held.attempt x.held.id x.held.play.records → (at_end c x).why ≡ why_ended c x.held
why-stands c x is = by x.held.why x.held.play.forced
  where
    by : (w : Option Why) (f : Bool)
        → (elim w as (λ x. Option Why) [ Some why ↦ Some why | None ↦ why_by f (elim w as (λ x. Prepared) [ Some why ↦ unasked x.site | None ↦ unless_forced c x f ]).refuser ])
        ≡ (elim w as (λ x. Option Why) [ Some why ↦ Some why | None ↦ why_by f (not_ready c x.held.play.records) ])
    by (Some why) f = refl
    by None true = refl
    by None false = ap (why_by false) (votes-stand c x.site x.held.attempt x.held.id x.held.play.records is)

pub held-stands : (c : Catalogue) (x : Underway) → IsLogged c (lines_of x.site) x.held.attempt x.held.id x.held.play.records → (at_end c x).left.held ≡ ended_attempt (why_ended c x.held) x.held
held-stands c x is = ap (λ why. ended_attempt why x.held) (why-stands c x is)

-- so it fails or commits as its outcome does
pub outcome-stands : (c : Catalogue) (x : Underway) → IsLogged c (lines_of x.site) x.held.attempt x.held.id x.held.play.records → x.held.why ≡ None → ended x.held.play (at_end c x).why ≡ decision c x.held.play
outcome-stands c x is none =
    ap (ended x.held.play) (why-stands c x is ∙ ap (λ w. elim w as (λ x. Option Why) [ Some why ↦ Some why | None ↦ why_by x.held.play.forced (not_ready c x.held.play.records) ]) none)
