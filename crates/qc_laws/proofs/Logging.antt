-- The lines of a change, and of a retract, go on with what the log says of an attempt.
use Rattle.std.proofs.Common.{◌≡◌, ◌∙◌, ℕ, ◌+◌, ◌≤◌, ◌<◌, ◌==◌, List, [], ◌∷◌, ◌++◌, Bool, true, false, not, cond, ◌&&◌, ◌||◌, map, count_by, refl, sym, ap, arith, Some, is_some, eq-eqb, eqb-true, ne_eqb, append-nil, true≢false}
use Rattle.std.specs.List.{list_any, list_all}
use Rattle.std.specs.Option.{option_map_or}
use Rattle.std.specs.Str.{bytes_eq}
use Rattle.std.proofs.lemmas.Bool.{and_from, or_parts, or_from, or_right, or_left, and_right, and_left, eqb-false}
use Rattle.std.proofs.lemmas.List.{map-append}
use Rattle.std.proofs.lemmas.List.Elements.{All-map, All-nil, All-push, All-weaker}
use Rattle.std.proofs.lemmas.List.Folds.{list_any-append, list_all-append}
use Rattle.qc_base.specs.declared.log_line.LogLine.{LogLine}
use Rattle.qc_base.specs.declared.log_line.LogLine.TheVariants.{Opened, Registered, Written, Forgot, Done}
use Rattle.qc_base.specs.LogLines.{Registration, forgets_entry, is_opened, is_done, registrations, is_registered, entries, is_forgotten}
use Rattle.qc_catalogue.specs.declared.catalogue.Catalogue.{Catalogue}
use Rattle.qc_catalogue.specs.declared.catalogue.Resource.{Resource}
use Rattle.qc_catalogue.specs.Lookup.{resource_named}
use Rattle.qc_catalogue.proofs.Lookups.{found_name}
use Rattle.qc_script.specs.Naming.{names_with}
use Rattle.qc_store.proofs.Listings.{count-cons}
use Rattle.qc_store.proofs.Tallying.{one_if}
use Rattle.qc_play.specs.declared.record.PlayRecord.{PlayRecord}
use Rattle.qc_play.specs.Play.{is_of, forget, new_record, outside_row}
use Rattle.qc_play.proofs.OuterLaws.{bytes-same, bytes-flip, marked, marked-keeps}
use Rattle.qc_machine.specs.Finishable.{registration_in}
use Rattle.qc_machine.specs.OwnLines.{is_own, is_named, own_lines}
use Rattle.qc_machine.proofs.Counts.{count-append}
use Rattle.qc_machine.proofs.OwnLines.{own-behind, own-any, none-forgets, own-opened, own-done, own-entries, own-registrations, no-own}
use Rattle.qc_laws.specs.Logged.{entry_of, opens_as, names_of, is_empty, IsLogged}
use Rattle.qc_laws.proofs.LineWords.{or-false, itself, opened-append, done-append, entries-append, registrations-append, lines_by, change-opened, change-undone, change-ids, change-entries, change-forgets, change-registers}

pub resource-name : (c : Catalogue) (resource : List ℕ) (r : Resource) → resource_named resource c.resources ≡ Some r → r.name ≡ resource
resource-name c resource r found = found_name (λ (x : Resource). x.name) resource c.resources r found

-- the resources of records, one more

names-append : (names xs ys : List (List ℕ)) → names_with names (xs ++ ys) ≡ names_with (names_with names xs) ys
names-append names [] ys = refl
names-append names (x ∷ xs) ys = names-append (cond (list_any (bytes_eq x) names) names (names ++ x ∷ [])) xs ys

names-push : (rs : List PlayRecord) (p : PlayRecord) → names_of (rs ++ p ∷ []) ≡ cond (list_any (bytes_eq p.resource) (names_of rs)) (names_of rs) (names_of rs ++ p.resource ∷ [])
names-push rs p = ap (names_with []) (map-append (λ (r : PlayRecord). r.resource) rs (p ∷ [])) ∙ names-append [] (map (λ (r : PlayRecord). r.resource) rs) (p.resource ∷ [])

registered-names : (c : Catalogue) (resource : List ℕ) (names : List (List ℕ)) → list_any (λ (g : Registration). bytes_eq g.resource resource) (map (registration_in c) names) ≡ list_any (bytes_eq resource) names
registered-names c resource [] = refl
registered-names c resource (x ∷ names) =
    let flip : bytes_eq x resource ≡ bytes_eq resource x = sym (bytes-flip x resource (bytes_eq x resource) refl) in
    λ i. flip i || registered-names c resource names i

not-empty : (rs : List PlayRecord) (p : PlayRecord) → is_empty (rs ++ p ∷ []) ≡ false
not-empty [] p = refl
not-empty (r ∷ rs) p = refl

unnamed-empty : (resource : List ℕ) (rs : List PlayRecord) → is_empty rs ≡ true → list_any (bytes_eq resource) (names_of rs) ≡ false
unnamed-empty resource [] e = refl
unnamed-empty resource (r ∷ rs) e = absurd (true≢false (sym e))

registered-is : (c : Catalogue) (lines : List LogLine) (n id : ℕ) (rs : List PlayRecord) → IsLogged c lines n id rs → (resource : List ℕ) → is_registered lines n resource ≡ list_any (bytes_eq resource) (names_of rs)
registered-is c lines n id rs is resource = ap (λ gs. list_any (λ (g : Registration). bytes_eq g.resource resource) gs) is.registered ∙ registered-names c resource (names_of rs)

-- a change and its lines

module _ (c : Catalogue) (lines : List LogLine) (n id : ℕ) (rs : List PlayRecord) (is : IsLogged c lines n id rs) (r : Resource) (resource key : List ℕ) (old new : ℕ) (found : resource_named resource c.resources ≡ Some r) where
  written : PlayRecord
  written = new_record (outside_row resource key) old new rs

  abbrev more : List LogLine
  more = lines_by (is_registered lines n r.name) (is_opened lines n) n id r (new_record (outside_row resource key) old new rs).entry

  name : r.name ≡ resource
  name = resource-name c resource r found

  named-here : is_registered lines n r.name ≡ list_any (bytes_eq resource) (names_of rs)
  named-here = registered-is c lines n id rs is r.name ∙ ap (λ w. list_any (bytes_eq w) (names_of rs)) name

  -- a resource is registered only where the attempt is opened
  opened-now : (is_opened lines n || (not (is_registered lines n r.name) && not (is_opened lines n))) ≡ true
  opened-now = by (is_opened lines n) refl
    where
      by : (a : Bool) → is_opened lines n ≡ a → (a || (not (is_registered lines n r.name) && not a)) ≡ true
      by true e = refl
      by false e =
          let none : is_empty rs ≡ true = flip (is_empty rs) (sym is.opened ∙ e) in
          ap (λ b. not b && true) (named-here ∙ unnamed-empty resource rs none)
        where
          flip : (b : Bool) → not b ≡ false → b ≡ true
          flip true f = refl
          flip false f = absurd (true≢false f)

  still : (w : List ℕ) (k : ℕ) → list_any (forgets_entry n w k) (lines ++ more) ≡ list_any (forgets_entry n w k) lines
  still w k =
      list_any-append (forgets_entry n w k) lines more
      ∙ ap (λ b. list_any (forgets_entry n w k) lines || b) (change-forgets n id r (new_record (outside_row resource key) old new rs).entry w k (is_registered lines n r.name) (is_opened lines n))
      ∙ or-false (list_any (forgets_entry n w k) lines)

  one : record { resource = r.name; phases = r.phases } ≡ registration_in c resource
  one = λ i. record { resource = name i; phases = sym (ap (λ o. option_map_or (λ (r : Resource). r.phases) o 0) found) i }

  registers : (b : Bool) → list_any (bytes_eq resource) (names_of rs) ≡ b
      → map (registration_in c) (names_of rs) ++ cond (is_registered lines n r.name) [] (record { resource = r.name; phases = r.phases } ∷ [])
      ≡ map (registration_in c) (cond (list_any (bytes_eq resource) (names_of rs)) (names_of rs) (names_of rs ++ resource ∷ []))
  registers true e =
      ap (λ t. map (registration_in c) (names_of rs) ++ cond t [] (record { resource = r.name; phases = r.phases } ∷ [])) (named-here ∙ e)
      ∙ append-nil (map (registration_in c) (names_of rs))
      ∙ sym (ap (λ t. map (registration_in c) (cond t (names_of rs) (names_of rs ++ resource ∷ []))) e)
  registers false e =
      ap (λ t. map (registration_in c) (names_of rs) ++ cond t [] (record { resource = r.name; phases = r.phases } ∷ [])) (named-here ∙ e)
      ∙ ap (λ g. map (registration_in c) (names_of rs) ++ g ∷ []) one
      ∙ sym (map-append (registration_in c) (names_of rs) (resource ∷ []))
      ∙ sym (ap (λ t. map (registration_in c) (cond t (names_of rs) (names_of rs ++ resource ∷ []))) e)

  pub change-logged : IsLogged c (lines ++ lines_by (is_registered lines n r.name) (is_opened lines n) n id r (new_record (outside_row resource key) old new rs).entry) n id (rs ++ new_record (outside_row resource key) old new rs ∷ [])
  change-logged =
      let p : PlayRecord = new_record (outside_row resource key) old new rs in
      let b : Bool = is_registered lines n r.name in
      let a : Bool = is_opened lines n in
      record {
        opened = opened-append lines more n ∙ ap (λ t. is_opened lines n || t) (change-opened n id r p.entry b a) ∙ opened-now ∙ sym (ap not (not-empty rs p));
        undone = done-append lines more n ∙ or_from (is_done lines n) _ is.undone (change-undone n id r p.entry b a);
        ids = list_all-append (opens_as n id) lines more ∙ and_from (list_all (opens_as n id) lines) _ is.ids (change-ids n id r p.entry b a);
        entries = entries-append lines more n ∙ (λ i. is.entries i ++ change-entries n id r p.entry b a i)
            ∙ (λ i. map entry_of rs ++ record { resource = name i; entry = p.entry } ∷ []) ∙ sym (map-append entry_of rs (p ∷ []));
        forgotten = All-push (λ (q : PlayRecord). is_forgotten (lines ++ more) n (entry_of q) ≡ q.forgotten) rs p
            (All-weaker (λ (q : PlayRecord). is_forgotten lines n (entry_of q) ≡ q.forgotten) (λ (q : PlayRecord). is_forgotten (lines ++ more) n (entry_of q) ≡ q.forgotten) (λ q e. still q.resource q.entry.seq ∙ e) rs is.forgotten)
            (still resource (count_by (is_of resource) rs + 1) ∙ is.fresh resource (count_by (is_of resource) rs + 1) (omega arith));
        fresh = λ w k lt. still w k ∙ is.fresh w k (omega (arith, lt, count-append (is_of w) rs (p ∷ [])));
        registered = registrations-append lines more n ∙ (λ i. is.registered i ++ change-registers n id r p.entry b a i)
            ∙ registers (list_any (bytes_eq resource) (names_of rs)) refl ∙ sym (ap (map (registration_in c)) (names-push rs p));
        known = All-push (λ (q : PlayRecord). is_some (resource_named q.resource c.resources) ≡ true) rs p is.known (ap is_some found);
      }

-- a record is forgotten

forget-empty : (resource : List ℕ) (seq : ℕ) (rs : List PlayRecord) → is_empty (forget resource seq rs) ≡ is_empty rs
forget-empty resource seq [] = refl
forget-empty resource seq (r ∷ rs) = refl

forget-resources : (resource : List ℕ) (seq : ℕ) (rs : List PlayRecord) → map (λ (r : PlayRecord). r.resource) (forget resource seq rs) ≡ map (λ (r : PlayRecord). r.resource) rs
forget-resources resource seq [] = refl
forget-resources resource seq (r ∷ rs) = λ i. (marked-keeps resource seq r).0 i ∷ forget-resources resource seq rs i

forget-entries : (resource : List ℕ) (seq : ℕ) (rs : List PlayRecord) → map entry_of (forget resource seq rs) ≡ map entry_of rs
forget-entries resource seq [] = refl
forget-entries resource seq (r ∷ rs) = λ i. record { resource = (marked-keeps resource seq r).0 i; entry = (marked-keeps resource seq r).1 i } ∷ forget-entries resource seq rs i

forget-count : (w resource : List ℕ) (seq : ℕ) (rs : List PlayRecord) → count_by (is_of w) (forget resource seq rs) ≡ count_by (is_of w) rs
forget-count w resource seq [] = refl
forget-count w resource seq (r ∷ rs) =
    count-cons (is_of w) (marked resource seq r) (forget resource seq rs)
    ∙ omega (arith, ap (λ x. one_if (bytes_eq x w)) (marked-keeps resource seq r).0, forget-count w resource seq rs, count-cons (is_of w) r rs)

module _ (c : Catalogue) (lines : List LogLine) (n id : ℕ) (rs : List PlayRecord) (is : IsLogged c lines n id rs) (resource : List ℕ) (seq : ℕ) (most : seq ≤ count_by (is_of resource) rs) where
  abbrev gone : List LogLine
  gone = Forgot n resource seq ∷ []

  not-this : (w : List ℕ) (k : ℕ) → count_by (is_of w) (forget resource seq rs) < k → (b : Bool) → bytes_eq resource w ≡ b → (d : Bool) → (seq == k) ≡ d
      → (((n == n) && (bytes_eq resource w && (seq == k))) || false) ≡ false
  not-this w k lt true e true f =
      let same : resource ≡ w = bytes-same resource w e in
      absurd (omega (arith, lt, most, eqb-true _ _ f, forget-count w resource seq rs, ap (λ x. count_by (is_of x) rs) same))
  not-this w k lt true e false f = or_from ((n == n) && (bytes_eq resource w && (seq == k))) false (and_right (n == n) _ (and_right (bytes_eq resource w) _ f)) refl
  not-this w k lt false e d f = or_from ((n == n) && (bytes_eq resource w && (seq == k))) false (and_right (n == n) _ (and_left (bytes_eq resource w) _ e)) refl

  mark : (q : PlayRecord) → is_forgotten lines n (entry_of q) ≡ q.forgotten → is_forgotten (lines ++ Forgot n resource seq ∷ []) n (entry_of (marked resource seq q)) ≡ (marked resource seq q).forgotten
  mark q e =
      let keeps = marked-keeps resource seq q in
      (λ i. list_any (forgets_entry n (keeps.0 i) (keeps.1 i).seq) (lines ++ Forgot n resource seq ∷ []))
      ∙ list_any-append (forgets_entry n q.resource q.entry.seq) lines (Forgot n resource seq ∷ [])
      ∙ by (bytes_eq q.resource resource) refl (q.entry.seq == seq) refl
    where
      by : (b : Bool) → bytes_eq q.resource resource ≡ b → (d : Bool) → (q.entry.seq == seq) ≡ d
          → (list_any (forgets_entry n q.resource q.entry.seq) lines || (((n == n) && (bytes_eq resource q.resource && (seq == q.entry.seq))) || false)) ≡ (cond (b && d) (record q { forgotten = true }) q).forgotten
      by true f true g =
          let flip : (seq == q.entry.seq) ≡ true = eq-eqb _ _ (sym (eqb-true _ _ g)) in
          or_right (list_any (forgets_entry n q.resource q.entry.seq) lines) _ (or_left ((n == n) && (bytes_eq resource q.resource && (seq == q.entry.seq))) false (and_from (n == n) _ (itself n) (and_from (bytes_eq resource q.resource) _ (bytes-flip q.resource resource true f) flip)))
      by true f false g =
          let flip : (seq == q.entry.seq) ≡ false = ne_eqb _ _ (λ h. eqb-false _ _ g (sym h)) in
          ap (λ x. list_any (forgets_entry n q.resource q.entry.seq) lines || x) (or_from ((n == n) && (bytes_eq resource q.resource && (seq == q.entry.seq))) false (and_right (n == n) _ (and_right (bytes_eq resource q.resource) _ flip)) refl)
          ∙ or-false (list_any (forgets_entry n q.resource q.entry.seq) lines) ∙ e
      by false f d g =
          ap (λ x. list_any (forgets_entry n q.resource q.entry.seq) lines || x) (or_from ((n == n) && (bytes_eq resource q.resource && (seq == q.entry.seq))) false (and_right (n == n) _ (and_left (bytes_eq resource q.resource) _ (bytes-flip q.resource resource false f))) refl)
          ∙ or-false (list_any (forgets_entry n q.resource q.entry.seq) lines) ∙ e

  pub retract-logged : IsLogged c (lines ++ Forgot n resource seq ∷ []) n id (forget resource seq rs)
  retract-logged = record {
    opened = opened-append lines gone n ∙ or-false (is_opened lines n) ∙ is.opened ∙ sym (ap not (forget-empty resource seq rs));
    undone = done-append lines gone n ∙ or-false (is_done lines n) ∙ is.undone;
    ids = list_all-append (opens_as n id) lines gone ∙ and_from (list_all (opens_as n id) lines) true is.ids refl;
    entries = entries-append lines gone n ∙ append-nil (entries lines n) ∙ is.entries ∙ sym (forget-entries resource seq rs);
    forgotten = All-map (λ (q : PlayRecord). is_forgotten (lines ++ gone) n (entry_of q) ≡ q.forgotten) (marked resource seq) rs
        (All-weaker (λ (q : PlayRecord). is_forgotten lines n (entry_of q) ≡ q.forgotten) (λ (q : PlayRecord). is_forgotten (lines ++ gone) n (entry_of (marked resource seq q)) ≡ (marked resource seq q).forgotten) (λ q e. mark q e) rs is.forgotten);
    fresh = λ w k lt. list_any-append (forgets_entry n w k) lines gone ∙ or_from (list_any (forgets_entry n w k) lines) _ (is.fresh w k (omega (arith, lt, forget-count w resource seq rs))) (not-this w k lt (bytes_eq resource w) refl (seq == k) refl);
    registered = registrations-append lines gone n ∙ append-nil (registrations lines n) ∙ is.registered ∙ sym (ap (λ names. map (registration_in c) (names_with [] names)) (forget-resources resource seq rs));
    known = All-map (λ (q : PlayRecord). is_some (resource_named q.resource c.resources) ≡ true) (marked resource seq) rs
        (All-weaker (λ (q : PlayRecord). is_some (resource_named q.resource c.resources) ≡ true) (λ (q : PlayRecord). is_some (resource_named (marked resource seq q).resource c.resources) ≡ true)
        (λ q e. ap (λ w. is_some (resource_named w c.resources)) (marked-keeps resource seq q).0 ∙ e) rs is.known);
  }

-- lines of others

others-open : (n id : ℕ) (lines : List LogLine) → is_named lines n ≡ false → list_all (opens_as n id) lines ≡ true
others-open n id [] e = refl
others-open n id (line ∷ lines) e = let parts = or_parts (is_own n line) _ e in and_from (opens_as n id line) _ (other line parts.0) (others-open n id lines parts.1)
  where
    other : (line : LogLine) → is_own n line ≡ false → opens_as n id line ≡ true
    other (Opened a i) f = ap (λ b. not b || (i == id)) f
    other (Registered a r phases) f = refl
    other (Written a r x) f = refl
    other (Forgot a r k) f = refl
    other (Done a) f = refl

-- before the first effect the log has none of the attempt
pub logged-none : (c : Catalogue) (lines : List LogLine) (n id : ℕ) → is_named lines n ≡ false → IsLogged c lines n id []
logged-none c lines n id none = record {
  opened = sym (own-opened n lines) ∙ ap (λ l. is_opened l n) own;
  undone = sym (own-done n lines) ∙ ap (λ l. is_done l n) own;
  ids = others-open n id lines none;
  entries = sym (own-entries n lines) ∙ ap (λ l. entries l n) own;
  forgotten = All-nil (λ (q : PlayRecord). is_forgotten lines n (entry_of q) ≡ q.forgotten);
  fresh = λ w k lt. sym (own-any (forgets_entry n w k) n (none-forgets n w k) lines) ∙ ap (list_any (forgets_entry n w k)) own;
  registered = sym (own-registrations n lines) ∙ ap (λ l. registrations l n) own;
  known = All-nil (λ (q : PlayRecord). is_some (resource_named q.resource c.resources) ≡ true);
}
  where
    own : own_lines n lines ≡ []
    own = no-own n lines none

-- lines of others behind
pub logged-behind : (c : Catalogue) (lines more : List LogLine) (n id : ℕ) (rs : List PlayRecord) → is_named more n ≡ false → IsLogged c lines n id rs → IsLogged c (lines ++ more) n id rs
logged-behind c lines more n id rs others is =
    let own : own_lines n (lines ++ more) ≡ own_lines n lines = own-behind n lines more others in
    record {
      opened = sym (own-opened n (lines ++ more)) ∙ ap (λ l. is_opened l n) own ∙ own-opened n lines ∙ is.opened;
      undone = sym (own-done n (lines ++ more)) ∙ ap (λ l. is_done l n) own ∙ own-done n lines ∙ is.undone;
      ids = list_all-append (opens_as n id) lines more ∙ and_from (list_all (opens_as n id) lines) _ is.ids (others-open n id more others);
      entries = sym (own-entries n (lines ++ more)) ∙ ap (λ l. entries l n) own ∙ own-entries n lines ∙ is.entries;
      forgotten = All-weaker (λ (p : PlayRecord). is_forgotten lines n (entry_of p) ≡ p.forgotten) (λ (p : PlayRecord). is_forgotten (lines ++ more) n (entry_of p) ≡ p.forgotten) (λ p e. forgets p.resource p.entry.seq own ∙ e) rs is.forgotten;
      fresh = λ w k lt. forgets w k own ∙ is.fresh w k lt;
      registered = sym (own-registrations n (lines ++ more)) ∙ ap (λ l. registrations l n) own ∙ own-registrations n lines ∙ is.registered;
      known = is.known;
    }
  where
    forgets : (w : List ℕ) (k : ℕ) → own_lines n (lines ++ more) ≡ own_lines n lines → list_any (forgets_entry n w k) (lines ++ more) ≡ list_any (forgets_entry n w k) lines
    forgets w k own = sym (own-any (forgets_entry n w k) n (none-forgets n w k) (lines ++ more)) ∙ ap (list_any (forgets_entry n w k)) own ∙ own-any (forgets_entry n w k) n (none-forgets n w k) lines
