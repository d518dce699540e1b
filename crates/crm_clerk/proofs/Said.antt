-- What the lines of an attempt say, and what one line more says.
use Rattle.std.proofs.Common.{◌≡◌, ◌∙◌, ℕ, ◌==◌, List, [], ◌∷◌, ◌++◌, map, filter, filter_map, Bool, true, false, not, cond, ◌&&◌, ◌||◌, bytes_eq, Some, None, refl, sym, ap, subst, append-nil}
use Rattle.std.specs.List.{list_any}
use Rattle.std.proofs.Math.Bool.{or-false}
use Rattle.std.proofs.lemmas.List.Folds.{list_any-append}
use Rattle.std.proofs.lemmas.List.{map-append}
use Rattle.std.proofs.lemmas.List.Elements.{filter_map-append, filter-append}
use Rattle.qc_base.specs.declared.log_line.LogRecord.{LogRecord}
use Rattle.qc_base.specs.declared.log_line.LogLine.{LogLine}
use Rattle.qc_base.specs.declared.log_line.LogLine.TheVariants.{Opened, Registered, Written, Forgot}
use Rattle.qc_base.specs.LogLines.{Entry, Registration, opened_by, registered_by, written_by, forgets_entry, is_done_line, is_opened, is_done, registrations, entries, is_forgotten, of_resource, unforgotten}
use Rattle.crm_clerk.specs.Clerk.{records_in}
use Rattle.crm_clerk.proofs.Names.{bytes-same}
use Rattle.crm_clerk.proofs.Numbered.{those, same-number}

-- whether a record is forgotten
abbrev pub is_named : List LogLine → ℕ → List ℕ → ℕ → Bool
is_named lines attempt resource seq = list_any (forgets_entry attempt resource seq) lines

-- those of a resource among those that pass
of-filter : (p : Entry → Bool) (q : LogRecord → Bool) (resource : List ℕ) → ((e : Entry) → bytes_eq e.resource resource ≡ true → p e ≡ q e.entry) → (es : List Entry) → of_resource resource (filter p es) ≡ filter q (of_resource resource es)
of-filter p q resource h [] = refl
of-filter p q resource h (e ∷ es) = by (bytes_eq e.resource resource) refl (p e) refl (of-filter p q resource h es)
  where
    by : (b : Bool) → bytes_eq e.resource resource ≡ b → (d : Bool) → p e ≡ d → of_resource resource (filter p es) ≡ filter q (of_resource resource es)
        → of_resource resource (cond (p e) (e ∷ filter p es) (filter p es)) ≡ filter q (map (λ (x : Entry). x.entry) (cond (bytes_eq e.resource resource) (e ∷ filter (λ (x : Entry). bytes_eq x.resource resource) es) (filter (λ (x : Entry). bytes_eq x.resource resource) es)))
    by true own true passes rest =
        ap (λ (b : Bool). of_resource resource (cond b (e ∷ filter p es) (filter p es))) passes
        ∙ ap (λ (b : Bool). map (λ (x : Entry). x.entry) (cond b (e ∷ filter (λ (x : Entry). bytes_eq x.resource resource) (filter p es)) (filter (λ (x : Entry). bytes_eq x.resource resource) (filter p es)))) own
        ∙ ap (λ (l : List LogRecord). e.entry ∷ l) rest
        ∙ sym (ap (λ (b : Bool). cond b (e.entry ∷ filter q (of_resource resource es)) (filter q (of_resource resource es))) (sym (h e own) ∙ passes))
        ∙ sym (ap (λ (b : Bool). filter q (map (λ (x : Entry). x.entry) (cond b (e ∷ filter (λ (x : Entry). bytes_eq x.resource resource) es) (filter (λ (x : Entry). bytes_eq x.resource resource) es)))) own)
    by true own false fails rest =
        ap (λ (b : Bool). of_resource resource (cond b (e ∷ filter p es) (filter p es))) fails
        ∙ rest
        ∙ sym (ap (λ (b : Bool). cond b (e.entry ∷ filter q (of_resource resource es)) (filter q (of_resource resource es))) (sym (h e own) ∙ fails))
        ∙ sym (ap (λ (b : Bool). filter q (map (λ (x : Entry). x.entry) (cond b (e ∷ filter (λ (x : Entry). bytes_eq x.resource resource) es) (filter (λ (x : Entry). bytes_eq x.resource resource) es)))) own)
    by false other true passes rest =
        ap (λ (b : Bool). of_resource resource (cond b (e ∷ filter p es) (filter p es))) passes
        ∙ ap (λ (b : Bool). map (λ (x : Entry). x.entry) (cond b (e ∷ filter (λ (x : Entry). bytes_eq x.resource resource) (filter p es)) (filter (λ (x : Entry). bytes_eq x.resource resource) (filter p es)))) other
        ∙ rest
        ∙ sym (ap (λ (b : Bool). filter q (map (λ (x : Entry). x.entry) (cond b (e ∷ filter (λ (x : Entry). bytes_eq x.resource resource) es) (filter (λ (x : Entry). bytes_eq x.resource resource) es)))) other)
    by false other false fails rest =
        ap (λ (b : Bool). of_resource resource (cond b (e ∷ filter p es) (filter p es))) fails
        ∙ rest
        ∙ sym (ap (λ (b : Bool). filter q (map (λ (x : Entry). x.entry) (cond b (e ∷ filter (λ (x : Entry). bytes_eq x.resource resource) es) (filter (λ (x : Entry). bytes_eq x.resource resource) es)))) other)

-- the unforgotten records are those whose numbers aren't forgotten
pub unforgotten-those : (lines : List LogLine) (attempt : ℕ) (resource : List ℕ) → unforgotten lines attempt resource ≡ those (is_named lines attempt resource) (records_in lines attempt resource)
unforgotten-those lines attempt resource =
    of-filter (λ e. not (is_forgotten lines attempt e)) (λ r. not (is_named lines attempt resource r.seq)) resource
    (λ e own. ap (λ (name : List ℕ). not (is_named lines attempt name e.entry.seq)) (bytes-same e.resource resource own)) (entries lines attempt)

-- lines that say of the attempt what others say, but for these registrations more
pub record SaysMore (attempt : ℕ) (lines now : List LogLine) (more : List Registration) : Type 0 where
  pub registered : registrations now attempt ≡ registrations lines attempt ++ more
  pub records : (resource : List ℕ) → records_in now attempt resource ≡ records_in lines attempt resource
  pub named : (resource : List ℕ) (seq : ℕ) → is_named now attempt resource seq ≡ is_named lines attempt resource seq
  pub done : is_done now attempt ≡ is_done lines attempt

pub says-itself : (attempt : ℕ) (lines : List LogLine) → SaysMore attempt lines lines []
says-itself attempt lines = record { registered = sym (append-nil (registrations lines attempt)); records = λ resource. refl; named = λ resource seq. refl; done = refl }

-- a line that doesn't end the attempt
pub not-done : (attempt : ℕ) (lines : List LogLine) (line : LogLine) → is_done_line attempt line ≡ false → is_done (lines ++ line ∷ []) attempt ≡ is_done lines attempt
not-done attempt lines line other =
    list_any-append (is_done_line attempt) lines (line ∷ []) ∙ ap (λ (b : Bool). is_done lines attempt || (b || false)) other ∙ or-false (is_done lines attempt)

-- a line that says neither of a record nor that one is forgotten, nor that the attempt is done
says-line : (attempt : ℕ) (lines : List LogLine) (line : LogLine) → filter_map (written_by attempt) (line ∷ []) ≡ [] → ((resource : List ℕ) (seq : ℕ) → forgets_entry attempt resource seq line ≡ false) → is_done_line attempt line ≡ false
    → SaysMore attempt lines (lines ++ line ∷ []) (filter_map (registered_by attempt) (line ∷ []))
says-line attempt lines line none not_forgot going = record {
  registered = filter_map-append (registered_by attempt) lines (line ∷ []);
  records = λ resource. ap (of_resource resource) (filter_map-append (written_by attempt) lines (line ∷ []) ∙ ap (λ (l : List Entry). entries lines attempt ++ l) none ∙ append-nil (entries lines attempt));
  named = λ resource seq.
      list_any-append (forgets_entry attempt resource seq) lines (line ∷ [])
      ∙ ap (λ (b : Bool). is_named lines attempt resource seq || (b || false)) (not_forgot resource seq)
      ∙ or-false (is_named lines attempt resource seq);
  done = not-done attempt lines line going;
}

pub says-opened : (attempt id : ℕ) (lines : List LogLine) → SaysMore attempt lines (lines ++ Opened attempt id ∷ []) []
says-opened attempt id lines = says-line attempt lines (Opened attempt id) refl (λ resource seq. refl) refl

pub says-registered : (attempt : ℕ) (resource : List ℕ) (phases : ℕ) (lines : List LogLine) → SaysMore attempt lines (lines ++ Registered attempt resource phases ∷ []) (record { resource = resource; phases = phases } ∷ [])
says-registered attempt resource phases lines =
    let line : LogLine = Registered attempt resource phases in
    let one : Registration = record { resource = resource; phases = phases } in
    let now : filter_map (registered_by attempt) (line ∷ []) ≡ one ∷ [] = ap (λ (b : Bool). filter_map (λ (l : LogLine). cond b (Some one) None) (line ∷ [])) (same-number attempt) in
    subst (λ (l : List Registration). SaysMore attempt lines (lines ++ line ∷ []) l) now (says-line attempt lines line refl (λ resource seq. refl) refl)

-- one after the other
pub says-on : (attempt : ℕ) (lines mid now : List LogLine) (more : List Registration) → SaysMore attempt lines mid [] → SaysMore attempt mid now more → SaysMore attempt lines now more
says-on attempt lines mid now more a b = record {
  registered = b.registered ∙ ap (λ (l : List Registration). l ++ more) (a.registered ∙ append-nil (registrations lines attempt));
  records = λ resource. b.records resource ∙ a.records resource;
  named = λ resource seq. b.named resource seq ∙ a.named resource seq;
  done = b.done ∙ a.done;
}

-- a record more

pub written-registered : (attempt : ℕ) (resource : List ℕ) (r : LogRecord) (lines : List LogLine) → registrations (lines ++ Written attempt resource r ∷ []) attempt ≡ registrations lines attempt
written-registered attempt resource r lines = filter_map-append (registered_by attempt) lines (Written attempt resource r ∷ []) ∙ append-nil (registrations lines attempt)

pub written-opened : (attempt : ℕ) (resource : List ℕ) (r : LogRecord) (lines : List LogLine) → is_opened (lines ++ Written attempt resource r ∷ []) attempt ≡ is_opened lines attempt
written-opened attempt resource r lines = ap (list_any (λ n. n == attempt)) (filter_map-append opened_by lines (Written attempt resource r ∷ []) ∙ append-nil (filter_map opened_by lines))

pub written-records : (attempt : ℕ) (resource other : List ℕ) (r : LogRecord) (lines : List LogLine)
    → records_in (lines ++ Written attempt resource r ∷ []) attempt other ≡ records_in lines attempt other ++ of_resource other ((record { resource = resource; entry = r }) ∷ [])
written-records attempt resource other r lines =
    let e : Entry = record { resource = resource; entry = r } in
    let own : Entry → Bool = λ x. bytes_eq x.resource other in
    let now : filter_map (written_by attempt) (Written attempt resource r ∷ []) ≡ e ∷ [] = ap (λ (b : Bool). filter_map (λ (l : LogLine). cond b (Some e) None) (Written attempt resource r ∷ [])) (same-number attempt) in
    ap (of_resource other) (filter_map-append (written_by attempt) lines (Written attempt resource r ∷ []) ∙ ap (λ (l : List Entry). entries lines attempt ++ l) now)
    ∙ ap (map (λ (x : Entry). x.entry)) (filter-append own (entries lines attempt) (e ∷ []))
    ∙ map-append (λ (x : Entry). x.entry) (filter own (entries lines attempt)) (filter own (e ∷ []))

pub written-named : (attempt : ℕ) (resource other : List ℕ) (seq : ℕ) (r : LogRecord) (lines : List LogLine) → is_named (lines ++ Written attempt resource r ∷ []) attempt other seq ≡ is_named lines attempt other seq
written-named attempt resource other seq r lines = list_any-append (forgets_entry attempt other seq) lines (Written attempt resource r ∷ []) ∙ or-false (is_named lines attempt other seq)

-- a record forgotten

pub forgot-registered : (attempt : ℕ) (resource : List ℕ) (seq : ℕ) (lines : List LogLine) → registrations (lines ++ Forgot attempt resource seq ∷ []) attempt ≡ registrations lines attempt
forgot-registered attempt resource seq lines = filter_map-append (registered_by attempt) lines (Forgot attempt resource seq ∷ []) ∙ append-nil (registrations lines attempt)

pub forgot-opened : (attempt : ℕ) (resource : List ℕ) (seq : ℕ) (lines : List LogLine) → is_opened (lines ++ Forgot attempt resource seq ∷ []) attempt ≡ is_opened lines attempt
forgot-opened attempt resource seq lines = ap (list_any (λ n. n == attempt)) (filter_map-append opened_by lines (Forgot attempt resource seq ∷ []) ∙ append-nil (filter_map opened_by lines))

pub forgot-records : (attempt : ℕ) (resource other : List ℕ) (seq : ℕ) (lines : List LogLine) → records_in (lines ++ Forgot attempt resource seq ∷ []) attempt other ≡ records_in lines attempt other
forgot-records attempt resource other seq lines = ap (of_resource other) (filter_map-append (written_by attempt) lines (Forgot attempt resource seq ∷ []) ∙ append-nil (entries lines attempt))

pub forgot-named : (attempt : ℕ) (resource other : List ℕ) (seq n : ℕ) (lines : List LogLine)
    → is_named (lines ++ Forgot attempt resource seq ∷ []) attempt other n ≡ (is_named lines attempt other n || (bytes_eq resource other && (seq == n)))
forgot-named attempt resource other seq n lines =
    list_any-append (forgets_entry attempt other n) lines (Forgot attempt resource seq ∷ [])
    ∙ ap (λ (b : Bool). is_named lines attempt other n || ((b && (bytes_eq resource other && (seq == n))) || false)) (same-number attempt)
    ∙ ap (λ (b : Bool). is_named lines attempt other n || b) (or-false (bytes_eq resource other && (seq == n)))
