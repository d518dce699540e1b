-- What is said of one attempt doesn't depend on the lines of others.
use Rattle.std.proofs.Common.{◌≡◌, ◌∙◌, ℕ, ◌==◌, List, [], ◌∷◌, ◌++◌, Bool, true, false, not, cond, ◌&&◌, ◌||◌, filter, filter_map, refl, sym, ap, true≢false, Option, Some, None}
use Rattle.std.specs.List.{list_any, cons_option, flat_map}
use Rattle.std.specs.Option.{option_map_or}
use Rattle.std.specs.Str.{bytes_eq}
use Rattle.std.proofs.lemmas.List.Elements.{filter-append}
use Rattle.std.proofs.lemmas.List.{append-nil}
use Rattle.qc_base.specs.declared.log_line.LogLine.{LogLine}
use Rattle.qc_base.specs.declared.log_line.LogLine.TheVariants.{Opened, Registered, Written, Forgot, Done}
use Rattle.qc_base.specs.declared.log_line.LogRecord.{LogRecord}
use Rattle.qc_base.specs.declared.log_line.Notice.{Notice}
use Rattle.qc_base.specs.LogLines.{Entry, Registration, registered_by, written_by, forgets_entry, is_done_line, is_opened, is_done, registrations, entries, is_forgotten, kept_entries, of_resource, unforgotten, phase_of, phases_of, has_phase, notices_to, commit_heard, abort_heard}
use Rattle.qc_catalogue.specs.declared.catalogue.Catalogue.{Catalogue}
use Rattle.qc_catalogue.specs.declared.catalogue.Resource.{Resource}
use Rattle.qc_catalogue.specs.Lookup.{resource_named}
use Rattle.crm_recovery.specs.Settling.{phase_puts, puts_of}
use Rattle.qc_machine.specs.OwnLines.{is_own, own_lines}

-- a look through lines that only the attempt's own answer

own-map : {A : Type 0} (f : LogLine → Option A) (attempt : ℕ) → ((line : LogLine) → is_own attempt line ≡ false → f line ≡ None) → (lines : List LogLine) → filter_map f (own_lines attempt lines) ≡ filter_map f lines
own-map f attempt h [] = refl
own-map f attempt h (line ∷ lines) = by (is_own attempt line) refl (own-map f attempt h lines)
  where
    by : (b : Bool) → is_own attempt line ≡ b → filter_map f (own_lines attempt lines) ≡ filter_map f lines → filter_map f (cond b (line ∷ own_lines attempt lines) (own_lines attempt lines)) ≡ filter_map f (line ∷ lines)
    by true e rest = ap (λ l. cons_option (f line) l) rest
    by false e rest = rest ∙ sym (ap (λ o. cons_option o (filter_map f lines)) (h line e))

pub own-any : (p : LogLine → Bool) (attempt : ℕ) → ((line : LogLine) → is_own attempt line ≡ false → p line ≡ false) → (lines : List LogLine) → list_any p (own_lines attempt lines) ≡ list_any p lines
own-any p attempt h [] = refl
own-any p attempt h (line ∷ lines) = by (is_own attempt line) refl (own-any p attempt h lines)
  where
    by : (b : Bool) → is_own attempt line ≡ b → list_any p (own_lines attempt lines) ≡ list_any p lines → list_any p (cond b (line ∷ own_lines attempt lines) (own_lines attempt lines)) ≡ (p line || list_any p lines)
    by true e rest = ap (λ b. p line || b) rest
    by false e rest = rest ∙ sym (ap (λ b. b || list_any p lines) (h line e))

none-registered : (attempt : ℕ) (line : LogLine) → is_own attempt line ≡ false → registered_by attempt line ≡ None
none-registered attempt (Registered a resource phases) e = ap (λ b. cond b (Some (record { resource = resource; phases = phases })) None) e
none-registered attempt (Opened a id) e = refl
none-registered attempt (Written a resource r) e = refl
none-registered attempt (Forgot a resource seq) e = refl
none-registered attempt (Done a) e = refl

none-written : (attempt : ℕ) (line : LogLine) → is_own attempt line ≡ false → written_by attempt line ≡ None
none-written attempt (Written a resource r) e = ap (λ b. cond b (Some (record { resource = resource; entry = r })) None) e
none-written attempt (Opened a id) e = refl
none-written attempt (Registered a resource phases) e = refl
none-written attempt (Forgot a resource seq) e = refl
none-written attempt (Done a) e = refl

pub none-forgets : (attempt : ℕ) (resource : List ℕ) (seq : ℕ) (line : LogLine) → is_own attempt line ≡ false → forgets_entry attempt resource seq line ≡ false
none-forgets attempt resource seq (Forgot a r n) e = ap (λ b. b && (bytes_eq r resource && (n == seq))) e
none-forgets attempt resource seq (Opened a id) e = refl
none-forgets attempt resource seq (Registered a r phases) e = refl
none-forgets attempt resource seq (Written a r x) e = refl
none-forgets attempt resource seq (Done a) e = refl

pub none-done : (attempt : ℕ) (line : LogLine) → is_own attempt line ≡ false → is_done_line attempt line ≡ false
none-done attempt (Done a) e = e
none-done attempt (Opened a id) e = refl
none-done attempt (Registered a r phases) e = refl
none-done attempt (Written a r x) e = refl
none-done attempt (Forgot a r n) e = refl

pub own-registrations : (attempt : ℕ) (lines : List LogLine) → registrations (own_lines attempt lines) attempt ≡ registrations lines attempt
own-registrations attempt lines = own-map (registered_by attempt) attempt (none-registered attempt) lines

pub own-entries : (attempt : ℕ) (lines : List LogLine) → entries (own_lines attempt lines) attempt ≡ entries lines attempt
own-entries attempt lines = own-map (written_by attempt) attempt (none-written attempt) lines

own-forgotten : (attempt : ℕ) (lines : List LogLine) (e : Entry) → is_forgotten (own_lines attempt lines) attempt e ≡ is_forgotten lines attempt e
own-forgotten attempt lines e = own-any (forgets_entry attempt e.resource e.entry.seq) attempt (none-forgets attempt e.resource e.entry.seq) lines

pub own-done : (attempt : ℕ) (lines : List LogLine) → is_done (own_lines attempt lines) attempt ≡ is_done lines attempt
own-done attempt lines = own-any (is_done_line attempt) attempt (none-done attempt) lines

pub own-opened : (attempt : ℕ) (lines : List LogLine) → is_opened (own_lines attempt lines) attempt ≡ is_opened lines attempt
own-opened attempt [] = refl
own-opened attempt (line ∷ lines) = by (is_own attempt line) refl (own-opened attempt lines)
  where
    skip : (line : LogLine) → is_own attempt line ≡ false → is_opened (line ∷ lines) attempt ≡ is_opened lines attempt
    skip (Opened a id) e = ap (λ b. b || is_opened lines attempt) e
    skip (Registered a r phases) e = refl
    skip (Written a r x) e = refl
    skip (Forgot a r n) e = refl
    skip (Done a) e = refl

    keep : (line : LogLine) → is_opened (own_lines attempt lines) attempt ≡ is_opened lines attempt → is_opened (line ∷ own_lines attempt lines) attempt ≡ is_opened (line ∷ lines) attempt
    keep (Opened a id) rest = ap (λ b. (a == attempt) || b) rest
    keep (Registered a r phases) rest = rest
    keep (Written a r x) rest = rest
    keep (Forgot a r n) rest = rest
    keep (Done a) rest = rest

    by : (b : Bool) → is_own attempt line ≡ b → is_opened (own_lines attempt lines) attempt ≡ is_opened lines attempt → is_opened (cond b (line ∷ own_lines attempt lines) (own_lines attempt lines)) attempt ≡ is_opened (line ∷ lines) attempt
    by true e rest = keep line rest
    by false e rest = rest ∙ sym (skip line e)

pub own-kept : (attempt : ℕ) (lines : List LogLine) → kept_entries (own_lines attempt lines) attempt ≡ kept_entries lines attempt
own-kept attempt lines = λ i. filter (λ e. not (own-forgotten attempt lines e i)) (own-entries attempt lines i)

pub own-unforgotten : (attempt : ℕ) (lines : List LogLine) (resource : List ℕ) → unforgotten (own_lines attempt lines) attempt resource ≡ unforgotten lines attempt resource
own-unforgotten attempt lines resource = ap (of_resource resource) (own-kept attempt lines)

-- the notices of an attempt's phase, and the rows after it

pub own-phases : (attempt : ℕ) (lines : List LogLine) (committed recovery : Bool) → phases_of (own_lines attempt lines) attempt committed recovery ≡ phases_of lines attempt committed recovery
own-phases attempt lines committed recovery = λ i. flat_map (λ r. each r i) (own-registrations attempt lines i)
  where
    each : (r : Registration) → phase_of (own_lines attempt lines) attempt committed recovery r ≡ phase_of lines attempt committed recovery r
    each r = ap (λ (records : List LogRecord). told r records) (own-unforgotten attempt lines r.resource)
      where
        told : Registration → List LogRecord → List Notice
        told r records = cond (has_phase (cond committed 2 4) r.phases) (notices_to r.resource (cond committed (commit_heard recovery records) (abort_heard recovery records))) []

-- the puts of its phase

pub own-puts : (c : Catalogue) (lines : List LogLine) (attempt : ℕ) (committed : Bool) → phase_puts c (own_lines attempt lines) attempt committed ≡ phase_puts c lines attempt committed
own-puts c lines attempt committed = λ i. flat_map (λ (own : Registration). option_map_or (λ (r : Resource). puts_of r committed (own-unforgotten attempt lines own.resource i)) (resource_named own.resource c.resources) []) (own-registrations attempt lines i)

-- lines of others behind, and in front

abbrev pub AreOthers : ℕ → List LogLine → Type 0
AreOthers attempt more = list_any (is_own attempt) more ≡ false

pub no-own : (attempt : ℕ) (more : List LogLine) → AreOthers attempt more → own_lines attempt more ≡ []
no-own attempt [] h = refl
no-own attempt (line ∷ more) h = by (is_own attempt line) refl (no-own attempt more) h
  where
    by : (b : Bool) → is_own attempt line ≡ b → (list_any (is_own attempt) more ≡ false → own_lines attempt more ≡ []) → (b || list_any (is_own attempt) more) ≡ false → cond b (line ∷ own_lines attempt more) (own_lines attempt more) ≡ []
    by true e on h = absurd (true≢false h)
    by false e on h = on h

pub own-behind : (attempt : ℕ) (lines more : List LogLine) → AreOthers attempt more → own_lines attempt (lines ++ more) ≡ own_lines attempt lines
own-behind attempt lines more h = filter-append (is_own attempt) lines more ∙ ap (λ l. own_lines attempt lines ++ l) (no-own attempt more h) ∙ append-nil (own_lines attempt lines)
