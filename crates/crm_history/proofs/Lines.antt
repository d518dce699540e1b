-- What lines say of an attempt, said of each line by itself.
use Rattle.std.proofs.Common.{◌≡◌, ◌∙◌, ℕ, suc, ◌+◌, ◌==◌, List, [], ◌∷◌, length, map, filter, filter_map, count_by, Bool, true, false, not, cond, ◌&&◌, ◌||◌, bytes_eq, Option, Some, None, refl, sym, ap}
use Rattle.std.specs.List.{list_any, cons_option}
use Rattle.std.specs.Option.{option_map_or}
use Rattle.std.proofs.lemmas.List.{length-map}
use Rattle.std.proofs.lemmas.Slice.Eq.{bytes_eq-Decides}
use Rattle.std.proofs.lemmas.Bool.{eqb-true}
use Rattle.qc_base.specs.declared.log_line.LogRecord.{LogRecord}
use Rattle.qc_base.specs.declared.log_line.LogLine.{LogLine}
use Rattle.qc_base.specs.declared.log_line.LogLine.TheVariants.{Opened, Registered, Written, Forgot, Done}
use Rattle.qc_base.specs.LogLines.{Entry, Registration, registered_by, written_by, forgets_entry, is_forgotten, is_registered, entries, of_resource, unforgotten}
use Rattle.crm_history.specs.Legal.{wrote_row}
use Rattle.crm_history.specs.Lines.{registers, writes_key, writes_seq, writes_to}

-- a test of what is given of an item, where something is given
pub any-given : {X Y : Type 0} (h : X → Option Y) (p : Y → Bool) (q : X → Bool) → ((x : X) → q x ≡ option_map_or p (h x) false) → (xs : List X) → list_any q xs ≡ list_any p (filter_map h xs)
any-given h p q is [] = refl
any-given {X} {Y} h p q is (x ∷ xs) = by (h x) refl (any-given h p q is xs)
  where
    by : (o : Option Y) → h x ≡ o → list_any q xs ≡ list_any p (filter_map h xs) → (q x || list_any q xs) ≡ list_any p (cons_option (h x) (filter_map h xs))
    by None e rest =
        ap (λ (b : Bool). b || list_any q xs) (is x ∙ ap (λ (o : Option Y). option_map_or p o false) e) ∙ rest ∙ sym (ap (λ (o : Option Y). list_any p (cons_option o (filter_map h xs))) e)
    by (Some y) e rest =
        ap (λ (b : Bool). b || list_any q xs) (is x ∙ ap (λ (o : Option Y). option_map_or p o false) e) ∙ ap (λ (b : Bool). p y || b) rest ∙ sym (ap (λ (o : Option Y). list_any p (cons_option o (filter_map h xs))) e)

-- where a line is of the attempt, and where not
given-if : {Y : Type 0} (p : Y → Bool) (y : Y) (b : Bool) → (b && p y) ≡ option_map_or p (cond b (Some y) None) false
given-if p y true = refl
given-if p y false = refl

registers-by : (attempt : ℕ) (resource : List ℕ) (line : LogLine) → registers attempt resource line ≡ option_map_or (λ (r : Registration). bytes_eq r.resource resource) (registered_by attempt line) false
registers-by attempt resource (Registered a name phases) = given-if (λ (r : Registration). bytes_eq r.resource resource) (record { resource = name; phases = phases }) (a == attempt)
registers-by attempt resource (Opened a id) = refl
registers-by attempt resource (Written a name r) = refl
registers-by attempt resource (Forgot a name seq) = refl
registers-by attempt resource (Done a) = refl

pub registered-any : (attempt : ℕ) (resource : List ℕ) (lines : List LogLine) → list_any (registers attempt resource) lines ≡ is_registered lines attempt resource
registered-any attempt resource lines = any-given (registered_by attempt) (λ (r : Registration). bytes_eq r.resource resource) (registers attempt resource) (registers-by attempt resource) lines

-- a test of the records of an attempt
abbrev tests : ℕ → (Entry → Bool) → LogLine → Bool
tests attempt p (Written a name r) = (a == attempt) && p (record { resource = name; entry = r })
tests attempt p _ = false

tests-by : (attempt : ℕ) (p : Entry → Bool) (line : LogLine) → tests attempt p line ≡ option_map_or p (written_by attempt line) false
tests-by attempt p (Written a name r) = given-if p (record { resource = name; entry = r }) (a == attempt)
tests-by attempt p (Opened a id) = refl
tests-by attempt p (Registered a name phases) = refl
tests-by attempt p (Forgot a name seq) = refl
tests-by attempt p (Done a) = refl

tested-any : (attempt : ℕ) (p : Entry → Bool) (q : LogLine → Bool) → ((line : LogLine) → q line ≡ tests attempt p line) → (lines : List LogLine) → list_any q lines ≡ list_any p (entries lines attempt)
tested-any attempt p q is lines = any-given (written_by attempt) p q (λ line. is line ∙ tests-by attempt p line) lines

writes-key : (attempt : ℕ) (resource key : List ℕ) (line : LogLine) → writes_key attempt resource key line ≡ tests attempt (λ (e : Entry). bytes_eq e.resource resource && bytes_eq e.entry.key key) line
writes-key attempt resource key (Written a name r) = refl
writes-key attempt resource key (Opened a id) = refl
writes-key attempt resource key (Registered a name phases) = refl
writes-key attempt resource key (Forgot a name seq) = refl
writes-key attempt resource key (Done a) = refl

pub wrote-any : (attempt : ℕ) (resource key : List ℕ) (lines : List LogLine) → list_any (writes_key attempt resource key) lines ≡ wrote_row lines resource key attempt
wrote-any attempt resource key lines = tested-any attempt (λ (e : Entry). bytes_eq e.resource resource && bytes_eq e.entry.key key) (writes_key attempt resource key) (writes-key attempt resource key) lines

abbrev has_seq : List ℕ → ℕ → Entry → Bool
has_seq resource seq e = bytes_eq e.resource resource && (e.entry.seq == seq)

writes-seq : (attempt : ℕ) (resource : List ℕ) (seq : ℕ) (line : LogLine) → writes_seq attempt resource seq line ≡ tests attempt (has_seq resource seq) line
writes-seq attempt resource seq (Written a name r) = refl
writes-seq attempt resource seq (Opened a id) = refl
writes-seq attempt resource seq (Registered a name phases) = refl
writes-seq attempt resource seq (Forgot a name n) = refl
writes-seq attempt resource seq (Done a) = refl

abbrev named : List ℕ → Entry → Bool
named resource e = bytes_eq e.resource resource

-- of the entries with this number the attempt keeps one exactly where none of them is forgotten
module _ (all : List LogLine) (attempt : ℕ) (resource : List ℕ) (seq : ℕ) where
  abbrev is_seq : LogRecord → Bool
  is_seq r = r.seq == seq

  abbrev kept : List Entry → List Entry
  kept es = filter (λ e. not (is_forgotten all attempt e)) es

  abbrev gone : Bool
  gone = list_any (forgets_entry attempt resource seq) all

  link : (e : Entry) → bytes_eq e.resource resource ≡ true → (e.entry.seq == seq) ≡ true → is_forgotten all attempt e ≡ gone
  link e n s =
      let name : e.resource ≡ resource = (bytes_eq-Decides e.resource resource).0 n in
      let number : e.entry.seq ≡ seq = eqb-true e.entry.seq seq s in
      ap (λ (x : List ℕ). list_any (forgets_entry attempt x e.entry.seq) all) name ∙ ap (λ (x : ℕ). list_any (forgets_entry attempt resource x) all) number

  abbrev among : List Entry → Bool
  among es = list_any is_seq (of_resource resource es)

  all_false : (a : Bool) → (a && false) ≡ false
  all_false true = refl
  all_false false = refl

  -- what is asked of the entries, with the answer for the first
  right : (e : Entry) (es : List Entry) (b : Bool) → has_seq resource seq e ≡ b
      → ((b || list_any (has_seq resource seq) es) && not gone) ≡ (list_any (has_seq resource seq) (e ∷ es) && not gone)
  right e es b is = ap (λ (x : Bool). (x || list_any (has_seq resource seq) es) && not gone) (sym is)

  -- what is among those that are kept, with the answers for the first
  left : (e : Entry) (es : List Entry) (f : Bool) → is_forgotten all attempt e ≡ f → among (kept (e ∷ es)) ≡ among (cond (not f) (e ∷ kept es) (kept es))
  left e es f is = ap (λ (x : Bool). among (cond (not x) (e ∷ kept es) (kept es))) is

  first : (e : Entry) (es : List Entry) (n : Bool) → bytes_eq e.resource resource ≡ n → among (e ∷ kept es) ≡ cond n (is_seq e.entry || among (kept es)) (among (kept es))
  first e es true is = ap (λ (x : Bool). list_any is_seq (map (λ (y : Entry). y.entry) (cond x (e ∷ filter (named resource) (kept es)) (filter (named resource) (kept es))))) is
  first e es false is = ap (λ (x : Bool). list_any is_seq (map (λ (y : Entry). y.entry) (cond x (e ∷ filter (named resource) (kept es)) (filter (named resource) (kept es))))) is

  both : (e : Entry) (n s : Bool) → bytes_eq e.resource resource ≡ n → (e.entry.seq == seq) ≡ s → has_seq resource seq e ≡ (n && s)
  both e n s is_n is_s = ap (λ (x : Bool). x && (e.entry.seq == seq)) is_n ∙ ap (λ (x : Bool). n && x) is_s

  pub kept-any : (es : List Entry) → among (kept es) ≡ (list_any (has_seq resource seq) es && not gone)
  kept-any [] = refl
  kept-any (e ∷ es) = by (is_forgotten all attempt e) (bytes_eq e.resource resource) (e.entry.seq == seq) refl refl refl (kept-any es)
    where
      by : (f n s : Bool) → is_forgotten all attempt e ≡ f → bytes_eq e.resource resource ≡ n → (e.entry.seq == seq) ≡ s
          → among (kept es) ≡ (list_any (has_seq resource seq) es && not gone)
          → among (kept (e ∷ es)) ≡ (list_any (has_seq resource seq) (e ∷ es) && not gone)
      by true true true is_f is_n is_s rest =
          let g : gone ≡ true = sym (link e is_n is_s) ∙ is_f in
          left e es true is_f ∙ rest ∙ ap (λ (x : Bool). list_any (has_seq resource seq) es && not x) g ∙ all_false (list_any (has_seq resource seq) es)
          ∙ sym (ap not g) ∙ right e es true (both e true true is_n is_s)
      by true true false is_f is_n is_s rest = left e es true is_f ∙ rest ∙ right e es false (both e true false is_n is_s)
      by true false s is_f is_n is_s rest = left e es true is_f ∙ rest ∙ right e es false (both e false s is_n is_s)
      by false true true is_f is_n is_s rest =
          let g : gone ≡ false = sym (link e is_n is_s) ∙ is_f in
          left e es false is_f ∙ first e es true is_n ∙ ap (λ (x : Bool). x || among (kept es)) is_s
          ∙ sym (ap not g) ∙ right e es true (both e true true is_n is_s)
      by false true false is_f is_n is_s rest =
          left e es false is_f ∙ first e es true is_n ∙ ap (λ (x : Bool). x || among (kept es)) is_s ∙ rest ∙ right e es false (both e true false is_n is_s)
      by false false s is_f is_n is_s rest = left e es false is_f ∙ first e es false is_n ∙ rest ∙ right e es false (both e false s is_n is_s)

-- whether an attempt keeps a record of this number, by its lines
pub kept-is : (attempt : ℕ) (resource : List ℕ) (seq : ℕ) (lines : List LogLine)
    → (list_any (writes_seq attempt resource seq) lines && not (list_any (forgets_entry attempt resource seq) lines)) ≡ list_any (λ (r : LogRecord). r.seq == seq) (unforgotten lines attempt resource)
kept-is attempt resource seq lines =
    ap (λ (x : Bool). x && not (list_any (forgets_entry attempt resource seq) lines)) (tested-any attempt (has_seq resource seq) (writes_seq attempt resource seq) (writes-seq attempt resource seq) lines)
    ∙ sym (kept-any lines attempt resource seq (entries lines attempt))

-- how many records there are, by the lines
pub counted : (attempt : ℕ) (resource : List ℕ) (lines : List LogLine) → length (filter (writes_to attempt resource) lines) ≡ length (of_resource resource (entries lines attempt))
counted attempt resource [] = refl
counted attempt resource (Opened a id ∷ lines) = counted attempt resource lines
counted attempt resource (Registered a name phases ∷ lines) = counted attempt resource lines
counted attempt resource (Forgot a name seq ∷ lines) = counted attempt resource lines
counted attempt resource (Done a ∷ lines) = counted attempt resource lines
counted attempt resource (Written a name r ∷ lines) = by (a == attempt) (bytes_eq name resource) refl refl (counted attempt resource lines)
  where
    by : (m n : Bool) → (a == attempt) ≡ m → bytes_eq name resource ≡ n
        → length (filter (writes_to attempt resource) lines) ≡ length (of_resource resource (entries lines attempt))
        → length (filter (writes_to attempt resource) (Written a name r ∷ lines)) ≡ length (of_resource resource (entries (Written a name r ∷ lines) attempt))
    by true true is_m is_n rest =
        ap (λ (x : Bool). length (cond (x && bytes_eq name resource) (Written a name r ∷ filter (writes_to attempt resource) lines) (filter (writes_to attempt resource) lines))) is_m
        ∙ ap (λ (x : Bool). length (cond x (Written a name r ∷ filter (writes_to attempt resource) lines) (filter (writes_to attempt resource) lines))) is_n
        ∙ ap suc rest
        ∙ sym (ap (λ (x : Bool). length (map (λ (y : Entry). y.entry) (cond x (record { resource = name; entry = r } ∷ filter (named resource) (entries lines attempt)) (filter (named resource) (entries lines attempt))))) is_n)
        ∙ sym (ap (λ (x : Bool). length (of_resource resource (cons_option (cond x (Some (record { resource = name; entry = r })) None) (entries lines attempt)))) is_m)
    by true false is_m is_n rest =
        ap (λ (x : Bool). length (cond (x && bytes_eq name resource) (Written a name r ∷ filter (writes_to attempt resource) lines) (filter (writes_to attempt resource) lines))) is_m
        ∙ ap (λ (x : Bool). length (cond x (Written a name r ∷ filter (writes_to attempt resource) lines) (filter (writes_to attempt resource) lines))) is_n
        ∙ rest
        ∙ sym (ap (λ (x : Bool). length (map (λ (y : Entry). y.entry) (cond x (record { resource = name; entry = r } ∷ filter (named resource) (entries lines attempt)) (filter (named resource) (entries lines attempt))))) is_n)
        ∙ sym (ap (λ (x : Bool). length (of_resource resource (cons_option (cond x (Some (record { resource = name; entry = r })) None) (entries lines attempt)))) is_m)
    by false n is_m is_n rest =
        ap (λ (x : Bool). length (cond (x && bytes_eq name resource) (Written a name r ∷ filter (writes_to attempt resource) lines) (filter (writes_to attempt resource) lines))) is_m
        ∙ rest
        ∙ sym (ap (λ (x : Bool). length (of_resource resource (cons_option (cond x (Some (record { resource = name; entry = r })) None) (entries lines attempt)))) is_m)
