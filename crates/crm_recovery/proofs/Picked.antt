-- What is picked of a list of lines, one by one.
use Rattle.std.proofs.Common.{◌≡◌, ◌∙◌, ◌<◌, ◌+◌, take, get_or, ℕ, List, [], ◌∷◌, ◌++◌, length, map, filter, filter_map, reverse, Bool, true, false, not, cond, ◌&&◌, ◌==◌, bytes_eq, Option, Some, None, option_map, refl, sym, ap, subst, arith, All}
use Rattle.std.specs.List.{flat_map, list_all, cons_option}
use Rattle.std.specs.Option.{option_map_or, IfSome}
use Rattle.std.proofs.lemmas.Bool.{and_parts, eqb-true, false≢true}
use Rattle.std.proofs.lemmas.List.{take_more}
use Rattle.std.proofs.lemmas.List.Elements.{All-nil, All-cons, filter_map-append}
use Rattle.std.proofs.lemmas.Slice.Eq.{bytes_eq-Decides}
use Rattle.qc_base.specs.declared.log_line.LogRecord.{LogRecord}
use Rattle.qc_base.specs.declared.log_line.LogLine.{LogLine}
use Rattle.qc_base.specs.declared.log_line.LogLine.TheVariants.{Opened, Registered, Written, Forgot, Done}
use Rattle.qc_base.specs.declared.log_line.Notice.{Notice}
use Rattle.qc_base.specs.LogLines.{Entry, Registration, has_phase, registered_by, is_forgotten, entries, of_resource, unforgotten, phase_of, phases_of, notices_to}
use Rattle.qc_catalogue.specs.declared.catalogue.Catalogue.{Catalogue}
use Rattle.qc_catalogue.specs.declared.catalogue.Resource.{Resource}
use Rattle.qc_catalogue.specs.Lookup.{resource_named}
use Rattle.qc_catalogue.specs.Rows.{has_its_phases}
use Rattle.crm_driver.specs.Puts.{RowPut}
use Rattle.crm_driver.specs.RowRules.{put_of}
use Rattle.crm_history.specs.declared.ended.Ended.{Ended}
use Rattle.crm_history.specs.Legal.{has_phases, line_may_follow, lines_follow, is_log_legal}
use Rattle.crm_recovery.specs.Settling.{puts_of, registration_puts, phase_puts}
use Rattle.crm_recovery.specs.Tellings.{Plan, IsReady, kept_by, new_plan, phase_flag, heard_by, heard_in, plan_by, plans, plan_notices, plan_puts}

-- the unforgotten records of a resource

kept-one : (all : List LogLine) (attempt : ℕ) (resource : List ℕ) (a : ℕ) (name : List ℕ) (r : LogRecord) (more : List Entry) (e n f : Bool) → bytes_eq name resource ≡ n → is_forgotten all attempt (record { resource = name; entry = r }) ≡ f
    → cons_option (cond (e && (n && not f)) (Some r) None) (of_resource resource (filter (λ (x : Entry). not (is_forgotten all attempt x)) more))
    ≡ of_resource resource (filter (λ (x : Entry). not (is_forgotten all attempt x)) (cons_option (cond e (Some (record { resource = name; entry = r })) None) more))
kept-one all attempt resource a name r more false n f is_n is_f = refl
kept-one all attempt resource a name r more true n f is_n is_f = by n f is_n is_f
  where
    one : Entry
    one = record { resource = name; entry = r }

    kept : List Entry
    kept = filter (λ (x : Entry). not (is_forgotten all attempt x)) more

    own : List Entry → List LogRecord
    own es = of_resource resource es

    by : (n f : Bool) → bytes_eq name resource ≡ n → is_forgotten all attempt one ≡ f
        → cons_option (cond (n && not f) (Some r) None) (own kept) ≡ own (cond (not (is_forgotten all attempt one)) (one ∷ kept) kept)
    by n true is_n is_f = none n ∙ sym (ap (λ (b : Bool). own (cond (not b) (one ∷ kept) kept)) is_f)
      where
        none : (b : Bool) → cons_option (cond (b && false) (Some r) None) (own kept) ≡ own kept
        none true = refl
        none false = refl
    by true false is_n is_f = sym (ap (λ (b : Bool). own (cond (not b) (one ∷ kept) kept)) is_f ∙ ap (λ (b : Bool). map (λ (x : Entry). x.entry) (cond b (one ∷ filter (λ (x : Entry). bytes_eq x.resource resource) kept) (filter (λ (x : Entry). bytes_eq x.resource resource) kept))) is_n)
    by false false is_n is_f = sym (ap (λ (b : Bool). own (cond (not b) (one ∷ kept) kept)) is_f ∙ ap (λ (b : Bool). map (λ (x : Entry). x.entry) (cond b (one ∷ filter (λ (x : Entry). bytes_eq x.resource resource) kept) (filter (λ (x : Entry). bytes_eq x.resource resource) kept))) is_n)

kept-all : (all : List LogLine) (attempt : ℕ) (resource : List ℕ) (lines : List LogLine)
    → filter_map (kept_by all attempt resource) lines ≡ of_resource resource (filter (λ (e : Entry). not (is_forgotten all attempt e)) (entries lines attempt))
kept-all all attempt resource [] = refl
kept-all all attempt resource (Opened a id ∷ lines) = kept-all all attempt resource lines
kept-all all attempt resource (Registered a name phases ∷ lines) = kept-all all attempt resource lines
kept-all all attempt resource (Forgot a name seq ∷ lines) = kept-all all attempt resource lines
kept-all all attempt resource (Done a ∷ lines) = kept-all all attempt resource lines
kept-all all attempt resource (Written a name r ∷ lines) =
    ap (λ (l : List LogRecord). cons_option (kept_by all attempt resource (Written a name r)) l) (kept-all all attempt resource lines)
    ∙ kept-one all attempt resource a name r (entries lines attempt) (a == attempt) (bytes_eq name resource) (is_forgotten all attempt (record { resource = name; entry = r })) refl refl

pub kept-unforgotten : (lines : List LogLine) (attempt : ℕ) (resource : List ℕ) → filter_map (kept_by lines attempt resource) lines ≡ unforgotten lines attempt resource
kept-unforgotten lines attempt resource = kept-all lines attempt resource lines

-- lists of what is picked

flat-given : {X Y Z : Type 0} (h : X → Option Y) (f : Y → List Z) (xs : List X) → flat_map f (filter_map h xs) ≡ flat_map (λ x. option_map_or f (h x) []) xs
flat-given h f [] = refl
flat-given {X} {Y} {Z} h f (x ∷ xs) = by (h x) ∙ ap (λ (l : List Z). option_map_or f (h x) [] ++ l) (flat-given h f xs)
  where
    by : (o : Option Y) → flat_map f (cons_option o (filter_map h xs)) ≡ option_map_or f o [] ++ flat_map f (filter_map h xs)
    by None = refl
    by (Some y) = refl

flat-same : {X Z : Type 0} (good : X → Bool) (f k : X → List Z) → ((x : X) → good x ≡ true → f x ≡ k x) → (xs : List X) → list_all good xs ≡ true → flat_map f xs ≡ flat_map k xs
flat-same good f k same [] all = refl
flat-same good f k same (x ∷ xs) all =
    let parts = and_parts (good x) (list_all good xs) all in
    λ i. same x parts.0 i ++ flat-same good f k same xs parts.1 i

pub all-given : {X Y : Type 0} (P : Y → Type 0) (h : X → Option Y) → ((x : X) → IfSome (h x) P) → (xs : List X) → All P (filter_map h xs)
all-given P h holds [] = All-nil P
all-given {X} {Y} P h holds (x ∷ xs) = by (h x) (holds x) (all-given P h holds xs)
  where
    by : (o : Option Y) → IfSome o P → All P (filter_map h xs) → All P (cons_option o (filter_map h xs))
    by None there rest = rest
    by (Some y) there rest = All-cons P y (filter_map h xs) there rest

-- one item more

pub picked-more : {X Y : Type 0} (h : X → Option Y) (xs : List X) (i : ℕ) (x : X) → i < length xs → x ≡ get_or xs i x → filter_map h (take (i + 1) xs) ≡ filter_map h (take i xs) ++ cons_option (h x) []
picked-more {X} {Y} h xs i x lt is =
    ap (filter_map h) (take_more xs i x lt) ∙ filter_map-append h (take i xs) (get_or xs i x ∷ [])
    ∙ ap (λ (y : X). filter_map h (take i xs) ++ cons_option (h y) []) (sym is)

pub picked-one : {X Y : Type 0} (h : X → Option Y) (xs : List X) (i : ℕ) (x : X) (o : Option Y) (got : List Y) → i < length xs → x ≡ get_or xs i x → h x ≡ o → got ≡ filter_map h (take i xs) → got ++ cons_option o [] ≡ filter_map h (take (i + 1) xs)
picked-one {X} {Y} h xs i x o got lt is gives so_far =
    ap (λ (l : List Y). l ++ cons_option o []) so_far ∙ ap (λ (p : Option Y). filter_map h (take i xs) ++ cons_option p []) (sym gives) ∙ sym (picked-more h xs i x lt is)

pub plans-ready : (c : Catalogue) (lines : List LogLine) (attempt : ℕ) (committed : Bool) → All IsReady (plans c lines attempt committed)
plans-ready c lines attempt committed = all-given IsReady (plan_by c lines attempt committed) (λ line. by (heard_by c attempt committed line)) lines
  where
    by : (o : Option Resource) → IfSome (option_map (λ (r : Resource). new_plan r (unforgotten lines attempt r.name)) o) IsReady
    by None = tt
    by (Some r) = record { new = refl; room = omega arith }

-- the catalogue's resource of a name

pub found : (good : Resource → Bool) (name : List ℕ) (rs : List Resource) (r : Resource) → list_all good rs ≡ true → resource_named name rs ≡ Some r → (r.name ≡ name) × (good r ≡ true)
found good name [] r all is = search
found good name (x ∷ rs) r all is = by (bytes_eq x.name name) refl is (found good name rs r parts.1)
  where
    parts : (good x ≡ true) × (list_all good rs ≡ true)
    parts = and_parts (good x) (list_all good rs) all

    by : (b : Bool) → bytes_eq x.name name ≡ b → cond b (Some x) (resource_named name rs) ≡ Some r → (resource_named name rs ≡ Some r → (r.name ≡ name) × (good r ≡ true)) → (r.name ≡ name) × (good r ≡ true)
    by true same here further =
        let same_one : x ≡ r = cc in
        subst (λ (y : Resource). (y.name ≡ name) × (good y ≡ true)) same_one ((bytes_eq-Decides x.name name).0 same, parts.0)
    by false other there further = further there

-- each registration is of the catalogue's resource, with its phases

abbrev pub fits : Catalogue → LogLine → Bool
fits c (Registered a name phases) = has_phases c name phases
fits c _ = true

fits-next : (c : Catalogue) (sent : ℕ) (ended : List Ended) (before : List LogLine) (line : LogLine) → line_may_follow c sent ended before line ≡ true → fits c line ≡ true
fits-next c sent ended before (Opened a id) may = refl
fits-next c sent ended before (Written a name r) may = refl
fits-next c sent ended before (Forgot a name seq) may = refl
fits-next c sent ended before (Done a) may = refl
fits-next c sent ended before (Registered a name phases) may = (and_parts _ (has_phases c name phases) ((and_parts _ _ may).1)).1

fits-follow : (c : Catalogue) (sent : ℕ) (ended : List Ended) (before lines : List LogLine) → lines_follow c sent ended before lines ≡ true → list_all (fits c) lines ≡ true
fits-follow c sent ended before [] follow = refl
fits-follow c sent ended before (line ∷ lines) follow =
    let parts = and_parts (line_may_follow c sent ended before line) (lines_follow c sent ended (before ++ line ∷ []) lines) follow in
    rw (fits-next c sent ended before line parts.0) (fits-follow c sent ended (before ++ line ∷ []) lines parts.1)

pub fits-legal : (c : Catalogue) (sent : ℕ) (ended : List Ended) (lines : List LogLine) → is_log_legal c sent ended lines ≡ true → list_all (fits c) lines ≡ true
fits-legal c sent ended lines legal = fits-follow c sent ended [] lines legal

-- what is told by the plans

module _ (c : Catalogue) (lines : List LogLine) (attempt : ℕ) (committed : Bool) where
  flag : ℕ
  flag = phase_flag committed

  abbrev planned : Resource → Plan
  planned r = new_plan r (unforgotten lines attempt r.name)

  abbrev told : Registration → List Notice
  told own = phase_of lines attempt committed true own

  told-one : (e h : Bool) (r : Resource) (name : List ℕ) (phases : ℕ) → r.name ≡ name → has_phase (phase_flag committed) phases ≡ h
      → option_map_or (plan_notices committed) (option_map planned (cond (e && h) (Some r) None)) [] ≡ option_map_or told (cond e (Some (record { resource = name; phases = phases })) None) []
  told-one false h r name phases is_name is_h = refl
  told-one true true r name phases is_name is_h =
      ap (λ (n : List ℕ). notices_to n (heard_in committed (unforgotten lines attempt n))) is_name
      ∙ sym (ap (λ (b : Bool). cond b (notices_to name (heard_in committed (unforgotten lines attempt name))) []) is_h)
  told-one true false r name phases is_name is_h = sym (ap (λ (b : Bool). cond b (notices_to name (heard_in committed (unforgotten lines attempt name))) []) is_h)

  abbrev puts : Registration → List RowPut
  puts own = registration_puts c lines attempt committed own

  none-picked : {A B : Type 0} (xs : List A) → filter_map {X = A} {Y = B} (λ x. None) xs ≡ []
  none-picked [] = refl
  none-picked (x ∷ xs) = none-picked xs

  -- who doesn't hear of the phase puts nothing in it
  silent : (committed : Bool) (r : Resource) (records : List LogRecord) → has_its_phases r ≡ true → has_phase (phase_flag committed) r.phases ≡ false → puts_of r committed records ≡ []
  silent committed r records its unheard = by committed r.early refl unheard
    where
      needs : (b : Bool) → r.early ≡ b → has_phase (cond b 4 2) r.phases ≡ true
      needs b is = sym (ap (λ (x : Bool). has_phase (cond x 4 2) r.phases) is) ∙ (and_parts (has_phase (cond r.early 4 2) r.phases) _ its).0

      by : (committed b : Bool) → r.early ≡ b → has_phase (phase_flag committed) r.phases ≡ false → puts_of r committed records ≡ []
      by true true is none = ap (λ (x : Bool). filter_map (λ (y : LogRecord). cond x None (Some (put_of r.name y.key y.new))) records) is ∙ none-picked records
      by true false is none = absurd (false≢true (sym none ∙ needs false is))
      by false false is none = ap (λ (x : Bool). filter_map (λ (y : LogRecord). cond x (Some (put_of r.name y.key y.old)) None) (reverse records)) is ∙ none-picked (reverse records)
      by false true is none = absurd (false≢true (sym none ∙ needs true is))

  puts-one : (e h : Bool) (r : Resource) (name : List ℕ) (phases : ℕ) → r.name ≡ name → resource_named name c.resources ≡ Some r → r.phases ≡ phases → has_its_phases r ≡ true → has_phase (phase_flag committed) phases ≡ h
      → option_map_or (plan_puts committed) (option_map planned (cond (e && h) (Some r) None)) [] ≡ option_map_or puts (cond e (Some (record { resource = name; phases = phases })) None) []
  puts-one false h r name phases is_name is is_phases its is_h = refl
  puts-one true true r name phases is_name is is_phases its is_h =
      ap (λ (n : List ℕ). puts_of r committed (unforgotten lines attempt n)) is_name
      ∙ sym (ap (λ (o : Option Resource). option_map_or (λ (x : Resource). puts_of x committed (unforgotten lines attempt name)) o []) is)
  puts-one true false r name phases is_name is is_phases its is_h =
      sym (ap (λ (o : Option Resource). option_map_or (λ (x : Resource). puts_of x committed (unforgotten lines attempt name)) o []) is
      ∙ silent committed r (unforgotten lines attempt name) its (ap (λ n. has_phase (phase_flag committed) n) is_phases ∙ is_h))

  record Known (name : List ℕ) (phases : ℕ) : Type 0 where
    r : Resource
    is : resource_named name c.resources ≡ Some r
    is_name : r.name ≡ name
    is_phases : r.phases ≡ phases
    its : has_its_phases r ≡ true

  known : (name : List ℕ) (phases : ℕ) → list_all has_its_phases c.resources ≡ true → has_phases c name phases ≡ true → Known name phases
  known name phases all fit = by (resource_named name c.resources) refl fit
    where
      by : (o : Option Resource) → resource_named name c.resources ≡ o → option_map_or (λ (r : Resource). r.phases == phases) o false ≡ true → Known name phases
      by None is none = absurd (false≢true none)
      by (Some r) is here =
          let both = found has_its_phases name c.resources r all is in
          record { r = r; is = is; is_name = both.0; is_phases = eqb-true r.phases phases here; its = both.1 }

  told-line : list_all has_its_phases c.resources ≡ true → (line : LogLine) → fits c line ≡ true → option_map_or (plan_notices committed) (plan_by c lines attempt committed line) [] ≡ option_map_or told (registered_by attempt line) []
  told-line all (Opened a id) fit = refl
  told-line all (Written a name r) fit = refl
  told-line all (Forgot a name seq) fit = refl
  told-line all (Done a) fit = refl
  told-line all (Registered a name phases) fit =
      let k = known name phases all fit in
      let b = has_phase (phase_flag committed) phases in
      ap (λ (o : Option Resource). option_map_or (plan_notices committed) (option_map planned (cond ((a == attempt) && b) o None)) []) k.is
      ∙ told-one (a == attempt) b k.r name phases k.is_name refl

  puts-line : list_all has_its_phases c.resources ≡ true → (line : LogLine) → fits c line ≡ true → option_map_or (plan_puts committed) (plan_by c lines attempt committed line) [] ≡ option_map_or puts (registered_by attempt line) []
  puts-line all (Opened a id) fit = refl
  puts-line all (Written a name r) fit = refl
  puts-line all (Forgot a name seq) fit = refl
  puts-line all (Done a) fit = refl
  puts-line all (Registered a name phases) fit =
      let k = known name phases all fit in
      let b = has_phase (phase_flag committed) phases in
      ap (λ (o : Option Resource). option_map_or (plan_puts committed) (option_map planned (cond ((a == attempt) && b) o None)) []) k.is
      ∙ puts-one (a == attempt) b k.r name phases k.is_name k.is k.is_phases k.its refl

  pub plans-told : list_all has_its_phases c.resources ≡ true → list_all (fits c) lines ≡ true → flat_map (plan_notices committed) (plans c lines attempt committed) ≡ phases_of lines attempt committed true
  plans-told all fit =
      flat-given (plan_by c lines attempt committed) (plan_notices committed) lines
      ∙ flat-same (fits c) (λ line. option_map_or (plan_notices committed) (plan_by c lines attempt committed line) []) (λ line. option_map_or told (registered_by attempt line) []) (told-line all) lines fit
      ∙ sym (flat-given (registered_by attempt) told lines)

  pub plans-puts : list_all has_its_phases c.resources ≡ true → list_all (fits c) lines ≡ true → flat_map (plan_puts committed) (plans c lines attempt committed) ≡ phase_puts c lines attempt committed
  plans-puts all fit =
      flat-given (plan_by c lines attempt committed) (plan_puts committed) lines
      ∙ flat-same (fits c) (λ line. option_map_or (plan_puts committed) (plan_by c lines attempt committed line) []) (λ line. option_map_or puts (registered_by attempt line) []) (puts-line all) lines fit
      ∙ sym (flat-given (registered_by attempt) puts lines)
