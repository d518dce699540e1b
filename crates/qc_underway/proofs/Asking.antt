-- The registered resources asked, one after another.
use Rattle.std.proofs.Common.{◌≡◌, ◌∙◌, ◌≤◌, ◌<◌, ◌+◌, ℕ, zero, suc, get_or, drop, List, [], ◌∷◌, ◌++◌, length, map, filter, zip, Bool, true, false, not, cond, bytes_eq, Option, Some, None, option_map, MatchBool, Vec, Global, vec_len, vec_capacity, refl, sym, ap, subst, arith, append_assoc, append-nil, length-append, All}
use Rattle.std.specs.Prelude.{sum_by}
use Rattle.std.specs.List.{list_any}
use Rattle.std.specs.Option.{IfSome, option_map_or}
use Rattle.std.specs.Prelude.{IfNone}
use Rattle.std.proofs.lemmas.Bool.{and_parts, not-true, or_parts}
use Rattle.std.proofs.lemmas.List.{drop_all, length-map}
use Rattle.std.proofs.lemmas.List.Elements.{All-nil, All-cons, All-head, All-tail}
use Rattle.std.proofs.lemmas.List.Sums.{sum_by-cons}
use Rattle.qc_base.specs.declared.log_line.Heard.{Heard}
use Rattle.qc_base.specs.declared.log_line.Heard.TheVariants.{PrepareRecord, EndPrepare}
use Rattle.qc_base.specs.declared.log_line.LogLine.{LogLine}
use Rattle.qc_base.specs.declared.log_line.LogLine.TheVariants.{Forgot}
use Rattle.qc_base.specs.declared.log_line.LogRecord.{LogRecord}
use Rattle.qc_base.specs.declared.log_line.Notice.{Notice}
use Rattle.qc_base.specs.LogLines.{Registration, has_phase, notices_to, prepare_heard, registrations, unforgotten}
use Rattle.qc_site.specs.Image.{Image}
use Rattle.qc_entries.specs.Entries.{EntriesView}
use Rattle.qc_catalogue.specs.declared.catalogue.Catalogue.{Catalogue}
use Rattle.qc_catalogue.specs.declared.catalogue.Resource.{Resource}
use Rattle.qc_catalogue.specs.Lookup.{resource_named}
use Rattle.crm_clerk.specs.Calls.{HasStaged}
use Rattle.crm_clerk.specs.Clerk.{ClerkView, with_lines}
use Rattle.crm_clerk.specs.Keeps.{are_distinct}
use Rattle.crm_clerk.specs.Staging.{HasRoomFor}
use Rattle.crm_driver.specs.Compensators.{CompensatorState, Rules, hears}
use Rattle.crm_driver.specs.RowRules.{rules_of}
use Rattle.qc_machine.specs.LogAndRows.{LogAndRows, lines_of, with_lines as with_more}
use Rattle.qc_machine.specs.Preparing.{Prepared, unasked, answered_lines, asked, asked_by, prepared_one, and_then_prepared, prepared_all}
use Rattle.qc_underway.specs.declared.compensators.Compensators.{Compensators}
use Rattle.qc_underway.specs.Compensators.{CanHear, Hears, HearsAlone, IsMadeBy, IsOf, IsOrderly, all_calls, all_records, calls_of, count_of, forget_room, named, records_of, registered_by}
use Rattle.qc_underway.specs.Standing.{IsClerkOf, IsUnderway}
use Rattle.qc_underway.specs.Votes.{Asks, AsksNobody, AsksRegistered, ForgetsSome, IsPrepared, as_registration, asked_heard}
use Rattle.qc_underway.proofs.Forgetting.{AreForgot, all-forgot, more-forgot, by-numbers, fewer-behind, orderly-behind, underway-behind, clerk-behind, behind-registered, staged-none, staged-on}
use Rattle.qc_underway.proofs.Kept.{bytes-flip, bytes-same, name-found}
use Rattle.qc_machine.proofs.OwnLines.{own-registrations, own-unforgotten}

-- what a resource hears that is asked: an entry for each record, and two more
pub length-prepared : (forgets : LogRecord → Bool) (ready : Bool) (rs : List LogRecord) → length (prepare_heard (map forgets rs) ready rs) ≡ length rs + 2
length-prepared forgets ready rs =
    let said : LogRecord × Bool → Heard = λ p. PrepareRecord p.0.seq p.1 in
    omega (arith, length-append (map said (zip rs (map forgets rs))) (EndPrepare ready ∷ []), length-map (zip rs (map forgets rs)) said, zipped rs)
  where
    zipped : (l : List LogRecord) → length (zip l (map forgets l)) ≡ length l
    zipped [] = refl
    zipped (r ∷ l) = omega (arith, zipped l)

length-asked : (rules : Rules) (rs : List LogRecord) → length (asked_heard rules rs) ≡ length rs + 2
length-asked rules rs = length-prepared rules.forgets (rules.ready rs) rs

-- no more are answered than there are
pub fewer-chosen : (forgets : LogRecord → Bool) (rs : List LogRecord) → length (map (λ (r : LogRecord). r.seq) (filter forgets rs)) ≤ length rs
fewer-chosen forgets [] = omega arith
fewer-chosen forgets (r ∷ rs) = by (forgets r) (fewer-chosen forgets rs)
  where
    by : (b : Bool) → length (map (λ (x : LogRecord). x.seq) (filter forgets rs)) ≤ length rs → length (map (λ (x : LogRecord). x.seq) (cond b (r ∷ filter forgets rs) (filter forgets rs))) ≤ length (r ∷ rs)
    by true le = omega (arith, le)
    by false le = omega (arith, le)

pub length-notices : (name : List ℕ) (heard : List Heard) → length (notices_to name heard) ≡ length heard
length-notices name heard = length-map heard (λ (h : Heard). record { resource = name; heard = h })

-- answers are lines that forget
answers-forgot : (attempt : ℕ) (name : List ℕ) (forgets : LogRecord → Bool) (rs : List LogRecord) → AreForgot attempt (answered_lines attempt name forgets rs)
answers-forgot attempt name forgets rs = subst (λ (l : List LogLine). AreForgot attempt l) (by-numbers attempt name (filter forgets rs)) (all-forgot attempt name (map (λ (r : LogRecord). r.seq) (filter forgets rs)))

fewer-answers : (attempt : ℕ) (name : List ℕ) (forgets : LogRecord → Bool) (rs : List LogRecord) → length (answered_lines attempt name forgets rs) ≤ length rs
fewer-answers attempt name forgets rs = omega (arith, length-map (filter forgets rs) (λ (r : LogRecord). Forgot attempt name r.seq), fewer rs)
  where
    fewer : (l : List LogRecord) → length (filter forgets l) ≤ length l
    fewer [] = omega arith
    fewer (r ∷ l) = by (forgets r) (fewer l)
      where
        by : (b : Bool) → length (filter forgets l) ≤ length l → length (cond b (r ∷ filter forgets l) (filter forgets l)) ≤ length (r ∷ l)
        by true le = omega (arith, le)
        by false le = omega (arith, le)

-- the machine asks by the compensator's rules
pub asked-one : (c : Catalogue) (r : Registration) (clerk : ClerkView) (told : Compensators) (o : LogAndRows) (s : CompensatorState) → IsMadeBy c told → IsClerkOf clerk o → named told r.resource ≡ Some s → has_phase 1 r.phases ≡ true
    → prepared_one c clerk.attempt r o ≡ asked_by s.rules r.resource clerk.attempt (records_of clerk r.resource) o
asked-one c r clerk told o s made own is takes =
    let a = clerk.attempt in
    let of : IsOf c r.resource s = subst (λ (x : Option CompensatorState). IfSome x (λ y. IsOf c r.resource y)) is (made r.resource) in
    let records : unforgotten (lines_of o) a r.resource ≡ records_of clerk r.resource = sym (own-unforgotten a (lines_of o) r.resource) ∙ ap (λ (l : List LogLine). unforgotten l a r.resource) (sym own.lines) in
    ap (λ (b : Bool). cond b (option_map_or (λ (x : Resource). asked x a o) (resource_named r.resource c.resources) (unasked o)) (unasked o)) takes
    ∙ ap (λ (x : Option Resource). option_map_or (λ (y : Resource). asked y a o) x (unasked o)) of.is
    ∙ ap (λ (n : List ℕ). asked_by (rules_of of.resource) n a (unforgotten (lines_of o) a n) o) (name-found r.resource c.resources of.resource of.is)
    ∙ (λ i. asked_by (sym of.rules i) r.resource a (records i) o)

pub unasked-one : (c : Catalogue) (attempt : ℕ) (r : Registration) (o : LogAndRows) → has_phase 1 r.phases ≡ false → prepared_one c attempt r o ≡ unasked o
unasked-one c attempt r o none = ap (λ (b : Bool). cond b (option_map_or (λ (x : Resource). asked x attempt o) (resource_named r.resource c.resources) (unasked o)) (unasked o)) none

-- one is asked behind those that were ready

abbrev pub so-far : LogAndRows → List Notice → Option (List ℕ) → Prepared
so-far o heard refuser = record { after = o; notices = heard; refuser = refuser }

stepped : (next : LogAndRows → Prepared) (o x : LogAndRows) (heard more : List Notice) (refuser : Option (List ℕ)) (p : Prepared) → p ≡ so-far x more refuser
    → and_then_prepared (λ y. and_then_prepared next p) (so-far o heard None) ≡ and_then_prepared next (so-far x (heard ++ more) refuser)
stepped next o x heard more refuser p is = ap (λ (y : Prepared). and_then_prepared (λ z. and_then_prepared next y) (so-far o heard None)) is ∙ by refuser
  where
    q : Prepared
    q = next x

    by : (r : Option (List ℕ)) → and_then_prepared (λ z. and_then_prepared next (so-far x more r)) (so-far o heard None) ≡ and_then_prepared next (so-far x (heard ++ more) r)
    by (Some name) = refl
    by None = let notices : heard ++ (more ++ q.notices) ≡ (heard ++ more) ++ q.notices = sym (append_assoc heard more q.notices) in λ i. record q { notices = notices i }

-- nobody is left to ask
ended : (c : Catalogue) (attempt : ℕ) (left : List Registration) (o : LogAndRows) (heard : List Notice) (refuser : Option (List ℕ)) → IfNone refuser (left ≡ []) → and_then_prepared (prepared_all c attempt left) (so-far o heard refuser) ≡ so-far o heard refuser
ended c attempt left o heard (Some name) none = refl
ended c attempt left o heard None none =
    ap (λ (l : List Registration). and_then_prepared (prepared_all c attempt l) (so-far o heard None)) none ∙ ap (λ (l : List Notice). so-far o l None) (append-nil heard)

-- the lines of one more
lined : (o : LogAndRows) (xs ys : List LogLine) → with_more ys (with_more xs o) ≡ with_more (xs ++ ys) o
lined o xs ys = let staged = append_assoc o.staged xs ys in λ i. record o { staged = staged i }

abbrev pub rules-named : Compensators → List ℕ → Option Rules
rules-named told name = option_map (λ (s : CompensatorState). s.rules) (named told name)

made-still : (c : Catalogue) (told after : Compensators) → ((name : List ℕ) → rules-named after name ≡ rules-named told name) → IsMadeBy c told → IsMadeBy c after
made-still c told after same made = λ name. by name (named after name) (named told name) (same name) (made name)
  where
    by : (name : List ℕ) (x y : Option CompensatorState) → option_map (λ (s : CompensatorState). s.rules) x ≡ option_map (λ (s : CompensatorState). s.rules) y → IfSome y (λ s. IsOf c name s) → IfSome x (λ s. IsOf c name s)
    by name None y is of = tt
    by name (Some s) None is of = absurd cc
    by name (Some s) (Some t) is of = let one : s.rules ≡ t.rules = cc in record { resource = of.resource; is = of.is; rules = one ∙ of.rules }

-- How far the asking has come: these are left, and all before them were ready. What it needs of compensators and rooms
-- is counted over the clerk at the start.
pub record Asking (told : Compensators) (clerk : ClerkView) (log : EntriesView) (old : Vec Notice Global) (refuser : Option (List ℕ)) (left : List Registration)
    (after : Compensators) (new : ClerkView) (later : EntriesView) (now : Vec Notice Global) : Type 0 where
  pub lines : List LogLine
  pub heard : List Notice
  pub forgot : AreForgot clerk.attempt lines
  pub staged : HasStaged lines 0 clerk log new later
  pub few : length lines + sum_by (count_of clerk) left ≤ all_records clerk
  pub notices : now.items ≡ old.items ++ heard
  pub distinct : are_distinct left ≡ true
  pub ready : All (λ (r : Registration). Hears 2 (count_of clerk r) r.resource told) left
  pub same : All (λ (r : Registration). named after r.resource ≡ named told r.resource) left
  pub done : All (λ (r : Registration). Hears 1 (count_of clerk r) r.resource after) (registered_by clerk)
  pub forgets : forget_room after ≡ forget_room told
  pub rules : (name : List ℕ) → rules-named after name ≡ rules-named told name
  pub room : vec_len now + sum_by (calls_of clerk) left + all_calls clerk ≤ vec_capacity now
  pub log_room : HasRoomFor (sum_by (count_of clerk) left) later
  pub asked : (c : Catalogue) → IsMadeBy c told → (o : LogAndRows) → IsClerkOf clerk o
      → prepared_all c clerk.attempt (registered_by clerk) o ≡ and_then_prepared (prepared_all c clerk.attempt left) (so-far (with_more lines o) heard refuser)

all-less : (P Q : Registration → Type 0) (rs : List Registration) → ((r : Registration) → P r → Q r) → All P rs → All Q rs
all-less P Q rs less all = λ i d lt. less _ (all i d lt)

less-room : (records : ℕ) (name : List ℕ) (told : Compensators) → Hears 2 records name told → Hears 1 records name told
less-room records name told h = record { state = h.state; is = h.is; calls = omega (arith, h.calls); forgets = h.forgets }

pub asking-begun : (told : Compensators) (clerk : ClerkView) (log : EntriesView) (old : Vec Notice Global) → IsOrderly clerk → CanHear 2 clerk told old → HasRoomFor (all_records clerk) log → Asking told clerk log old None (registered_by clerk) told clerk log old
asking-begun told clerk log old so can has = record {
  lines = [];
  heard = [];
  forgot = refl;
  staged = staged-none clerk log;
  few = omega arith;
  notices = sym (append-nil old.items);
  distinct = so.distinct;
  ready = can.each;
  same = λ i d lt. refl;
  done = all-less (λ (r : Registration). Hears 2 (count_of clerk r) r.resource told) (λ (r : Registration). Hears 1 (count_of clerk r) r.resource told) (registered_by clerk) (λ r h. less-room (count_of clerk r) r.resource told h) can.each;
  forgets = refl;
  rules = λ name. refl;
  room = omega (arith, can.room);
  log_room = has;
  asked = λ c made o own.
      let nothing : o.staged ++ [] ≡ o.staged = append-nil o.staged in
      let p : LogAndRows → Prepared = prepared_all c clerk.attempt (registered_by clerk) in
      ap (λ (x : LogAndRows). and_then_prepared p (so-far x [] None)) (λ i. record o { staged = sym nothing i });
}

left-fewer : (clerk new : ClerkView) (lines : List LogLine) (name : List ℕ) → AreForgot clerk.attempt lines → new ≡ with_lines 0 lines clerk → length (records_of new name) ≤ length (records_of clerk name)
left-fewer clerk new lines name forgot is = subst (λ (v : ClerkView). length (records_of v name) ≤ length (records_of clerk name)) (sym is) (fewer-behind clerk.attempt clerk.lines lines name forgot)

same-registered : (clerk new : ClerkView) (lines : List LogLine) → AreForgot clerk.attempt lines → new ≡ with_lines 0 lines clerk → registered_by new ≡ registered_by clerk
same-registered clerk new lines forgot is = subst (λ (v : ClerkView). registered_by v ≡ registered_by clerk) (sym is) (behind-registered clerk.attempt clerk.lines lines forgot)

-- what the next one needs of now
pub next-hears : (told : Compensators) (clerk : ClerkView) (log : EntriesView) (old : Vec Notice Global) (r : Registration) (left : List Registration) (after : Compensators) (new : ClerkView) (later : EntriesView) (now : Vec Notice Global)
    → Asking told clerk log old None (r ∷ left) after new later now → Hears 1 (count_of new r) r.resource after
next-hears told clerk log old r left after new later now so =
    let first = All-head (λ (r : Registration). Hears 2 (count_of clerk r) r.resource told) r left so.ready in
    let same = All-head (λ (r : Registration). named after r.resource ≡ named told r.resource) r left so.same in
    let less = left-fewer clerk new so.lines r.resource so.forgot so.staged.clerk in
    record { state = first.state; is = same ∙ first.is; calls = omega (arith, first.calls, less); forgets = omega (arith, first.forgets, less, so.forgets) }

pub next-room : (told : Compensators) (clerk : ClerkView) (log : EntriesView) (old : Vec Notice Global) (r : Registration) (left : List Registration) (after : Compensators) (new : ClerkView) (later : EntriesView) (now : Vec Notice Global)
    → Asking told clerk log old None (r ∷ left) after new later now → (vec_len now + (count_of new r + 2) ≤ vec_capacity now) × HasRoomFor (count_of new r) later
next-room told clerk log old r left after new later now so =
    let less = left-fewer clerk new so.lines r.resource so.forgot so.staged.clerk in (
      omega (arith, so.room, less, sum_by-cons (calls_of clerk) r left),
      record {
        ended = so.log_room.ended;
        room = omega (arith, so.log_room.room, less, sum_by-cons (count_of clerk) r left);
        fits = omega (arith, so.log_room.fits, less, sum_by-cons (count_of clerk) r left);
      },
    )

pub asking-orderly : (told : Compensators) (clerk : ClerkView) (log : EntriesView) (old : Vec Notice Global) (refuser : Option (List ℕ)) (left : List Registration) (after : Compensators) (new : ClerkView) (later : EntriesView) (now : Vec Notice Global)
    → IsOrderly clerk → Asking told clerk log old refuser left after new later now → IsOrderly new
asking-orderly told clerk log old refuser left after new later now fine so = orderly-behind clerk new so.lines fine so.forgot so.staged.clerk

-- the same registrations
pub asking-registered : (told : Compensators) (clerk : ClerkView) (log : EntriesView) (old : Vec Notice Global) (refuser : Option (List ℕ)) (left : List Registration) (after : Compensators) (new : ClerkView) (later : EntriesView) (now : Vec Notice Global)
    → Asking told clerk log old refuser left after new later now → registered_by new ≡ registered_by clerk
asking-registered told clerk log old refuser left after new later now so = same-registered clerk new so.lines so.forgot so.staged.clerk

-- one that isn't asked
pub passed-by : (told : Compensators) (clerk : ClerkView) (log : EntriesView) (old : Vec Notice Global) (r : Registration) (left : List Registration) (after : Compensators) (new : ClerkView) (later : EntriesView) (now : Vec Notice Global)
    → Asking told clerk log old None (r ∷ left) after new later now → has_phase 1 r.phases ≡ false → Asking told clerk log old None left after new later now
passed-by told clerk log old r left after new later now so none = record {
  lines = so.lines;
  heard = so.heard;
  forgot = so.forgot;
  staged = so.staged;
  few = omega (arith, so.few, sum_by-cons (count_of clerk) r left);
  notices = so.notices;
  distinct = (and_parts (not (list_any (λ (x : Registration). bytes_eq x.resource r.resource) left)) (are_distinct left) so.distinct).1;
  ready = All-tail (λ (r : Registration). Hears 2 (count_of clerk r) r.resource told) r left so.ready;
  same = All-tail (λ (r : Registration). named after r.resource ≡ named told r.resource) r left so.same;
  done = so.done;
  forgets = so.forgets;
  rules = so.rules;
  room = omega (arith, so.room, sum_by-cons (calls_of clerk) r left);
  log_room = record {
    ended = so.log_room.ended;
    room = omega (arith, so.log_room.room, sum_by-cons (count_of clerk) r left);
    fits = omega (arith, so.log_room.fits, sum_by-cons (count_of clerk) r left);
  };
  asked = λ c made o own.
      let x = with_more so.lines o in
      let p : LogAndRows → Prepared = prepared_all c clerk.attempt left in
      so.asked c made o own ∙ stepped p x x so.heard [] None (prepared_one c clerk.attempt r x) (unasked-one c clerk.attempt r x none) ∙ ap (λ (l : List Notice). and_then_prepared p (so-far x l None)) (append-nil so.heard);
}

-- one that was asked: it hears alone

hears-on : (records : ℕ) (name other : List ℕ) (heard : List Heard) (rs : List LogRecord) (told after new : Compensators) → Hears 2 records name told → named after name ≡ named told name → length heard ≤ records + 2 → HearsAlone name heard rs after new
    → (count : ℕ) → (bytes_eq name other ≡ true → count ≡ records) → Hears 1 count other after → Hears 1 count other new
hears-on records name other heard rs told after new first same few alone count counted had = by (bytes_eq name other) refl
  where
    by : (b : Bool) → bytes_eq name other ≡ b → Hears 1 count other new
    by false apart = record { state = had.state; is = alone.others other apart ∙ had.is; calls = had.calls; forgets = omega (arith, had.forgets, alone.forget) }
    by true own =
        let s : CompensatorState = hears heard rs first.state in
        let is : named new other ≡ Some s = ap (λ (n : List ℕ). named new n) (sym (bytes-same name other own)) ∙ alone.own ∙ ap (option_map (hears heard rs)) (same ∙ first.is) in
        let n : count ≡ records = counted own in
        record { state = s; is = is; calls = omega (arith, first.calls, few, n); forgets = omega (arith, had.forgets, alone.forget) }

rules-on : (name other : List ℕ) (heard : List Heard) (rs : List LogRecord) (after new : Compensators) → HearsAlone name heard rs after new → rules-named new other ≡ rules-named after other
rules-on name other heard rs after new alone = by (bytes_eq name other) refl
  where
    kept : (o : Option CompensatorState) → option_map (λ (s : CompensatorState). s.rules) (option_map (hears heard rs) o) ≡ option_map (λ (s : CompensatorState). s.rules) o
    kept None = refl
    kept (Some s) = refl

    by : (b : Bool) → bytes_eq name other ≡ b → rules-named new other ≡ rules-named after other
    by false apart = ap (option_map (λ (s : CompensatorState). s.rules)) (alone.others other apart)
    by true own = subst (λ (n : List ℕ). rules-named new n ≡ rules-named after n) (bytes-same name other own) (ap (option_map (λ (s : CompensatorState). s.rules)) alone.own ∙ kept (named after name))

-- those that are left have other names
pub others-apart : (name : List ℕ) (rs : List Registration) → list_any (λ (x : Registration). bytes_eq x.resource name) rs ≡ false → All (λ (x : Registration). bytes_eq name x.resource ≡ false) rs
others-apart name [] none = All-nil (λ (x : Registration). bytes_eq name x.resource ≡ false)
others-apart name (x ∷ rs) none =
    let both = or_parts (bytes_eq x.resource name) (list_any (λ (y : Registration). bytes_eq y.resource name) rs) none in
    All-cons (λ (y : Registration). bytes_eq name y.resource ≡ false) x rs (bytes-flip x.resource name false both.0) (others-apart name rs both.1)

-- one that was asked
pub asked-by : (told : Compensators) (clerk : ClerkView) (log : EntriesView) (old : Vec Notice Global) (r : Registration) (left : List Registration) (after : Compensators) (new : ClerkView) (later : EntriesView) (now : Vec Notice Global)
    (ready : Bool) (then : Compensators) (newer : ClerkView) (last : EntriesView) (all : Vec Notice Global)
    → Asking told clerk log old None (r ∷ left) after new later now → has_phase 1 r.phases ≡ true → Asks r.resource ready after new later now then newer last all
    → Asking told clerk log old (cond ready None (Some r.resource)) left then newer last all
asked-by told clerk log old r left after new later now ready then newer last all so takes one =
    let a = clerk.attempt in
    let name = r.resource in
    let rules = one.state.rules in
    let rs = records_of new name in
    let heard = asked_heard rules rs in
    let more = notices_to name heard in
    let lines = answered_lines new.attempt name rules.forgets rs in
    let count = count_of clerk r in
    let same_a : new.attempt ≡ a = ap (λ (v : ClerkView). v.attempt) so.staged.clerk in
    let forgot : AreForgot a lines = subst (λ x. AreForgot x lines) same_a (answers-forgot new.attempt name rules.forgets rs) in
    let left_less : length rs ≤ count = left-fewer clerk new so.lines name so.forgot so.staged.clerk in
    let lines_less : length lines ≤ length rs = fewer-answers new.attempt name rules.forgets rs in
    let heard_is : length heard ≡ length rs + 2 = length-asked rules rs in
    let more_is : length more ≡ length heard = length-notices name heard in
    let counts = sum_by-cons (count_of clerk) r left in
    let calls = sum_by-cons (calls_of clerk) r left in
    let parts = and_parts (not (list_any (λ (x : Registration). bytes_eq x.resource name) left)) (are_distinct left) so.distinct in
    let apart = others-apart name left (not-true (list_any (λ (x : Registration). bytes_eq x.resource name) left) parts.0) in
    let first = All-head (λ (x : Registration). Hears 2 (count_of clerk x) x.resource told) r left so.ready in
    let same = All-head (λ (x : Registration). named after x.resource ≡ named told x.resource) r left so.same in
    let others = All-tail (λ (x : Registration). named after x.resource ≡ named told x.resource) r left so.same in
    record {
      lines = so.lines ++ lines;
      heard = so.heard ++ more;
      forgot = more-forgot a so.lines lines so.forgot forgot;
      staged = staged-on so.lines lines clerk new newer log later last so.staged one.staged;
      few = omega (arith, so.few, counts, length-append so.lines lines, left_less, lines_less);
      notices = one.heard.items ∙ ap (λ (l : List Notice). l ++ more) so.notices ∙ append_assoc old.items so.heard more;
      distinct = parts.1;
      ready = All-tail (λ (x : Registration). Hears 2 (count_of clerk x) x.resource told) r left so.ready;
      same = λ i d lt. one.hears.others (get_or left i d).resource (apart i d lt) ∙ others i d lt;
      done = λ i d lt.
          let x = get_or (registered_by clerk) i d in
          hears-on count name x.resource heard rs told after then first same (omega (arith, heard_is, left_less)) one.hears (count_of clerk x) (λ e. ap (λ (n : List ℕ). length (records_of clerk n)) (sym (bytes-same name x.resource e))) (so.done i d lt);
      forgets = one.hears.forget ∙ so.forgets;
      rules = λ other. rules-on name other heard rs after then one.hears ∙ so.rules other;
      room = omega (arith, so.room, calls, one.heard.len, one.heard.capacity, more_is, heard_is, left_less);
      log_room = record {
        ended = ap (λ (x : EntriesView). x.log.ended) one.staged.room.same ∙ so.log_room.ended;
        room = omega (arith, so.log_room.room, counts, one.staged.room.room, lines_less, left_less);
        fits = omega (arith, so.log_room.fits, counts, one.staged.room.fits, lines_less, left_less);
      };
      asked = λ c made o own.
          let x = with_more so.lines o in
          let p : LogAndRows → Prepared = prepared_all c a left in
          let ours : IsClerkOf new x = clerk-behind clerk new o so.lines own so.forgot so.staged.clerk in
          let by_after : IsMadeBy c after = made-still c told after so.rules made in
          let answer : rules.ready rs ≡ ready = sym one.answer in
          let is : prepared_one c a r x ≡ so-far (with_more (so.lines ++ lines) o) more (cond ready None (Some name))
          = ap (λ n. prepared_one c n r x) (sym same_a) ∙ asked-one c r new after x one.state by_after ours one.is takes
          ∙ (λ i. so-far (lined o so.lines lines i) more (cond (answer i) None (Some name))) in
          so.asked c made o own ∙ stepped p x (with_more (so.lines ++ lines) o) so.heard more (cond ready None (Some name)) (prepared_one c a r x) is;
    }

-- a registered resource, asked or not
pub asked-registered : (told : Compensators) (clerk : ClerkView) (log : EntriesView) (old : Vec Notice Global) (r : Registration) (left : List Registration) (after : Compensators) (new : ClerkView) (later : EntriesView) (now : Vec Notice Global)
    (ready : Bool) (then : Compensators) (newer : ClerkView) (last : EntriesView) (all : Vec Notice Global)
    → Asking told clerk log old None (r ∷ left) after new later now → AsksRegistered r ready after new later now then newer last all
    → Asking told clerk log old (cond ready None (Some r.resource)) left then newer last all
asked-registered told clerk log old r left after new later now ready then newer last all so asks = by (has_phase 1 r.phases) refl asks
  where
    by : (b : Bool) → has_phase 1 r.phases ≡ b → MatchBool b (Asks r.resource ready after new later now then newer last all) (AsksNobody ready after new later now then newer last all)
        → Asking told clerk log old (cond ready None (Some r.resource)) left then newer last all
    by true takes one = asked-by told clerk log old r left after new later now ready then newer last all so takes one
    by false none nobody =
        let kept = passed-by told clerk log old r left after new later now so none in
        let P : Bool → Compensators → ClerkView → EntriesView → Vec Notice Global → Type 0 = λ b x y z w. Asking told clerk log old (cond b None (Some r.resource)) left x y z w in
        subst (λ (b : Bool). P b then newer last all) (sym nobody.answer)
        (subst (λ (x : Compensators). P true x newer last all) (sym nobody.kept)
        (subst (λ (x : ClerkView). P true after x last all) (sym nobody.same)
        (subst (λ (x : EntriesView). P true after new x all) (sym nobody.still)
        (subst (λ (x : Vec Notice Global). P true after new later x) (sym nobody.unheard) kept))))

-- what holds at the end

sums-less : (f g : Registration → ℕ) (rs : List Registration) → ((r : Registration) → f r ≤ g r) → sum_by f rs ≤ sum_by g rs
sums-less f g [] less = omega arith
sums-less f g (r ∷ rs) less = omega (arith, less r, sums-less f g rs less, sum_by-cons f r rs, sum_by-cons g r rs)

module _ (told : Compensators) (clerk : ClerkView) (log : EntriesView) (old : Vec Notice Global) (refuser : Option (List ℕ)) (left : List Registration) (after : Compensators) (new : ClerkView) (later : EntriesView) (now : Vec Notice Global)
    (so : Asking told clerk log old refuser left after new later now) (none : IfNone refuser (left ≡ [])) where
  pub is-prepared : (c : Catalogue) → IsMadeBy c told → (o : LogAndRows) (shown : Image) → IsUnderway shown log clerk o
      → IsPrepared (prepared_all c clerk.attempt (registrations (lines_of o) clerk.attempt) o) refuser old.items now.items shown later new
  is-prepared c made o shown u =
      let a = clerk.attempt in
      let regs : registrations (lines_of o) a ≡ registered_by clerk = sym (own-registrations a (lines_of o)) ∙ ap (λ (l : List LogLine). registrations l a) (sym u.own.lines) in
      let is : prepared_all c a (registrations (lines_of o) a) o ≡ so-far (with_more so.lines o) so.heard refuser
      = ap (λ (l : List Registration). prepared_all c a l o) regs ∙ so.asked c made o u.own ∙ ended c a left (with_more so.lines o) so.heard refuser none in
      subst (λ (p : Prepared). IsPrepared p refuser old.items now.items shown later new) (sym is)
      (record { refuser = refl; notices = so.notices; left = underway-behind shown log later clerk new o so.lines u so.forgot so.staged })

  pub forgets-some : ForgetsSome clerk log new later
  forgets-some = record { lines = so.lines; staged = so.staged; few = omega (arith, so.few) }

  pub still-hears : CanHear 1 new after now
  still-hears =
      let regs = asking-registered told clerk log old refuser left after new later now so in
      let less : (r : Registration) → count_of new r ≤ count_of clerk r = λ r. left-fewer clerk new so.lines r.resource so.forgot so.staged.clerk in
      let P : Registration → Type 0 = λ r. Hears 1 (count_of new r) r.resource after in
      let each : All P (registered_by clerk) = λ i d lt.
      let r = get_or (registered_by clerk) i d in
      let h = so.done i d lt in
      record { state = h.state; is = h.is; calls = omega (arith, h.calls, less r); forgets = omega (arith, h.forgets, less r) } in
      record {
        each = subst (λ (l : List Registration). All P l) (sym regs) each;
        room = omega (arith, so.room, ap (sum_by (calls_of new)) regs, sums-less (calls_of new) (calls_of clerk) (registered_by clerk) (λ r. omega (arith, less r)));
      }

  pub still-made : (c : Catalogue) → IsMadeBy c told → IsMadeBy c after
  still-made c made = made-still c told after so.rules made

-- the registration at a place, as the clerk tells it
pub registered-at : (rs : List Registration) (i : ℕ) (p d : List ℕ × ℕ) → i < length rs → p ≡ get_or (map {B = List ℕ × ℕ} (λ (r : Registration). (r.resource, r.phases)) rs) i d → drop i rs ≡ record { resource = p.0; phases = p.1 } ∷ drop (i + 1) rs
registered-at [] i p d lt is = absurd (omega (arith, lt))
registered-at (r ∷ rs) zero p d lt is = let one : r ≡ record { resource = p.0; phases = p.1 } = λ j. record { resource = (sym is j).0; phases = (sym is j).1 } in ap (λ (x : Registration). x ∷ rs) one
registered-at (r ∷ rs) (suc i) p d lt is =
    let more : suc (i + 1) ≡ suc i + 1 = omega arith in
    registered-at rs i p d (omega (arith, lt)) is ∙ ap (λ n. record { resource = p.0; phases = p.1 } ∷ drop n (r ∷ rs)) more

-- The turns of the loop. The clerk tells each registration as a pair, and no turn changes them.

abbrev pub pairs_of : List Registration → List (List ℕ × ℕ)
pairs_of rs = map {B = List ℕ × ℕ} (λ (r : Registration). (r.resource, r.phases)) rs

pub as-many : (told : Compensators) (clerk : ClerkView) (log : EntriesView) (old : Vec Notice Global) (refuser : Option (List ℕ)) (left : List Registration) (after : Compensators) (new : ClerkView) (later : EntriesView) (now : Vec Notice Global)
    → Asking told clerk log old refuser left after new later now → length (pairs_of (registered_by new)) ≡ length (pairs_of (registered_by clerk))
as-many told clerk log old refuser left after new later now so = ap (λ (l : List Registration). length (pairs_of l)) (asking-registered told clerk log old refuser left after new later now so)

-- the one at hand is the first of those that are left
pub at-hand : (told : Compensators) (clerk : ClerkView) (log : EntriesView) (old : Vec Notice Global) (after : Compensators) (new : ClerkView) (later : EntriesView) (now : Vec Notice Global) (i : ℕ) (pairs : List (List ℕ × ℕ)) (p : List ℕ × ℕ)
    → Asking told clerk log old None (drop i (registered_by clerk)) after new later now → pairs ≡ pairs_of (registered_by new) → i < length pairs → p ≡ get_or pairs i p
    → Asking told clerk log old None (as_registration p ∷ drop (i + 1) (registered_by clerk)) after new later now
at-hand told clerk log old after new later now i pairs p so are lt is =
    let regs = registered_by clerk in
    let same : pairs ≡ pairs_of regs = are ∙ ap pairs_of (asking-registered told clerk log old None (drop i regs) after new later now so) in
    let inside : i < length regs = omega (arith, lt, ap length same, length-map regs (as_pair)) in
    let first = registered-at regs i p p inside (is ∙ ap (λ (l : List (List ℕ × ℕ)). get_or l i p) same) in
    subst (λ (l : List Registration). Asking told clerk log old None l after new later now) first so
  where
    as_pair : Registration → List ℕ × ℕ
    as_pair r = (r.resource, r.phases)

-- none is left
pub all-behind : (regs : List Registration) (pairs : List (List ℕ × ℕ)) (i : ℕ) → pairs ≡ pairs_of regs → length pairs ≤ i → drop i regs ≡ []
all-behind regs pairs i are past = drop_all i regs (omega (arith, past, ap length are, length-map regs as_pair))
  where
    as_pair : Registration → List ℕ × ℕ
    as_pair r = (r.resource, r.phases)

-- it isn't ready
pub refused : (told : Compensators) (clerk : ClerkView) (log : EntriesView) (old : Vec Notice Global) (r : Registration) (left : List Registration) (after : Compensators) (new : ClerkView) (later : EntriesView) (now : Vec Notice Global)
    (ready : Bool) (then : Compensators) (newer : ClerkView) (last : EntriesView) (all : Vec Notice Global)
    → Asking told clerk log old None (r ∷ left) after new later now → AsksRegistered r ready after new later now then newer last all → ready ≡ false
    → Asking told clerk log old (Some r.resource) left then newer last all
refused told clerk log old r left after new later now ready then newer last all so asks is =
    subst (λ (b : Bool). Asking told clerk log old (cond b None (Some r.resource)) left then newer last all) is
    (asked-registered told clerk log old r left after new later now ready then newer last all so asks)

-- it is
pub went-on : (told : Compensators) (clerk : ClerkView) (log : EntriesView) (old : Vec Notice Global) (r : Registration) (left : List Registration) (after : Compensators) (new : ClerkView) (later : EntriesView) (now : Vec Notice Global)
    (ready : Bool) (then : Compensators) (newer : ClerkView) (last : EntriesView) (all : Vec Notice Global)
    → Asking told clerk log old None (r ∷ left) after new later now → AsksRegistered r ready after new later now then newer last all → ready ≡ true
    → Asking told clerk log old None left then newer last all
went-on told clerk log old r left after new later now ready then newer last all so asks is =
    subst (λ (b : Bool). Asking told clerk log old (cond b None (Some r.resource)) left then newer last all) is
    (asked-registered told clerk log old r left after new later now ready then newer last all so asks)
