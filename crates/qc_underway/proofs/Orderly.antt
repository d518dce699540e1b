-- A clerk stays in order as the effects of calls are carried out.
use Rattle.std.proofs.Common.{◌≡◌, ◌∙◌, ◌+◌, ◌-◌, ◌==◌, ◌&&◌, ◌||◌, ℕ, List, [], ◌∷◌, ◌++◌, length, filter_map, map, Bool, true, false, not, cond, bytes_eq, Option, Some, None, Result, Ok, Err, OnOk, refl, sym, ap, subst, arith, append_assoc, append-nil, eq-eqb}
use Rattle.std.specs.List.{list_any}
use Rattle.std.specs.Option.{option_map_or}
use Rattle.std.proofs.Math.Bool.{or-true}
use Rattle.std.proofs.lemmas.Bool.{and_parts, and_from, or_parts, not_from_false, not-true}
use Rattle.std.proofs.lemmas.List.Elements.{filter_map-append}
use Rattle.std.proofs.lemmas.List.Folds.{list_any-append}
use Rattle.qc_base.specs.declared.log_line.LogLine.{LogLine}
use Rattle.qc_base.specs.declared.log_line.LogLine.TheVariants.{Opened, Registered, Written, Forgot}
use Rattle.qc_base.specs.declared.log_line.LogRecord.{LogRecord}
use Rattle.qc_base.specs.LogLines.{Entry, Registration, is_opened, is_registered, of_resource, opened_by, registrations}
use Rattle.qc_site.specs.declared.site.Failed.{Failed}
use Rattle.qc_site.specs.declared.site.Site.{Ghosts}
use Rattle.qc_entries.specs.Entries.{EntriesView}
use Rattle.qc_catalogue.specs.declared.catalogue.Catalogue.{Catalogue}
use Rattle.qc_catalogue.specs.declared.catalogue.Resource.{Resource}
use Rattle.qc_catalogue.specs.Lookup.{resource_named}
use Rattle.qc_play.specs.declared.effect.Effect.{Effect}
use Rattle.qc_play.specs.declared.effect.Effect.TheVariants.{Change, Retract}
use Rattle.crm_clerk.specs.Clerk.{ClerkView, forgot_lines, last_kept, new_clerk, records_in, registering_lines, unless, with_lines, writing_lines}
use Rattle.crm_clerk.specs.Keeps.{are_distinct, are_numbered, is_begun}
use Rattle.crm_clerk.proofs.Said.{SaysMore, says-opened, says-registered, says-on, written-registered, written-opened, written-records}
use Rattle.qc_worker.specs.Effects.{effect_lines, first_lines, resource_of}
use Rattle.qc_underway.specs.Calls.{CarriesCall}
use Rattle.qc_underway.specs.Compensators.{IsOrderly}
use Rattle.qc_underway.specs.Standing.{clerk_by, clerk_by_all, lines_by, room_by}
use Rattle.qc_underway.proofs.Forgetting.{AreForgot, orderly-behind}
use Rattle.qc_underway.proofs.Kept.{bytes-flip, bytes-same}

-- of lists of registrations and records

abbrev has_name : List ℕ → List Registration → Bool
has_name resource rs = list_any (λ (r : Registration). bytes_eq r.resource resource) rs

begun-more : (rs : List Registration) (r : Registration) → is_begun (rs ++ r ∷ []) ≡ true
begun-more [] r = refl
begun-more (s ∷ rs) r = refl

distinct-more : (rs : List Registration) (r : Registration) → are_distinct rs ≡ true → has_name r.resource rs ≡ false → are_distinct (rs ++ r ∷ []) ≡ true
distinct-more [] r distinct new = refl
distinct-more (s ∷ rs) r distinct new =
    let both = and_parts (not (has_name s.resource rs)) (are_distinct rs) distinct in
    let parts = or_parts (bytes_eq s.resource r.resource) (has_name r.resource rs) new in
    let alone : has_name s.resource (rs ++ r ∷ []) ≡ false =
    list_any-append (λ (x : Registration). bytes_eq x.resource s.resource) rs (r ∷ [])
    ∙ (λ i. not-true (has_name s.resource rs) both.0 i || (bytes-flip s.resource r.resource false parts.0 i || false)) in
    and_from (not (has_name s.resource (rs ++ r ∷ []))) (are_distinct (rs ++ r ∷ [])) (not_from_false (has_name s.resource (rs ++ r ∷ [])) alone) (distinct-more rs r both.1 parts.1)

numbered-more : (k : ℕ) (ws : List LogRecord) (r : LogRecord) → are_numbered k ws ≡ true → r.seq ≡ k + length ws → are_numbered k (ws ++ r ∷ []) ≡ true
numbered-more k [] r e is = and_from (r.seq == k) true (eq-eqb r.seq k (omega (arith, is))) refl
numbered-more k (w ∷ ws) r e is =
    let both = and_parts (w.seq == k) (are_numbered (k + 1) ws) e in
    and_from (w.seq == k) (are_numbered (k + 1) (ws ++ r ∷ [])) both.0 (numbered-more (k + 1) ws r both.1 (omega (arith, is)))

own-record : (resource other : List ℕ) (r : LogRecord) (b : Bool) → bytes_eq resource other ≡ b → of_resource other ((record { resource = resource; entry = r }) ∷ []) ≡ cond b (r ∷ []) []
own-record resource other r true is = ap (λ (b : Bool). map (λ (e : Entry). e.entry) (cond b ((record { resource = resource; entry = r }) ∷ []) [])) is
own-record resource other r false is = ap (λ (b : Bool). map (λ (e : Entry). e.entry) (cond b ((record { resource = resource; entry = r }) ∷ []) [])) is

-- one that hasn't staged a line
pub orderly-new : (attempt id room : ℕ) → IsOrderly (new_clerk attempt id room)
orderly-new attempt id room = record { opened = refl; distinct = refl; numbered = λ resource. refl }

-- whatever its room
roomy : (clerk : ClerkView) (taken : ℕ) (lines : List LogLine) → IsOrderly (with_lines 0 lines clerk) → IsOrderly (with_lines taken lines clerk)
roomy clerk taken lines so = record { opened = so.opened; distinct = so.distinct; numbered = so.numbered }

-- behind a registration, which says nothing of records
record SaysFirst (clerk : ClerkView) (lines : List LogLine) : Type 0 where
  pub so : IsOrderly (with_lines 0 lines clerk)
  pub records : (resource : List ℕ) → records_in (clerk.lines ++ lines) clerk.attempt resource ≡ records_in clerk.lines clerk.attempt resource

registered : (clerk : ClerkView) (name : List ℕ) (phases : ℕ) → IsOrderly clerk → is_registered clerk.lines clerk.attempt name ≡ false → SaysFirst clerk (registering_lines clerk name phases)
registered clerk name phases so new = by (is_opened clerk.lines clerk.attempt) refl
  where
    a : ℕ
    a = clerk.attempt

    line : LogLine
    line = Registered a name phases

    first : LogLine
    first = Opened a clerk.id

    r : Registration
    r = record { resource = name; phases = phases }

    opens : List LogLine → Bool
    opens more = list_any (λ (n : ℕ). n == a) (filter_map opened_by more)

    behind : (more : List LogLine) → is_opened (clerk.lines ++ more) a ≡ (is_opened clerk.lines a || opens more)
    behind more = ap (list_any (λ (n : ℕ). n == a)) (filter_map-append opened_by clerk.lines more) ∙ list_any-append (λ (n : ℕ). n == a) (filter_map opened_by clerk.lines) (filter_map opened_by more)

    now : (more : List LogLine) → SaysMore a clerk.lines (clerk.lines ++ more) (r ∷ []) → is_opened (clerk.lines ++ more) a ≡ true → SaysFirst clerk more
    now more says opened = record {
      so = record {
        opened = opened ∙ sym (ap is_begun says.registered ∙ begun-more (registrations clerk.lines a) r);
        distinct = ap are_distinct says.registered ∙ distinct-more (registrations clerk.lines a) r so.distinct new;
        numbered = λ resource. ap (are_numbered 1) (says.records resource) ∙ so.numbered resource;
      };
      records = says.records;
    }

    by : (b : Bool) → is_opened clerk.lines a ≡ b → SaysFirst clerk (unless (is_opened clerk.lines a) first ++ line ∷ [])
    by true opened =
        subst (λ (b : Bool). SaysFirst clerk (unless b first ++ line ∷ [])) (sym opened)
        (now (line ∷ []) (says-registered a name phases clerk.lines) (behind (line ∷ []) ∙ ap (λ (b : Bool). b || opens (line ∷ [])) opened))
    by false opened =
        let front = clerk.lines ++ first ∷ [] in
        let says = says-on a clerk.lines front (front ++ line ∷ []) (r ∷ []) (says-opened a clerk.id clerk.lines) (says-registered a name phases front) in
        let told : SaysMore a clerk.lines (clerk.lines ++ first ∷ line ∷ []) (r ∷ []) = subst (λ (l : List LogLine). SaysMore a clerk.lines l (r ∷ [])) (append_assoc clerk.lines (first ∷ []) (line ∷ [])) says in
        let here : opens (first ∷ line ∷ []) ≡ true = ap (λ (b : Bool). b || false) (eq-eqb a a refl) in
        subst (λ (b : Bool). SaysFirst clerk (unless b first ++ line ∷ [])) (sym opened)
        (now (first ∷ line ∷ []) told (behind (first ∷ line ∷ []) ∙ ap (λ (b : Bool). is_opened clerk.lines a || b) here ∙ or-true (is_opened clerk.lines a)))

-- behind the next record
written : (clerk : ClerkView) (name : List ℕ) (e : LogRecord) → IsOrderly clerk → e.seq ≡ length (records_in clerk.lines clerk.attempt name) + 1 → IsOrderly (with_lines 0 (Written clerk.attempt name e ∷ []) clerk)
written clerk name e so next = record {
  opened = written-opened a name e clerk.lines ∙ so.opened ∙ sym (ap is_begun (written-registered a name e clerk.lines));
  distinct = ap are_distinct (written-registered a name e clerk.lines) ∙ so.distinct;
  numbered = λ other. by other (bytes_eq name other) refl;
}
  where
    a : ℕ
    a = clerk.attempt

    by : (other : List ℕ) (b : Bool) → bytes_eq name other ≡ b → are_numbered 1 (records_in (clerk.lines ++ Written a name e ∷ []) a other) ≡ true
    by other false apart =
        ap (are_numbered 1) (written-records a name other e clerk.lines ∙ ap (λ (l : List LogRecord). records_in clerk.lines a other ++ l) (own-record name other e false apart) ∙ append-nil (records_in clerk.lines a other))
        ∙ so.numbered other
    by other true own =
        let here : name ≡ other = bytes-same name other own in
        let seq : e.seq ≡ 1 + length (records_in clerk.lines a other) = omega (arith, next, ap (λ (n : List ℕ). length (records_in clerk.lines a n)) here) in
        ap (are_numbered 1) (written-records a name other e clerk.lines ∙ ap (λ (l : List LogRecord). records_in clerk.lines a other ++ l) (own-record name other e true own))
        ∙ numbered-more 1 (records_in clerk.lines a other) e (so.numbered other) seq

behind-effect : (clerk : ClerkView) (r : Resource) (e : Effect) → IsOrderly clerk → IsOrderly (with_lines 0 (effect_lines clerk r e) clerk)
behind-effect clerk r (Retract resource) so = by (last_kept clerk.lines clerk.attempt r.name)
  where
    by : (last : Option LogRecord) → IsOrderly (with_lines 0 (forgot_lines clerk r.name last) clerk)
    by None = orderly-behind clerk (with_lines 0 [] clerk) [] so refl refl
    by (Some last) =
        let more : List LogLine = Forgot clerk.attempt r.name last.seq ∷ [] in
        let all : AreForgot clerk.attempt more = ap (λ (b : Bool). b && true) (eq-eqb clerk.attempt clerk.attempt refl) in
        orderly-behind clerk (with_lines 0 more clerk) more so all refl
behind-effect clerk r (Change resource key old new) so = by (is_registered clerk.lines clerk.attempt r.name) refl
  where
    a : ℕ
    a = clerk.attempt

    line : List LogLine
    line = writing_lines clerk r.name key old new

    by : (b : Bool) → is_registered clerk.lines a r.name ≡ b → IsOrderly (with_lines 0 (first_lines clerk r ++ line) clerk)
    by true there =
        subst (λ (b : Bool). IsOrderly (with_lines 0 (cond b [] (registering_lines clerk r.name r.phases) ++ line) clerk)) (sym there)
        (written clerk r.name _ so refl)
    by false there =
        let front = registering_lines clerk r.name r.phases in
        let first = registered clerk r.name r.phases so there in
        let e : LogRecord = record { seq = length (records_in clerk.lines a r.name) + 1; flags = 0; key = key; old = old; new = new } in
        let next = written (with_lines 0 front clerk) r.name e first.so (ap (λ (l : List LogRecord). length l + 1) (sym (first.records r.name))) in
        let lines : (clerk.lines ++ front) ++ line ≡ clerk.lines ++ (front ++ line) = append_assoc clerk.lines front line in
        let both : IsOrderly (with_lines 0 (front ++ line) clerk) = again (clerk.lines ++ (front ++ line)) lines next in
        subst (λ (b : Bool). IsOrderly (with_lines 0 (cond b [] front ++ line) clerk)) (sym there) both
      where
        again : (l : List LogLine) → (clerk.lines ++ registering_lines clerk r.name r.phases) ++ line ≡ l → IsOrderly (with_lines 0 line (with_lines 0 (registering_lines clerk r.name r.phases) clerk)) → IsOrderly (record clerk { lines = l; room = clerk.room - 0 })
        again l is next = subst (λ (x : List LogLine). IsOrderly (record clerk { lines = x; room = clerk.room - 0 })) is (record { opened = next.opened; distinct = next.distinct; numbered = next.numbered })

pub orderly-by : (c : Catalogue) (clerk : ClerkView) (e : Effect) → IsOrderly clerk → IsOrderly (clerk_by c clerk e)
orderly-by c clerk e so = roomy clerk (room_by c clerk e) (lines_by c clerk e) (by (resource_named (resource_of e) c.resources))
  where
    by : (o : Option Resource) → IsOrderly (with_lines 0 (option_map_or (λ (r : Resource). effect_lines clerk r e) o []) clerk)
    by None = orderly-behind clerk (with_lines 0 [] clerk) [] so refl refl
    by (Some r) = behind-effect clerk r e so

pub orderly-by-all : (c : Catalogue) (effects : List Effect) (clerk : ClerkView) → IsOrderly clerk → IsOrderly (clerk_by_all c clerk effects)
orderly-by-all c [] clerk so = so
orderly-by-all c (e ∷ effects) clerk so = orderly-by-all c effects (clerk_by c clerk e) (orderly-by c clerk e so)

-- behind a call, unless the site failed
pub orderly-carried : {S : Type 0} (g : Ghosts S) (c : Catalogue) (effects : List Effect) (result : Result (Result ℕ ℕ) Failed) (old : ClerkView) (log : EntriesView) (site : S) (new : ClerkView) (later : EntriesView) (after : S)
    → CarriesCall g c effects result old log site new later after → IsOrderly old → OnOk result (IsOrderly new)
orderly-carried g c effects (Ok (Ok number)) old log site new later after carried so = subst (λ (v : ClerkView). IsOrderly v) (sym carried.clerk) (orderly-by-all c effects old so)
orderly-carried g c effects (Ok (Err step)) old log site new later after passed so = subst (λ (v : ClerkView). IsOrderly v) (sym passed.clerk) so
orderly-carried g c effects (Err failed) old log site new later after carried so = tt
