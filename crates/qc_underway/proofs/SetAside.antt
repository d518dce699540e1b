-- What is set aside for an attempt is enough for the lines of its calls.
use Rattle.std.proofs.Common.{◌≡◌, ◌∙◌, ℕ, ◌+◌, ◌*◌, ◌≤◌, ◌==◌, List, [], ◌∷◌, ◌++◌, Bool, true, false, cond, ◌||◌, ◌&&◌, filter_map, length, length-append, refl, sym, ap, subst, arith, Option, Some, None, eq-eqb}
use Rattle.std.specs.Prelude.{◌-◌}
use Rattle.std.specs.List.{flat_map, list_any}
use Rattle.std.specs.Option.{option_map_or}
use Rattle.std.specs.Str.{bytes_eq}
use Rattle.std.proofs.Math.Bool.{or-true}
use Rattle.std.proofs.lemmas.Bool.{and_parts, false≢true}
use Rattle.std.proofs.lemmas.List.Elements.{filter_map-append}
use Rattle.std.proofs.lemmas.List.Folds.{list_all-append, list_any-append}
use Rattle.std.proofs.lemmas.List.Sums.{sum_by-cons}
use Rattle.std.proofs.lemmas.Slice.Eq.{bytes_eq-Decides}
use Rattle.qc_base.specs.declared.log_line.LogLine.{LogLine}
use Rattle.qc_base.specs.declared.log_line.LogLine.TheVariants.{Opened, Registered}
use Rattle.qc_base.specs.declared.log_line.LogRecord.{LogRecord}
use Rattle.qc_base.specs.LogLines.{Registration, is_opened, is_registered, opened_by, registered_by, registrations}
use Rattle.qc_script.specs.Naming.{effect_of, names_with, outs}
use Rattle.qc_catalogue.specs.declared.catalogue.Catalogue.{Catalogue}
use Rattle.qc_catalogue.specs.declared.catalogue.Resource.{Resource}
use Rattle.qc_catalogue.specs.Lookup.{resource_named}
use Rattle.qc_catalogue.proofs.Lookups.{found_name}
use Rattle.qc_play.specs.declared.effect.Effect.{Effect}
use Rattle.qc_play.specs.declared.effect.Effect.TheVariants.{Change, Retract}
use Rattle.qc_play.specs.Play.{Play, Ran, ran, failed_at, run_call}
use Rattle.qc_txn.specs.Parts.{Part, effects_of_parts, log_room, outs_of_parts}
use Rattle.crm_clerk.specs.Clerk.{ClerkView, forgot_lines, last_kept, new_clerk, unless, writing_lines}
use Rattle.qc_worker.specs.Effects.{effect_lines, effect_room, resource_of}
use Rattle.qc_underway.specs.Standing.{clerk_by, clerk_by_all, lines_by, lines_by_all, lines_left, room_by, room_by_all, room_left}
use Rattle.qc_underway.proofs.Spending.{are_among, are_named, call-named, call-spends, changes, is_among, kept, retracts}

-- how many of these names a clerk hasn't registered, and whether it has to open the attempt

abbrev one_new : ClerkView → List ℕ → ℕ
one_new c n = cond (is_registered c.lines c.attempt n) 0 1

abbrev pub news : List (List ℕ) → ClerkView → ℕ
news [] c = 0
news (n ∷ names) c = one_new c n + news names c

abbrev pub opening : ClerkView → ℕ
opening c = cond (is_opened c.lines c.attempt) 0 1

-- lines more

registered-more : (attempt : ℕ) (lines more : List LogLine) (n : List ℕ) → is_registered (lines ++ more) attempt n ≡ (is_registered lines attempt n || is_registered more attempt n)
registered-more attempt lines more n =
    let own : Registration → Bool = λ r. bytes_eq r.resource n in
    ap (list_any own) (filter_map-append (registered_by attempt) lines more) ∙ list_any-append own (registrations lines attempt) (registrations more attempt)

opened-more : (attempt : ℕ) (lines more : List LogLine) → is_opened (lines ++ more) attempt ≡ (is_opened lines attempt || is_opened more attempt)
opened-more attempt lines more =
    ap (list_any (λ (n : ℕ). n == attempt)) (filter_map-append opened_by lines more) ∙ list_any-append (λ (n : ℕ). n == attempt) (filter_map opened_by lines) (filter_map opened_by more)

or-less : (a b : Bool) → cond (a || b) 0 1 ≤ cond a 0 1
or-less true b = omega arith
or-less false true = omega arith
or-less false false = omega arith

module _ (c : ClerkView) (more : List LogLine) (room : ℕ) where
  abbrev after : ClerkView
  after = record c { lines = c.lines ++ more; room = room }

  one-fewer : (n : List ℕ) → one_new after n ≤ one_new c n
  one-fewer n = subst (λ (b : Bool). cond b 0 1 ≤ one_new c n) (sym (registered-more c.attempt c.lines more n)) (or-less (is_registered c.lines c.attempt n) (is_registered more c.attempt n))

  pub news-fewer : (names : List (List ℕ)) → news names after ≤ news names c
  news-fewer [] = omega arith
  news-fewer (n ∷ names) = omega (arith, one-fewer n, news-fewer names)

  pub opening-fewer : opening after ≤ opening c
  opening-fewer = subst (λ (b : Bool). cond b 0 1 ≤ opening c) (sym (opened-more c.attempt c.lines more)) (or-less (is_opened c.lines c.attempt) (is_opened more c.attempt))

  -- and a name that is registered by them is one less
  pub news-less : (resource : List ℕ) (names : List (List ℕ)) → is_among names resource ≡ true → is_registered c.lines c.attempt resource ≡ false → is_registered after.lines c.attempt resource ≡ true → news names after + 1 ≤ news names c
  news-less resource [] among was is = absurd (false≢true among)
  news-less resource (n ∷ names) among was is = by (bytes_eq resource n) refl among (λ e. news-less resource names e was is)
    where
      by : (b : Bool) → bytes_eq resource n ≡ b → (b || is_among names resource) ≡ true → (is_among names resource ≡ true → news names after + 1 ≤ news names c) → one_new after n + news names after + 1 ≤ one_new c n + news names c
      by true e f on =
          let same : resource ≡ n = (bytes_eq-Decides resource n).0 e in
          let one : one_new c n ≡ 1 = ap (λ (b : Bool). cond b 0 1) (ap (is_registered c.lines c.attempt) (sym same) ∙ was) in
          let none : one_new after n ≡ 0 = ap (λ (b : Bool). cond b 0 1) (ap (is_registered after.lines c.attempt) (sym same) ∙ is) in
          omega (arith, one, none, news-fewer names)
      by false e f on = omega (arith, one-fewer n, on f)

-- what a change writes

unless-length : (b : Bool) (line : LogLine) → length (unless b line) ≡ cond b 0 1
unless-length true line = refl
unless-length false line = refl

module _ (c : ClerkView) (r : Resource) (key : List ℕ) (old new room : ℕ) where
  abbrev U : List LogLine
  U = unless (is_opened c.lines c.attempt) (Opened c.attempt c.id)

  abbrev R : List LogLine
  R = Registered c.attempt r.name r.phases ∷ []

  abbrev W : List LogLine
  W = writing_lines c r.name key old new

  abbrev written : Bool → List LogLine
  written b = cond b [] (U ++ R) ++ W

  line-registers : is_registered R c.attempt r.name ≡ true
  line-registers =
      let own : Registration → Bool = λ s. bytes_eq s.resource r.name in
      let one : Registration = record { resource = r.name; phases = r.phases } in
      let line : LogLine = Registered c.attempt r.name r.phases in
      let last : filter_map (registered_by c.attempt) (line ∷ []) ≡ one ∷ [] = ap (λ (b : Bool). filter_map (λ (l : LogLine). cond b (Some one) None) (line ∷ [])) (eq-eqb c.attempt c.attempt refl) in
      let itself : bytes_eq r.name r.name ≡ true = (bytes_eq-Decides r.name r.name).1 refl in
      ap (list_any own) last ∙ ap (λ (b : Bool). b || false) itself

  now-registered : is_registered c.lines c.attempt r.name ≡ false → is_registered (c.lines ++ written false) c.attempt r.name ≡ true
  now-registered was =
      let first : is_registered (U ++ R) c.attempt r.name ≡ true = registered-more c.attempt U R r.name ∙ ap (λ (b : Bool). is_registered U c.attempt r.name || b) line-registers ∙ or-true (is_registered U c.attempt r.name) in
      let both : is_registered (written false) c.attempt r.name ≡ true = registered-more c.attempt (U ++ R) W r.name ∙ ap (λ (b : Bool). b || is_registered W c.attempt r.name) first in
      registered-more c.attempt c.lines (written false) r.name ∙ (λ i. was i || both i)

  now-opened : is_opened (c.lines ++ written false) c.attempt ≡ true
  now-opened = opened-more c.attempt c.lines (written false) ∙ by (is_opened c.lines c.attempt)
    where
      by : (b : Bool) → (b || is_opened ((unless b (Opened c.attempt c.id) ++ R) ++ W) c.attempt) ≡ true
      by true = refl
      by false = ap (λ (b : Bool). b || is_opened (R ++ W) c.attempt) (eq-eqb c.attempt c.attempt refl)

  module _ (names : List (List ℕ)) (among : is_among names r.name ≡ true) where
    change-lines-cost : (b : Bool) → is_registered c.lines c.attempt r.name ≡ b
        → length (written b) + (opening (after c (written b) room) + news names (after c (written b) room)) ≤ opening c + news names c + 1
    change-lines-cost true was = omega (arith, opening-fewer c (written true) room, news-fewer c (written true) room names)
    change-lines-cost false was =
        let opened : opening (after c (written false) room) ≡ 0 = ap (λ (b : Bool). cond b 0 1) now-opened in
        let some : length U ≡ opening c = unless-length (is_opened c.lines c.attempt) (Opened c.attempt c.id) in
        omega (arith, opened, some, length-append U R, length-append (U ++ R) W, news-less c (written false) room r.name names among was (now-registered was))

    change-room-cost : (b : Bool) → is_registered c.lines c.attempt r.name ≡ b → cond b 0 1 + 1 + news names (after c (written b) room) ≤ news names c + 1
    change-room-cost true was = omega (arith, news-fewer c (written true) room names)
    change-room-cost false was = omega (arith, news-less c (written false) room r.name names among was (now-registered was))

-- what one effect takes of what is set aside
record Costs (names : List (List ℕ)) (old : ClerkView) (lines taken : ℕ) (new : ClerkView) (changed retracted : ℕ) : Type 0 where
  lines_fit : lines + (opening new + news names new) ≤ opening old + news names old + changed + retracted
  room_fits : taken + news names new ≤ news names old + changed

few-forgot : (c : ClerkView) (resource : List ℕ) (last : Option LogRecord) → length (forgot_lines c resource last) ≤ 1
few-forgot c resource None = omega arith
few-forgot c resource (Some last) = omega arith

module _ (names : List (List ℕ)) (k : ClerkView) where
  cost-of : (r : Resource) (e : Effect) (room : ℕ) → is_among names r.name ≡ true → Costs names k (length (effect_lines k r e)) (effect_room k r e) (after k (effect_lines k r e) room) (changes (e ∷ [])) (retracts (e ∷ []))
  cost-of r (Change resource key old new) room among = record {
    lines_fit = omega (arith, change-lines-cost k r key old new room names among (is_registered k.lines k.attempt r.name) refl);
    room_fits = omega (arith, change-room-cost k r key old new room names among (is_registered k.lines k.attempt r.name) refl);
  }
  cost-of r (Retract resource) room among =
      let lines = forgot_lines k r.name (last_kept k.lines k.attempt r.name) in
      record {
        lines_fit = omega (arith, few-forgot k r.name (last_kept k.lines k.attempt r.name), opening-fewer k lines room, news-fewer k lines room names);
        room_fits = omega (arith, news-fewer k lines room names);
      }

  cost-by : (c : Catalogue) (e : Effect) (found : Option Resource) → resource_named (resource_of e) c.resources ≡ found → is_among names (resource_of e) ≡ true
      → Costs names k (length (option_map_or (λ (r : Resource). effect_lines k r e) found [])) (option_map_or (λ (r : Resource). effect_room k r e) found 0)
      (after k (option_map_or (λ (r : Resource). effect_lines k r e) found []) (k.room - option_map_or (λ (r : Resource). effect_room k r e) found 0)) (changes (e ∷ [])) (retracts (e ∷ []))
  cost-by c e None at among = record {
    lines_fit = omega (arith, opening-fewer k [] (k.room - 0), news-fewer k [] (k.room - 0) names);
    room_fits = omega (arith, news-fewer k [] (k.room - 0) names);
  }
  cost-by c e (Some r) at among =
      cost-of r e (k.room - effect_room k r e) (ap (is_among names) (found_name (λ (r : Resource). r.name) (resource_of e) c.resources r at) ∙ among)

  cost-one : (c : Catalogue) (e : Effect) → is_among names (resource_of e) ≡ true → Costs names k (length (lines_by c k e)) (room_by c k e) (clerk_by c k e) (changes (e ∷ [])) (retracts (e ∷ []))
  cost-one c e among = cost-by c e (resource_named (resource_of e) c.resources) refl among

changes-cons : (e : Effect) (es : List Effect) → changes (e ∷ es) ≡ changes (e ∷ []) + changes es
changes-cons (Change resource key old new) es = omega arith
changes-cons (Retract resource) es = omega arith

retracts-cons : (e : Effect) (es : List Effect) → retracts (e ∷ es) ≡ retracts (e ∷ []) + retracts es
retracts-cons (Change resource key old new) es = omega arith
retracts-cons (Retract resource) es = omega arith

cost-all : (names : List (List ℕ)) (c : Catalogue) (es : List Effect) (k : ClerkView) → are_named names es ≡ true → Costs names k (lines_by_all c k es) (room_by_all c k es) (clerk_by_all c k es) (changes es) (retracts es)
cost-all names c [] k named = record { lines_fit = omega arith; room_fits = omega arith }
cost-all names c (e ∷ es) k named =
    let both = and_parts (is_among names (resource_of e)) (are_named names es) named in
    let one = cost-one names k c e both.0 in
    let others = cost-all names c es (clerk_by c k e) both.1 in
    record {
      lines_fit = omega (arith, one.lines_fit, others.lines_fit, changes-cons e es, retracts-cons e es);
      room_fits = omega (arith, one.room_fits, others.room_fits, changes-cons e es);
    }

-- and all calls

parts-among : (names : List (List ℕ)) (p : Part) (parts : List Part) → are_among names (effects_of_parts (p ∷ parts)) ≡ true
    → (are_among names (flat_map effect_of p.script) ≡ true) × (are_among names (effects_of_parts parts) ≡ true)
parts-among names p parts all =
    and_parts (are_among names (flat_map effect_of p.script)) (are_among names (effects_of_parts parts)) (sym (list_all-append (is_among names) (flat_map effect_of p.script) (effects_of_parts parts)) ∙ all)

lines-enough : (names : List (List ℕ)) (c : Catalogue) (parts : List Part) (play : Play) (k : ClerkView) → are_among names (effects_of_parts parts) ≡ true
    → lines_left c parts play k ≤ opening k + news names k + 2 * outs_of_parts parts + kept play.records
lines-enough names c [] play k all = omega arith
lines-enough names c (p ∷ parts) play k all = by (run_call p.script p.args play) refl (λ next after. lines-enough names c parts next after (parts-among names p parts all).1)
  where
    by : (r : Ran) → run_call p.script p.args play ≡ r
        → ((next : Play) (after : ClerkView) → lines_left c parts next after ≤ opening after + news names after + 2 * outs_of_parts parts + kept next.records)
        → elim r [
          | ran next ↦ lines_by_all c k next.effects + lines_left c parts next (clerk_by_all c k next.effects)
          | failed_at step ↦ 0
        ] ≤ opening k + news names k + 2 * outs_of_parts (p ∷ parts) + kept play.records
    by (ran next) is on =
        let spends = call-spends p.script p.args play next is in
        let cost = cost-all names c next.effects k (call-named names p.script p.args play next (parts-among names p parts all).0 is) in
        omega (arith, cost.lines_fit, on next (clerk_by_all c k next.effects), spends.0, spends.1, sum_by-cons (λ (p : Part). outs p.script) p parts)
    by (failed_at step) is on = omega arith

room-enough : (names : List (List ℕ)) (c : Catalogue) (parts : List Part) (play : Play) (k : ClerkView) → are_among names (effects_of_parts parts) ≡ true
    → room_left c parts play k ≤ news names k + outs_of_parts parts
room-enough names c [] play k all = omega arith
room-enough names c (p ∷ parts) play k all = by (run_call p.script p.args play) refl (λ next after. room-enough names c parts next after (parts-among names p parts all).1)
  where
    by : (r : Ran) → run_call p.script p.args play ≡ r → ((next : Play) (after : ClerkView) → room_left c parts next after ≤ news names after + outs_of_parts parts)
        → elim r [
          | ran next ↦ room_by_all c k next.effects + room_left c parts next (clerk_by_all c k next.effects)
          | failed_at step ↦ 0
        ] ≤ news names k + outs_of_parts (p ∷ parts)
    by (ran next) is on =
        let spends = call-spends p.script p.args play next is in
        let cost = cost-all names c next.effects k (call-named names p.script p.args play next (parts-among names p parts all).0 is) in
        omega (arith, cost.room_fits, on next (clerk_by_all c k next.effects), spends.1, sum_by-cons (λ (p : Part). outs p.script) p parts)
    by (failed_at step) is on = omega arith

-- the names that are set aside for

names-kept : (more names : List (List ℕ)) (n : List ℕ) → is_among names n ≡ true → is_among (names_with names more) n ≡ true
names-kept [] names n e = e
names-kept (x ∷ more) names n e = names-kept more (cond (is_among names x) names (names ++ x ∷ [])) n (by (is_among names x))
  where
    by : (b : Bool) → is_among (cond b names (names ++ x ∷ [])) n ≡ true
    by true = e
    by false = list_any-append (bytes_eq n) names (x ∷ []) ∙ ap (λ (b : Bool). b || is_among (x ∷ []) n) e

names-cover : (more names : List (List ℕ)) → are_among (names_with names more) more ≡ true
names-cover [] names = refl
names-cover (x ∷ more) names =
    let next = cond (is_among names x) names (names ++ x ∷ []) in
    let one : is_among (names_with next more) x ≡ true = names-kept more next x (by (is_among names x) refl) in
    λ i. one i && names-cover more next i
  where
    by : (b : Bool) → is_among names x ≡ b → is_among (cond b names (names ++ x ∷ [])) x ≡ true
    by true e = e
    by false e =
        let itself : bytes_eq x x ≡ true = (bytes_eq-Decides x x).1 refl in
        list_any-append (bytes_eq x) names (x ∷ []) ∙ ap (λ (b : Bool). is_among names x || (b || false)) itself ∙ or-true (is_among names x)

all-news : (names : List (List ℕ)) (attempt id room : ℕ) → news names (new_clerk attempt id room) ≡ length names
all-news [] attempt id room = refl
all-news (n ∷ names) attempt id room = omega (arith, all-news names attempt id room)

module _ (c : Catalogue) (parts : List Part) (play : Play) (attempt id room : ℕ) (begun : play.records ≡ []) where
  abbrev names : List (List ℕ)
  names = names_with [] (effects_of_parts parts)

  pub set-aside-lines : 132 * (lines_left c parts play (new_clerk attempt id room) + outs_of_parts parts + 1) ≤ log_room parts
  set-aside-lines = omega (arith, lines-enough names c parts play (new_clerk attempt id room) (names-cover (effects_of_parts parts) []), all-news names attempt id room, ap kept begun)

  pub set-aside-room : room_left c parts play (new_clerk attempt id room) ≤ length names + outs_of_parts parts
  set-aside-room = omega (arith, room-enough names c parts play (new_clerk attempt id room) (names-cover (effects_of_parts parts) []), all-news names attempt id room)
