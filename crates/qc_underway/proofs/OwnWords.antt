-- What a clerk says of its own lines is what is said of the attempt among all lines.
use Rattle.std.proofs.Common.{◌≡◌, ◌∙◌, ℕ, ◌+◌, List, [], ◌∷◌, ◌++◌, length, reverse, Bool, true, false, cond, ◌||◌, Option, Some, None, refl, ap, eq-eqb}
use Rattle.std.specs.List.{list_any}
use Rattle.std.specs.Str.{bytes_eq}
use Rattle.std.proofs.lemmas.List.Elements.{filter-append}
use Rattle.std.proofs.lemmas.List.Folds.{list_any-append}
use Rattle.qc_base.specs.declared.log_line.LogLine.{LogLine}
use Rattle.qc_base.specs.declared.log_line.LogLine.TheVariants.{Opened, Registered, Written, Forgot}
use Rattle.qc_base.specs.declared.log_line.LogRecord.{LogRecord}
use Rattle.qc_base.specs.LogLines.{Entry, Registration, attempt_of_line, forgets_entry, is_done, is_done_line, is_forgotten, is_opened, is_registered, of_resource}
use Rattle.qc_catalogue.specs.declared.catalogue.Resource.{Resource}
use Rattle.qc_play.specs.declared.effect.Effect.{Effect}
use Rattle.qc_play.specs.declared.effect.Effect.TheVariants.{Change, Retract}
use Rattle.crm_clerk.specs.Clerk.{ClerkView, forgetting_lines, forgot_lines, last_kept, records_in, unless, unless_forgotten, writing_lines}
use Rattle.qc_worker.specs.Effects.{change_lines, effect_lines, first_lines, puts_back, retract_puts}
use Rattle.qc_machine.specs.Carrying.{clerk_over}
use Rattle.qc_machine.specs.LogAndRows.{LogAndRows, lines_of}
use Rattle.qc_machine.specs.OwnLines.{is_own, own_lines}
use Rattle.qc_underway.specs.Standing.{IsClerkOf}
use Rattle.qc_machine.proofs.OwnLines.{none-forgets, own-any, own-entries, own-opened, own-registrations}

own-forgotten : (attempt : ℕ) (lines : List LogLine) (e : Entry) → is_forgotten (own_lines attempt lines) attempt e ≡ is_forgotten lines attempt e
own-forgotten attempt lines e = own-any (forgets_entry attempt e.resource e.entry.seq) attempt (none-forgets attempt e.resource e.entry.seq) lines

unless-own : (attempt : ℕ) (lines : List LogLine) (resource : List ℕ) (rs : List LogRecord) → unless_forgotten (own_lines attempt lines) attempt resource rs ≡ unless_forgotten lines attempt resource rs
unless-own attempt lines resource [] = refl
unless-own attempt lines resource (first ∷ others) =
    ap (λ (b : Bool). cond b None (Some first)) (own-forgotten attempt lines (record { resource = resource; entry = first }))

module _ (clerk : ClerkView) (o : LogAndRows) (own : IsClerkOf clerk o) where
  abbrev over : ClerkView
  over = clerk_over o clerk.attempt clerk.id

  registered-over : (resource : List ℕ) → is_registered clerk.lines clerk.attempt resource ≡ is_registered over.lines clerk.attempt resource
  registered-over resource =
      ap (λ (l : List LogLine). is_registered l clerk.attempt resource) own.lines
      ∙ ap (λ (rs : List Registration). list_any (λ (r : Registration). bytes_eq r.resource resource) rs) (own-registrations clerk.attempt (lines_of o))

  opened-over : is_opened clerk.lines clerk.attempt ≡ is_opened over.lines clerk.attempt
  opened-over = ap (λ (l : List LogLine). is_opened l clerk.attempt) own.lines ∙ own-opened clerk.attempt (lines_of o)

  records-over : (resource : List ℕ) → records_in clerk.lines clerk.attempt resource ≡ records_in over.lines clerk.attempt resource
  records-over resource =
      ap (λ (l : List LogLine). records_in l clerk.attempt resource) own.lines ∙ ap (of_resource resource) (own-entries clerk.attempt (lines_of o))

  last-over : (resource : List ℕ) → last_kept clerk.lines clerk.attempt resource ≡ last_kept over.lines clerk.attempt resource
  last-over resource =
      ap (λ (l : List LogLine). last_kept l clerk.attempt resource) own.lines
      ∙ unless-own clerk.attempt (lines_of o) resource (reverse (records_in (own_lines clerk.attempt (lines_of o)) clerk.attempt resource))
      ∙ ap (λ (rs : List LogRecord). unless_forgotten (lines_of o) clerk.attempt resource (reverse rs)) (ap (of_resource resource) (own-entries clerk.attempt (lines_of o)))

  -- so it writes what is written by the machine

  first-over : (r : Resource) → first_lines clerk r ≡ first_lines over r
  first-over r = λ i. cond (registered-over r.name i) [] (unless (opened-over i) (Opened clerk.attempt clerk.id) ++ Registered clerk.attempt r.name r.phases ∷ [])

  writing-over : (resource key : List ℕ) (old new : ℕ) → writing_lines clerk resource key old new ≡ writing_lines over resource key old new
  writing-over resource key old new =
      ap (λ (rs : List LogRecord). Written clerk.attempt resource (record { seq = length rs + 1; flags = 0; key = key; old = old; new = new }) ∷ []) (records-over resource)

  pub change-over : (r : Resource) (key : List ℕ) (old new : ℕ) → change_lines clerk r key old new ≡ change_lines over r key old new
  change-over r key old new = λ i. first-over r i ++ writing-over r.name key old new i

  pub forgetting-over : (resource : List ℕ) → forgetting_lines clerk resource ≡ forgetting_lines over resource
  forgetting-over resource = ap (λ (last : Option LogRecord). forgot_lines clerk resource last) (last-over resource)

  pub retract-over : (r : Resource) → retract_puts clerk r ≡ retract_puts over r
  retract-over r = ap (puts_back r) (last-over r.name)

-- Lines of an attempt alone, none of which is Done.

pub record AreOwn (attempt : ℕ) (lines : List LogLine) : Type 0 where
  pub own : own_lines attempt lines ≡ lines
  pub going : is_done lines attempt ≡ false

none-own : (attempt : ℕ) → AreOwn attempt []
none-own attempt = record { own = refl; going = refl }

one-own : (attempt : ℕ) (line : LogLine) → attempt_of_line line ≡ attempt → is_done_line attempt line ≡ false → AreOwn attempt (line ∷ [])
one-own attempt line is going = record {
  own = ap (λ (b : Bool). cond b (line ∷ []) []) (eq-eqb (attempt_of_line line) attempt is);
  going = ap (λ (b : Bool). b || false) going;
}

and-own : (attempt : ℕ) (xs ys : List LogLine) → AreOwn attempt xs → AreOwn attempt ys → AreOwn attempt (xs ++ ys)
and-own attempt xs ys a b = record {
  own = filter-append (is_own attempt) xs ys ∙ (λ i. a.own i ++ b.own i);
  going = list_any-append (is_done_line attempt) xs ys ∙ (λ i. a.going i || b.going i);
}

opening-own : (attempt id : ℕ) (there : Bool) → AreOwn attempt (unless there (Opened attempt id))
opening-own attempt id true = none-own attempt
opening-own attempt id false = one-own attempt (Opened attempt id) refl refl

first-own : (c : ClerkView) (r : Resource) (there : Bool) → AreOwn c.attempt (cond there [] (unless (is_opened c.lines c.attempt) (Opened c.attempt c.id) ++ Registered c.attempt r.name r.phases ∷ []))
first-own c r true = none-own c.attempt
first-own c r false =
    and-own c.attempt (unless (is_opened c.lines c.attempt) (Opened c.attempt c.id)) (Registered c.attempt r.name r.phases ∷ []) (opening-own c.attempt c.id (is_opened c.lines c.attempt))
    (one-own c.attempt (Registered c.attempt r.name r.phases) refl refl)

forgot-own : (c : ClerkView) (resource : List ℕ) (last : Option LogRecord) → AreOwn c.attempt (forgot_lines c resource last)
forgot-own c resource None = none-own c.attempt
forgot-own c resource (Some last) = one-own c.attempt (Forgot c.attempt resource last.seq) refl refl

pub effect-own : (c : ClerkView) (r : Resource) (e : Effect) → AreOwn c.attempt (effect_lines c r e)
effect-own c r (Change resource key old new) =
    and-own c.attempt (first_lines c r) (writing_lines c r.name key old new) (first-own c r (is_registered c.lines c.attempt r.name)) (one-own c.attempt _ refl refl)
effect-own c r (Retract resource) = forgot-own c r.name (last_kept c.lines c.attempt r.name)
