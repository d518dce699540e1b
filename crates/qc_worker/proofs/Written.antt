-- Lines that a clerk stages one after another, and what a registration says.
use Rattle.std.proofs.Common.{◌≡◌, ◌∙◌, ℕ, ◌+◌, ◌-◌, List, [], ◌∷◌, ◌++◌, length, map, filter_map, Bool, true, false, cond, ◌||◌, Some, None, refl, sym, ap, subst, arith, append_assoc, append-nil, eq-eqb, length-append}
use Rattle.std.specs.List.{list_any}
use Rattle.std.specs.Str.{bytes_eq}
use Rattle.std.proofs.Math.Bool.{or-true}
use Rattle.std.proofs.lemmas.List.Elements.{filter_map-append}
use Rattle.std.proofs.lemmas.List.Folds.{list_any-append}
use Rattle.std.proofs.lemmas.Slice.Eq.{bytes_eq-Decides}
use Rattle.qc_base.specs.declared.log_line.LogRecord.{LogRecord}
use Rattle.qc_base.specs.declared.log_line.LogLine.{LogLine}
use Rattle.qc_base.specs.declared.log_line.LogLine.TheVariants.{Opened, Registered, Written}
use Rattle.qc_base.specs.LogLines.{Entry, Registration, is_opened, is_registered, registrations, registered_by, written_by, entries, of_resource}
use Rattle.qc_entries.specs.Entries.{EntriesView}
use Rattle.qc_catalogue.specs.declared.catalogue.Resource.{Resource}
use Rattle.crm_log.specs.Log.{LinesWait}
use Rattle.crm_clerk.specs.Calls.{HasStaged}
use Rattle.crm_clerk.specs.Clerk.{ClerkView, unless, registering_lines, records_in, writing_lines, with_lines}
use Rattle.crm_clerk.specs.Staging.{TakesRoom, staged_lines}
use Rattle.crm_clerk.proofs.Rooms.{staged-append, takes-none, takes-on}
use Rattle.qc_worker.specs.Effects.{first_lines, first_room, change_lines}

-- nothing staged, and lines staged behind others

pub staged-none : (clerk : ClerkView) (log : EntriesView) → HasStaged [] 0 clerk log clerk log
staged-none clerk log =
    let room : clerk.room ≡ clerk.room - 0 = omega arith in
    record {
      clerk = λ i. record clerk { lines = sym (append-nil clerk.lines) i; room = room i };
      log = refl;
      room = takes-none log;
      waits = λ before waits. subst (λ (l : List LogLine). LinesWait log l) (sym (append-nil before)) waits;
    }

-- of the log beneath, nothing but what waits and the room is another
pub staged-log : (lines : List LogLine) (taken : ℕ) (old new : ClerkView) (log later : EntriesView) → HasStaged lines taken old log new later → later.log ≡ record log.log { payload = later.log.payload; spare = later.log.spare }
staged-log lines taken old new log later staged = ap (λ (e : EntriesView). e.log) staged.room.same

pub staged-on : (first more : List LogLine) (taken further : ℕ) (old mid new : ClerkView) (log between later : EntriesView) → HasStaged first taken old log mid between → HasStaged more further mid between new later
    → HasStaged (first ++ more) (taken + further) old log new later
staged-on first more taken further old mid new log between later a b =
    let room : old.room - taken - further ≡ old.room - (taken + further) = omega arith in
    record {
      clerk = b.clerk ∙ ap (λ (c : ClerkView). with_lines further more c) a.clerk ∙ (λ i. record old { lines = append_assoc old.lines first more i; room = room i });
      log = b.log ∙ ap (λ (e : EntriesView). staged_lines e more) a.log ∙ sym (staged-append log first more);
      room = subst (λ (n : ℕ). TakesRoom n log later) (sym (length-append first more)) (takes-on (length first) (length more) log between later a.room b.room);
      waits = λ before waits. subst (λ (l : List LogLine). LinesWait later l) (append_assoc before first more) (b.waits (before ++ first) (a.waits before waits));
    }

-- a registration writes no record

none-written : (attempt id phases : ℕ) (resource : List ℕ) (b : Bool) → filter_map (written_by attempt) (unless b (Opened attempt id) ++ Registered attempt resource phases ∷ []) ≡ []
none-written attempt id phases resource true = refl
none-written attempt id phases resource false = refl

none-first : (c : ClerkView) (r : Resource) (b : Bool) → filter_map (written_by c.attempt) (cond b [] (registering_lines c r.name r.phases)) ≡ []
none-first c r true = refl
none-first c r false = none-written c.attempt c.id r.phases r.name (is_opened c.lines c.attempt)

same-records : (c : ClerkView) (r : Resource) → records_in (c.lines ++ first_lines c r) c.attempt r.name ≡ records_in c.lines c.attempt r.name
same-records c r =
    ap (of_resource r.name)
    (filter_map-append (written_by c.attempt) c.lines (first_lines c r) ∙ ap (λ (l : List Entry). entries c.lines c.attempt ++ l) (none-first c r (is_registered c.lines c.attempt r.name)) ∙ append-nil (entries c.lines c.attempt))

-- so the record that follows it is the one that would follow without
pub same-writing : (c : ClerkView) (r : Resource) (key : List ℕ) (old new : ℕ) → writing_lines (with_lines (first_room c r) (first_lines c r) c) r.name key old new ≡ writing_lines c r.name key old new
same-writing c r key old new =
    ap (λ (rs : List LogRecord). Written c.attempt r.name (record { seq = length rs + 1; flags = 0; key = key; old = old; new = new }) ∷ []) (same-records c r)

pub change-staged : (c mid new : ClerkView) (r : Resource) (key : List ℕ) (old becomes : ℕ) (log between later : EntriesView) → HasStaged (first_lines c r) (first_room c r) c log mid between → HasStaged (writing_lines mid r.name key old becomes) 1 mid between new later
    → HasStaged (change_lines c r key old becomes) (first_room c r + 1) c log new later
change-staged c mid new r key old becomes log between later a b =
    let written : writing_lines mid r.name key old becomes ≡ writing_lines c r.name key old becomes = ap (λ (x : ClerkView). writing_lines x r.name key old becomes) a.clerk ∙ same-writing c r key old becomes in
    staged-on (first_lines c r) (writing_lines c r.name key old becomes) (first_room c r) 1 c mid new log between later a (subst (λ (l : List LogLine). HasStaged l 1 mid between new later) written b)

-- a resource is registered where its registration is among the lines

pub any-map : {A B : Type 0} (p : B → Bool) (f : A → B) (xs : List A) → list_any p (map f xs) ≡ list_any (λ x. p (f x)) xs
any-map p f [] = refl
any-map p f (x ∷ xs) = ap (λ (b : Bool). p (f x) || b) (any-map p f xs)

pub now-registered : (c : ClerkView) (resource : List ℕ) (phases : ℕ) → is_registered (c.lines ++ registering_lines c resource phases) c.attempt resource ≡ true
now-registered c resource phases =
    let own : Registration → Bool = λ r. bytes_eq r.resource resource in
    let one : Registration = record { resource = resource; phases = phases } in
    let opening = unless (is_opened c.lines c.attempt) (Opened c.attempt c.id) in
    let line : LogLine = Registered c.attempt resource phases in
    let last : filter_map (registered_by c.attempt) (line ∷ []) ≡ one ∷ [] = ap (λ (b : Bool). filter_map (λ (l : LogLine). cond b (Some one) None) (line ∷ [])) (eq-eqb c.attempt c.attempt refl) in
    let itself : bytes_eq resource resource ≡ true = (bytes_eq-Decides resource resource).1 refl in
    ap (list_any own) (filter_map-append (registered_by c.attempt) c.lines (opening ++ line ∷ []))
    ∙ list_any-append own (registrations c.lines c.attempt) (filter_map (registered_by c.attempt) (opening ++ line ∷ []))
    ∙ ap (λ (b : Bool). list_any own (registrations c.lines c.attempt) || b)
    (ap (list_any own) (filter_map-append (registered_by c.attempt) opening (line ∷ []))
    ∙ list_any-append own (filter_map (registered_by c.attempt) opening) (filter_map (registered_by c.attempt) (line ∷ []))
    ∙ ap (λ (l : List Registration). list_any own (filter_map (registered_by c.attempt) opening) || list_any own l) last
    ∙ ap (λ (b : Bool). list_any own (filter_map (registered_by c.attempt) opening) || (b || false)) itself
    ∙ or-true (list_any own (filter_map (registered_by c.attempt) opening)))
    ∙ or-true (list_any own (registrations c.lines c.attempt))
