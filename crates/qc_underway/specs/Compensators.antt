-- The compensators that were made beforehand, found by the names of their resources, and what they have room for.
use Rattle.std.specs.Prelude.{◌≡◌, ℕ, ◌+◌, ◌*◌, ◌≤◌, List, [], ◌∷◌, ◌++◌, length, map, filter_map, find, sum_by, vec_len, vec_capacity, Bool, false, true, Option, Some, None, option_map, Vec, All, IfSome, if◌then◌else◌}
use Rattle.std.specs.Str.{bytes_eq}
use Rattle.std.specs.declared.alloc.Global.{Global}
use Rattle.qc_base.specs.declared.log_line.Heard.{Heard}
use Rattle.qc_base.specs.declared.log_line.LogRecord.{LogRecord}
use Rattle.qc_base.specs.declared.log_line.Notice.{Notice}
use Rattle.qc_base.specs.LogLines.{Registration, is_opened, registrations, unforgotten}
use Rattle.qc_catalogue.specs.declared.catalogue.Catalogue.{Catalogue}
use Rattle.qc_catalogue.specs.declared.catalogue.Resource.{Resource}
use Rattle.qc_catalogue.specs.Lookup.{resource_named}
use Rattle.crm_clerk.specs.Clerk.{ClerkView, records_in}
use Rattle.crm_clerk.specs.Keeps.{are_distinct, are_numbered, is_begun}
use Rattle.crm_driver.specs.Compensators.{CompensatorState, hears, new_state}
use Rattle.crm_driver.specs.RowRules.{rules_of, state_of}
use Rattle.qc_underway.specs.declared.compensators.Compensators.{Compensators}
use Rattle.qc_underway.specs.declared.compensators.Named.{Named}

-- a compensator, with its resource's name
pub record Kept : Type 0 where
  pub name : List ℕ
  pub state : CompensatorState

abbrev pub kept_of : Named → Kept
kept_of n = record { name = n.name; state = state_of n.compensator }

abbrev pub kept_in : Compensators → List Kept
kept_in told = map kept_of told.each.items

-- how many records may be answered that they are to be forgotten
abbrev pub forget_room : Compensators → ℕ
forget_room told = vec_capacity told.forget

abbrev pub is_kept_for : List ℕ → Kept → Bool
is_kept_for name k = bytes_eq k.name name

-- the first of a name
abbrev pub state_named : List ℕ → List Kept → Option CompensatorState
state_named name ks = option_map (λ (k : Kept). k.state) (find (is_kept_for name) ks)

abbrev pub named : Compensators → List ℕ → Option CompensatorState
named told name = state_named name (kept_in told)

-- a resource's new compensator, with room for so many calls
abbrev pub new_kept : ℕ → Resource → Kept
new_kept calls r = record { name = r.name; state = new_state (rules_of r) calls }

-- one for each of these names that is a resource's, with room for two phases over so many records
abbrev pub kept_for : Catalogue → List (List ℕ) → ℕ → List Kept
kept_for c names records = filter_map (λ (name : List ℕ). option_map (new_kept (2 * (records + 2))) (resource_named name c.resources)) names

-- a compensator is the one of the catalogue's resource of this name
pub record IsOf (c : Catalogue) (name : List ℕ) (s : CompensatorState) : Type 0 where
  pub resource : Resource
  pub is : resource_named name c.resources ≡ Some resource
  pub rules : s.rules ≡ rules_of resource

abbrev pub IsMadeBy : Catalogue → Compensators → Type 0
IsMadeBy c told = (name : List ℕ) → IfSome (named told name) (λ s. IsOf c name s)

-- what a clerk keeps in order: the attempt is opened where it has registered a resource, none of them twice, and the
-- records of each are numbered from 1
pub record IsOrderly (clerk : ClerkView) : Type 0 where
  pub opened : is_opened clerk.lines clerk.attempt ≡ is_begun (registrations clerk.lines clerk.attempt)
  pub distinct : are_distinct (registrations clerk.lines clerk.attempt) ≡ true
  pub numbered : (resource : List ℕ) → are_numbered 1 (records_in clerk.lines clerk.attempt resource) ≡ true

abbrev pub registered_by : ClerkView → List Registration
registered_by clerk = registrations clerk.lines clerk.attempt

-- the records of a resource that aren't forgotten
abbrev pub records_of : ClerkView → List ℕ → List LogRecord
records_of clerk name = unforgotten clerk.lines clerk.attempt name

abbrev pub count_of : ClerkView → Registration → ℕ
count_of clerk r = length (records_of clerk r.resource)

-- of all registered resources
abbrev pub all_records : ClerkView → ℕ
all_records clerk = sum_by (count_of clerk) (registered_by clerk)

-- the calls of one phase
abbrev pub calls_of : ClerkView → Registration → ℕ
calls_of clerk r = count_of clerk r + 2

abbrev pub all_calls : ClerkView → ℕ
all_calls clerk = sum_by (calls_of clerk) (registered_by clerk)

-- the compensator of a name is there, with room for so many phases over so many records
pub record Hears (phases records : ℕ) (name : List ℕ) (told : Compensators) : Type 0 where
  pub state : CompensatorState
  pub is : named told name ≡ Some state
  pub calls : phases * (records + 2) ≤ state.spare
  pub forgets : records ≤ forget_room told

-- each registered resource has its compensator, and they and the notices have room for so many phases of all of them
pub record CanHear (phases : ℕ) (clerk : ClerkView) (told : Compensators) (notices : Vec Notice Global) : Type 0 where
  pub each : All (λ (r : Registration). Hears phases (count_of clerk r) r.resource told) (registered_by clerk)
  pub room : vec_len notices + phases * all_calls clerk ≤ vec_capacity notices

-- what a call leaves

-- these went to the end of the notices, for which there was room
pub record TellsMore (more : List Notice) (old new : Vec Notice Global) : Type 0 where
  pub items : new.items ≡ old.items ++ more
  pub len : vec_len new ≡ vec_len old + length more
  pub capacity : vec_capacity new ≡ vec_capacity old

-- a compensator heard these more, with these records delivered
abbrev pub hears_more : List Heard → List LogRecord → Kept → Kept
hears_more heard records k = record k { state = hears heard records k.state }

-- the compensator of a name heard these more, and no other one anything
pub record HearsAlone (name : List ℕ) (heard : List Heard) (records : List LogRecord) (old new : Compensators) : Type 0 where
  pub own : named new name ≡ option_map (hears heard records) (named old name)
  pub others : (other : List ℕ) → bytes_eq name other ≡ false → named new other ≡ named old other
  pub forget : forget_room new ≡ forget_room old

-- where a name's first compensator stands, the first of all having this index
abbrev pub place_from : ℕ → List ℕ → List Named → Option ℕ
place_from index name [] = None
place_from index name (n ∷ ns) = if bytes_eq n.name name then Some index else place_from (index + 1) name ns
