-- What a walk through a catalogue's tables finds, and which of it is the refusal.
use Rattle.std.specs.Prelude.{◌≡◌, ℕ, nat_le, List, [], ◌∷◌, ◌++◌, Bool, true, ◌&&◌, ◌+◌, Option, Some, None, if◌then◌else◌, codes, Result, Ok, Err}
use Rattle.std.specs.BTreeSet.{insert_key}
use Rattle.std.specs.Cmp.Lexicographic.{slice_cmp}
use Rattle.std.specs.List.{list_any}
use Rattle.std.specs.Ordering.{nat_cmp}
use Rattle.std.specs.Str.{bytes_eq}
use Rattle.toml.specs.Data.{Data, Members, no_members, member, as_table}
use Rattle.qc_base.specs.Names.{is_name}
use Rattle.qc_catalogue.specs.declared.error.CatalogueError.{CatalogueError}
use Rattle.qc_catalogue.specs.declared.error.CatalogueError.TheVariants.{BadField, NoMemory}
use Rattle.qc_catalogue.specs.declared.field.Field.{Field}
use Rattle.qc_catalogue.specs.Fields.{field_text}

-- A path is keys joined by dots. A key that is no name is shown as `?`.

abbrev pub shown_key : List ℕ → List ℕ
shown_key key = if is_name key then key else codes "?"

abbrev pub under : List ℕ → List ℕ → List ℕ
under [] key = shown_key key
under (b ∷ path) key = (b ∷ path) ++ 46 ∷ shown_key key

abbrev pub field_path : List ℕ → Field → List ℕ
field_path path f = under path (field_text f)

-- a rule that is broken, or the path of a UUID, which has to differ from those met before it
pub data Finding : Type 0 where
  broken : CatalogueError → Finding
  named : List ℕ → List ℕ → Finding

-- the UUIDs met so far, each once and in their order, and one more
abbrev pub with_id : List ℕ → List (List ℕ) → List (List ℕ)
with_id id met = insert_key (slice_cmp nat_cmp) met id

-- the UUIDs met after these findings, or the first refusal among them
abbrev pub walked : List (List ℕ) → List Finding → Result (List (List ℕ)) CatalogueError
walked met [] = Ok met
walked met (broken refusal ∷ rest) = Err refusal
walked met (named path id ∷ rest) = if list_any (bytes_eq id) met then Err (BadField path) else walked (with_id id met) rest

-- a rule, of any kind and of a field

abbrev pub rule : Bool → CatalogueError → List Finding
rule holds refusal = if holds then [] else broken refusal ∷ []

abbrev pub field_rule : List ℕ → Bool → List Finding
field_rule path holds = rule holds (BadField path)

-- rules one after the other
abbrev pub in_order : List (List Finding) → List Finding
in_order [] = []
in_order (rules ∷ more) = rules ++ in_order more

-- the entries of a table, in byte order of their keys: what is found in each, and what each is

abbrev pub found_in_each : (List ℕ → Data → List Finding) → Members → List Finding
found_in_each entry no_members = []
found_in_each entry (member key d rest) = entry key d ++ found_in_each entry rest

abbrev pub each : {A : Type 0} → (List ℕ → Data → A) → Members → List A
each of no_members = []
each of (member key d rest) = of key d ∷ each of rest

abbrev pub count : Members → ℕ
count no_members = 0
count (member key d rest) = 1 + count rest

abbrev pub all_keys : (List ℕ → Bool) → Members → Bool
all_keys test no_members = true
all_keys test (member key d rest) = test key && all_keys test rest

-- what is found in the table at a path, which has to be one
abbrev pub in_table : (List ℕ → Members → List Finding) → List ℕ → Option Members → List Finding
in_table inside path None = broken (BadField path) ∷ []
in_table inside path (Some ms) = inside path ms

-- the same of a field that may be missing
abbrev pub in_optional : (List ℕ → Members → List Finding) → List ℕ → Option Data → List Finding
in_optional inside path None = []
in_optional inside path (Some d) = in_table inside path (as_table d)

-- an entry of a table of names, which has to be a table
abbrev pub entry : (List ℕ → List ℕ → Members → List Finding) → List ℕ → List ℕ → Data → List Finding
entry inside path key d = in_table (inside key) (under path key) (as_table d)

-- a table of names: so many keys, each of which is such a name

abbrev pub has_count : ℕ → ℕ → Members → Bool
has_count least most ms = nat_le least (count ms) && nat_le (count ms) most

abbrev pub are_names : (List ℕ → Bool) → ℕ → ℕ → Members → Bool
are_names is_key least most ms = has_count least most ms && all_keys is_key ms

abbrev pub in_names : (List ℕ → Bool) → ℕ → ℕ → (List ℕ → List ℕ → Members → List Finding) → List ℕ → Members → List Finding
in_names is_key least most inside path ms = if are_names is_key least most ms then found_in_each (entry inside path) ms else broken (BadField path) ∷ []

-- no field but these
abbrev pub is_among : List Field → List ℕ → Bool
is_among fields key = list_any (λ f. bytes_eq (field_text f) key) fields

abbrev pub unknown : List Field → List ℕ → Members → List Finding
unknown fields path ms = found_in_each (λ key d. field_rule (under path key) (is_among fields key)) ms

-- what a reader of a part of the text answers: no refusal but the first that is found there. Want of memory is free.

abbrev pub first_found : List Finding → Option Finding
first_found [] = None
first_found (f ∷ rest) = Some f

abbrev pub IsRefusalOf : List Finding → CatalogueError → Type 0
IsRefusalOf found e = ¬ (e ≡ NoMemory) → first_found found ≡ Some (broken e)

abbrev pub IsRefusalAfter : List (List ℕ) → List Finding → CatalogueError → Type 0
IsRefusalAfter met found e = ¬ (e ≡ NoMemory) → walked met found ≡ Err e
