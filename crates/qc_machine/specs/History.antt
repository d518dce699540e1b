-- A history, what it settles, and which facts may follow.
use Rattle.std.specs.Prelude.{ℕ, ◌+◌, nat_le, List, [], ◌∷◌, ◌++◌, length, map, filter_map, Bool, true, false, not, ◌&&◌, ◌==◌, Option, Some, None, option_and_then, is_some, unwrap_or, Result, Ok, Err, if◌then◌else◌}
use Rattle.std.specs.List.{list_all, list_any}
use Rattle.std.specs.Option.{option_map_or}
use Rattle.std.specs.Str.{bytes_eq}
use Rattle.qc_base.specs.declared.fact.Fact.{Fact}
use Rattle.qc_base.specs.declared.fact.Fact.TheVariants.{Catalogue as InForce, Sent, Played, Failed, Moved, Switched}
use Rattle.qc_base.specs.declared.fact.Kind.{Kind}
use Rattle.qc_base.specs.declared.fact.Kind.TheVariants.{Normal, Final}
use Rattle.qc_base.specs.declared.message.Message.{Message}
use Rattle.qc_base.specs.declared.recording.Recording.{Recording}
use Rattle.qc_base.specs.declared.recording.Row.{Row}
use Rattle.qc_base.specs.declared.recording.Space.TheVariants.{Inside, Outside}
use Rattle.qc_base.specs.Messages.{after_sent, after_failed, after_consumed, after_moved, is_consumed, message_of}
use Rattle.qc_base.specs.Spelling.{is_fact}
use Rattle.qc_catalogue.specs.declared.catalogue.App.{App}
use Rattle.qc_catalogue.specs.declared.catalogue.Catalogue.{Catalogue}
use Rattle.qc_catalogue.specs.declared.catalogue.Component.{Component}
use Rattle.qc_catalogue.specs.declared.error.CatalogueError.{CatalogueError}
use Rattle.qc_catalogue.specs.Catalogue.{catalogue_of}
use Rattle.qc_catalogue.specs.Lookup.{app_named, component_named}
use Rattle.qc_recorder.specs.Fits.{recording_fits}
use Rattle.qc_play.specs.Play.{Seen}
use Rattle.qc_txn.specs.Outcome.{Outcome, fails, commits, outcome, view_of}
use Rattle.qc_txn.specs.Attempt.{effects_in}
use Rattle.qc_txn.specs.Parts.{is_playable, parts_of, rows_of_attempt}
use Rattle.qc_listener.specs.Choice.{is_due, kind_at}
use Rattle.qc_rows.specs.Outside.{opened_resources, outside_amount, outside_by}
use Rattle.qc_rows.specs.Tables.{TableRows, amount_in, opened_tables}
use Rattle.qc_rows.specs.Settling.{settled_by}

-- how a catalogue's text is read
abbrev pub Reader : Type 0
Reader = List ℕ → Option Catalogue

abbrev pub if_ok : Result Catalogue CatalogueError → Option Catalogue
if_ok (Ok c) = Some c
if_ok (Err e) = None

-- as the service reads it: the text's catalogue, where it breaks no rule
unfoldable pub by_text : Reader
by_text text = if_ok (catalogue_of text)

-- a catalogue without anything
abbrev pub no_catalogue : Catalogue
no_catalogue = record { tables = []; resources = []; apps = [] }

-- whether the component of a recording names an exception class
abbrev pub names_exception : Catalogue → Recording → Bool
names_exception c r = is_some (option_and_then (λ (a : App). option_and_then (λ (k : Component). k.exception) (component_named r.component a.components)) (app_named r.app c.apps))

-- facts, and what they settle
pub record History : Type 0 where
  pub facts : List Fact
  -- the one in force
  pub catalogue : Catalogue
  -- in order of ids
  pub messages : List Message
  -- the tables with their rows, none of which has 0
  pub tables : List TableRows
  -- the resources with the rows that the catalogue names, and the amounts that are settled for them
  pub outside : List TableRows
  -- the moment of the last fact that has one, or 0
  pub last : ℕ

abbrev pub no_facts : History
no_facts = record { facts = []; catalogue = no_catalogue; messages = []; tables = []; outside = []; last = 0 }

-- a catalogue comes into force, and opens the tables and the resources
abbrev pub under_catalogue : Catalogue → History → History
under_catalogue c h = record h {
  catalogue = c;
  messages = map (λ (m : Message). record m { final_class = names_exception c m.recording }) h.messages;
  tables = opened_tables c;
  outside = opened_resources c;
}

abbrev pub under_text : Reader → Fact → History → History
under_text read (InForce text) h = under_catalogue (unwrap_or (read text) no_catalogue) h
under_text read _ h = h

-- the settled amount of a row: an outside one that isn't there has none
abbrev pub settled_amount : List TableRows → List TableRows → Row → Option ℕ
settled_amount tables outside row =
    elim row.space [ Inside ↦ Some (amount_in row.name row.key tables) | Outside ↦ outside_amount outside row.name row.key ]

-- what an attempt of this kind on a recording sees before its first call
abbrev pub view_at : History → Recording → Kind → List Seen
view_at h r kind = view_of (settled_amount h.tables h.outside) (rows_of_attempt h.catalogue r kind)

-- how such an attempt on a message ends
abbrev pub outcome_on : History → Kind → Message → Outcome
outcome_on h kind m = outcome h.catalogue m.recording kind (view_at h m.recording kind)

-- what a view makes of rows, where the attempt that saw it commits
abbrev pub rows_after : (List Seen → List TableRows → List TableRows) → Outcome → List TableRows → List TableRows
rows_after settle (commits play) rows = settle play.view rows
rows_after settle (fails why) rows = rows

abbrev pub committed_rows : (List Seen → List TableRows → List TableRows) → History → Kind → ℕ → List TableRows → List TableRows
committed_rows settle h kind id rows =
    option_map_or (λ (m : Message). rows_after settle (outcome_on h kind m) rows) (message_of id h.messages) rows

-- the tables and the resources after a committed attempt of this kind on the message of an id

abbrev pub committed_tables : History → Kind → ℕ → List TableRows
committed_tables h kind id = committed_rows settled_by h kind id h.tables

abbrev pub committed_outside : History → Kind → ℕ → List TableRows
committed_outside h kind id = committed_rows outside_by h kind id h.outside

-- what a fact changes beside the list of facts, but for a catalogue
abbrev pub settle_fact : Fact → History → History
settle_fact (InForce text) h = h
settle_fact (Sent id at r) h = record h { messages = after_sent id r (names_exception h.catalogue r) at h.messages; last = at }
settle_fact (Played id attempt kind at) h = record h {
  messages = after_consumed id attempt h.messages;
  tables = committed_tables h kind id;
  outside = committed_outside h kind id;
  last = at;
}
settle_fact (Failed id attempt at) h = record h { messages = after_failed id at h.messages; last = at }
settle_fact (Moved app queue at ids) h = record h { messages = after_moved ids queue at h.messages; last = at }
settle_fact (Switched app on at) h = record h { last = at }

abbrev pub with_fact : Fact → History → History
with_fact fact h = record (settle_fact fact h) { facts = h.facts ++ fact ∷ [] }

abbrev pub after_fact : Reader → History → Fact → History
after_fact read h fact = with_fact fact (under_text read fact h)

abbrev pub after_facts : Reader → History → List Fact → History
after_facts read h [] = h
after_facts read h (fact ∷ facts) = after_facts read (after_fact read h fact) facts

abbrev pub history_of : Reader → List Fact → History
history_of read facts = after_facts read no_facts facts

-- what facts say of attempts and switches

abbrev pub attempt_of : Fact → Option ℕ
attempt_of (Played id attempt kind at) = Some attempt
attempt_of (Failed id attempt at) = Some attempt
attempt_of _ = None

abbrev pub is_new_attempt : ℕ → History → Bool
is_new_attempt attempt h = not (list_any (λ n. n == attempt) (filter_map attempt_of h.facts))

abbrev pub switch_of : List ℕ → Fact → Option Bool
switch_of name (Switched app on at) = if bytes_eq app name then Some on else None
switch_of name _ = None

-- whether an application is on: as its last switch says, and at first
abbrev pub on_after : List ℕ → Bool → List Fact → Bool
on_after name on [] = on
on_after name on (fact ∷ facts) = on_after name (unwrap_or (switch_of name fact) on) facts

abbrev pub is_on : List ℕ → History → Bool
is_on name h = on_after name true h.facts

-- which facts may follow

abbrev pub kind_eq : Kind → Kind → Bool
kind_eq Normal Normal = true
kind_eq Final Final = true
kind_eq Normal Final = false
kind_eq Final Normal = false

-- whether an attempt of this kind on a recording can be played, and changes nothing outside
abbrev pub plays_inside : Catalogue → Recording → Kind → Bool
plays_inside c r kind = is_playable c r kind && (effects_in (parts_of c r kind) == 0)

abbrev pub is_commit : Outcome → Bool
is_commit (commits play) = true
is_commit (fails why) = false

abbrev pub bool_eq : Bool → Bool → Bool
bool_eq a b = if a then b else not b

-- whether an attempt on a message with this number may end so at this moment
abbrev pub may_end_on : History → ℕ → ℕ → Kind → Bool → Message → Bool
may_end_on h attempt at kind committed m =
    is_due at m.place
    && (is_new_attempt attempt h
    && (kind_eq kind (kind_at m.place)
    && (is_playable h.catalogue m.recording kind && bool_eq committed (is_commit (outcome_on h kind m)))))

abbrev pub may_end : History → ℕ → ℕ → ℕ → Kind → Bool → Bool
may_end h id attempt at kind committed = option_map_or (may_end_on h attempt at kind committed) (message_of id h.messages) false

-- the kind of an attempt on the message of an id
abbrev pub kind_of : ℕ → History → Kind
kind_of id h = option_map_or (λ (m : Message). kind_at m.place) (message_of id h.messages) Normal

-- messages of an application that aren't consumed, by their ids, none of them twice

abbrev pub is_live_of : List ℕ → Message → Bool
is_live_of app m = bytes_eq m.recording.app app && not (is_consumed m.place)

abbrev pub is_movable : List ℕ → List Message → ℕ → Bool
is_movable app messages id = option_map_or (is_live_of app) (message_of id messages) false

abbrev pub are_distinct : List ℕ → Bool
are_distinct [] = true
are_distinct (id ∷ ids) = not (list_any (λ n. n == id) ids) && are_distinct ids

abbrev pub are_movable : History → List ℕ → List ℕ → Bool
are_movable h app ids = are_distinct ids && list_all (is_movable app h.messages) ids

-- behind a first fact, at a moment that doesn't fall
abbrev pub is_later : ℕ → History → Bool
is_later at h = nat_le 1 (length h.facts) && nat_le h.last at

-- A history begins with a catalogue. A message is sent with the next id, from 1, and fits the catalogue in force. An
-- attempt on a message that is due ends as its outcome is. What is moved are messages of the application that aren't
-- consumed, and a switch is of an application that is there.
abbrev pub goes_on : Reader → History → Fact → Bool
goes_on read h (InForce text) = (length h.facts == 0) && is_some (read text)
goes_on read h (Sent id at r) = is_later at h && (id == length h.messages + 1 && recording_fits h.catalogue r)
goes_on read h (Played id attempt kind at) = is_later at h && may_end h id attempt at kind true
goes_on read h (Failed id attempt at) = is_later at h && may_end h id attempt at (kind_of id h) false
goes_on read h (Moved app queue at ids) = is_later at h && are_movable h app ids
goes_on read h (Switched app on at) = is_later at h && is_some (app_named app h.catalogue.apps)

-- a fact within its limits that goes on with the history
abbrev pub may_follow : Reader → History → Fact → Bool
may_follow read h fact = is_fact fact && goes_on read h fact

abbrev pub all_follow : Reader → History → List Fact → Bool
all_follow read h [] = true
all_follow read h (fact ∷ facts) = may_follow read h fact && all_follow read (after_fact read h fact) facts

-- there is a first fact, and each may follow those before it
abbrev pub is_legal : Reader → List Fact → Bool
is_legal read facts = nat_le 1 (length facts) && all_follow read no_facts facts
