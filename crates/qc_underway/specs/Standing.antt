-- An attempt under way: how log, clerk and site stand for it, and what room its calls need.
use Rattle.std.specs.Prelude.{◌≡◌, ℕ, ◌+◌, ◌*◌, ◌≤◌, List, [], ◌∷◌, length, drop, Bool, false}
use Rattle.std.specs.List.{list_all}
use Rattle.std.specs.Option.{option_map_or}
use Rattle.qc_base.specs.declared.log_line.LogLine.{LogLine}
use Rattle.qc_base.specs.LogLines.{is_done}
use Rattle.qc_site.specs.Image.{Image}
use Rattle.qc_entries.specs.Entries.{EntriesView}
use Rattle.qc_catalogue.specs.declared.catalogue.Catalogue.{Catalogue}
use Rattle.qc_catalogue.specs.declared.catalogue.Resource.{Resource}
use Rattle.qc_catalogue.specs.Lookup.{resource_named}
use Rattle.qc_play.specs.declared.effect.Effect.{Effect}
use Rattle.qc_play.specs.Play.{Play, ran, failed_at, run_call}
use Rattle.qc_txn.specs.Attempt.{AttemptView}
use Rattle.qc_txn.specs.Parts.{Part, parts_of}
use Rattle.crm_log.specs.Log.{IsLogOf, LinesWait}
use Rattle.crm_log.specs.Parts.{are_phases}
use Rattle.crm_clerk.specs.Clerk.{ClerkView, with_lines}
use Rattle.crm_clerk.specs.Staging.{HasRoomFor}
use Rattle.qc_worker.specs.Effects.{effect_lines, effect_room, resource_of}
use Rattle.qc_machine.specs.LogAndRows.{LogAndRows, lines_of}
use Rattle.qc_machine.specs.State.{HeldAttempt}
use Rattle.qc_machine.specs.OwnLines.{own_lines}

-- what the site shows, and the log that is kept, are those of the machine
pub record IsAt (shown : Image) (log : EntriesView) (o : LogAndRows) : Type 0 where
  pub spelled : IsLogOf shown o.groups
  pub waits : LinesWait log o.staged
  pub rows : shown.rows ≡ o.rows
  pub gate : log.log.place ≡ o.log.gate
  pub size : log.log.length ≡ o.log.size

-- the clerk has the attempt's own lines, in order, and the attempt isn't done
pub record IsClerkOf (clerk : ClerkView) (o : LogAndRows) : Type 0 where
  pub lines : clerk.lines ≡ own_lines clerk.attempt (lines_of o)
  pub going : is_done clerk.lines clerk.attempt ≡ false

pub record IsUnderway (shown : Image) (log : EntriesView) (clerk : ClerkView) (o : LogAndRows) : Type 0 where
  pub site : IsAt shown log o
  pub own : IsClerkOf clerk o

-- the machine's attempt is this one, with this clerk
pub record IsHeld (a : AttemptView) (clerk : ClerkView) (held : HeldAttempt) : Type 0 where
  pub attempt : held.attempt ≡ clerk.attempt
  pub id : held.id ≡ clerk.id
  pub play : held.play ≡ a.play
  pub calls : held.calls ≡ a.calls

-- each resource is registered for phases that a line can tell, 1 to 7
abbrev pub has_phases : Catalogue → Bool
has_phases c = list_all (λ (r : Resource). are_phases r.phases) c.resources

-- The lines that effects write, and what they take of the clerk's room. An effect without a resource of the catalogue
-- is passed over.

abbrev pub lines_by : Catalogue → ClerkView → Effect → List LogLine
lines_by c clerk e = option_map_or (λ (r : Resource). effect_lines clerk r e) (resource_named (resource_of e) c.resources) []

abbrev pub room_by : Catalogue → ClerkView → Effect → ℕ
room_by c clerk e = option_map_or (λ (r : Resource). effect_room clerk r e) (resource_named (resource_of e) c.resources) 0

abbrev pub clerk_by : Catalogue → ClerkView → Effect → ClerkView
clerk_by c clerk e = with_lines (room_by c clerk e) (lines_by c clerk e) clerk

abbrev pub lines_by_all : Catalogue → ClerkView → List Effect → ℕ
lines_by_all c clerk [] = 0
lines_by_all c clerk (e ∷ es) = length (lines_by c clerk e) + lines_by_all c (clerk_by c clerk e) es

abbrev pub room_by_all : Catalogue → ClerkView → List Effect → ℕ
room_by_all c clerk [] = 0
room_by_all c clerk (e ∷ es) = room_by c clerk e + room_by_all c (clerk_by c clerk e) es

abbrev pub clerk_by_all : Catalogue → ClerkView → List Effect → ClerkView
clerk_by_all c clerk [] = clerk
clerk_by_all c clerk (e ∷ es) = clerk_by_all c (clerk_by c clerk e) es

-- The same of the calls that are left, as they will run from this play state on, up to the first that fails. So what is
-- left before a call is what the call takes, and what is left behind it.

abbrev pub lines_left : Catalogue → List Part → Play → ClerkView → ℕ
lines_left c [] play clerk = 0
lines_left c (p ∷ parts) play clerk = elim (run_call p.script p.args play) [
  | ran next ↦ lines_by_all c clerk next.effects + lines_left c parts next (clerk_by_all c clerk next.effects)
  | failed_at step ↦ 0
]

abbrev pub room_left : Catalogue → List Part → Play → ClerkView → ℕ
room_left c [] play clerk = 0
room_left c (p ∷ parts) play clerk = elim (run_call p.script p.args play) [
  | ran next ↦ room_by_all c clerk next.effects + room_left c parts next (clerk_by_all c clerk next.effects)
  | failed_at step ↦ 0
]

-- there is room for so many registrations and records in the clerk, and for so many lines in the log
pub record HasRoom (taken lines : ℕ) (clerk : ClerkView) (log : EntriesView) : Type 0 where
  pub clerks : taken ≤ clerk.room
  pub logs : HasRoomFor lines log

abbrev pub HasRoomForAll : Catalogue → List Effect → ClerkView → EntriesView → Type 0
HasRoomForAll c effects clerk log = HasRoom (room_by_all c clerk effects) (lines_by_all c clerk effects) clerk log

abbrev pub calls_left : Catalogue → AttemptView → List Part
calls_left c a = drop a.calls (parts_of c a.recording a.kind)

-- there is room for all that the attempt's calls will write
abbrev pub HasRoomLeft : Catalogue → AttemptView → ClerkView → EntriesView → Type 0
HasRoomLeft c a clerk log = HasRoom (room_left c (calls_left c a) a.play clerk) (lines_left c (calls_left c a) a.play clerk) clerk log

-- so many lines more took no more room of the log than that; a force gives it back
pub record LeavesRoom (lines : ℕ) (old new : EntriesView) : Type 0 where
  pub ended : new.log.ended ≡ old.log.ended
  pub room : old.log.spare ≤ new.log.spare + 132 * lines
  pub fits : length new.log.payload ≤ length old.log.payload + 132 * lines
