-- How an attempt ends.
use Rattle.std.specs.Prelude.{ℕ, List, [], ◌∷◌, map, find, Bool, true, false, ◌&&◌, not, Option, Some, None}
use Rattle.std.specs.Option.{option_map_or}
use Rattle.qc_base.specs.declared.fact.Kind.{Kind}
use Rattle.qc_base.specs.declared.log_line.Why.{Why}
use Rattle.qc_base.specs.declared.log_line.Why.TheVariants.{Step as AtStep, Forced, NotReady}
use Rattle.qc_base.specs.declared.recording.Recording.{Recording}
use Rattle.qc_base.specs.declared.recording.Row.{Row}
use Rattle.qc_base.specs.LogLines.{has_phase}
use Rattle.qc_script.specs.Naming.{names_with}
use Rattle.qc_catalogue.specs.declared.catalogue.Catalogue.{Catalogue}
use Rattle.qc_catalogue.specs.declared.catalogue.Resource.{Resource}
use Rattle.qc_catalogue.specs.Lookup.{resource_named}
use Rattle.crm_driver.specs.Ready.{is_ready}
use Rattle.qc_play.specs.declared.record.PlayRecord.{PlayRecord}
use Rattle.qc_play.specs.Effects.{records_of}
use Rattle.qc_play.specs.Play.{Seen, Play, ran, failed_at, run_call}
use Rattle.qc_txn.specs.Parts.{Part, parts_of}

-- what an attempt sees before its first call: these rows with their amounts
abbrev pub view_of : (Row → Option ℕ) → List Row → List Seen
view_of amount rows = map (λ row. (row, amount row)) rows

abbrev pub new_play : List Seen → Play
new_play view = record { view = view; records = []; forced = false; effects = [] }

-- the calls one after another, or the call and its step that fail
pub data PlayedAll : Type 0 where
  all_played : Play → PlayedAll
  stopped_at : ℕ → ℕ → PlayedAll

abbrev pub play_all : List Part → Play → PlayedAll
play_all [] play = all_played play
play_all (p ∷ parts) play = elim (run_call p.script p.args play) [
  | ran next ↦ play_all parts next
  | failed_at step ↦ stopped_at p.number step
]

-- the first resource, in order of its first effect, that has the prepare phase and isn't ready
abbrev pub votes_no : Catalogue → List PlayRecord → List ℕ → Bool
votes_no c records name = option_map_or
    (λ (r : Resource). has_phase 1 r.phases && not (is_ready r (records_of name records)))
    (resource_named name c.resources) false

abbrev pub not_ready : Catalogue → List PlayRecord → Option (List ℕ)
not_ready c records = find (votes_no c records) (names_with [] (map (λ (r : PlayRecord). r.resource) records))

-- how an attempt ends
pub data Outcome : Type 0 where
  fails : Why → Outcome
  commits : Play → Outcome

-- why an attempt fails whose calls have all run: `abort` ran, or a resource isn't ready
abbrev pub why_by : Bool → Option (List ℕ) → Option Why
why_by true refuser = Some Forced
why_by false None = None
why_by false (Some name) = Some (NotReady name)

abbrev pub ended : Play → Option Why → Outcome
ended play (Some why) = fails why
ended play None = commits play

abbrev pub decision : Catalogue → Play → Outcome
decision c play = ended play (why_by play.forced (not_ready c play.records))

abbrev pub outcome : Catalogue → Recording → Kind → List Seen → Outcome
outcome c r kind view = elim (play_all (parts_of c r kind) (new_play view)) [
  | all_played play ↦ decision c play
  | stopped_at call step ↦ fails (AtStep call step)
]
