-- Scripts as text, over small views of rows.
use Rattle.std.specs.Prelude.{ℕ, List, [], ◌∷◌, codes, Bool, false, Some, Result, Ok, Err}
use Rattle.qc_base.specs.declared.recording.Arg.{Arg}
use Rattle.qc_base.specs.declared.recording.Arg.TheVariants.{Text, Whole}
use Rattle.qc_base.specs.declared.recording.Row.{Row}
use Rattle.qc_base.specs.declared.recording.Space.TheVariants.{Inside}
use Rattle.qc_script.specs.declared.names.Names.{Names}
use Rattle.qc_script.specs.declared.names.Param.{Param}
use Rattle.qc_script.specs.declared.names.ParamKind.TheVariants.{Text as AText, Whole as AWhole}
use Rattle.qc_script.specs.Scripts.{script_of}
use Rattle.qc_play.specs.declared.record.PlayRecord.{PlayRecord}
use Rattle.qc_play.specs.Play.{Seen, Play, outside_row, Ran, run_call}

-- what scripts may name
abbrev pub names : Names
names = record {
  tables = codes "stock" ∷ codes "sold" ∷ [];
  resources = codes "till" ∷ codes "post" ∷ [];
}

abbrev pub params : List Param
params = record { name = codes "item"; kind = AText } ∷ record { name = codes "qty"; kind = AWhole } ∷ []

-- one call of a text's script, or the line at fault
abbrev pub played : List ℕ → List Arg → Play → Result Ran ℕ
played text args play = elim (script_of text params names) as (λ x. Result Ran ℕ) [
  | Ok script ↦ Ok (run_call script args play)
  | Err line ↦ Err line
]

-- arguments: so many of the item `bolt`
abbrev pub bolts : ℕ → List Arg
bolts n = Text (codes "bolt") ∷ Whole n ∷ []

abbrev pub inside_row : List ℕ → List ℕ → Row
inside_row table key = record { space = Inside; name = table; key = key }

-- the state of an attempt that did nothing outside
abbrev pub over : List Seen → Play
over view = record { view = view; records = []; forced = false; effects = [] }

-- bolts that are there, and those that are sold
abbrev pub stock : ℕ → ℕ → List Seen
stock left sold =
    (inside_row (codes "stock") (codes "bolt"), Some left) ∷ (inside_row (codes "sold") (codes "bolt"), Some sold) ∷ []

abbrev pub drawer : ℕ → List Seen
drawer n = (outside_row (codes "till") (codes "drawer"), Some n) ∷ []

abbrev pub letters : ℕ → List Seen
letters n = (outside_row (codes "post") (codes "letters"), Some n) ∷ []

abbrev pub a_record : List ℕ → List ℕ → ℕ → ℕ → ℕ → Bool → PlayRecord
a_record resource key seq old new forgotten = record {
  resource = resource;
  entry = record { seq = seq; flags = 0; key = key; old = old; new = new };
  forgotten = forgotten;
}
