-- What the steps of a script name: rows, and resources.
use Rattle.std.specs.Prelude.{ℕ, List, [], ◌∷◌, ◌++◌, length, slice_get, flat_map, sum_by, Option, Some, None, option_map, if◌then◌else◌}
use Rattle.std.specs.Option.{option_to_list}
use Rattle.std.specs.Str.{bytes_eq}
use Rattle.std.specs.List.{list_any}
use Rattle.qc_base.specs.declared.recording.Arg.{Arg}
use Rattle.qc_base.specs.declared.recording.Arg.TheVariants.{Text, Whole}
use Rattle.qc_base.specs.declared.recording.Row.{Row}
use Rattle.qc_base.specs.declared.recording.Space.{Space}
use Rattle.qc_base.specs.declared.recording.Space.TheVariants.{Inside, Outside}
use Rattle.qc_base.specs.Rows.{row_eq}
use Rattle.qc_script.specs.declared.step.Key.{Key}
use Rattle.qc_script.specs.declared.step.Key.TheVariants.{Param as KeyParam, Constant}
use Rattle.qc_script.specs.declared.step.Cell.{Cell}
use Rattle.qc_script.specs.declared.step.Term.{Term}
use Rattle.qc_script.specs.declared.step.Term.TheVariants.{Number, Param, Row as AmountAt}
use Rattle.qc_script.specs.declared.step.SignedTerm.{SignedTerm}
use Rattle.qc_script.specs.declared.step.Comparison.{Comparison}
use Rattle.qc_script.specs.declared.step.Step.{Step}
use Rattle.qc_script.specs.declared.step.Step.TheVariants.{Need, When, Add, Sub, Set, Move, Grow, Shrink, Retract, Fail, Abort}

-- the resource of a step that changes an outside row
abbrev pub out_of : Step → List (List ℕ)
out_of (Need c) = []
out_of (When c) = []
out_of (Add cell e) = []
out_of (Sub cell e) = []
out_of (Set cell e) = []
out_of (Move from to e) = []
out_of (Grow cell e) = cell.name ∷ []
out_of (Shrink cell e) = cell.name ∷ []
out_of (Retract resource) = []
out_of Fail = []
out_of Abort = []

-- the resource of a step with an effect: a change, or a retraction
abbrev pub effect_of : Step → List (List ℕ)
effect_of (Need c) = []
effect_of (When c) = []
effect_of (Add cell e) = []
effect_of (Sub cell e) = []
effect_of (Set cell e) = []
effect_of (Move from to e) = []
effect_of (Grow cell e) = cell.name ∷ []
effect_of (Shrink cell e) = cell.name ∷ []
effect_of (Retract resource) = resource ∷ []
effect_of Fail = []
effect_of Abort = []

-- how many steps change something outside, and how many have an effect
abbrev pub outs : List Step → ℕ
outs steps = sum_by (λ s. length (out_of s)) steps

abbrev pub effects : List Step → ℕ
effects steps = sum_by (λ s. length (effect_of s)) steps

-- the names, with those behind them that aren't among them yet
abbrev pub names_with : List (List ℕ) → List (List ℕ) → List (List ℕ)
names_with names [] = names
names_with names (n ∷ more) = names_with (if list_any (bytes_eq n) names then names else names ++ n ∷ []) more

-- the different resources that steps name, in the order first named
abbrev pub resources_of : List Step → List (List ℕ)
resources_of steps = names_with [] (flat_map effect_of steps)

-- the text of a key, where its parameter is given one
abbrev pub text_of : Option Arg → Option (List ℕ)
text_of (Some (Text t)) = Some t
text_of (Some (Whole n)) = None
text_of None = None

abbrev pub key_text : List Arg → Key → Option (List ℕ)
key_text args (KeyParam i) = text_of (slice_get args i)
key_text args (Constant t) = Some t

-- the row that a name and a key mean with these arguments
abbrev pub row_at : Space → List Arg → List ℕ → Key → Option Row
row_at space args name key = option_map (λ k. record { space = space; name = name; key = k }) (key_text args key)

abbrev pub row_of : Space → List Arg → Cell → Option Row
row_of space args cell = row_at space args cell.name cell.key

-- the rows that a step names, in the order in which they stand
abbrev pub rows_of_term : List Arg → Term → List Row
rows_of_term args (Number n) = []
rows_of_term args (Param i) = []
rows_of_term args (AmountAt table key) = option_to_list (row_at Inside args table key)

abbrev pub rows_of_terms : List Arg → List SignedTerm → List Row
rows_of_terms args terms = flat_map (λ (t : SignedTerm). rows_of_term args t.term) terms

abbrev pub rows_of_step : List Arg → Step → List Row
rows_of_step args (Need c) = rows_of_terms args c.left ++ rows_of_terms args c.right
rows_of_step args (When c) = rows_of_terms args c.left ++ rows_of_terms args c.right
rows_of_step args (Add cell e) = option_to_list (row_of Inside args cell) ++ rows_of_terms args e
rows_of_step args (Sub cell e) = option_to_list (row_of Inside args cell) ++ rows_of_terms args e
rows_of_step args (Set cell e) = option_to_list (row_of Inside args cell) ++ rows_of_terms args e
rows_of_step args (Move from to e) =
    option_to_list (row_of Inside args from) ++ (option_to_list (row_of Inside args to) ++ rows_of_terms args e)
rows_of_step args (Grow cell e) = option_to_list (row_of Outside args cell) ++ rows_of_terms args e
rows_of_step args (Shrink cell e) = option_to_list (row_of Outside args cell) ++ rows_of_terms args e
rows_of_step args (Retract resource) = []
rows_of_step args Fail = []
rows_of_step args Abort = []

-- the rows, with those of more behind them that aren't there yet
abbrev pub rows_with : List Row → List Row → List Row
rows_with rows [] = rows
rows_with rows (r ∷ more) = rows_with (if list_any (row_eq r) rows then rows else rows ++ r ∷ []) more

-- the rows, with those behind them that the steps name with these arguments
abbrev pub rows_of : List Step → List Arg → List Row → List Row
rows_of steps args rows = rows_with rows (flat_map (rows_of_step args) steps)
