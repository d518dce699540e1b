-- Rows that are put behind others.
use Rattle.std.proofs.Common.{◌≡◌, ◌∙◌, ℕ, ◌+◌, ◌<◌, List, [], ◌∷◌, ◌++◌, length, drop, get_or, flat_map, refl, sym, ap, cond}
use Rattle.std.proofs.lemmas.List.{drop_more}
use Rattle.qc_base.specs.declared.recording.Arg.{Arg}
use Rattle.qc_script.specs.declared.step.Step.{Step}
use Rattle.std.specs.List.{list_any}
use Rattle.qc_base.specs.declared.recording.Row.{Row}
use Rattle.qc_base.specs.Rows.{row_eq}
use Rattle.qc_script.specs.Naming.{rows_with, rows_of_step}

pub rows_with_append : (rows xs ys : List Row) → rows_with rows (xs ++ ys) ≡ rows_with (rows_with rows xs) ys
rows_with_append rows [] ys = refl
rows_with_append rows (x ∷ xs) ys = rows_with_append (cond (list_any (row_eq x) rows) rows (rows ++ x ∷ [])) xs ys

pub both_with : (rows mid all xs ys : List Row) → mid ≡ rows_with rows xs → all ≡ rows_with mid ys → all ≡ rows_with rows (xs ++ ys)
both_with rows mid all xs ys e f = f ∙ ap (λ r. rows_with r ys) e ∙ sym (rows_with_append rows xs ys)

-- the rows of a step more
pub steps_on : (args : List Arg) (rows mid all : List Row) (steps : List Step) (i : ℕ) (d : Step) → i < length steps → get_or steps i d ≡ d → mid ≡ rows_with rows (rows_of_step args d)
    → rows_with rows (flat_map (rows_of_step args) (drop i steps)) ≡ all → rows_with mid (flat_map (rows_of_step args) (drop (i + 1) steps)) ≡ all
steps_on args rows mid all steps i d lt there put before =
    let cut : drop i steps ≡ d ∷ drop (i + 1) steps = drop_more steps i d lt ∙ ap (λ (s : Step). s ∷ drop (i + 1) steps) there in
    ap (λ r. rows_with r (flat_map (rows_of_step args) (drop (i + 1) steps))) put
    ∙ sym (rows_with_append rows (rows_of_step args d) (flat_map (rows_of_step args) (drop (i + 1) steps)))
    ∙ ap (λ (l : List Step). rows_with rows (flat_map (rows_of_step args) l)) (sym cut) ∙ before
