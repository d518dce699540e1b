-- The calls to a file that no sync has settled: what they make of it, and what undoes them.
use Rattle.std.specs.Prelude.{ℕ, List, [], ◌∷◌, take, true}
use Rattle.qc_site.specs.Disk.{written}
use Rattle.qc_memsite.specs.declared.step.Edit.{Edit}
use Rattle.qc_memsite.specs.declared.step.Edit.TheVariants.{Write, Cut}
use Rattle.qc_memsite.specs.declared.step.Step.{Step}
use Rattle.qc_memsite.specs.Chosen.{write_left}

-- what a file shows after an edit, and what an image has of it whose bytes are turned round
abbrev pub edited : Edit → List ℕ → List ℕ
edited (Write at bytes) shown = written shown at bytes.items
edited (Cut len) shown = take len shown

abbrev pub edit_turned : Edit → List ℕ → List ℕ → List ℕ
edit_turned (Write at bytes) shown image = write_left true shown image at bytes.items
edit_turned (Cut len) shown image = take len image

abbrev pub undone_by : Step → List ℕ → List ℕ
undone_by step shown = take step.len (written shown step.at step.was.items)

-- these steps undone, the last of them first; done again; and done again with their bytes turned round
abbrev pub undone : List Step → List ℕ → List ℕ
undone [] shown = shown
undone (x ∷ steps) shown = undone_by x (undone steps shown)

abbrev pub done_again : List Step → List ℕ → List ℕ
done_again [] shown = shown
done_again (x ∷ steps) shown = done_again steps (edited x.edit shown)

abbrev pub turned_by : List Step → List ℕ → List ℕ → List ℕ
turned_by [] shown image = image
turned_by (x ∷ steps) shown image = turned_by steps (edited x.edit shown) (edit_turned x.edit shown image)
