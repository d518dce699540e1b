-- The effects of a call are carried out, one after another.
use Rattle.std.specs.Prelude.{ℕ, List, [], ◌∷◌, if◌then◌else◌}
use Rattle.std.specs.Option.{option_map_or}
use Rattle.qc_catalogue.specs.declared.catalogue.Catalogue.{Catalogue}
use Rattle.qc_catalogue.specs.declared.catalogue.Resource.{Resource}
use Rattle.qc_catalogue.specs.Lookup.{resource_named}
use Rattle.qc_play.specs.declared.effect.Effect.{Effect}
use Rattle.qc_play.specs.declared.effect.Effect.TheVariants.{Change, Retract}
use Rattle.crm_clerk.specs.Clerk.{ClerkView, forgetting_lines, new_clerk}
use Rattle.crm_driver.specs.RowRules.{put_of}
use Rattle.qc_worker.specs.Effects.{change_lines, resource_of, retract_puts}
use Rattle.qc_machine.specs.LogAndRows.{LogAndRows, after_force, lines_of, with_lines, with_puts}

-- An attempt's clerk, over all lines of the log: its words look at the attempt's own lines alone.
abbrev pub clerk_over : LogAndRows → ℕ → ℕ → ClerkView
clerk_over o attempt id = record (new_clerk attempt id 0) { lines = lines_of o }

-- A change is written. The record of an early resource is forced before its row is put; a late one's row stays until
-- the commit phase.
abbrev pub carry_change : Resource → ClerkView → List ℕ → ℕ → ℕ → LogAndRows → LogAndRows
carry_change r c key old new o =
    let written : LogAndRows = with_lines (change_lines c r key old new) o in
    if r.early then with_puts (put_of r.name key new ∷ []) (after_force written) else written

-- A retract takes back the last record. An early resource's row has its old amount again before Forgot is written.
abbrev pub carry_retract : Resource → ClerkView → LogAndRows → LogAndRows
carry_retract r c o = with_lines (forgetting_lines c r.name) (with_puts (retract_puts c r) o)

abbrev pub carry_effect : Resource → ClerkView → Effect → LogAndRows → LogAndRows
carry_effect r c (Change resource key old new) o = carry_change r c key old new o
carry_effect r c (Retract resource) o = carry_retract r c o

abbrev pub carry_out : Catalogue → ℕ → ℕ → Effect → LogAndRows → LogAndRows
carry_out c attempt id effect o =
    option_map_or (λ (r : Resource). carry_effect r (clerk_over o attempt id) effect o) (resource_named (resource_of effect) c.resources) o

abbrev pub carry_all : Catalogue → ℕ → ℕ → List Effect → LogAndRows → LogAndRows
carry_all c attempt id [] o = o
carry_all c attempt id (effect ∷ effects) o = carry_all c attempt id effects (carry_out c attempt id effect o)
