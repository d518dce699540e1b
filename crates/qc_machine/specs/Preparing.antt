-- The prepare phases of an attempt, in order of registration, up to the first resource that isn't ready.
use Rattle.std.specs.Prelude.{ℕ, List, [], ◌∷◌, ◌++◌, map, filter, Bool, Option, Some, None, if◌then◌else◌}
use Rattle.std.specs.Option.{option_map_or}
use Rattle.qc_base.specs.declared.log_line.LogLine.{LogLine}
use Rattle.qc_base.specs.declared.log_line.LogLine.TheVariants.{Forgot}
use Rattle.qc_base.specs.declared.log_line.LogRecord.{LogRecord}
use Rattle.qc_base.specs.declared.log_line.Notice.{Notice}
use Rattle.qc_base.specs.LogLines.{Registration, has_phase, notices_to, prepare_heard, unforgotten}
use Rattle.qc_catalogue.specs.declared.catalogue.Catalogue.{Catalogue}
use Rattle.qc_catalogue.specs.declared.catalogue.Resource.{Resource}
use Rattle.qc_catalogue.specs.Lookup.{resource_named}
use Rattle.crm_driver.specs.Compensators.{Rules}
use Rattle.crm_driver.specs.RowRules.{rules_of}
use Rattle.qc_machine.specs.LogAndRows.{LogAndRows, lines_of, with_lines}

pub record Prepared : Type 0 where
  pub after : LogAndRows
  pub notices : List Notice
  -- the resource that isn't ready
  pub refuser : Option (List ℕ)

-- no resource is asked
abbrev pub unasked : LogAndRows → Prepared
unasked o = record { after = o; notices = []; refuser = None }

-- the records that are answered forget are forgotten, also where the resource isn't ready
abbrev pub answered_lines : ℕ → List ℕ → (LogRecord → Bool) → List LogRecord → List LogLine
answered_lines attempt resource forgets records = map (λ (r : LogRecord). Forgot attempt resource r.seq) (filter forgets records)

abbrev pub asked_by : Rules → List ℕ → ℕ → List LogRecord → LogAndRows → Prepared
asked_by rules resource attempt records o = record {
  after = with_lines (answered_lines attempt resource rules.forgets records) o;
  notices = notices_to resource (prepare_heard (map rules.forgets records) (rules.ready records) records);
  refuser = if rules.ready records then None else Some resource;
}

abbrev pub asked : Resource → ℕ → LogAndRows → Prepared
asked r attempt o = asked_by (rules_of r) r.name attempt (unforgotten (lines_of o) attempt r.name) o

abbrev pub prepared_one : Catalogue → ℕ → Registration → LogAndRows → Prepared
prepared_one c attempt g o =
    if has_phase 1 g.phases
    then option_map_or (λ (r : Resource). asked r attempt o) (resource_named g.resource c.resources) (unasked o)
    else unasked o

abbrev pub and_then_prepared : (LogAndRows → Prepared) → Prepared → Prepared
and_then_prepared next p = elim p.refuser [
  | Some name ↦ p
  | None ↦ let q : Prepared = next p.after in record q { notices = p.notices ++ q.notices }
]

abbrev pub prepared_all : Catalogue → ℕ → List Registration → LogAndRows → Prepared
prepared_all c attempt [] o = unasked o
prepared_all c attempt (g ∷ registered) o = and_then_prepared (prepared_all c attempt registered) (prepared_one c attempt g o)
