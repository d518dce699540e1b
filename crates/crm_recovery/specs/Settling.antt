-- What is done for the attempts that a log leaves unfinished, and the outside rows once it is done.
use Rattle.std.specs.Prelude.{ℕ, List, [], ◌∷◌, map, flat_map, filter_map, reverse, Bool, true, if◌then◌else◌}
use Rattle.std.specs.Option.{option_map_or}
use Rattle.qc_base.specs.Rows.{OutsideRows, put_row}
use Rattle.qc_base.specs.declared.log_line.LogRecord.{LogRecord}
use Rattle.qc_base.specs.declared.log_line.LogLine.{LogLine}
use Rattle.qc_base.specs.declared.log_line.LogLine.TheVariants.{Done}
use Rattle.qc_base.specs.declared.log_line.Recovered.{Recovered}
use Rattle.qc_base.specs.LogLines.{Registration, registrations, unforgotten, phases_of, unfinished}
use Rattle.qc_catalogue.specs.declared.catalogue.Catalogue.{Catalogue}
use Rattle.qc_catalogue.specs.declared.catalogue.Resource.{Resource}
use Rattle.qc_catalogue.specs.Lookup.{resource_named}
use Rattle.crm_driver.specs.Puts.{RowPut}
use Rattle.crm_driver.specs.RowRules.{rules_of}
use Rattle.crm_history.specs.declared.ended.Ended.{Ended}
use Rattle.crm_history.specs.Legal.{is_committed}

-- What a resource's phase puts for these records: on a commit a late one's new amounts, in written order, and on an
-- abort an early one's old amounts, in reverse order.
abbrev pub puts_of : Resource → Bool → List LogRecord → List RowPut
puts_of r committed records = if committed then filter_map (rules_of r).commit_put records else filter_map (rules_of r).abort_put (reverse records)

-- for a resource that an attempt registered, by the catalogue and the attempt's unforgotten records
abbrev pub registration_puts : Catalogue → List LogLine → ℕ → Bool → Registration → List RowPut
registration_puts c lines attempt committed own =
    option_map_or (λ (r : Resource). puts_of r committed (unforgotten lines attempt own.resource)) (resource_named own.resource c.resources) []

-- the phase of an attempt, over its resources in order of registration
abbrev pub phase_puts : Catalogue → List LogLine → ℕ → Bool → List RowPut
phase_puts c lines attempt committed = flat_map (registration_puts c lines attempt committed) (registrations lines attempt)

-- the phases of these attempts, each the commit phase exactly where the attempt was committed
abbrev pub attempts_puts : Catalogue → List Ended → List LogLine → List ℕ → List RowPut
attempts_puts c ended lines attempts = flat_map (λ a. phase_puts c lines a (is_committed a ended)) attempts

abbrev pub settling_puts : Catalogue → List Ended → List LogLine → List RowPut
settling_puts c ended lines = attempts_puts c ended lines (unfinished lines)

-- the rows after these puts, in order
abbrev pub rows_after : List RowPut → OutsideRows → OutsideRows
rows_after [] rows = rows
rows_after (p ∷ puts) rows = rows_after puts (put_row p.resource p.key p.amount rows)

-- the outside rows once each unfinished attempt has had its phase
abbrev pub settled_rows : Catalogue → List Ended → List LogLine → OutsideRows → OutsideRows
settled_rows c ended lines rows = rows_after (settling_puts c ended lines) rows

-- What is told of an attempt: the commit phase exactly where it was committed, otherwise the abort phase, from its first
-- unforgotten record on, with the flag true.
abbrev pub recovery_of : List Ended → List LogLine → ℕ → Recovered
recovery_of ended lines a = record { attempt = a; committed = is_committed a ended; notices = phases_of lines a (is_committed a ended) true }

-- in rising number
abbrev pub recoveries : List Ended → List LogLine → List Recovered
recoveries ended lines = map (recovery_of ended lines) (unfinished lines)

-- a group with its Done
abbrev pub done_group : ℕ → List LogLine
done_group a = Done a ∷ []

-- one for each of them
abbrev pub done_groups : List LogLine → List (List LogLine)
done_groups lines = map done_group (unfinished lines)
