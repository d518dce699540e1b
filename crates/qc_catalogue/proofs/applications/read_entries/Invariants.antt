use Rattle.std.proofs.Common.{◌≡◌, ◌++◌, true}
use Rattle.toml.specs.View.{members_view}
use Rattle.qc_base.specs.Names.{is_app_name}
use Rattle.qc_catalogue.specs.Findings.{found_in_each, each, entry, all_keys, walked}
use Rattle.qc_catalogue.specs.Applications.{app_found, app_in}
use Rattle.qc_catalogue.proofs.applications.read_entries.Given as goal

abbrev pub invariant-loop-key : goal.invariant-loop-key
invariant-loop-key l =
    (goal.iterator-loop-key).can_next l.key-iterator × (goal.iterator-loop-key).is_finite l.key-iterator
    × (all_keys is_app_name (members_view l.key-iterator) ≡ true)
    × (walked l.initial.met.keys (found_in_each (entry (app_found l.names) l.path) (members_view l.table.entries)) ≡ walked l.met.keys (found_in_each (entry (app_found l.names) l.path) (members_view l.key-iterator)))
    × (each (app_in l.names) (members_view l.table.entries) ≡ l.apps.items ++ each (app_in l.names) (members_view l.key-iterator))
