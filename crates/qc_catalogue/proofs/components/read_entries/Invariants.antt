use Rattle.std.proofs.Common.{◌≡◌, ◌++◌, true}
use Rattle.toml.specs.View.{members_view}
use Rattle.qc_base.specs.Names.{is_name}
use Rattle.qc_catalogue.specs.Findings.{found_in_each, each, entry, all_keys, walked}
use Rattle.qc_catalogue.specs.Applications.{component_found, component_in}
use Rattle.qc_catalogue.proofs.components.read_entries.Given as goal

abbrev pub invariant-loop-key : goal.invariant-loop-key
invariant-loop-key l =
    (goal.iterator-loop-key).can_next l.key-iterator × (goal.iterator-loop-key).is_finite l.key-iterator
    × (all_keys is_name (members_view l.key-iterator) ≡ true)
    × (walked l.initial.met.keys (found_in_each (entry (component_found l.names l.exceptions l.app) l.path) (members_view l.table.entries)) ≡ walked l.met.keys (found_in_each (entry (component_found l.names l.exceptions l.app) l.path) (members_view l.key-iterator)))
    × (each (component_in l.names) (members_view l.table.entries) ≡ l.components.items ++ each (component_in l.names) (members_view l.key-iterator))
