use Rattle.std.proofs.Common.{◌≡◌, ◌++◌, true}
use Rattle.toml.specs.View.{members_view}
use Rattle.qc_base.specs.Names.{is_name}
use Rattle.qc_catalogue.specs.Findings.{found_in_each, each, entry, all_keys, walked}
use Rattle.qc_catalogue.specs.Applications.{exception_found, exception_in}
use Rattle.qc_catalogue.proofs.exceptions.read_entries.Given as goal

abbrev pub invariant-loop-key : goal.invariant-loop-key
invariant-loop-key l =
    (goal.iterator-loop-key).can_next l.key-iterator × (goal.iterator-loop-key).is_finite l.key-iterator
    × (all_keys is_name (members_view l.key-iterator) ≡ true)
    × (walked l.initial.met.keys (found_in_each (entry (exception_found l.names) l.path) (members_view l.table.entries)) ≡ walked l.met.keys (found_in_each (entry (exception_found l.names) l.path) (members_view l.key-iterator)))
    × (each (exception_in l.names) (members_view l.table.entries) ≡ l.exceptions.items ++ each (exception_in l.names) (members_view l.key-iterator))
