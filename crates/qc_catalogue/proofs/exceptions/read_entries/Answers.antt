use Rattle.std.proofs.Common.{rules, arith, ◌≡◌, ◌∷◌, ap, string_bytes}
use Rattle.std.proofs.lemmas.Grind.{common_steps}
use Rattle.toml.specs.View.{view, members_view}
use Rattle.toml.proofs.Views.{Entry}
use Rattle.qc_base.specs.Names.{is_name}
use Rattle.qc_catalogue.specs.Findings.{IsRefusalAfter, entry, in_names}
use Rattle.qc_catalogue.specs.Applications.{exception_found, exception_in}
use Rattle.qc_catalogue.proofs.Steps.{handed_on, walk_stops, walk_goes_on, names_behind, each_behind}
use Rattle.qc_catalogue.proofs.exceptions.read_entries.Goals as goal

pub returns-in_err-exception-clause-refused : goal.returns-in_err-exception-clause-refused
returns-in_err-exception-clause-refused c =
    let l = c.loop-key in
    let (can, finite, names, found, are) = l.invariant in
    let e : Entry = (c.in-Some.key.now, c.in-Some.value.now) in
    let iter : l.key-iterator ≡ e ∷ c.next.new.self = grind (arith, common_steps) in
    let refused = rw c.as_str.ensures.value at c.in_err-exception.ensures.refused in
    handed_on _ _ (IsRefusalAfter c.args.met.now.keys (in_names is_name 0 64 (exception_found c.args.names.now) c.args.path.now (members_view c.args.table.now.entries))) c.from_residual-in_err-exception.ensures.1
    (λ other. rw (c.in_ok-check_names.ensures.names) (walk_stops (entry (exception_found c.args.names.now) c.args.path.now) c.args.met.now.keys l.met.keys (members_view c.args.table.now.entries) (members_view l.key-iterator) (string_bytes e.0) (view e.1) (members_view c.next.new.self) c.in_err-exception.field-0.0 found (ap members_view iter) (refused other)))

pub loop-key-preserved : goal.loop-key-preserved
loop-key-preserved c =
    let l = c.loop-key in
    let (can, finite, names, found, are) = l.invariant in
    let e : Entry = (c.in-Some.key.now, c.in-Some.value.now) in
    let iter : l.key-iterator ≡ e ∷ c.next.new.self = grind (arith, common_steps) in
    let on = rw c.as_str.ensures.value at c.in_ok-exception.ensures.walked in
    let is = rw c.as_str.ensures.value at c.in_ok-exception.ensures.value in (
      search rules,
      search rules,
      (names_behind is_name (members_view l.key-iterator) (string_bytes e.0) (view e.1) (members_view c.next.new.self) names (ap members_view iter)).1,
      walk_goes_on (entry (exception_found c.args.names.now) c.args.path.now) c.args.met.now.keys l.met.keys c.read_entry.new.met.keys (members_view c.args.table.now.entries) (members_view l.key-iterator) (string_bytes e.0) (view e.1) (members_view c.next.new.self) found (ap members_view iter) on,
      rw c.in-Ok.ensures.items (each_behind (exception_in c.args.names.now) (members_view c.args.table.now.entries) (members_view l.key-iterator) (string_bytes e.0) (view e.1) (members_view c.next.new.self) l.exceptions.items c.in_ok-exception.exception are (ap members_view iter) is),
    )
