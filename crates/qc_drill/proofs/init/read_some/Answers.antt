use Rattle.std.proofs.Common.{◌≡◌, ◌≤◌, ℕ, List, [], take, length, arith, length-take, rules}
use Rattle.qc_drill.proofs.Reading.{took-still, took-read, read-end}
use Rattle.qc_drill.proofs.init.read_some.Goals as goal

pub returns-in_default-clause-gives : goal.returns-in_default-clause-gives
returns-in_default-clause-gives g c =
    let same : g.I.Source.left c.read.new.self ≡ g.I.Source.left c.args.source.now = search rules in
    record { given = []; took = took-still _ _ same; few = omega arith; count = tt; end = tt; grown = tt }

pub returns-in-Ok-extend_from_slice-clause-gives : goal.returns-in-Ok-extend_from_slice-clause-gives
returns-in-Ok-extend_from_slice-clause-gives g c =
    let n : ℕ = c.in-Ok.count in
    let into : List ℕ = c.read.new.into in
    let size : length into ≡ length c.args.into.now = search rules in
    let fits : n ≤ length c.args.into.now = search rules in
    record {
      given = take n into;
      took = took-read n into _ _ c.in-Ok.ensures.taken;
      few = omega (arith, length-take n into, size, fits);
      count = omega (arith, length-take n into, size, fits);
      end = λ none. read-end n into _ (omega (arith, size, fits)) none c.in-Ok.ensures.end;
      grown = search rules;
    }

pub returns-in-Err-clause-gives : goal.returns-in-Err-clause-gives
returns-in-Err-clause-gives g c =
    let n : ℕ = c.in-Ok.count in
    let into : List ℕ = c.read.new.into in
    let size : length into ≡ length c.args.into.now = search rules in
    let fits : n ≤ length c.args.into.now = search rules in
    record { given = take n into; took = took-read n into _ _ c.in-Ok.ensures.taken; few = omega (arith, length-take n into, size, fits); count = tt; end = tt; grown = tt }
