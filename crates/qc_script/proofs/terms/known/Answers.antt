use Rattle.std.proofs.Common.{◌≡◌, true, sym, rules}
use Rattle.std.specs.Str.{bytes_eq}
use Rattle.qc_script.proofs.Known.{known_at}
use Rattle.qc_script.proofs.terms.known.Goals as goal

pub returns-then-eq : goal.returns-then-eq
returns-then-eq c =
    let same : bytes_eq c.name-item.result c.args.word.now ≡ true = search rules in
    known_at c.args.names.now c.args.word.now c.name-item.result c.loop-name.name-index c.loop-name-test.true (sym c.name-item.is) same
