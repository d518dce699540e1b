use Rattle.std.proofs.Common.{◌≡◌, ◌∙◌, length, take, drop, sym, arith, rules}
use Rattle.std.proofs.lemmas.List.{length-drop}
use Rattle.qc_site.specs.Image.{bytes_of}
use Rattle.qc_frame.proofs.Found.{given_front}
use Rattle.qc_frame.proofs.reading.read_gate.Goals as goal

pub returns-clause-gate : goal.returns-clause-gate
returns-clause-gate g c = λ told size inside.
    let file = bytes_of c.args.file (g.S.Site.shown c.args.site.now) in
    let rest = drop c.args.place file in
    let there : length rest ≡ c.saturating_sub.result = omega (arith, length-drop c.args.place file, size, c.saturating_sub.ensures) in
    let long : length c.read.new.into ≡ 5 = search rules in
    let given = given_front c.read.new.into rest c.in_ok-count.count long (c.in_ok-count.ensures.size told) (c.in_ok-count.ensures.bytes told) in
    let as_read : take 5 rest ≡ take c.saturating_sub.result c.gate_bytes.result = given ∙ (λ i. take (there i) (sym c.gate_bytes.ensures i)) in
    c.gate_of.ensures.finds rest there as_read
