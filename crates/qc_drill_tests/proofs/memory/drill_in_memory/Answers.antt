use Rattle.std.proofs.Common.{◌≡◌, true, rules}
use Rattle.qc_drill.specs.Words.{is_drill}
use Rattle.qc_drill_tests.proofs.Sampled.{drilled}
use Rattle.qc_drill_tests.proofs.memory.drill_in_memory.Goals as goal

pub returns : goal.returns
returns c =
    let words : is_drill c.in_ok-words.words.items ≡ true = search rules in
    drilled _ _ _ _ _ _ _ _ _ c.over-source.ensures.tells (search rules) tt c.in_ok-site.ensures (c.run-status.ensures.drill words)
