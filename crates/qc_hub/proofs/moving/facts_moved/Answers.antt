use Rattle.std.proofs.Common.{◌≡◌, ◌∙◌, ◌++◌, ◌∷◌, [], ◌≤◌, ℕ, List, length, rules}
use Rattle.qc_base.specs.declared.fact.Fact.TheVariants.{Moved}
use Rattle.qc_hub.proofs.BatchRoom.{batch-more}
use Rattle.qc_hub.proofs.moving.facts_moved.Goals as goal

pub loop-left-preserved : goal.loop-left-preserved
loop-left-preserved c =
    let route = c.args.route.now in
    let left : List ℕ = c.loop-left.left.now in
    let there : 1 ≤ length left = search rules in
    let batch : c.over.result ≡ c.split_at.result.0.now = search rules in
    let more : c.push.new.self.items ≡ c.loop-left.facts.items ++ Moved route.app route.to c.args.at c.over.result ∷ [] = search rules in
    batch-more route.app route.to c.args.at c.args.size c.requires c.loop-left.facts.items c.push.new.self.items left c.over.result c.split_at.result.1.now c.min.result there c.min.ensures (batch ∙ c.split_at.ensures.front) c.split_at.ensures.back more
    ∙ c.loop-left.invariant
