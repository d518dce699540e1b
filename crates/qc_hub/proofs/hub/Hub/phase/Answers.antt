use Rattle.std.proofs.Common.{Ok}
use Rattle.qc_machine.specs.Step.{step}
use Rattle.qc_hub.specs.Calls.{finishing}
use Rattle.qc_hub.proofs.InMemory.{in_memory}
use Rattle.qc_hub.proofs.hub.Hub.phase.Goals as goal

pub returns-clause-carried : goal.returns-clause-carried
returns-clause-carried g c =
    in_memory g.S.Site c.args.at (λ s. step s (finishing c.args.at c.args.player)) c.args.self.now c.let_go.new.self c.args._site.now (Ok c.let_go.result)
    (λ i told left. g.met.S.Site.only_now c.args._site.now i told left) c.requires c.let_go.ensures
