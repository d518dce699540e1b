use Rattle.std.proofs.Common.{Ok}
use Rattle.qc_machine.specs.Step.{step}
use Rattle.qc_hub.specs.Calls.{working}
use Rattle.qc_hub.proofs.InMemory.{in_memory}
use Rattle.qc_hub.proofs.Later.{state-of}
use Rattle.qc_hub.proofs.hub.Hub.work.Goals as goal

pub run_call-requires : goal.run_call-requires
run_call-requires g c = let was = state-of g.S.Site c.args.self.now c.args._site.now c.requires in (was.state, was.is_in)

pub returns-clause-carried : goal.returns-clause-carried
returns-clause-carried g c =
    in_memory g.S.Site c.args.at (λ s. step s (working c.args.at c.args.player)) c.args.self.now c.run_call.new.self c.args._site.now (Ok c.run_call.result)
    (λ i told left. g.met.S.Site.only_now c.args._site.now i told left) c.requires c.run_call.ensures
