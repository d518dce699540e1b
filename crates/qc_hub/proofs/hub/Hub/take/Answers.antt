use Rattle.qc_machine.specs.Step.{step}
use Rattle.qc_hub.specs.Calls.{taking}
use Rattle.qc_hub.proofs.InMemory.{in_memory}
use Rattle.qc_hub.proofs.Later.{state-of}
use Rattle.qc_hub.proofs.hub.Hub.take.Goals as goal

pub take_message-requires : goal.take_message-requires
take_message-requires g c = let was = state-of g.S.Site c.args.self.now c.args._site.now c.requires in (was.state, was.is_in)

pub returns : goal.returns
returns g c =
    in_memory g.S.Site c.args.at (λ s. step s (taking c.args.at c.args.player c.args.app.now)) c.args.self.now c.take_message.new.self c.args._site.now c.take_message.result
    (λ i told left. g.met.S.Site.only_now c.args._site.now i told left) c.requires c.take_message.ensures
