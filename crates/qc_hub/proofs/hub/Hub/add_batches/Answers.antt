use Rattle.std.proofs.Common.{◌≡◌, sym, subst, rules, Err}
use Rattle.std.specs.declared.result.Result.{Result}
use Rattle.qc_protocol.specs.declared.reply.Reply.{Reply}
use Rattle.qc_machine.specs.Moving.{moved_by}
use Rattle.qc_hub.specs.declared.error.HubError.{HubError}
use Rattle.qc_hub.specs.Calls.{StepsBy}
use Rattle.qc_hub.proofs.BatchByBatch.{added-there, stopped-there}
use Rattle.qc_hub.proofs.hub.Hub.add_batches.Goals as goal

pub returns-in_err-add_batch-clause-steps : goal.returns-in_err-add_batch-clause-steps
returns-in_err-add_batch-clause-steps g c =
    let is : c.from_residual.result ≡ Err c.in_err-add_batch.field-0.0 = search rules in
    subst (λ (x : Result Reply HubError). StepsBy g.S.Site 0 (λ s. moved_by c.args.facts.now c.args.count s) x c.args.self.now c.args.site.now c.add_batch.new.self c.add_batch.new.site) (sym is)
    (stopped-there g.S.Site c.args.count c.args.self.now c.args.site.now c.args.facts.now c.loop-fact.fact-index c.fact-item.result c.loop-fact-test.true c.fact-item.is c.loop-fact.self c.loop-fact.site c.loop-fact.invariant c.requires.ready
    (λ t i told le here. g.met.S.Site.counts_now c.loop-fact.site t i told le here) c.add_batch.new.self c.add_batch.new.site c.in_err-add_batch.field-0.0 c.in_err-add_batch.ensures.takes_no_memory c.in_err-add_batch.ensures.steps)

pub loop-fact-preserved : goal.loop-fact-preserved
loop-fact-preserved g c =
    added-there g.S.Site c.args.count c.args.self.now c.args.site.now c.args.facts.now c.loop-fact.fact-index c.fact-item.result c.loop-fact-test.true c.fact-item.is c.loop-fact.self c.loop-fact.site c.loop-fact.invariant c.requires.ready
    (λ t i told le here. g.met.S.Site.counts_now c.loop-fact.site t i told le here) c.add_batch.new.self c.add_batch.new.site c.in_ok-add_batch.field-0 c.in_ok-add_batch.ensures.steps c.in_ok-add_batch.ensures.added
