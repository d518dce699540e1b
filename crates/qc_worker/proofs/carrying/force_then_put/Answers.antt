use Rattle.crm_driver.specs.RowRules.{put_of}
use Rattle.qc_worker.proofs.Logged.{put-behind}
use Rattle.qc_worker.proofs.carrying.force_then_put.Goals as goal

pub returns-in-Ok-clause-puts : goal.returns-in-Ok-clause-puts
returns-in-Ok-clause-puts g c =
    let mid = c.force_log.new.site in
    put-behind g.S.Site (put_of c.args.resource.now c.args.key.now c.args.amount) c.args.log.now c.args.site.now mid c.force_log.new.log c.in-Ok.ensures.forces c.requires.waits c.requires.stands
    (λ t i told le here. g.met.S.Site.counts_now mid t i told le here) c.put_amount.new.site c.force_log.ensures.left c.in-Ok.ensures.spells c.put_amount.result c.put_amount.ensures
