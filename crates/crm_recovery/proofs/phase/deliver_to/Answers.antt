use Rattle.std.proofs.Common.{Bool, true, List, filter_map, reverse, sym, subst}
use Rattle.qc_base.specs.declared.log_line.LogRecord.{LogRecord}
use Rattle.qc_base.specs.LogLines.{commit_heard, abort_heard}
use Rattle.crm_driver.specs.Puts.{MakesPuts}
use Rattle.crm_driver.specs.RowRules.{state_of}
use Rattle.crm_recovery.specs.Tellings.{plan_of, plan_puts}
use Rattle.crm_recovery.proofs.Delivering.{delivered}
use Rattle.crm_recovery.proofs.phase.deliver_to.Goals as goal

pub returns-then-committed-clause-puts : goal.returns-then-committed-clause-puts
returns-then-committed-clause-puts g c =
    let site = g.S.Site in
    let telling = c.args.telling.now in
    let old = state_of telling.compensator in
    let records = c.as_slice-records.result.now in
    let made = delivered site old.rules.commit_put (commit_heard true records) records old (state_of c.commit.new.comp) c.args.site.now c.commit.new.site c.commit.result c.commit.ensures in
    subst (λ (b : Bool). MakesPuts site (plan_puts b (plan_of telling)) c.commit.result c.args.site.now c.commit.new.site) (sym c.if-committed.true)
    (subst (λ (rs : List LogRecord). MakesPuts site (filter_map old.rules.commit_put rs) c.commit.result c.args.site.now c.commit.new.site) c.as_slice-records.ensures.value made)

pub returns-else-committed-clause-puts : goal.returns-else-committed-clause-puts
returns-else-committed-clause-puts g c =
    let site = g.S.Site in
    let telling = c.args.telling.now in
    let old = state_of telling.compensator in
    let records = c.as_slice-records.result.now in
    let made = delivered site old.rules.abort_put (abort_heard true records) (reverse records) old (state_of c.abort.new.comp) c.args.site.now c.abort.new.site c.abort.result c.abort.ensures in
    subst (λ (b : Bool). MakesPuts site (plan_puts b (plan_of telling)) c.abort.result c.args.site.now c.abort.new.site) (sym c.if-committed.false)
    (subst (λ (rs : List LogRecord). MakesPuts site (filter_map old.rules.abort_put (reverse rs)) c.abort.result c.args.site.now c.abort.new.site) c.as_slice-records.ensures.value made)
