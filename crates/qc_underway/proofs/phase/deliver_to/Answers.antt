use Rattle.std.proofs.Common.{Bool, false, reverse, sym, subst}
use Rattle.qc_base.specs.LogLines.{commit_heard, abort_heard}
use Rattle.crm_driver.specs.Puts.{MakesPuts}
use Rattle.crm_driver.specs.RowRules.{state_of}
use Rattle.qc_underway.specs.Phase.{rules_puts}
use Rattle.qc_underway.proofs.Delivering.{delivered}
use Rattle.qc_underway.proofs.phase.deliver_to.Goals as goal

pub returns-then-committed-clause-puts : goal.returns-then-committed-clause-puts
returns-then-committed-clause-puts g c =
    let site = g.S.Site in
    let old = state_of c.args.named.now.compensator in
    let records = c.args.records.now in
    let made = delivered site old.rules.commit_put (commit_heard false records) records old (state_of c.commit.new.comp) c.args.site.now c.commit.new.site c.commit.result c.commit.ensures in
    subst (λ (b : Bool). MakesPuts site (rules_puts old.rules b records) c.commit.result c.args.site.now c.commit.new.site) (sym c.if-committed.true) made

pub returns-else-committed-clause-puts : goal.returns-else-committed-clause-puts
returns-else-committed-clause-puts g c =
    let site = g.S.Site in
    let old = state_of c.args.named.now.compensator in
    let records = c.args.records.now in
    let made = delivered site old.rules.abort_put (abort_heard false records) (reverse records) old (state_of c.abort.new.comp) c.args.site.now c.abort.new.site c.abort.result c.abort.ensures in
    subst (λ (b : Bool). MakesPuts site (rules_puts old.rules b records) c.abort.result c.args.site.now c.abort.new.site) (sym c.if-committed.false) made
