use Rattle.std.proofs.Common.{◌≡◌, ◌≢◌, sym, subst, rules, Err}
use Rattle.qc_hub.specs.Calls.{OpensSite}
use Rattle.qc_hub.proofs.OpeningExits.{exit-unread, exit-facts, exit-empty, exit-log, exit-opened, log_opened, log_stands}
use Rattle.qc_hub.proofs.hub.Hub.open.Goals as goal

pub returns-in_err-hub : goal.returns-in_err-hub
returns-in_err-hub g c =
    let same : c.from_residual.result ≡ Err c.in_err-hub.field-0.0 = search rules in
    subst (λ r. OpensSite g.S.Site c.args.limits r c.args.site.now c.unread.new.site) (sym same) (exit-unread g.S.Site c.args.limits c.in_err-hub.field-0.0 c.args.site.now c.unread.new.site c.in_err-hub.ensures)

pub returns-in_err-read_facts : goal.returns-in_err-read_facts
returns-in_err-read_facts g c =
    let same : c.from_residual-in_err-read_facts.result ≡ Err c.in_err-read_facts.field-0.0 = search rules in
    subst (λ r. OpensSite g.S.Site c.args.limits r c.args.site.now c.read_facts.new.site) (sym same)
    (exit-facts g.S.Site c.args.limits c.args.site.now c.unread.new.site c.read_facts.new.site c.in_ok-hub.hub c.read_facts.new.self c.in_ok-hub.ensures (λ t i told le here. g.met.S.Site.counts_now c.unread.new.site t i told le here)
    c.in_err-read_facts.field-0.0 c.in_err-read_facts.ensures)

pub returns-then-facts-eq0 : goal.returns-then-facts-eq0
returns-then-facts-eq0 g c =
    exit-empty g.S.Site c.args.limits c.args.site.now c.unread.new.site c.read_facts.new.site c.in_ok-hub.hub c.read_facts.new.self c.in_ok-hub.ensures (λ t i told le here. g.met.S.Site.counts_now c.unread.new.site t i told le here)
    c.in_ok-read_facts.field-0 c.in_ok-read_facts.ensures (search rules)

pub read_log-requires-clause-stands : goal.read_log-requires-clause-stands
read_log-requires-clause-stands g c =
    log_stands g.S.Site c.args.limits c.args.site.now c.unread.new.site c.read_facts.new.site c.in_ok-hub.hub c.read_facts.new.self c.in_ok-hub.ensures (λ t i told le here. g.met.S.Site.counts_now c.unread.new.site t i told le here)
    c.in_ok-read_facts.field-0 c.in_ok-read_facts.ensures
    (λ i told here. g.met.S.Site.counts_now c.read_facts.new.site (g.S.Site.moment c.unread.new.site) i told (c.read_facts.ensures.keeps.any_moment told).later here)

pub read_log-requires-clause-opened : goal.read_log-requires-clause-opened
read_log-requires-clause-opened g c =
    log_opened g.S.Site c.args.limits c.args.site.now c.unread.new.site c.read_facts.new.site c.in_ok-hub.hub c.read_facts.new.self c.in_ok-hub.ensures (λ t i told le here. g.met.S.Site.counts_now c.unread.new.site t i told le here)
    c.in_ok-read_facts.field-0 c.in_ok-read_facts.ensures

pub returns-in_err-read_log : goal.returns-in_err-read_log
returns-in_err-read_log g c =
    let same : c.from_residual-in_err-read_log.result ≡ Err c.in_err-read_log.field-0.0 = search (rules, c.from_residual-in_err-read_log.ensures) in
    let some : c.read_facts.new.self.history.facts ≢ 0 = λ none. search rules in
    subst (λ r. OpensSite g.S.Site c.args.limits r c.args.site.now c.read_log.new.site) (sym same)
    (exit-log g.S.Site c.args.limits c.args.site.now c.unread.new.site c.read_facts.new.site c.in_ok-hub.hub c.read_facts.new.self c.in_ok-hub.ensures (λ t i told le here. g.met.S.Site.counts_now c.unread.new.site t i told le here)
    c.in_ok-read_facts.field-0 c.in_ok-read_facts.ensures some c.read_log.new.site c.read_log.new.self (λ t i told le here. g.met.S.Site.counts_now c.read_facts.new.site t i told le here) c.in_err-read_log.field-0.0 c.in_err-read_log.ensures)

pub returns : goal.returns
returns g c =
    let some : c.read_facts.new.self.history.facts ≢ 0 = λ none. search rules in
    exit-opened g.S.Site c.args.limits c.args.site.now c.unread.new.site c.read_facts.new.site c.in_ok-hub.hub c.read_facts.new.self c.in_ok-hub.ensures (λ t i told le here. g.met.S.Site.counts_now c.unread.new.site t i told le here)
    c.in_ok-read_facts.field-0 c.in_ok-read_facts.ensures some c.read_log.new.site c.read_log.new.self (λ t i told le here. g.met.S.Site.counts_now c.read_facts.new.site t i told le here) c.in_ok-read_log.field-0
    (λ i told here. g.met.S.Site.counts_now c.read_log.new.site (g.S.Site.moment c.read_facts.new.site) i told (c.read_log.ensures.keeps.any_moment told).later here)
    c.in_ok-read_log.ensures
