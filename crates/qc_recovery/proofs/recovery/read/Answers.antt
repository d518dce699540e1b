use Rattle.std.proofs.Common.{◌≡◌, ◌≢◌, sym, subst, rules, Err}
use Rattle.qc_recovery.specs.Calls.{ReadsSite}
use Rattle.qc_recovery.proofs.SiteRead.{exit-begin, exit-facts, exit-empty, exit-log, exit-read, log_opened, log_stands}
use Rattle.qc_recovery.proofs.recovery.read.Goals as goal

pub returns-in_err-reading : goal.returns-in_err-reading
returns-in_err-reading g c =
    let same : c.from_residual.result ≡ Err c.in_err-reading.field-0.0 = search rules in
    subst (λ r. ReadsSite g.S.Site r c.args.site.now c.begin.new.site) (sym same) (exit-begin g.S.Site c.in_err-reading.field-0.0 c.args.site.now c.begin.new.site c.in_err-reading.ensures)

pub returns-in_err-read_facts : goal.returns-in_err-read_facts
returns-in_err-read_facts g c =
    let same : c.from_residual-in_err-read_facts.result ≡ Err c.in_err-read_facts.field-0.0 = search rules in
    subst (λ r. ReadsSite g.S.Site r c.args.site.now c.read_facts.new.site) (sym same)
    (exit-facts g.S.Site c.args.site.now c.begin.new.site c.read_facts.new.site c.in_ok-reading.reading c.read_facts.new.self c.in_ok-reading.ensures (λ t i told le here. g.met.S.Site.counts_now c.begin.new.site t i told le here)
    c.in_err-read_facts.field-0.0 c.in_err-read_facts.ensures)

pub returns-then-facts-eq0 : goal.returns-then-facts-eq0
returns-then-facts-eq0 g c =
    exit-empty g.S.Site c.args.site.now c.begin.new.site c.read_facts.new.site c.in_ok-reading.reading c.read_facts.new.self c.in_ok-reading.ensures (λ t i told le here. g.met.S.Site.counts_now c.begin.new.site t i told le here)
    c.in_ok-read_facts.field-0 c.in_ok-read_facts.ensures (search rules)

pub read_log-requires-clause-stands : goal.read_log-requires-clause-stands
read_log-requires-clause-stands g c =
    log_stands g.S.Site c.args.site.now c.begin.new.site c.read_facts.new.site c.in_ok-reading.reading c.read_facts.new.self c.in_ok-reading.ensures (λ t i told le here. g.met.S.Site.counts_now c.begin.new.site t i told le here)
    c.in_ok-read_facts.field-0 c.in_ok-read_facts.ensures
    (λ i told here. g.met.S.Site.counts_now c.read_facts.new.site (g.S.Site.moment c.begin.new.site) i told (c.read_facts.ensures.keeps.any_moment told).later here)

pub read_log-requires-clause-opened : goal.read_log-requires-clause-opened
read_log-requires-clause-opened g c =
    log_opened g.S.Site c.args.site.now c.begin.new.site c.read_facts.new.site c.in_ok-reading.reading c.read_facts.new.self c.in_ok-reading.ensures (λ t i told le here. g.met.S.Site.counts_now c.begin.new.site t i told le here)
    c.in_ok-read_facts.field-0 c.in_ok-read_facts.ensures

pub returns-in_err-read_log : goal.returns-in_err-read_log
returns-in_err-read_log g c =
    let same : c.from_residual-in_err-read_log.result ≡ Err c.in_err-read_log.field-0.0 = search (rules, c.from_residual-in_err-read_log.ensures) in
    let some : c.read_facts.new.self.history.facts ≢ 0 = λ none. search rules in
    subst (λ r. ReadsSite g.S.Site r c.args.site.now c.read_log.new.site) (sym same)
    (exit-log g.S.Site c.args.site.now c.begin.new.site c.read_facts.new.site c.in_ok-reading.reading c.read_facts.new.self c.in_ok-reading.ensures (λ t i told le here. g.met.S.Site.counts_now c.begin.new.site t i told le here)
    c.in_ok-read_facts.field-0 c.in_ok-read_facts.ensures some c.read_log.new.site c.read_log.new.self (λ t i told le here. g.met.S.Site.counts_now c.read_facts.new.site t i told le here) c.in_err-read_log.field-0.0 c.in_err-read_log.ensures)

pub returns : goal.returns
returns g c =
    let some : c.read_facts.new.self.history.facts ≢ 0 = λ none. search rules in
    exit-read g.S.Site c.args.site.now c.begin.new.site c.read_facts.new.site c.in_ok-reading.reading c.read_facts.new.self c.in_ok-reading.ensures (λ t i told le here. g.met.S.Site.counts_now c.begin.new.site t i told le here)
    c.in_ok-read_facts.field-0 c.in_ok-read_facts.ensures some c.read_log.new.site c.read_log.new.self (λ t i told le here. g.met.S.Site.counts_now c.read_facts.new.site t i told le here) c.in_ok-read_log.field-0
    (λ i told here. g.met.S.Site.counts_now c.read_log.new.site (g.S.Site.moment c.read_facts.new.site) i told (c.read_log.ensures.keeps.any_moment told).later here)
    c.in_ok-read_log.ensures
