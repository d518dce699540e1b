use Rattle.std.proofs.Common.{◌≡◌, ℕ, List, [], sym, subst, rules, Ok, Err, None, Option}
use Rattle.qc_base.specs.declared.fact.Fact.{Fact}
use Rattle.qc_frame.specs.Calls.{ReadsOn}
use Rattle.qc_journal.specs.Calls.{FindsFact}
use Rattle.qc_journal.specs.Journal.{log_of, DamagedFact}
use Rattle.qc_recovery.specs.declared.reading.Reading.{Reading}
use Rattle.qc_recovery.specs.Opening.{ReadsFacts}
use Rattle.qc_recovery.proofs.OpeningRuns.{Running, at_place, begins, run-stopped, run-refused, run-on, run-ended}
use Rattle.qc_recovery.proofs.reading.Reading.read_facts.Goals as goal

pub loop-next-init : goal.loop-next-init
loop-next-init g c =
    let none : [] ≡ c.new-numbers.result.items = search rules in
    subst (λ (numbers : List ℕ). Running g.S.Site c.args.site.now c.args.site.now c.args.self.now c.args.self.now numbers) none
    (begins g.S.Site c.args.site.now c.args.self.now (λ i told left. g.met.S.Site.only_now c.args.site.now i told left) c.requires.stands c.requires.unread)

pub loop-next-preserved : goal.loop-next-preserved
loop-next-preserved g c =
    let site = g.S.Site in
    let r : Reading = c.loop-next.self in
    let finds = subst (λ (o : Option (ℕ × Fact)). FindsFact site (Ok o) r.journal c.loop-next.site c.next_fact.new.self c.next_fact.new.site) c.in-Some.is c.in-Ok.ensures.finds in
    let reads = subst (λ (o : Option (ℕ × Fact)). ReadsOn site (DamagedFact (site.shown c.loop-next.site).journal r.journal.place) (Ok o) (log_of r.journal) c.loop-next.site (log_of c.next_fact.new.self) c.next_fact.new.site) c.in-Some.is c.in-Ok.ensures.reads in
    run-on site c.args.site.now c.loop-next.site c.next_fact.new.site c.args.self.now r c.loop-next.numbers.items c.next_fact.new.self c.loop-next.invariant (λ t i told le here. g.met.S.Site.counts_now c.loop-next.site t i told le here)
    c.in-Some.at c.in-Some.fact finds reads c.take_fact.new.self c.take_fact.new.numbers.items c.in_ok-take_fact.field-0 c.in_ok-take_fact.ensures

pub returns-in-Err : goal.returns-in-Err
returns-in-Err g c =
    let site = g.S.Site in
    let r : Reading = c.loop-next.self in
    subst (λ e. ReadsFacts site (Err e) c.args.self.now c.args.site.now (at_place r c.next_fact.new.self) c.next_fact.new.site) (sym c.journal_error.ensures)
    (run-stopped site c.args.site.now c.loop-next.site c.next_fact.new.site c.args.self.now r c.loop-next.numbers.items c.next_fact.new.self c.loop-next.invariant (λ t i told le here. g.met.S.Site.counts_now c.loop-next.site t i told le here)
    c.in-Err.error c.in-Err.ensures.finds c.in-Err.ensures.reads)

pub returns-in_err-take_fact : goal.returns-in_err-take_fact
returns-in_err-take_fact g c =
    let site = g.S.Site in
    let r : Reading = c.loop-next.self in
    let finds = subst (λ (o : Option (ℕ × Fact)). FindsFact site (Ok o) r.journal c.loop-next.site c.next_fact.new.self c.next_fact.new.site) c.in-Some.is c.in-Ok.ensures.finds in
    let reads = subst (λ (o : Option (ℕ × Fact)). ReadsOn site (DamagedFact (site.shown c.loop-next.site).journal r.journal.place) (Ok o) (log_of r.journal) c.loop-next.site (log_of c.next_fact.new.self) c.next_fact.new.site) c.in-Some.is c.in-Ok.ensures.reads in
    let same : c.from_residual.result ≡ Err c.in_err-take_fact.field-0.0 = search rules in
    subst (λ x. ReadsFacts site x c.args.self.now c.args.site.now c.take_fact.new.self c.next_fact.new.site) (sym same)
    (run-refused site c.args.site.now c.loop-next.site c.next_fact.new.site c.args.self.now r c.loop-next.numbers.items c.next_fact.new.self c.loop-next.invariant (λ t i told le here. g.met.S.Site.counts_now c.loop-next.site t i told le here)
    c.in-Some.at c.in-Some.fact finds reads c.take_fact.new.self c.take_fact.new.numbers.items c.in_err-take_fact.field-0.0 c.in_err-take_fact.ensures)

pub returns-in_default : goal.returns-in_default
returns-in_default g c =
    let site = g.S.Site in
    let r : Reading = c.loop-next.self in
    let none : c.in-Ok.next ≡ None = search rules in
    let finds = subst (λ (o : Option (ℕ × Fact)). FindsFact site (Ok o) r.journal c.loop-next.site c.next_fact.new.self c.next_fact.new.site) none c.in-Ok.ensures.finds in
    let reads = subst (λ (o : Option (ℕ × Fact)). ReadsOn site (DamagedFact (site.shown c.loop-next.site).journal r.journal.place) (Ok o) (log_of r.journal) c.loop-next.site (log_of c.next_fact.new.self) c.next_fact.new.site) none c.in-Ok.ensures.reads in
    run-ended site c.args.site.now c.loop-next.site c.next_fact.new.site c.args.self.now r c.loop-next.numbers.items c.next_fact.new.self c.loop-next.invariant (λ t i told le here. g.met.S.Site.counts_now c.loop-next.site t i told le here) tt finds reads
