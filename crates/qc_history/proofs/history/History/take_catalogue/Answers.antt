use Rattle.std.proofs.Common.{◌≡◌, ◌≢◌, Bool, sym, subst, arith, rules, Err}
use Rattle.std.specs.declared.result.Result.{Result}
use Rattle.qc_base.specs.declared.fact.Fact.TheVariants.{Catalogue as InForce}
use Rattle.qc_base.specs.declared.number.NoMemory.{NoMemory}
use Rattle.qc_history.specs.Taking.{Takes, TakesFact}
use Rattle.qc_history.specs.View.{HistoryView}
use Rattle.qc_history.proofs.Follows.{first-taken, second-refused, starves, text-refused}
use Rattle.qc_history.proofs.Settled.{aside-none}
use Rattle.qc_history.proofs.history.History.take_catalogue.Goals as goal

pub returns-then-facts-ne0 : goal.returns-then-facts-ne0
returns-then-facts-ne0 c = λ numbers.
    let old : HistoryView = c.args.self.now in
    let some : old.facts ≢ 0 = omega arith in
    second-refused old numbers c.args.text.now some

pub returns-in-Err-NoMemory : goal.returns-in-Err-NoMemory
returns-in-Err-NoMemory c = λ numbers. starves c.args.self.now numbers c.args.self.now (aside-none c.args.self.now)

pub returns-in-Err : goal.returns-in-Err
returns-in-Err c = λ numbers. text-refused c.args.self.now numbers c.args.text.now c.in-Err.field-0 (c.in-Err.ensures.refused (search rules))

pub make-requires : goal.make-requires
make-requires c = c.lists_stand_in_order.ensures c.args.text.now c.in-Ok.catalogue c.in-Ok.ensures.catalogue

pub returns-in_err-tables : goal.returns-in_err-tables
returns-in_err-tables c = λ numbers.
    let old : HistoryView = c.args.self.now in
    let is : c.from_residual.result ≡ Err c.in_err-tables.field-0.0 = search rules in
    subst (λ (r : Result Bool NoMemory). TakesFact (InForce c.args.text.now) r old numbers old numbers) (sym is) (starves old numbers old (aside-none old))

pub returns-in_err-outside : goal.returns-in_err-outside
returns-in_err-outside c = λ numbers.
    let old : HistoryView = c.args.self.now in
    let is : c.from_residual-in_err-outside.result ≡ Err c.in_err-outside.field-0.0 = search rules in
    subst (λ (r : Result Bool NoMemory). TakesFact (InForce c.args.text.now) r old numbers old numbers) (sym is) (starves old numbers old (aside-none old))

pub begin_with-requires : goal.begin_with-requires
begin_with-requires c = omega arith

pub returns : goal.returns
returns c = λ numbers.
    let old : HistoryView = c.args.self.now in
    let first : old.facts ≡ 0 = omega arith in
    subst (λ (v : HistoryView). Takes (InForce c.args.text.now) old numbers v numbers) (sym c.begin_with.ensures.is)
    (first-taken old numbers c.args.text.now c.in-Ok.catalogue c.in_ok-tables.tables c.in_ok-outside.outside c.in-Ok.ensures.catalogue c.in_ok-tables.ensures c.in_ok-outside.ensures first c.begin_with.ensures.none)
