use Rattle.std.proofs.Common.{◌≡◌, ◌∙◌, ◌==◌, ℕ, List, Bool, true, false, sym, ap, subst, rules, Option, is_some, Err}
use Rattle.std.specs.declared.result.Result.{Result}
use Rattle.std.specs.List.{list_any}
use Rattle.std.specs.Prelude.{is_none}
use Rattle.qc_base.specs.declared.fact.Kind.{Kind}
use Rattle.qc_base.specs.declared.log_line.Why.{Why}
use Rattle.qc_base.specs.declared.number.NoMemory.{NoMemory}
use Rattle.qc_store.specs.Live.{is_waiting}
use Rattle.qc_txn.specs.Attempt.{AttemptView}
use Rattle.qc_history.specs.Playing.{IsPlayedAgain, fact_read}
use Rattle.qc_history.specs.Taking.{Takes, TakesFact}
use Rattle.qc_history.specs.View.{HistoryView}
use Rattle.qc_history.proofs.Follows.{early-end, end-not-due, end-not-new, end-not-played, end-otherwise, end-taken, end-unfit, kind-waits, starves}
use Rattle.qc_history.proofs.Settled.{aside-none}
use Rattle.qc_history.proofs.Taken.{test-differs, test-same}
use Rattle.qc_history.proofs.history.History.take_end.Goals as goal

pub returns-then-not-is_later : goal.returns-then-not-is_later
returns-then-not-is_later c =
    let early : c.is_later.result ≡ false = search rules in
    early-end c.args.self.now c.args.numbers.now.items c.args.id c.args.number c.args.at c.args.committed (sym c.is_later.ensures ∙ early)

pub returns-then-not-is_due : goal.returns-then-not-is_due
returns-then-not-is_due c =
    let waits : c.is_due.result ≡ false = search rules in
    end-not-due c.args.self.now c.args.numbers.now.items c.args.id c.args.number c.args.at c.args.committed (sym c.is_due.ensures ∙ waits)

pub returns-then-contains : goal.returns-then-contains
returns-then-contains c =
    let there : c.contains.result ≡ true = search rules in
    end-not-new c.args.self.now c.args.numbers.now.items c.args.id c.args.number c.args.at c.args.committed
    (ap (λ (l : List ℕ). list_any (λ n. n == c.args.number) l) (sym c.deref.ensures.value) ∙ sym c.contains.ensures.value ∙ there)

pub returns-in_default : goal.returns-in_default
returns-in_default c = end-not-played c.args.self.now c.args.numbers.now.items c.args.id c.args.number c.args.at c.args.committed (sym c.in_default.ensures)

pub returns-then-not-fits_kind : goal.returns-then-not-fits_kind
returns-then-not-fits_kind c =
    let unfit : c.fits_kind.result ≡ false = search rules in
    end-unfit c.args.self.now c.args.numbers.now.items c.args.id c.args.number c.args.at c.args.committed c.in-Some.kind (sym c.in-Some.ensures) (sym c.fits_kind.ensures ∙ unfit)

pub play_again-requires : goal.play_again-requires
play_again-requires c = ap (λ (o : Option Kind). is_some o) (sym c.in-Some.ensures)

pub returns-in_err-attempt : goal.returns-in_err-attempt
returns-in_err-attempt c =
    let old : HistoryView = c.args.self.now in
    let numbers = c.args.numbers.now.items in
    let is : c.from_residual.result ≡ Err c.in_err-attempt.field-0.0 = search rules in
    subst (λ (r : Result Bool NoMemory). TakesFact (fact_read c.args.id c.args.number c.args.at c.args.committed) r old numbers old numbers) (sym is) (starves old numbers old (aside-none old))

pub returns-then-is_none-is_some : goal.returns-then-is_none-is_some
returns-then-is_none-is_some c =
    let a : AttemptView = c.in_ok-attempt.attempt in
    let fits : c.fits_kind.result ≡ true = search rules in
    let none : c.is_none.result ≡ is_none c.why.result = search rules in
    let some : c.is_some.result ≡ is_some c.args.committed = search rules in
    let ends : c.is_none.result ≡ is_none a.why = none ∙ ap (λ (o : Option Why). is_none o) c.why.ensures in
    let differ : c.is_none.result ≡ c.is_some.result → ⊥ = search rules in
    end-otherwise c.args.self.now c.args.numbers.now.items c.args.id c.args.number c.args.at c.args.committed c.in-Some.kind (sym c.in-Some.ensures) a c.in_ok-attempt.ensures (sym c.fits_kind.ensures ∙ fits)
    (test-differs (is_none a.why) (is_some c.args.committed) (λ e. differ (ends ∙ e ∙ sym some)))

pub returns-in_err-reserve : goal.returns-in_err-reserve
returns-in_err-reserve c =
    let old : HistoryView = c.args.self.now in
    let numbers = c.args.numbers.now.items in
    let is : c.from_residual-in_err-reserve.result ≡ Err c.in_err-reserve.field-0.0 = search rules in
    subst (λ (r : Result Bool NoMemory). TakesFact (fact_read c.args.id c.args.number c.args.at c.args.committed) r old numbers c.reserve.new.self numbers) (sym is) (starves old numbers c.reserve.new.self c.reserve.ensures.aside)

pub returns-in_default-push : goal.returns-in_default-push
returns-in_default-push c = record { aside = c.reserve.ensures.aside; numbers = search rules }

pub end-requires-clause-waiting : goal.end-requires-clause-waiting
end-requires-clause-waiting c =
    let old : HistoryView = c.args.self.now in
    let a : AttemptView = c.in_ok-attempt.attempt in
    let again : IsPlayedAgain old c.args.id c.args.number a = c.in_ok-attempt.ensures in
    ap (λ (v : HistoryView). is_waiting a.id v.store.messages) c.reserve.ensures.aside.kept ∙ ap (λ n. is_waiting n old.store.messages) again.id
    ∙ kind-waits old.catalogue c.args.id old.store.messages c.in-Some.kind (sym c.in-Some.ensures)

pub end-requires-clause-reserved : goal.end-requires-clause-reserved
end-requires-clause-reserved c = c.in_ok-reserve.ensures.reserved

pub returns : goal.returns
returns c =
    let old : HistoryView = c.args.self.now in
    let numbers = c.args.numbers.now.items in
    let number = c.args.number in
    let a : AttemptView = c.in_ok-attempt.attempt in
    let later : c.is_later.result ≡ true = search rules in
    let due : c.is_due.result ≡ true = search rules in
    let fresh : c.contains.result ≡ false = search rules in
    let fits : c.fits_kind.result ≡ true = search rules in
    let none : c.is_none.result ≡ is_none c.why.result = search rules in
    let some : c.is_some.result ≡ is_some c.args.committed = search rules in
    let ends : c.is_none.result ≡ is_none a.why = none ∙ ap (λ (o : Option Why). is_none o) c.why.ensures in
    let same : c.is_none.result ≡ c.is_some.result = search rules in
    subst (λ (l : List ℕ). Takes (fact_read c.args.id number c.args.at c.args.committed) old numbers c.end.new.self l) (sym c.in-Ok.ensures.items)
    (end-taken old numbers c.args.id number c.args.at c.args.committed c.in-Some.kind (sym c.in-Some.ensures) a c.in_ok-attempt.ensures (sym c.fits_kind.ensures ∙ fits) c.reserve.new.self c.end.new.self
    c.reserve.ensures.aside c.end.ensures (sym c.is_later.ensures ∙ later) (sym c.is_due.ensures ∙ due)
    (ap (λ (l : List ℕ). list_any (λ n. n == number) l) (sym c.deref.ensures.value) ∙ sym c.contains.ensures.value ∙ fresh)
    (test-same (is_none a.why) (is_some c.args.committed) (sym ends ∙ same ∙ some)) c.requires)
