use Rattle.std.proofs.Common.{◌≡◌, ◌∙◌, Bool, true, false, List, ℕ, sym, ap, subst, rules, Err}
use Rattle.std.specs.declared.result.Result.{Result}
use Rattle.std.specs.Prelude.{is_none}
use Rattle.qc_base.specs.declared.fact.Fact.TheVariants.{Switched}
use Rattle.qc_base.specs.declared.number.NoMemory.{NoMemory}
use Rattle.qc_catalogue.specs.declared.catalogue.Catalogue.{Catalogue}
use Rattle.qc_catalogue.specs.Lookup.{app_named}
use Rattle.qc_history.specs.Taking.{TakesFact}
use Rattle.qc_history.specs.View.{HistoryView}
use Rattle.qc_history.proofs.Follows.{early-switch, starves, switch-taken, unknown-switch}
use Rattle.qc_history.proofs.Taken.{looked-up}
use Rattle.qc_history.proofs.history.History.take_switched.Goals as goal

pub returns-then-not-is_later : goal.returns-then-not-is_later
returns-then-not-is_later c = λ numbers.
    let old : HistoryView = c.args.self.now in
    let early : c.is_later.result ≡ false = search rules in
    early-switch old numbers c.args.app c.args.on c.args.at (sym c.is_later.ensures ∙ early)

pub returns-then-is_none : goal.returns-then-is_none
returns-then-is_none c = λ numbers.
    let old : HistoryView = c.args.self.now in
    let none : is_none c.app.result ≡ true = search rules in
    unknown-switch old numbers c.args.app c.args.on c.args.at
    (looked-up _ c.app.result (app_named c.args.app old.catalogue.apps) true
    (c.app.ensures ∙ ap (λ (n : List ℕ). app_named n c.catalogue.result.now.apps) c.as_bytes.ensures.value ∙ ap (λ (k : Catalogue). app_named c.args.app k.apps) c.catalogue.ensures) none)

pub returns-in_err-reserve_switch : goal.returns-in_err-reserve_switch
returns-in_err-reserve_switch c = λ numbers.
    let old : HistoryView = c.args.self.now in
    let is : c.from_residual.result ≡ Err c.in_err-reserve_switch.field-0.0 = search rules in
    subst (λ (r : Result Bool NoMemory). TakesFact (Switched c.args.app c.args.on c.args.at) r old numbers c.reserve_switch.new.self numbers) (sym is)
    (starves old numbers c.reserve_switch.new.self c.reserve_switch.ensures.aside)

pub switch-requires : goal.switch-requires
switch-requires c = c.in_ok-reserve_switch.ensures.room

pub returns : goal.returns
returns c = λ numbers.
    let old : HistoryView = c.args.self.now in
    let later : c.is_later.result ≡ true = search rules in
    let some : is_none c.app.result ≡ false = search rules in
    switch-taken old numbers c.args.app c.args.on c.args.at c.reserve_switch.new.self c.switch.new.self c.reserve_switch.ensures.aside c.switch.ensures (sym c.is_later.ensures ∙ later)
    (looked-up _ c.app.result (app_named c.args.app old.catalogue.apps) false
    (c.app.ensures ∙ ap (λ (n : List ℕ). app_named n c.catalogue.result.now.apps) c.as_bytes.ensures.value ∙ ap (λ (k : Catalogue). app_named c.args.app k.apps) c.catalogue.ensures) some)
    c.requires
