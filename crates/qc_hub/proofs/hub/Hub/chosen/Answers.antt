use Rattle.std.proofs.Common.{◌≡◌, ◌∙◌, ℕ, List, not, true, false, sym, ap, rules, Some}
use Rattle.qc_catalogue.specs.Lookup.{app_named}
use Rattle.qc_machine.specs.History.{is_on}
use Rattle.qc_hub.specs.declared.hub.Hub.{Hub}
use Rattle.qc_hub.proofs.Asked.{found-name}
use Rattle.qc_hub.proofs.Taken.{chose-busy, chose-none, chose-off, chose-one, chose-unknown, chosen-in}
use Rattle.qc_hub.proofs.hub.Hub.chosen.Goals as goal

pub returns-in-Some : goal.returns-in-Some
returns-in-Some c s h = chose-busy c.args.self.now s h c.args.player c.args.app.now c.in-Some.refusal (sym c.busy.ensures ∙ c.in-Some.is)

pub returns-in_default-app : goal.returns-in_default-app
returns-in_default-app c s h = chose-unknown c.args.self.now s h c.args.player c.args.app.now (sym c.busy.ensures ∙ c.in_default.is) (search rules)

pub returns-then-is_off : goal.returns-then-is_off
returns-then-is_off c s h =
    let hub : Hub = c.args.self.now in
    let found : app_named c.args.app.now hub.history.catalogue.apps ≡ Some c.in-Some-app.app.now = search rules in
    let named = found-name hub.history.catalogue.apps c.args.app.now c.in-Some-app.app.now found in
    let off : c.is_off.result ≡ true = search rules in
    chose-off hub s h c.args.player c.args.app.now (sym c.busy.ensures ∙ c.in_default.is) c.in-Some-app.app.now found
    (ap (λ (name : List ℕ). not (is_on name s.history)) (sym named) ∙ sym (c.is_off.ensures s.history h.history) ∙ off)

pub returns-in-Take : goal.returns-in-Take
returns-in-Take c s h =
    let hub : Hub = c.args.self.now in
    let found : app_named c.args.app.now hub.history.catalogue.apps ≡ Some c.in-Some-app.app.now = search rules in
    let named = found-name hub.history.catalogue.apps c.args.app.now c.in-Some-app.app.now found in
    let on : c.is_off.result ≡ false = search rules in
    chose-one hub s h c.args.player c.args.app.now (sym c.busy.ensures ∙ c.in_default.is) c.in-Some-app.app.now found
    (ap (λ (name : List ℕ). not (is_on name s.history)) (sym named) ∙ sym (c.is_off.ensures s.history h.history) ∙ on)
    c.held.result.now c.in-Some-app.app.now.name c.choose.result c.held.ensures named
    (chosen-in _ hub.history.store _ _ _ _ _ c.store-store.ensures c.choose.ensures hub.history.catalogue (c.rows-rows.ensures.kept c.in-Some-app.app.now.name))
    c.in-Take.id c.in-Take.is

pub returns-in-NothingDue : goal.returns-in-NothingDue
returns-in-NothingDue c s h =
    let hub : Hub = c.args.self.now in
    let found : app_named c.args.app.now hub.history.catalogue.apps ≡ Some c.in-Some-app.app.now = search rules in
    let named = found-name hub.history.catalogue.apps c.args.app.now c.in-Some-app.app.now found in
    let on : c.is_off.result ≡ false = search rules in
    chose-none hub s h c.args.player c.args.app.now (sym c.busy.ensures ∙ c.in_default.is) c.in-Some-app.app.now found
    (ap (λ (name : List ℕ). not (is_on name s.history)) (sym named) ∙ sym (c.is_off.ensures s.history h.history) ∙ on)
    c.held.result.now c.in-Some-app.app.now.name c.choose.result c.held.ensures named
    (chosen-in _ hub.history.store _ _ _ _ _ c.store-store.ensures c.choose.ensures hub.history.catalogue (c.rows-rows.ensures.kept c.in-Some-app.app.now.name))
    c.in-NothingDue.earliest c.in-NothingDue.blocked c.in-NothingDue.is
