use Rattle.std.proofs.Common.{◌≡◌, ◌∙◌, List, ℕ, true, sym, ap, subst, rules, Ok}
use Rattle.qc_base.specs.declared.fact.Fact.{Fact}
use Rattle.qc_base.specs.declared.fact.Fact.TheVariants.{Catalogue as InForce, Moved}
use Rattle.qc_base.specs.Spelling.{is_fact}
use Rattle.qc_history.specs.Taking.{TakesFact}
use Rattle.qc_history.proofs.history.History.take.Goals as goal

pub returns-in-Catalogue : goal.returns-in-Catalogue
returns-in-Catalogue c =
    let numbers = c.args.numbers.now.items in
    subst (λ (f : Fact). TakesFact f c.take_catalogue.result c.args.self.now numbers c.take_catalogue.new.self numbers) (ap (λ (t : List ℕ). InForce t) c.as_slice.ensures ∙ sym c.in-Catalogue.is) (c.take_catalogue.ensures numbers)

pub take_sent-requires-clause-limits : goal.take_sent-requires-clause-limits
take_sent-requires-clause-limits c = search rules

pub take_sent-requires-clause-few : goal.take_sent-requires-clause-few
take_sent-requires-clause-few c = c.requires.few

pub returns-in-Sent : goal.returns-in-Sent
returns-in-Sent c =
    let numbers = c.args.numbers.now.items in
    subst (λ (f : Fact). TakesFact f c.take_sent.result c.args.self.now numbers c.take_sent.new.self numbers) (sym c.in-Sent.is) (c.take_sent.ensures numbers)

pub take_end-requires : goal.take_end-requires
take_end-requires c = c.requires.few

pub returns-in-Played : goal.returns-in-Played
returns-in-Played c =
    subst (λ (f : Fact). TakesFact f c.take_end.result c.args.self.now c.args.numbers.now.items c.take_end.new.self c.take_end.new.numbers.items) (sym c.in-Played.is) c.take_end.ensures

pub take_end-requires-in-Failed : goal.take_end-requires-in-Failed
take_end-requires-in-Failed c = c.requires.few

pub returns-in-Failed : goal.returns-in-Failed
returns-in-Failed c =
    subst (λ (f : Fact). TakesFact f c.take_end-in-Failed.result c.args.self.now c.args.numbers.now.items c.take_end-in-Failed.new.self c.take_end-in-Failed.new.numbers.items) (sym c.in-Failed.is) c.take_end-in-Failed.ensures

pub take_moved-requires-clause-limits : goal.take_moved-requires-clause-limits
take_moved-requires-clause-limits c =
    let told : Moved c.in-Moved.app c.in-Moved.queue c.in-Moved.at c.as_slice-in-Moved.result.now ≡ c.args.fact =
    ap (λ (ids : List ℕ). Moved c.in-Moved.app c.in-Moved.queue c.in-Moved.at ids) c.as_slice-in-Moved.ensures ∙ sym c.in-Moved.is
    in
    subst (λ (f : Fact). is_fact f ≡ true) (sym told) c.requires.limits

pub take_moved-requires-clause-few : goal.take_moved-requires-clause-few
take_moved-requires-clause-few c = c.requires.few

pub returns-in-Moved : goal.returns-in-Moved
returns-in-Moved c =
    let numbers = c.args.numbers.now.items in
    let told : Moved c.in-Moved.app c.in-Moved.queue c.in-Moved.at c.as_slice-in-Moved.result.now ≡ c.args.fact =
    ap (λ (ids : List ℕ). Moved c.in-Moved.app c.in-Moved.queue c.in-Moved.at ids) c.as_slice-in-Moved.ensures ∙ sym c.in-Moved.is
    in
    subst (λ (f : Fact). TakesFact f (Ok c.take_moved.result) c.args.self.now numbers c.take_moved.new.self numbers) told (c.take_moved.ensures numbers)

pub take_switched-requires : goal.take_switched-requires
take_switched-requires c = c.requires.few

pub returns-in-Switched : goal.returns-in-Switched
returns-in-Switched c =
    let numbers = c.args.numbers.now.items in
    subst (λ (f : Fact). TakesFact f c.take_switched.result c.args.self.now numbers c.take_switched.new.self numbers) (sym c.in-Switched.is) (c.take_switched.ensures numbers)
