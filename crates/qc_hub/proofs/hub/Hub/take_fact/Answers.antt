use Rattle.std.proofs.Common.{◌≡◌, Bool, true, false, sym, subst, rules, Ok, Err}
use Rattle.qc_history.specs.Taking.{TakesFact as Settles}
use Rattle.qc_hub.specs.Opening.{TakesFact}
use Rattle.qc_hub.proofs.OpeningTaken.{fact-refused, fact-starved, fact-taken}
use Rattle.qc_hub.proofs.hub.Hub.take_fact.Goals as goal

pub returns-in-Ok-true : goal.returns-in-Ok-true
returns-in-Ok-true c =
    let goes : c.in-Ok-true.field-0 ≡ true = search rules in
    fact-taken c.args.at c.args.fact c.args.self.now c.args.numbers.now.items c.take.new.self c.take.new.numbers.items
    (subst (λ (b : Bool). Settles c.args.fact (Ok b) c.args.self.now.history c.args.numbers.now.items c.take.new.self c.take.new.numbers.items) goes c.in-Ok-true.ensures)

pub returns-in-Ok-false : goal.returns-in-Ok-false
returns-in-Ok-false c =
    let stops : c.in-Ok-false.field-0 ≡ false = search rules in
    subst (λ e. TakesFact c.args.at c.args.fact (Err e) c.args.self.now c.args.numbers.now.items (record c.args.self.now { history = c.take.new.self }) c.take.new.numbers.items) (sym c.damaged.ensures)
    (fact-refused c.args.at c.args.fact c.args.self.now c.args.numbers.now.items c.take.new.self c.take.new.numbers.items
    (subst (λ (b : Bool). Settles c.args.fact (Ok b) c.args.self.now.history c.args.numbers.now.items c.take.new.self c.take.new.numbers.items) stops c.in-Ok-false.ensures))

pub returns-in-Err : goal.returns-in-Err
returns-in-Err c = fact-starved c.args.at c.args.fact c.args.self.now c.args.numbers.now.items c.take.new.self c.take.new.numbers.items
