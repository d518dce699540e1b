use Rattle.std.proofs.Common.{◌≡◌, Bool, true, refl, sym, subst, append-nil, rules, Ok, Some, None}
use Rattle.qc_history.specs.Taking.{TakesFact as Settles}
use Rattle.qc_machine.specs.Sound.{ended_by}
use Rattle.qc_recovery.proofs.OpeningTaken.{fact-taken}
use Rattle.qc_recovery.proofs.reading.Reading.take_fact.Goals as goal

pub returns-in-Ok : goal.returns-in-Ok
returns-in-Ok c =
    let goes : c.in-Ok-true.field-0 ≡ true = search rules in
    let ends : ended_by c.args.fact ≡ Some c.in-Some.end = search rules in
    fact-taken c.args.at c.args.fact c.args.self.now (record c.args.self.now { history = c.take.new.self; ended = c.push.new.self }) c.args.numbers.now.items c.take.new.numbers.items refl (Some c.in-Some.end) ends c.in-Ok.ensures.items
    (subst (λ (b : Bool). Settles c.args.fact (Ok b) c.args.self.now.history c.args.numbers.now.items c.take.new.self c.take.new.numbers.items) goes c.in-Ok-true.ensures)

pub returns-in_default : goal.returns-in_default
returns-in_default c =
    let goes : c.in-Ok-true.field-0 ≡ true = search rules in
    let ends : ended_by c.args.fact ≡ None = search rules in
    fact-taken c.args.at c.args.fact c.args.self.now (record c.args.self.now { history = c.take.new.self }) c.args.numbers.now.items c.take.new.numbers.items refl None ends (sym (append-nil c.args.self.now.ended.items))
    (subst (λ (b : Bool). Settles c.args.fact (Ok b) c.args.self.now.history c.args.numbers.now.items c.take.new.self c.take.new.numbers.items) goes c.in-Ok-true.ensures)
