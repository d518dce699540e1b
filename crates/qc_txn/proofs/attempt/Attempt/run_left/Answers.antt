use Rattle.std.proofs.Common.{rules, inl}
use Rattle.qc_txn.proofs.CallsLeft.{failed-here, ran-all, ran-on}
use Rattle.qc_txn.proofs.attempt.Attempt.run_left.Goals as goal

pub returns-in-Err-clause-ran : goal.returns-in-Err-clause-ran
returns-in-Err-clause-ran c = (failed-here c.args.catalogue.now c.args.self.now c.loop-self.self c.run_next.new.self c.loop-self.invariant c.in-Err.field-0 c.in-Err.ensures.ran).0

pub loop-self-preserved : goal.loop-self-preserved
loop-self-preserved c = ran-on c.args.catalogue.now c.args.self.now c.loop-self.self c.run_next.new.self c.loop-self.invariant c.in-Ok.field-0 c.in-Ok.ensures.ran c.in-Ok.ensures.plays

pub returns-clause-ran : goal.returns-clause-ran
returns-clause-ran c = (ran-all c.args.catalogue.now c.args.self.now c.loop-self.self c.loop-self.invariant c.stage.ensures.known.all (λ e. search rules)).0

pub returns-clause-ended : goal.returns-clause-ended
returns-clause-ended c = inl (ran-all c.args.catalogue.now c.args.self.now c.loop-self.self c.loop-self.invariant c.stage.ensures.known.all (λ e. search rules)).1
