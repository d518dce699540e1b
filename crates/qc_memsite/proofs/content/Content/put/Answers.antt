use Rattle.std.proofs.lemmas.Result.{on_ok_weaker, on_err_weaker}
use Rattle.qc_memsite.proofs.Placed.{rows_stay, put}
use Rattle.qc_memsite.proofs.content.Content.put.Goals as goal

pub returns-clause-ok : goal.returns-clause-ok
returns-clause-ok c = on_ok_weaker c.set.result (put c.set.new.self c.args.self.now c.args.resource.now c.args.key.now c.args.amount) c.set.ensures.ok

pub returns-clause-err : goal.returns-clause-err
returns-clause-err c = on_err_weaker c.set.result (rows_stay c.set.new.self c.args.self.now) c.set.ensures.err
