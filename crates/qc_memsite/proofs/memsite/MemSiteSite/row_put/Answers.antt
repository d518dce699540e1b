use Rattle.std.proofs.Common.{◌≡◌, ℕ, Some, rules}
use Rattle.qc_memsite.specs.Call.{Put}
use Rattle.qc_memsite.specs.Shown.{shown_by}
use Rattle.qc_memsite.proofs.Moved.{shown_now, put_done_now, put_there_now, time_now}
use Rattle.qc_memsite.proofs.memsite.MemSiteSite.row_put.Goals as goal

pub returns-clause-put : goal.returns-clause-put
returns-clause-put c = shown_now c.args.self.now.kept c.put.new.self c.in-Ok.ensures.first (Put c.args.resource.now c.args.key.now c.args.amount) c.in-Ok.ensures.ok

pub returns-clause-crash : goal.returns-clause-crash
returns-clause-crash c =
    let there : (n : ℕ) × ((shown_by c.args.self.now.kept).rows c.args.resource.now c.args.key.now ≡ Some n) = search rules in
    put_there_now c.args.self.now.kept c.put.new.self c.in-Ok.ensures.first c.args.resource.now c.args.key.now c.args.amount c.in-Ok.ensures.ok there.0 there.1

pub returns-clause-certain : goal.returns-clause-certain
returns-clause-certain c = put_done_now c.args.self.now.kept c.put.new.self c.in-Ok.ensures.first c.args.resource.now c.args.key.now c.args.amount c.in-Ok.ensures.ok

pub returns-clause-time : goal.returns-clause-time
returns-clause-time c = time_now c.args.self.now.kept c.put.new.self c.in-Ok.ensures.first (Put c.args.resource.now c.args.key.now c.args.amount) c.in-Ok.ensures.ok
