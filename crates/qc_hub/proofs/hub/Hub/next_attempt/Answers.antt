use Rattle.std.proofs.Common.{rules}
use Rattle.qc_hub.proofs.Room.{has-next, has-no-next}
use Rattle.qc_hub.proofs.hub.Hub.next_attempt.Goals as goal

pub returns-then-greatest-lt-LAST_ATTEMPT : goal.returns-then-greatest-lt-LAST_ATTEMPT
returns-then-greatest-lt-LAST_ATTEMPT c s h = has-next c.args.self.now s h c.if-settled-held.greatest (search rules) (search rules)

pub returns-else-greatest-lt-LAST_ATTEMPT : goal.returns-else-greatest-lt-LAST_ATTEMPT
returns-else-greatest-lt-LAST_ATTEMPT c s h = has-no-next c.args.self.now s h c.if-settled-held.greatest (search rules) (search rules)
