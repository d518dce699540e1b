use Rattle.std.proofs.Common.{◌≡◌, drop}
use Rattle.qc_machine.specs.Moving.{queue_named}
use Rattle.qc_hub.proofs.route.queue_named.Given as goal

abbrev pub invariant-loop-app : goal.invariant-loop-app
invariant-loop-app l = queue_named l.name (drop l.app-index l.apps) ≡ queue_named l.name l.apps
