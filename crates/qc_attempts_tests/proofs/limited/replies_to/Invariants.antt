use Rattle.qc_hub.specs.Calls.{IsReady}
use Rattle.qc_attempts_tests.proofs.limited.replies_to.Given as goal

-- the hub takes a further line
abbrev pub invariant-loop-line : goal.invariant-loop-line
invariant-loop-line g l = IsReady g.S.Site l.hub l.site
