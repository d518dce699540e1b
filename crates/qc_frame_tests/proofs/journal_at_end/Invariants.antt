use Rattle.std.proofs.Common.{◌-◌}
use Rattle.qc_frame.specs.Calls.{LogStands}
use Rattle.qc_journal.specs.Journal.{log_of}
use Rattle.qc_frame_tests.proofs.journal_at_end.Given as goal

abbrev pub invariant-loop-facts : goal.invariant-loop-facts
invariant-loop-facts g l = LogStands g.S.Site (log_of l.journal) l.site

abbrev pub decreases-loop-facts : goal.decreases-loop-facts
decreases-loop-facts g l = 4611686018427387904 - l.journal.place
