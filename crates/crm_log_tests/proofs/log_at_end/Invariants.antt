use Rattle.std.proofs.Common.{◌≡◌, List, [], map}
use Rattle.qc_base.specs.declared.log_line.LogLine.{LogLine}
use Rattle.qc_site.specs.declared.site.SiteFile.TheVariants.{CrmLog as the_file}
use Rattle.qc_frame.specs.Calls.{LogStands}
use Rattle.qc_entries.specs.Entries.{way_left}
use Rattle.crm_log.specs.Log.{SpellsLog, all_lines}
use Rattle.crm_log_tests.proofs.Reading.{ReadSoFar}
use Rattle.crm_log_tests.proofs.log_at_end.Given as goal

abbrev pub invariant-loop-lines : goal.invariant-loop-lines
invariant-loop-lines g l = LogStands g.S.Site l.log.log l.site × (l.log.log.payload ≡ []) × (l.log.log.file ≡ the_file)
    × (g.S.Site.told → (log : List (List LogLine)) → SpellsLog (g.S.Site.shown l.fn.site).crm_log log
    → ReadSoFar (g.S.Site.shown l.site).crm_log l.log (all_lines log) (map (λ p. p.1) l.lines.items))

abbrev pub decreases-loop-lines : goal.decreases-loop-lines
decreases-loop-lines g l = way_left l.log
