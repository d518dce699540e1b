use Rattle.std.proofs.Common.{◌≡◌, ◌≤◌, ◌-◌, map}
use Rattle.qc_site.specs.Image.{bytes_of}
use Rattle.qc_site.specs.Disk.{LeavesOnly}
use Rattle.qc_frame.specs.Gate.{After}
use Rattle.qc_frame.specs.Log.{StandsOn, ReadTo, SameFrom}
use Rattle.qc_frame.proofs.runs.read_to_end.Given as goal

abbrev pub invariant-loop-read : goal.invariant-loop-read
invariant-loop-read g l = record {
  kept : l.log ≡ record l.fn.log { place = l.log.place };
  faults : g.S.Site.faults l.fn.site ≤ g.S.Site.faults l.site;
  still : g.S.Site.told → g.S.Site.shown l.site ≡ g.S.Site.shown l.fn.site;
  stands : g.S.Site.told → StandsOn (bytes_of l.log.file (g.S.Site.shown l.site)) (g.S.Site.may_leave l.site) l.log;
  so_far : g.S.Site.told → ReadTo (bytes_of l.fn.log.file (g.S.Site.shown l.fn.site)) l.fn.log.place l.log.place (map (λ group. map (λ e. e.bytes) group.entries) l.read.items);
  moments : g.S.Site.told → LeavesOnly g.S.Site.moment g.S.Site.left_since l.fn.site l.site (After l.fn.log.file (SameFrom l.fn.log.start) (g.S.Site.may_leave l.fn.site));
}

abbrev pub decreases-loop-read : goal.decreases-loop-read
decreases-loop-read g l = 4611686018427387904 - l.log.place
