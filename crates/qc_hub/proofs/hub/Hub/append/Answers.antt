use Rattle.std.proofs.Common.{ap, arith}
use Rattle.qc_journal.specs.Journal.{JournalView}
use Rattle.qc_hub.proofs.Added.{append-done, append-failed}
use Rattle.qc_hub.proofs.hub.Hub.append.Goals as goal

pub returns-in-Err : goal.returns-in-Err
returns-in-Err g c = append-failed g.S.Site c.args.self.now c.args.site.now c.append_forced.new.site c.args.fact.now c.append_forced.new.self _ c.in-Err.ensures

pub returns-in-Ok : goal.returns-in-Ok
returns-in-Ok g c =
    append-done g.S.Site c.args.self.now c.args.site.now c.append_forced.new.site c.args.fact.now c.append_forced.new.self _ c.in-Ok.ensures
    (omega (arith, c.requires.counted, ap (λ (j : JournalView). j.length) c.in-Ok.ensures.journal, c.length.ensures))
