use Rattle.std.proofs.Common.{sym, subst}
use Rattle.std.proofs.lemmas.Result.{on_ok_weaker, on_err_weaker}
use Rattle.qc_site.specs.declared.site.SiteFile.TheVariants.{Journal, CrmLog, Snap}
use Rattle.qc_memsite.specs.Call.{Wrote}
use Rattle.qc_memsite.specs.Left.{Goes}
use Rattle.qc_memsite.proofs.Placed.{with_file, stays, wrote}
use Rattle.qc_memsite.proofs.content.Content.overwrite.Goals as goal

pub returns-in-Journal-clause-ok : goal.returns-in-Journal-clause-ok
returns-in-Journal-clause-ok c = on_ok_weaker c.overwrite.result (λ went. subst (λ f. Goes (Wrote f c.args.at c.args.bytes.now) c.args.self.now (with_file Journal c.overwrite.new.self c.args.self.now)) (sym c.in-Journal.is) (wrote Journal c.overwrite.new.self c.args.self.now c.args.at c.args.bytes.now went)) c.overwrite.ensures.ok

pub returns-in-Journal-clause-err : goal.returns-in-Journal-clause-err
returns-in-Journal-clause-err c = on_err_weaker c.overwrite.result (stays Journal c.overwrite.new.self c.args.self.now) c.overwrite.ensures.err

pub returns-in-CrmLog-clause-ok : goal.returns-in-CrmLog-clause-ok
returns-in-CrmLog-clause-ok c = on_ok_weaker c.overwrite-in-CrmLog.result (λ went. subst (λ f. Goes (Wrote f c.args.at c.args.bytes.now) c.args.self.now (with_file CrmLog c.overwrite-in-CrmLog.new.self c.args.self.now)) (sym c.in-CrmLog.is) (wrote CrmLog c.overwrite-in-CrmLog.new.self c.args.self.now c.args.at c.args.bytes.now went)) c.overwrite-in-CrmLog.ensures.ok

pub returns-in-CrmLog-clause-err : goal.returns-in-CrmLog-clause-err
returns-in-CrmLog-clause-err c = on_err_weaker c.overwrite-in-CrmLog.result (stays CrmLog c.overwrite-in-CrmLog.new.self c.args.self.now) c.overwrite-in-CrmLog.ensures.err

pub returns-in-Snap-clause-ok : goal.returns-in-Snap-clause-ok
returns-in-Snap-clause-ok c = on_ok_weaker c.overwrite-in-Snap.result (λ went. subst (λ f. Goes (Wrote f c.args.at c.args.bytes.now) c.args.self.now (with_file Snap c.overwrite-in-Snap.new.self c.args.self.now)) (sym c.in-Snap.is) (wrote Snap c.overwrite-in-Snap.new.self c.args.self.now c.args.at c.args.bytes.now went)) c.overwrite-in-Snap.ensures.ok

pub returns-in-Snap-clause-err : goal.returns-in-Snap-clause-err
returns-in-Snap-clause-err c = on_err_weaker c.overwrite-in-Snap.result (stays Snap c.overwrite-in-Snap.new.self c.args.self.now) c.overwrite-in-Snap.ensures.err
