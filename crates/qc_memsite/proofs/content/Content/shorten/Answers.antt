use Rattle.std.proofs.Common.{sym, subst}
use Rattle.std.proofs.lemmas.Result.{on_ok_weaker, on_err_weaker}
use Rattle.qc_site.specs.declared.site.SiteFile.TheVariants.{Journal, CrmLog, Snap}
use Rattle.qc_memsite.specs.Call.{CutTo}
use Rattle.qc_memsite.specs.Left.{Goes}
use Rattle.qc_memsite.proofs.Placed.{with_file, stays, cut}
use Rattle.qc_memsite.proofs.content.Content.shorten.Goals as goal

pub returns-in-Journal-clause-ok : goal.returns-in-Journal-clause-ok
returns-in-Journal-clause-ok c = on_ok_weaker c.shorten.result (λ went. subst (λ f. Goes (CutTo f c.args.len) c.args.self.now (with_file Journal c.shorten.new.self c.args.self.now)) (sym c.in-Journal.is) (cut Journal c.shorten.new.self c.args.self.now c.args.len went)) c.shorten.ensures.ok

pub returns-in-Journal-clause-err : goal.returns-in-Journal-clause-err
returns-in-Journal-clause-err c = on_err_weaker c.shorten.result (stays Journal c.shorten.new.self c.args.self.now) c.shorten.ensures.err

pub returns-in-CrmLog-clause-ok : goal.returns-in-CrmLog-clause-ok
returns-in-CrmLog-clause-ok c = on_ok_weaker c.shorten-in-CrmLog.result (λ went. subst (λ f. Goes (CutTo f c.args.len) c.args.self.now (with_file CrmLog c.shorten-in-CrmLog.new.self c.args.self.now)) (sym c.in-CrmLog.is) (cut CrmLog c.shorten-in-CrmLog.new.self c.args.self.now c.args.len went)) c.shorten-in-CrmLog.ensures.ok

pub returns-in-CrmLog-clause-err : goal.returns-in-CrmLog-clause-err
returns-in-CrmLog-clause-err c = on_err_weaker c.shorten-in-CrmLog.result (stays CrmLog c.shorten-in-CrmLog.new.self c.args.self.now) c.shorten-in-CrmLog.ensures.err

pub returns-in-Snap-clause-ok : goal.returns-in-Snap-clause-ok
returns-in-Snap-clause-ok c = on_ok_weaker c.shorten-in-Snap.result (λ went. subst (λ f. Goes (CutTo f c.args.len) c.args.self.now (with_file Snap c.shorten-in-Snap.new.self c.args.self.now)) (sym c.in-Snap.is) (cut Snap c.shorten-in-Snap.new.self c.args.self.now c.args.len went)) c.shorten-in-Snap.ensures.ok

pub returns-in-Snap-clause-err : goal.returns-in-Snap-clause-err
returns-in-Snap-clause-err c = on_err_weaker c.shorten-in-Snap.result (stays Snap c.shorten-in-Snap.new.self c.args.self.now) c.shorten-in-Snap.ensures.err
