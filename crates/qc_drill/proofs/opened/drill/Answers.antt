use Rattle.std.proofs.Common.{◌≡◌, ◌∙◌, sym, ap, subst, ⊎_elim, Err}
use Rattle.std.specs.declared.result.Result.{Result}
use Rattle.qc_protocol.specs.declared.status.Status.{Status}
use Rattle.qc_machine.specs.declared.error.OpenError.{OpenError}
use Rattle.qc_machine.specs.declared.error.OpenError.TheVariants.{SiteFault, NotMade, NoCatalogue, Damaged, NoMemory}
use Rattle.qc_hub.specs.declared.hub.Hub.{Hub}
use Rattle.qc_hub.specs.Calls.{OpensSite}
use Rattle.qc_drill.specs.Headline.{programs_limits, Drills}
use Rattle.qc_drill.proofs.Causes.{cause-other, cause-joined, no-cause, status-source, status-sink, status-site}
use Rattle.qc_drill.proofs.Openings.{fault-drills, memory-drills, unmade-drills, empty-drills, damaged-drills, opened-drills, line-told}
use Rattle.qc_drill.proofs.opened.drill.Goals as goal

pub returns-in-Err-SiteFault-clause-drills : goal.returns-in-Err-SiteFault-clause-drills
returns-in-Err-SiteFault-clause-drills g c =
    let is : c.open.result ≡ Err SiteFault = c.in-Err-SiteFault.is ∙ ap (λ (e : OpenError). Err e) c.in-Err-SiteFault.field-0-is in
    fault-drills g.S.Site c.args.site.now c.open.new.site _ _ (λ site t i told le here. g.met.S.Site.counts_now site t i told le here)
    (subst (λ (r : Result Hub OpenError). OpensSite g.S.Site programs_limits r c.args.site.now c.open.new.site) is c.open.ensures)

pub returns-in-Err-NotMade-clause-drills : goal.returns-in-Err-NotMade-clause-drills
returns-in-Err-NotMade-clause-drills g c =
    let is : c.open.result ≡ Err NotMade = c.in-Err-NotMade.is ∙ ap (λ (e : OpenError). Err e) c.in-Err-NotMade.field-0-is in
    unmade-drills g.S.Site c.args.site.now c.open.new.site _ _
    (subst (λ (r : Result Hub OpenError). OpensSite g.S.Site programs_limits r c.args.site.now c.open.new.site) is c.open.ensures)

pub returns-in-Err-NoCatalogue-clause-drills : goal.returns-in-Err-NoCatalogue-clause-drills
returns-in-Err-NoCatalogue-clause-drills g c =
    let is : c.open.result ≡ Err NoCatalogue = c.in-Err-NoCatalogue.is ∙ ap (λ (e : OpenError). Err e) c.in-Err-NoCatalogue.field-0-is in
    empty-drills g.S.Site c.args.site.now c.open.new.site _ _
    (subst (λ (r : Result Hub OpenError). OpensSite g.S.Site programs_limits r c.args.site.now c.open.new.site) is c.open.ensures)

pub returns-in-Err-NoMemory-clause-drills : goal.returns-in-Err-NoMemory-clause-drills
returns-in-Err-NoMemory-clause-drills g c =
    let is : c.open.result ≡ Err NoMemory = c.in-Err-NoMemory.is ∙ ap (λ (e : OpenError). Err e) c.in-Err-NoMemory.field-0-is in
    memory-drills g.S.Site c.args.site.now c.open.new.site _ _ (λ site t i told le here. g.met.S.Site.counts_now site t i told le here)
    (subst (λ (r : Result Hub OpenError). OpensSite g.S.Site programs_limits r c.args.site.now c.open.new.site) is c.open.ensures)

pub returns-in-Err-Damaged-clause-drills : goal.returns-in-Err-Damaged-clause-drills
returns-in-Err-Damaged-clause-drills g c =
    let d = c.in-Err-Damaged.damage in
    let is : c.open.result ≡ Err (Damaged d) = c.in-Err-Damaged.is ∙ ap (λ (e : OpenError). Err e) c.in-Err-Damaged.field-0-is in
    damaged-drills g.S.Site d c.tell_damage.result c.args.site.now c.open.new.site _ _ _
    (subst (λ (r : Result Hub OpenError). OpensSite g.S.Site programs_limits r c.args.site.now c.open.new.site) is c.open.ensures)
    (line-told _ c.tell_damage.result _ _ c.tell_damage.ensures.line c.tell_damage.ensures.kinds)

pub returns-in-Ok-answer_lines-clause-drills : goal.returns-in-Ok-answer_lines-clause-drills
returns-in-Ok-answer_lines-clause-drills g c =
    let r = c.in-Ok-answer_lines.ensures.reads in
    opened-drills g.S.Site _ c.in-Ok.hub r.0 c.args.site.now c.open.new.site c.answer_lines.new.site _ _ _ _ (λ site t i told le here. g.met.S.Site.counts_now site t i told le here) c.in-Ok.ensures r.1

pub returns-in-Err-clause-drills : goal.returns-in-Err-clause-drills
returns-in-Err-clause-drills g c =
    let r = c.in-Err.ensures.reads in
    subst (λ (x : Status). Drills g.S.Site x c.args.site.now (g.I.Source.left c.args.source.now) (g.O.Sink.contents c.args.sink.now) c.answer_lines.new.site (g.I.Source.left c.answer_lines.new.source) (g.O.Sink.contents c.answer_lines.new.sink)) (sym c.status.ensures)
    (opened-drills g.S.Site (Err c.in-Err.stop) c.in-Ok.hub r.0 c.args.site.now c.open.new.site c.answer_lines.new.site _ _ _ _ (λ site t i told le here. g.met.S.Site.counts_now site t i told le here) c.in-Ok.ensures r.1)

pub returns-in-Err-SiteFault-clause-site_cause : goal.returns-in-Err-SiteFault-clause-site_cause
returns-in-Err-SiteFault-clause-site_cause g c = cause-other _ _ _ _ (λ e. c.in-Err-SiteFault.is ∙ ap (λ (e : OpenError). Err e) c.in-Err-SiteFault.field-0-is) c.open.ensures.cause

pub returns-in-Err-Damaged-clause-site_cause : goal.returns-in-Err-Damaged-clause-site_cause
returns-in-Err-Damaged-clause-site_cause g c = cause-other _ _ _ _ (λ e. absurd (⊎_elim (λ d. cc) (⊎_elim (λ d. cc) (λ d. cc)) c.tell_damage.ensures.kinds)) c.open.ensures.cause

pub returns-in-Err-Damaged-clause-source_cause : goal.returns-in-Err-Damaged-clause-source_cause
returns-in-Err-Damaged-clause-source_cause g c = no-cause _ _ (λ e. ⊎_elim (λ d. cc) (⊎_elim (λ d. cc) (λ d. cc)) c.tell_damage.ensures.kinds)

pub returns-in-Err-Damaged-clause-sink_cause : goal.returns-in-Err-Damaged-clause-sink_cause
returns-in-Err-Damaged-clause-sink_cause g c = record { no_fewer = c.tell_damage.ensures.count; cause = c.tell_damage.ensures.fault }

pub returns-in-Ok-answer_lines-clause-site_cause : goal.returns-in-Ok-answer_lines-clause-site_cause
returns-in-Ok-answer_lines-clause-site_cause g c = cause-joined _ _ _ _ _ c.in-Ok.ensures.cause (cause-other _ _ _ _ (λ e. absurd cc) c.in-Ok-answer_lines.ensures.site_cause)

pub returns-in-Ok-answer_lines-clause-source_cause : goal.returns-in-Ok-answer_lines-clause-source_cause
returns-in-Ok-answer_lines-clause-source_cause g c = cause-other _ _ _ _ (λ e. absurd cc) c.in-Ok-answer_lines.ensures.source_cause

pub returns-in-Ok-answer_lines-clause-sink_cause : goal.returns-in-Ok-answer_lines-clause-sink_cause
returns-in-Ok-answer_lines-clause-sink_cause g c = cause-other _ _ _ _ (λ e. absurd cc) c.in-Ok-answer_lines.ensures.sink_cause

pub returns-in-Err-clause-site_cause : goal.returns-in-Err-clause-site_cause
returns-in-Err-clause-site_cause g c = cause-joined _ _ _ _ _ c.in-Ok.ensures.cause (cause-other _ _ _ _ (λ e. ap (λ x. Err x) (status-site c.in-Err.stop (sym c.status.ensures ∙ e))) c.in-Err.ensures.site_cause)

pub returns-in-Err-clause-source_cause : goal.returns-in-Err-clause-source_cause
returns-in-Err-clause-source_cause g c = cause-other _ _ _ _ (λ e. ap (λ x. Err x) (status-source c.in-Err.stop (sym c.status.ensures ∙ e))) c.in-Err.ensures.source_cause

pub returns-in-Err-clause-sink_cause : goal.returns-in-Err-clause-sink_cause
returns-in-Err-clause-sink_cause g c = cause-other _ _ _ _ (λ e. ap (λ x. Err x) (status-sink c.in-Err.stop (sym c.status.ensures ∙ e))) c.in-Err.ensures.sink_cause
