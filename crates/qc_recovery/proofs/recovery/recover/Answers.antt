use Rattle.std.proofs.Common.{◌≡◌, ◌∙◌, List, length, map, max, sym, subst, rules, refl, Ok, Err, IsErrOf}
use Rattle.std.specs.Prelude.{Vec}
use Rattle.std.specs.declared.alloc.Global.{Global}
use Rattle.qc_base.specs.LogLines.{attempt_of_line}
use Rattle.qc_base.specs.declared.log_line.LogLine.{LogLine}
use Rattle.qc_base.specs.declared.log_line.Recovered.{Recovered}
use Rattle.qc_catalogue.specs.declared.catalogue.Catalogue.{Catalogue}
use Rattle.crm_history.specs.declared.ended.Ended.{Ended}
use Rattle.crm_recovery.specs.Calls.{CanFinish, Finishes}
use Rattle.crm_recovery.specs.declared.error.FinishError.{FinishError}
use Rattle.crm_recovery.specs.declared.error.FinishError.TheVariants.{SiteFault}
use Rattle.crm_recovery.specs.Moments.{finishes, FinishesInTurn}
use Rattle.crm_recovery.specs.Settling.{done_groups, recoveries, settling_puts}
use Rattle.qc_machine.specs.Attempts.{greatest}
use Rattle.qc_machine.specs.History.{by_text, history_of}
use Rattle.qc_machine.specs.Sound.{ended_in}
use Rattle.qc_recovery.specs.Calls.{Recovers}
use Rattle.qc_recovery.specs.declared.parts.Parts.{Parts}
use Rattle.qc_recovery.specs.declared.reading.Reading.{Reading}
use Rattle.qc_recovery.proofs.Recovering.{along, can-finish, exit-unread, exit-unfinished, exit-recovered}
use Rattle.qc_recovery.proofs.recovery.recover.Goals as goal

pub returns-in_err-reading : goal.returns-in_err-reading
returns-in_err-reading g c =
    let same : c.from_residual.result ≡ Err c.in_err-reading.field-0.0 = search rules in
    subst (λ r. Recovers g.S.Site r c.args.site.now c.read.new.site) (sym same) (exit-unread g.S.Site c.in_err-reading.field-0.0 c.args.site.now c.read.new.site c.in_err-reading.ensures)

pub finish_all-requires-clause-can : goal.finish_all-requires-clause-can
finish_all-requires-clause-can g c =
    let reading : Reading = c.in_ok-reading.reading in
    let r = c.in_ok-reading.ensures.read in
    let catalogue : reading.history.catalogue ≡ c.catalogue.result.now = search rules in
    let ended : reading.ended.items ≡ c.as_slice.result.now = search rules in
    let lines : reading.lines.items ≡ c.as_slice-2.result.now = search rules in
    along CanFinish reading.history.catalogue c.catalogue.result.now reading.ended.items c.as_slice.result.now reading.lines.items c.as_slice-2.result.now catalogue ended lines
    (can-finish c.each_catalogue_can_be_finished.ensures r.facts reading.lines.items reading.history reading.ended.items r.read r.ended)

pub returns-in-Err : goal.returns-in-Err
returns-in-Err g c =
    let site = g.S.Site in
    let reading : Reading = c.in_ok-reading.reading in
    let mid = c.read.new.site in
    let after = c.finish_all.new.site in
    let error : FinishError = c.in-Err.error in
    let catalogue : c.catalogue.result.now ≡ reading.history.catalogue = search rules in
    let ended : c.as_slice.result.now ≡ reading.ended.items = search rules in
    let lines : c.as_slice-2.result.now ≡ reading.lines.items = search rules in
    let h = history_of by_text c.in_ok-reading.ensures.read.facts in
    let in_turn = along (λ (k : Catalogue) (e : List Ended) (l : List LogLine). FinishesInTurn site {A = Vec Recovered Global} (finishes k e l) (Err error) mid after)
    c.catalogue.result.now reading.history.catalogue c.as_slice.result.now reading.ended.items c.as_slice-2.result.now reading.lines.items catalogue ended lines c.in-Err.ensures.moments in
    subst (λ e. Recovers site (Err e) c.args.site.now after) (sym c.finish_error.ensures)
    (exit-unfinished site c.args.site.now mid reading c.in_ok-reading.ensures (λ told. g.met.S.Site.shows_image c.args.site.now told) (λ t i told le here. g.met.S.Site.counts_now mid t i told le here) after error c.finish_all.new.log c.in-Err.ensures.finishes
    (c.nothing_is_left_to_finish.ensures.legal h.catalogue (length h.messages) (ended_in h) reading.lines.items c.in_ok-reading.ensures.read.read.beside) in_turn)

pub returns : goal.returns
returns g c =
    let site = g.S.Site in
    let reading : Reading = c.in_ok-reading.reading in
    let mid = c.read.new.site in
    let after = c.finish_all.new.site in
    let told : Vec Recovered Global = c.in-Ok.recovered in
    let log = c.finish_all.new.log in
    let parts : Parts = record { journal = reading.journal; log = log; history = reading.history; attempt = c.greatest_in-attempt.result; recovered = told } in
    let catalogue : c.catalogue.result.now ≡ reading.history.catalogue = search rules in
    let ended : c.as_slice.result.now ≡ reading.ended.items = search rules in
    let lines : c.as_slice-2.result.now ≡ reading.lines.items = search rules in
    let again : c.as_slice-3.result.now ≡ reading.lines.items = search rules in
    let least : c.attempt.result ≡ reading.history.attempt = search rules in
    let h = history_of by_text c.in_ok-reading.ensures.read.facts in
    let in_turn = along (λ (k : Catalogue) (e : List Ended) (l : List LogLine). FinishesInTurn site {E = FinishError} (finishes k e l) (Ok told) mid after)
    c.catalogue.result.now reading.history.catalogue c.as_slice.result.now reading.ended.items c.as_slice-2.result.now reading.lines.items catalogue ended lines c.in-Ok.ensures.moments in
    let finished = along (λ (k : Catalogue) (e : List Ended) (l : List LogLine). Finishes site {E = FinishError} (settling_puts k e l) (done_groups l) (IsErrOf {E = FinishError} (Ok told) SiteFault) (Ok told) reading.log mid log after)
    c.catalogue.result.now reading.history.catalogue c.as_slice.result.now reading.ended.items c.as_slice-2.result.now reading.lines.items catalogue ended lines c.in-Ok.ensures.finishes in
    let number = c.greatest_in-attempt.ensures ∙ (λ i. max (least i) (greatest (map attempt_of_line (again i)))) in
    let tells = c.in-Ok.ensures.told ∙ (λ i. recoveries (ended i) (lines i)) in
    exit-recovered site c.args.site.now mid reading c.in_ok-reading.ensures (λ told. g.met.S.Site.shows_image c.args.site.now told) (λ t i told le here. g.met.S.Site.counts_now mid t i told le here) after parts told refl refl number tells finished in_turn
    (c.nothing_is_left_to_finish.ensures.legal h.catalogue (length h.messages) (ended_in h) reading.lines.items c.in_ok-reading.ensures.read.read.beside) (λ before now facts ls goes own stands. c.a_recovery_keeps_the_history.ensures before now facts ls goes own stands) c.nothing_is_left_to_finish.ensures.finished
