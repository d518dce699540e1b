use Rattle.std.proofs.Common.{refl, subst, sym, arith}
use Rattle.qc_base.proofs.Facts.{fact-bounded}
use Rattle.qc_journal.specs.Journal.{JournalView, JournalStands, log_of}
use Rattle.qc_frame.proofs.Staged.{still_stands}
use Rattle.qc_frame_tests.proofs.append.Goals as goal

pub overflow_add-size_of_fact : goal.overflow_add-size_of_fact
overflow_add-size_of_fact g c = omega (arith, c.size_of_fact.ensures, (fact-bounded c.args.fact.now c.requires.limits).1)

pub append_forced-requires-clause-stands : goal.append_forced-requires-clause-stands
append_forced-requires-clause-stands g c =
    let site = g.S.Site in
    let shown = site.shown c.args.site.now in
    let images = site.may_leave c.args.site.now in
    subst (λ (j : JournalView). JournalStands site.told shown images j) (sym c.in_ok-reserve.ensures.ok) (λ told. still_stands shown.journal images (log_of c.args.journal.now) _ _ _ refl (c.requires.stands told))
