use Rattle.std.proofs.Common.{refl, subst, sym}
use Rattle.qc_site.specs.Image.{bytes_of}
use Rattle.qc_frame.specs.Log.{LogView, Stands}
use Rattle.qc_frame.proofs.Staged.{still_stands}
use Rattle.qc_journal.proofs.Journals.{stands_staged}
use Rattle.qc_frame_tests.proofs.add.Goals as goal

pub force-requires : goal.force-requires
force-requires g c =
    let site = g.S.Site in
    let shown = site.shown c.args.site.now in
    let images = site.may_leave c.args.site.now in
    let old = c.args.log.now in
    let roomier : Stands site.told shown images c.reserve.new.self = subst (λ (l : LogView). Stands site.told shown images l) (sym c.in_ok-reserve.ensures.ok) (λ told. still_stands (bytes_of old.file shown) images old _ _ _ refl (c.requires.stands told)) in
    record { stands = stands_staged site.told shown images c.reserve.new.self c.stage.new.self c.args.bytes.now c.stage.ensures roomier }
