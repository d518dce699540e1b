use Rattle.std.proofs.Common.{◌∙◌}
use Rattle.qc_recorder.proofs.Adding.{fits-by}
use Rattle.qc_recorder.proofs.fitting.fits.Goals as goal

pub returns : goal.returns
returns c =
    c.calls_fit.ensures
    ∙ fits-by c.args.catalogue.now c.args.recording.now _ _ _ c.in-Some.app.now c.in-Some-component.component.now c.as_bytes.ensures.value c.as_bytes-2.ensures.value c.as_slice.ensures c.in-Some.ensures c.in-Some-component.ensures
