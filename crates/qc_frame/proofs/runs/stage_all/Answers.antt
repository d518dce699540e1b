use Rattle.std.proofs.Common.{◌≡◌, ◌+◌, ◌<◌, ◌++◌, ◌∷◌, [], List, ℕ, length, take, get_or, sym, ◌∙◌, ap, arith, length-append, rules}
use Rattle.std.specs.List.{flat_map}
use Rattle.std.proofs.lemmas.Grind.{take_at_read, common_steps}
use Rattle.qc_base.proofs.Parts.{fits_more}
use Rattle.qc_frame.specs.Frame.{entry}
use Rattle.qc_frame.specs.Log.{LogView}
use Rattle.qc_frame.proofs.Payload.{length-entry, flat_map-entry}
use Rattle.qc_frame.proofs.Staged.{staged_more}
use Rattle.qc_frame.proofs.runs.stage_all.Goals as goal

pub stage-requires : goal.stage-requires
stage-requires c =
    let item = c.bytes-item.result in
    let entries = c.args.entries.now in
    let more = fits_more entry entries c.loop-bytes.bytes-index item (omega arith) c.bytes-item.is in
    let so_far = flat_map entry (take c.loop-bytes.bytes-index entries) in
    record {
      some = grind (arith, common_steps);
      ended = search rules;
      room = omega (arith, more, length-entry item, ap (λ (l : LogView). l.spare) c.loop-bytes.invariant, c.requires.room, ap length c.as_slice.ensures);
      fits = omega (arith, more, length-entry item, ap (λ (l : LogView). length l.payload) c.loop-bytes.invariant, length-append c.args.log.now.payload so_far, c.requires.fits, ap length c.as_slice.ensures);
    }

pub loop-bytes-preserved : goal.loop-bytes-preserved
loop-bytes-preserved c =
    let i = c.loop-bytes.bytes-index in
    let item = c.bytes-item.result in
    let entries = c.args.entries.now in
    let inside : i < length entries = omega arith in
    let front : take (i + 1) entries ≡ take i entries ++ get_or entries i item ∷ [] = (take_at_read entries i item inside).1 in
    let here : get_or entries i item ≡ c.as_slice.result.now = sym c.bytes-item.is ∙ sym c.as_slice.ensures in
    let now : flat_map entry (take (i + 1) entries) ≡ flat_map entry (take i entries) ++ entry c.as_slice.result.now
    = ap (λ (l : List (List ℕ)). flat_map entry l) (front ∙ ap (λ (e : List ℕ). take i entries ++ e ∷ []) here) ∙ flat_map-entry (take i entries) c.as_slice.result.now in
    staged_more c.args.log.now c.loop-bytes.log c.stage.new.self c.as_slice.result.now (flat_map entry (take i entries)) (flat_map entry (take (i + 1) entries)) c.loop-bytes.invariant c.stage.ensures now
