use Rattle.std.proofs.Common.{◌∙◌, length, ap}
use Rattle.qc_base.specs.Messages.{consumed_ids}
use Rattle.qc_store.specs.Stored.{Stored}
use Rattle.qc_store.specs.Tallies.{tally_of}
use Rattle.qc_store.proofs.store.Store.consumed.Goals as goal

pub returns : goal.returns
returns c = c.tally_of.ensures ∙ ap (tally_of c.args.app.now) c.as_slice.ensures.value ∙ c.self.invariant.all_consumed c.args.app.now ∙ ap (λ (v : Stored). length (consumed_ids c.args.app.now v.messages)) c.self.view_is
