use Rattle.std.proofs.Common.{◌≡◌, ◌+◌, ◌<◌, List, All, subst, sym, rules}
use Rattle.qc_base.specs.declared.message.Message.{Message}
use Rattle.qc_base.specs.Messages.{after_sent}
use Rattle.qc_store.specs.declared.tally.Tally.{Tally}
use Rattle.qc_store.specs.Stored.{Stored}
use Rattle.qc_store.specs.Tallies.{AreCounted}
use Rattle.qc_store.proofs.Counted.{counted_sent}
use Rattle.qc_store.proofs.store.Store.insert.Goals as goal

pub invariant_of-self : goal.invariant_of-self
invariant_of-self c =
    let id = c.args.id in
    let old = c.self.inside.messages.items in
    let sent = c.self.inside.sent in
    let above : All (λ (x : Message). x.id < id) old = subst (λ (v : Stored). All (λ (x : Message). x.id < id) v.messages) (sym c.self.view_is) c.requires.rises in
    let pushed : c.push.new.self.items ≡ after_sent id c.args.recording c.args.final_class c.args.at old = search rules in
    let counted = counted_sent id c.args.recording c.args.final_class c.args.at old sent c.self.inside.tallies.items above c.self.invariant in
    subst (λ (l : List Message). AreCounted l (sent + 1) c.begin.new.tallies.items) (sym pushed)
    (subst (λ (l : List Tally). AreCounted (after_sent id c.args.recording c.args.final_class c.args.at old) (sent + 1) l) (sym c.begin.ensures.items) counted)
