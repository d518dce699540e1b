use Rattle.std.proofs.Common.{◌≡◌, ◌∙◌, ◌+◌, ◌≤◌, ◌++◌, List, ℕ, length, ap, arith, rules, length-append}
use Rattle.qc_frame.specs.Frame.{entry}
use Rattle.qc_frame.specs.Log.{LogView}
use Rattle.qc_frame.proofs.Payload.{length-entry}
use Rattle.qc_entries.specs.Entries.{EntriesView}
use Rattle.qc_entries.proofs.entry_log.EntryLog.stage.Goals as goal

pub invariant_of-self : goal.invariant_of-self
invariant_of-self g c =
    let log = c.self.inside.log in
    let bytes = c.deref.result.now in
    let spelled : bytes ≡ g.T.Spelled.spelled c.args.value.now = c.deref.ensures.value ∙ c.put.ensures.bytes ∙ ap (λ (l : List ℕ). l ++ g.T.Spelled.spelled c.args.value.now) c.self.invariant.3 in
    let long : c.len.result ≡ length bytes = search rules in
    let payload : length c.stage.new.self.payload ≡ length log.payload + (length bytes + 4) = ap (λ (l : LogView). length l.payload) c.stage.ensures ∙ omega (arith, length-append log.payload (entry bytes), length-entry bytes) in
    let room : length bytes + 4 ≤ log.spare = omega (arith, ap length spelled, c.requires.can.room, ap (λ (v : EntriesView). v.log.spare) c.self.view_is) in (
      c.self.invariant.0,
      c.self.invariant.1,
      omega (arith, payload, long, c.self.invariant.2),
      c.clear.ensures.items,
      c.clear.ensures.len,
      omega (arith, room, long, ap (λ (l : LogView). l.spare) c.stage.ensures, c.self.invariant.5, c.put.ensures.room, c.clear.ensures.capacity),
    )
