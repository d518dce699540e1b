use Rattle.std.proofs.Common.{◌≡◌, ◌∙◌, ℕ, ◌+◌, ◌*◌, leb, not, Bool, true, false, ap, subst, rules, Some}
use Rattle.qc_protocol.specs.declared.reply.Refusal.TheVariants.{Full}
use Rattle.qc_machine.specs.Refuse.{refuse_if}
use Rattle.qc_machine.specs.Rooms.{log_full}
use Rattle.qc_hub.specs.declared.hub.Hub.{Hub}
use Rattle.qc_hub.proofs.Room.{log-full-is}
use Rattle.qc_hub.proofs.hub.Hub.log_full.Goals as goal

pub returns-then-has_room : goal.returns-then-has_room
returns-then-has_room c s h =
    let hub : Hub = c.args.self.now in
    let yes : c.has_room.result ≡ true = search rules in
    subst (λ (b : Bool). refuse_if (not b) (Full hub.log.length) ≡ log_full s c.args.more) yes
    (log-full-is hub s h c.args.more c.count-aside.result c.count-aside.ensures.value c.has_room.result (c.has_room.ensures ∙ ap (λ (n : ℕ). leb (n + 512 * c.count-aside.result + c.args.more) hub.limits.log_bytes) c.length-length.ensures))

pub returns-else-has_room : goal.returns-else-has_room
returns-else-has_room c s h =
    let hub : Hub = c.args.self.now in
    let no : c.has_room.result ≡ false = search rules in
    ap (λ (n : ℕ). Some (Full n)) c.length-length.ensures
    ∙ subst (λ (b : Bool). refuse_if (not b) (Full hub.log.length) ≡ log_full s c.args.more) no
    (log-full-is hub s h c.args.more c.count-aside.result c.count-aside.ensures.value c.has_room.result (c.has_room.ensures ∙ ap (λ (n : ℕ). leb (n + 512 * c.count-aside.result + c.args.more) hub.limits.log_bytes) c.length-length.ensures))
