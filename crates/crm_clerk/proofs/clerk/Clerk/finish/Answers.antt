use Rattle.std.proofs.Common.{◌≡◌, ◌∙◌, List, [], ◌∷◌, length, true, not, sym, ap, subst}
use Rattle.qc_base.specs.LogLines.{is_opened}
use Rattle.qc_base.specs.declared.log_line.LogLine.{LogLine}
use Rattle.qc_base.specs.declared.log_line.LogLine.TheVariants.{Done}
use Rattle.crm_clerk.specs.Clerk.{ClerkView, finishing_lines}
use Rattle.crm_clerk.specs.Staging.{HasRoomFor, TakesRoom}
use Rattle.crm_clerk.proofs.Keeping.{opened-told, finishing}
use Rattle.crm_clerk.proofs.clerk.Clerk.finish.Goals as goal

pub stage-requires-clause-log : goal.stage-requires-clause-log
stage-requires-clause-log c =
    let k = c.self.inside in
    let v : ClerkView = record { attempt = k.attempt; id = k.id; lines = k.lines.lines; room = k.book.room } in
    let view : v ≡ c.args.self = c.self.view_is in
    let opened : is_opened k.lines.lines k.attempt ≡ true =
    sym (ap not c.is_empty.ensures ∙ opened-told k.attempt k.lines.lines k.book.accounts c.registered.result.now c.self.invariant c.registered.ensures) ∙ ap not c.if-is_empty.false in
    let one : finishing_lines c.args.self ≡ Done k.attempt ∷ [] = ap finishing_lines (sym view) ∙ finishing k.attempt k.lines.lines k.book.accounts true c.self.invariant opened in
    subst (λ (l : List LogLine). HasRoomFor (length l) c.args.log.now) one c.requires

pub returns-clause-room : goal.returns-clause-room
returns-clause-room c =
    let k = c.self.inside in
    let v : ClerkView = record { attempt = k.attempt; id = k.id; lines = k.lines.lines; room = k.book.room } in
    let view : v ≡ c.args.self = c.self.view_is in
    let opened : is_opened k.lines.lines k.attempt ≡ true =
    sym (ap not c.is_empty.ensures ∙ opened-told k.attempt k.lines.lines k.book.accounts c.registered.result.now c.self.invariant c.registered.ensures) ∙ ap not c.if-is_empty.false in
    let one : finishing_lines c.args.self ≡ Done k.attempt ∷ [] = ap finishing_lines (sym view) ∙ finishing k.attempt k.lines.lines k.book.accounts true c.self.invariant opened in
    subst (λ (l : List LogLine). TakesRoom (length l) c.args.log.now c.stage.new.log) (sym one) c.stage.ensures.room
