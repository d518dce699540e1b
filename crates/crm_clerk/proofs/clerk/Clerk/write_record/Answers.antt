use Rattle.std.proofs.Common.{◌≡◌, ◌∙◌, ℕ, ◌+◌, ◌-◌, List, [], ◌∷◌, length, Bool, false, cond, Option, Result, Ok, Err, is_some, sym, ap, subst}
use Rattle.qc_base.specs.LogLines.{is_registered}
use Rattle.qc_base.specs.declared.log_line.LogRecord.{LogRecord}
use Rattle.qc_base.specs.declared.log_line.LogLine.{LogLine}
use Rattle.qc_base.specs.declared.log_line.LogLine.TheVariants.{Written}
use Rattle.qc_entries.specs.Entries.{EntriesView}
use Rattle.crm_clerk.specs.declared.error.ClerkError.{ClerkError}
use Rattle.crm_clerk.specs.declared.error.ClerkError.TheVariants.{NotRegistered}
use Rattle.crm_clerk.specs.Accounts.{Account, BookView, account_of, next_entry, with_account, written_to}
use Rattle.crm_clerk.specs.Calls.{HasStaged, writes}
use Rattle.crm_clerk.specs.Clerk.{ClerkView, records_in, writing_lines}
use Rattle.crm_clerk.specs.Keeps.{Keeps}
use Rattle.crm_clerk.proofs.Keeping.{is-registered, mapped-is, is-next, keeps-written}
use Rattle.crm_clerk.proofs.clerk.Clerk.write_record.Goals as goal

pub returns-in_default-clause-answer : goal.returns-in_default-clause-answer
returns-in_default-clause-answer c =
    let k = c.self.inside in
    let resource = c.args.resource.now in
    let v : ClerkView = record { attempt = k.attempt; id = k.id; lines = k.lines.lines; room = k.book.room } in
    let view : v ≡ c.args.self.now = c.self.view_is in
    let stranger : is_registered k.lines.lines k.attempt resource ≡ false =
    sym (is-registered k.attempt k.lines.lines k.book.accounts resource c.self.invariant) ∙ sym (mapped-is (next_entry c.args.key.now c.args.old c.args.new) (account_of resource k.book.accounts))
    ∙ ap (λ (o : Option LogRecord). is_some o) (sym c.write.ensures.entry ∙ c.in_default.is) in
    let answer : Bool → Result ℕ ClerkError = λ b. cond b (Ok (length (records_in k.lines.lines k.attempt resource) + 1)) (Err NotRegistered) in
    sym (ap answer stranger) ∙ ap (λ (x : ClerkView). writes x resource) view

pub invariant_of-self-2 : goal.invariant_of-self-2
invariant_of-self-2 c =
    let k = c.self.inside in
    let resource = c.args.resource.now in
    let v : ClerkView = record { attempt = k.attempt; id = k.id; lines = k.lines.lines; room = k.book.room } in
    let view : v ≡ c.args.self.now = c.self.view_is in
    let key = c.args.key.now in
    let e : LogRecord = c.in-Some.entry in
    let n = is-next k.attempt k.lines.lines k.book.accounts resource key c.args.old c.args.new e c.self.invariant (sym c.write.ensures.entry ∙ c.in-Some.is) in
    let kept = keeps-written k.attempt k.lines.lines k.book.accounts resource key c.args.old c.args.new e c.self.invariant n.there n.next in
    let accounts : c.write.new.self.accounts ≡ with_account resource (written_to key c.args.old c.args.new) k.book.accounts = ap (λ (b : BookView). b.accounts) c.in-Some.ensures.some in
    subst (λ (l : List Account). Keeps k.attempt c.stage.new.lines.lines l) (sym accounts)
    (subst (λ (l : List LogLine). Keeps k.attempt l (with_account resource (written_to key c.args.old c.args.new) k.book.accounts)) (sym c.stage.ensures.lines) kept)

pub returns-clause-answer : goal.returns-clause-answer
returns-clause-answer c =
    let k = c.self.inside in
    let resource = c.args.resource.now in
    let v : ClerkView = record { attempt = k.attempt; id = k.id; lines = k.lines.lines; room = k.book.room } in
    let view : v ≡ c.args.self.now = c.self.view_is in
    let key = c.args.key.now in
    let e : LogRecord = c.in-Some.entry in
    let n = is-next k.attempt k.lines.lines k.book.accounts resource key c.args.old c.args.new e c.self.invariant (sym c.write.ensures.entry ∙ c.in-Some.is) in
    let answer : Bool → Result ℕ ClerkError = λ b. cond b (Ok (length (records_in k.lines.lines k.attempt resource) + 1)) (Err NotRegistered) in
    let ok : LogRecord → Result ℕ ClerkError = λ r. Ok r.seq in
    ap ok n.next ∙ sym (ap answer n.there) ∙ ap (λ (x : ClerkView). writes x resource) view

pub returns-clause-stages : goal.returns-clause-stages
returns-clause-stages c =
    let k = c.self.inside in
    let resource = c.args.resource.now in
    let v : ClerkView = record { attempt = k.attempt; id = k.id; lines = k.lines.lines; room = k.book.room } in
    let view : v ≡ c.args.self.now = c.self.view_is in
    let key = c.args.key.now in
    let e : LogRecord = c.in-Some.entry in
    let n = is-next k.attempt k.lines.lines k.book.accounts resource key c.args.old c.args.new e c.self.invariant (sym c.write.ensures.entry ∙ c.in-Some.is) in
    let now : ClerkView = record { attempt = k.attempt; id = k.id; lines = c.stage.new.lines.lines; room = c.write.new.self.room } in
    let after : EntriesView = c.stage.new.log in
    let room : c.write.new.self.room ≡ k.book.room - 1 = ap (λ (b : BookView). b.room) c.in-Some.ensures.some in
    let staged : HasStaged (Written k.attempt resource e ∷ []) 1 v c.args.log.now now after = record {
      clerk = λ i. record { attempt = k.attempt; id = k.id; lines = c.stage.ensures.lines i; room = room i };
      log = c.stage.ensures.log;
      room = c.stage.ensures.room;
      waits = c.stage.ensures.waits;
    } in
    let at_v : HasStaged (writing_lines v resource key c.args.old c.args.new) 1 v c.args.log.now now after = subst (λ (r : LogRecord). HasStaged (Written k.attempt resource r ∷ []) 1 v c.args.log.now now after) n.next staged in
    record { staged = subst (λ (x : ClerkView). HasStaged (writing_lines x resource key c.args.old c.args.new) 1 x c.args.log.now now after) view at_v; unchanged = tt }
