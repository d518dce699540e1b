use Rattle.std.proofs.Common.{◌≡◌, ◌∙◌, ℕ, ◌-◌, ◌==◌, List, [], ◌∷◌, Bool, false, cond, Option, Some, None, Result, Err, option_map, is_some, option_copied, sym, ap, subst, arith, eq-eqb, ne_eqb}
use Rattle.qc_base.specs.LogLines.{is_registered, unforgotten}
use Rattle.qc_base.specs.declared.log_line.LogRecord.{LogRecord}
use Rattle.qc_base.specs.declared.log_line.LogLine.{LogLine}
use Rattle.qc_base.specs.declared.log_line.LogLine.TheVariants.{Forgot}
use Rattle.qc_entries.specs.Entries.{EntriesView}
use Rattle.crm_clerk.specs.declared.error.ClerkError.{ClerkError}
use Rattle.crm_clerk.specs.declared.error.ClerkError.TheVariants.{NotRegistered}
use Rattle.crm_clerk.specs.Accounts.{Account, BookView, account_of, with_account, without}
use Rattle.crm_clerk.specs.Calls.{HasStaged, forgets, forgets_last}
use Rattle.crm_clerk.specs.Clerk.{ClerkView, forgot_lines, forgetting_lines, last_kept}
use Rattle.crm_clerk.specs.Keeps.{Keeps}
use Rattle.crm_clerk.proofs.Keeping.{is-registered, records-told, mapped-is, is-counted, keeps-forgot}
use Rattle.crm_clerk.proofs.Last.{last_of, if-last, last-kept}
use Rattle.crm_clerk.proofs.clerk.Clerk.forget_last.Goals as goal

pub returns-in_default-clause-answer : goal.returns-in_default-clause-answer
returns-in_default-clause-answer c =
    let k = c.self.inside in
    let resource = c.args.resource.now in
    let v : ClerkView = record { attempt = k.attempt; id = k.id; lines = k.lines.lines; room = k.book.room } in
    let view : v ≡ c.args.self.now = c.self.view_is in
    let written : option_map (λ (a : Account). a.written) (account_of resource k.book.accounts) ≡ c.written.result = sym c.written.ensures in
    let there : is_some c.written.result ≡ is_registered k.lines.lines k.attempt resource =
    ap (λ (o : Option ℕ). is_some o) c.written.ensures ∙ mapped-is (λ (a : Account). a.written) (account_of resource k.book.accounts) ∙ is-registered k.attempt k.lines.lines k.book.accounts resource c.self.invariant in
    let stranger : is_registered k.lines.lines k.attempt resource ≡ false = sym there ∙ ap (λ (o : Option ℕ). is_some o) c.in_default.is in
    let answer : Bool → Result Unit ClerkError = λ b. cond b (forgets (last_kept k.lines.lines k.attempt resource)) (Err NotRegistered) in
    sym (ap answer stranger) ∙ ap (λ (x : ClerkView). forgets_last x resource) view

pub returns-in_default-last-clause-answer : goal.returns-in_default-last-clause-answer
returns-in_default-last-clause-answer c =
    let k = c.self.inside in
    let resource = c.args.resource.now in
    let v : ClerkView = record { attempt = k.attempt; id = k.id; lines = k.lines.lines; room = k.book.room } in
    let view : v ≡ c.args.self.now = c.self.view_is in
    let lines = k.lines.lines in
    let n = is-counted k.attempt lines k.book.accounts resource c.in-Some.written c.self.invariant (sym c.written.ensures ∙ c.in-Some.is) in
    let left : c.records.result.now ≡ unforgotten lines k.attempt resource = c.records.ensures ∙ records-told k.attempt lines k.book.accounts resource c.self.invariant in
    let last : last_kept lines k.attempt resource ≡ if-last c.in-Some.written (last_of c.records.result.now) =
    last-kept lines k.attempt resource (c.self.invariant.numbered resource) ∙ (λ i. if-last (sym n.count i) (last_of (sym left i))) in
    let none : last_of c.records.result.now ≡ None = sym c.last.ensures.value ∙ ap option_copied c.in_default-last.is in
    let kept : last_kept lines k.attempt resource ≡ None = last ∙ ap (if-last c.in-Some.written) none in
    let answer : Bool → Result Unit ClerkError = λ b. cond b (forgets (last_kept lines k.attempt resource)) (Err NotRegistered) in
    sym (ap answer n.there ∙ ap forgets kept) ∙ ap (λ (x : ClerkView). forgets_last x resource) view

pub returns-then-last-written-clause-answer : goal.returns-then-last-written-clause-answer
returns-then-last-written-clause-answer c =
    let k = c.self.inside in
    let resource = c.args.resource.now in
    let v : ClerkView = record { attempt = k.attempt; id = k.id; lines = k.lines.lines; room = k.book.room } in
    let view : v ≡ c.args.self.now = c.self.view_is in
    let lines = k.lines.lines in
    let n = is-counted k.attempt lines k.book.accounts resource c.in-Some.written c.self.invariant (sym c.written.ensures ∙ c.in-Some.is) in
    let left : c.records.result.now ≡ unforgotten lines k.attempt resource = c.records.ensures ∙ records-told k.attempt lines k.book.accounts resource c.self.invariant in
    let last : last_kept lines k.attempt resource ≡ if-last c.in-Some.written (last_of c.records.result.now) =
    last-kept lines k.attempt resource (c.self.invariant.numbered resource) ∙ (λ i. if-last (sym n.count i) (last_of (sym left i))) in
    let r : LogRecord = c.in-Some-last.last.now in
    let at : last_of c.records.result.now ≡ Some r = sym c.last.ensures.value ∙ ap option_copied c.in-Some-last.is in
    let apart : (r.seq == c.in-Some.written) ≡ false = ne_eqb r.seq c.in-Some.written c.if-last-written.true in
    let kept : last_kept lines k.attempt resource ≡ None = last ∙ ap (if-last c.in-Some.written) at ∙ ap (λ (b : Bool). cond b (Some r) None) apart in
    let answer : Bool → Result Unit ClerkError = λ b. cond b (forgets (last_kept lines k.attempt resource)) (Err NotRegistered) in
    sym (ap answer n.there ∙ ap forgets kept) ∙ ap (λ (x : ClerkView). forgets_last x resource) view

pub invariant_of-self : goal.invariant_of-self
invariant_of-self c =
    let k = c.self.inside in
    let resource = c.args.resource.now in
    let v : ClerkView = record { attempt = k.attempt; id = k.id; lines = k.lines.lines; room = k.book.room } in
    let view : v ≡ c.args.self.now = c.self.view_is in
    let lines = k.lines.lines in
    let n = is-counted k.attempt lines k.book.accounts resource c.in-Some.written c.self.invariant (sym c.written.ensures ∙ c.in-Some.is) in
    let left : c.records.result.now ≡ unforgotten lines k.attempt resource = c.records.ensures ∙ records-told k.attempt lines k.book.accounts resource c.self.invariant in
    let last : last_kept lines k.attempt resource ≡ if-last c.in-Some.written (last_of c.records.result.now) =
    last-kept lines k.attempt resource (c.self.invariant.numbered resource) ∙ (λ i. if-last (sym n.count i) (last_of (sym left i))) in
    let kept = keeps-forgot k.attempt lines k.book.accounts resource c.in-Some.written c.self.invariant (omega (arith, n.count)) in
    subst (λ (l : List Account). Keeps k.attempt c.stage.new.lines.lines l) (sym (ap (λ (b : BookView). b.accounts) c.forget.ensures))
    (subst (λ (l : List LogLine). Keeps k.attempt l (with_account resource (without c.in-Some.written) k.book.accounts)) (sym c.stage.ensures.lines) kept)

pub returns-clause-answer : goal.returns-clause-answer
returns-clause-answer c =
    let k = c.self.inside in
    let resource = c.args.resource.now in
    let v : ClerkView = record { attempt = k.attempt; id = k.id; lines = k.lines.lines; room = k.book.room } in
    let view : v ≡ c.args.self.now = c.self.view_is in
    let lines = k.lines.lines in
    let n = is-counted k.attempt lines k.book.accounts resource c.in-Some.written c.self.invariant (sym c.written.ensures ∙ c.in-Some.is) in
    let left : c.records.result.now ≡ unforgotten lines k.attempt resource = c.records.ensures ∙ records-told k.attempt lines k.book.accounts resource c.self.invariant in
    let last : last_kept lines k.attempt resource ≡ if-last c.in-Some.written (last_of c.records.result.now) =
    last-kept lines k.attempt resource (c.self.invariant.numbered resource) ∙ (λ i. if-last (sym n.count i) (last_of (sym left i))) in
    let r : LogRecord = c.in-Some-last.last.now in
    let at : last_of c.records.result.now ≡ Some r = sym c.last.ensures.value ∙ ap option_copied c.in-Some-last.is in
    let seq : r.seq ≡ c.in-Some.written = c.if-last-written.false in
    let kept : last_kept lines k.attempt resource ≡ Some r = last ∙ ap (if-last c.in-Some.written) at ∙ ap (λ (b : Bool). cond b (Some r) None) (eq-eqb r.seq c.in-Some.written seq) in
    let line : LogLine = Forgot k.attempt resource c.in-Some.written in
    let staging : forgetting_lines v resource ≡ line ∷ [] =
    ap (forgot_lines v resource) kept ∙ ap (λ (s : ℕ). Forgot k.attempt resource s ∷ []) seq in
    let answer : Bool → Result Unit ClerkError = λ b. cond b (forgets (last_kept lines k.attempt resource)) (Err NotRegistered) in
    sym (ap answer n.there ∙ ap forgets kept) ∙ ap (λ (x : ClerkView). forgets_last x resource) view

pub returns-clause-stages : goal.returns-clause-stages
returns-clause-stages c =
    let k = c.self.inside in
    let resource = c.args.resource.now in
    let v : ClerkView = record { attempt = k.attempt; id = k.id; lines = k.lines.lines; room = k.book.room } in
    let view : v ≡ c.args.self.now = c.self.view_is in
    let lines = k.lines.lines in
    let n = is-counted k.attempt lines k.book.accounts resource c.in-Some.written c.self.invariant (sym c.written.ensures ∙ c.in-Some.is) in
    let left : c.records.result.now ≡ unforgotten lines k.attempt resource = c.records.ensures ∙ records-told k.attempt lines k.book.accounts resource c.self.invariant in
    let last : last_kept lines k.attempt resource ≡ if-last c.in-Some.written (last_of c.records.result.now) =
    last-kept lines k.attempt resource (c.self.invariant.numbered resource) ∙ (λ i. if-last (sym n.count i) (last_of (sym left i))) in
    let r : LogRecord = c.in-Some-last.last.now in
    let at : last_of c.records.result.now ≡ Some r = sym c.last.ensures.value ∙ ap option_copied c.in-Some-last.is in
    let seq : r.seq ≡ c.in-Some.written = c.if-last-written.false in
    let kept : last_kept lines k.attempt resource ≡ Some r = last ∙ ap (if-last c.in-Some.written) at ∙ ap (λ (b : Bool). cond b (Some r) None) (eq-eqb r.seq c.in-Some.written seq) in
    let line : LogLine = Forgot k.attempt resource c.in-Some.written in
    let staging : forgetting_lines v resource ≡ line ∷ [] =
    ap (forgot_lines v resource) kept ∙ ap (λ (s : ℕ). Forgot k.attempt resource s ∷ []) seq in
    let now : ClerkView = record { attempt = k.attempt; id = k.id; lines = c.stage.new.lines.lines; room = c.forget.new.self.room } in
    let none : k.book.room ≡ k.book.room - 0 = omega arith in
    let room : c.forget.new.self.room ≡ k.book.room - 0 = ap (λ (b : BookView). b.room) c.forget.ensures ∙ none in
    let after : EntriesView = c.stage.new.log in
    let staged : HasStaged (line ∷ []) 0 v c.args.log.now now after = record {
      clerk = λ i. record { attempt = k.attempt; id = k.id; lines = c.stage.ensures.lines i; room = room i };
      log = c.stage.ensures.log;
      room = c.stage.ensures.room;
      waits = c.stage.ensures.waits;
    } in
    let at_v : HasStaged (forgetting_lines v resource) 0 v c.args.log.now now after = subst (λ (l : List LogLine). HasStaged l 0 v c.args.log.now now after) (sym staging) staged in
    record { staged = subst (λ (x : ClerkView). HasStaged (forgetting_lines x resource) 0 x c.args.log.now now after) view at_v; unchanged = tt }
