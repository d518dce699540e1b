use Rattle.std.proofs.Common.{◌≡◌, ◌∙◌, ℕ, ◌-◌, ◌==◌, List, length, reverse, Bool, true, false, cond, Option, Some, None, is_some, option_copied, sym, ap, subst, eq-eqb, ne_eqb}
use Rattle.std.specs.List.{list_any}
use Rattle.qc_base.specs.LogLines.{is_registered, unforgotten}
use Rattle.qc_base.specs.declared.log_line.LogRecord.{LogRecord}
use Rattle.crm_clerk.specs.Accounts.{Account, account_of}
use Rattle.crm_clerk.specs.Clerk.{ClerkView, last_kept, unless_forgotten}
use Rattle.crm_clerk.proofs.Keeping.{is-registered, records-told, mapped-is, is-counted}
use Rattle.crm_clerk.proofs.Last.{last_of, if-last, last-kept, among}
use Rattle.crm_clerk.proofs.clerk.Clerk.last.Goals as goal

pub returns-in_default-clause-last : goal.returns-in_default-clause-last
returns-in_default-clause-last c =
    let k = c.self.inside in
    let lines = k.lines.lines in
    let resource = c.args.resource.now in
    let there : is_some c.written.result ≡ is_registered lines k.attempt resource =
    ap (λ (o : Option ℕ). is_some o) c.written.ensures ∙ mapped-is (λ (a : Account). a.written) (account_of resource k.book.accounts) ∙ is-registered k.attempt lines k.book.accounts resource c.self.invariant in
    let stranger : is_registered lines k.attempt resource ≡ false = sym there ∙ ap (λ (o : Option ℕ). is_some o) c.in_default.is in
    let none : last_kept lines k.attempt resource ≡ None = ap (λ (l : List LogRecord). unless_forgotten lines k.attempt resource (reverse l)) (c.self.invariant.known resource stranger) in
    sym none ∙ ap (λ (v : ClerkView). last_kept v.lines v.attempt resource) c.self.view_is

pub returns-in_default-last-clause-last : goal.returns-in_default-last-clause-last
returns-in_default-last-clause-last c =
    let k = c.self.inside in
    let lines = k.lines.lines in
    let resource = c.args.resource.now in
    let n = is-counted k.attempt lines k.book.accounts resource c.in-Some.written c.self.invariant (sym c.written.ensures ∙ c.in-Some.is) in
    let left : c.records.result.now ≡ unforgotten lines k.attempt resource = c.records.ensures ∙ records-told k.attempt lines k.book.accounts resource c.self.invariant in
    let last : last_kept lines k.attempt resource ≡ if-last c.in-Some.written (last_of c.records.result.now) =
    last-kept lines k.attempt resource (c.self.invariant.numbered resource) ∙ (λ i. if-last (sym n.count i) (last_of (sym left i))) in
    let none : last_of c.records.result.now ≡ None = sym c.last.ensures.value ∙ ap option_copied c.in_default-last.is in
    sym (last ∙ ap (if-last c.in-Some.written) none) ∙ ap (λ (v : ClerkView). last_kept v.lines v.attempt resource) c.self.view_is

pub returns-then-written-last-clause-last : goal.returns-then-written-last-clause-last
returns-then-written-last-clause-last c =
    let k = c.self.inside in
    let lines = k.lines.lines in
    let resource = c.args.resource.now in
    let n = is-counted k.attempt lines k.book.accounts resource c.in-Some.written c.self.invariant (sym c.written.ensures ∙ c.in-Some.is) in
    let left : c.records.result.now ≡ unforgotten lines k.attempt resource = c.records.ensures ∙ records-told k.attempt lines k.book.accounts resource c.self.invariant in
    let last : last_kept lines k.attempt resource ≡ if-last c.in-Some.written (last_of c.records.result.now) =
    last-kept lines k.attempt resource (c.self.invariant.numbered resource) ∙ (λ i. if-last (sym n.count i) (last_of (sym left i))) in
    let r : LogRecord = c.in-Some-last.last.now in
    let at : last_of c.records.result.now ≡ Some r = sym c.last.ensures.value ∙ ap option_copied c.in-Some-last.is in
    let apart : (r.seq == c.in-Some.written) ≡ false = ne_eqb r.seq c.in-Some.written (λ (same : r.seq ≡ c.in-Some.written). c.if-written-last.true (sym same)) in
    sym (last ∙ ap (if-last c.in-Some.written) at ∙ ap (λ (b : Bool). cond b (Some r) None) apart) ∙ ap (λ (v : ClerkView). last_kept v.lines v.attempt resource) c.self.view_is

pub returns-clause-last : goal.returns-clause-last
returns-clause-last c =
    let k = c.self.inside in
    let lines = k.lines.lines in
    let resource = c.args.resource.now in
    let n = is-counted k.attempt lines k.book.accounts resource c.in-Some.written c.self.invariant (sym c.written.ensures ∙ c.in-Some.is) in
    let left : c.records.result.now ≡ unforgotten lines k.attempt resource = c.records.ensures ∙ records-told k.attempt lines k.book.accounts resource c.self.invariant in
    let last : last_kept lines k.attempt resource ≡ if-last c.in-Some.written (last_of c.records.result.now) =
    last-kept lines k.attempt resource (c.self.invariant.numbered resource) ∙ (λ i. if-last (sym n.count i) (last_of (sym left i))) in
    let r : LogRecord = c.in-Some-last.last.now in
    let at : last_of c.records.result.now ≡ Some r = sym c.last.ensures.value ∙ ap option_copied c.in-Some-last.is in
    let same : (r.seq == c.in-Some.written) ≡ true = eq-eqb r.seq c.in-Some.written (sym c.if-written-last.false) in
    sym (last ∙ ap (if-last c.in-Some.written) at ∙ ap (λ (b : Bool). cond b (Some r) None) same) ∙ ap (λ (v : ClerkView). last_kept v.lines v.attempt resource) c.self.view_is

pub returns-clause-kept : goal.returns-clause-kept
returns-clause-kept c =
    let k = c.self.inside in
    let lines = k.lines.lines in
    let resource = c.args.resource.now in
    let r : LogRecord = c.in-Some-last.last.now in
    let told : c.records.result.now ≡ unforgotten c.args.self.now.lines c.args.self.now.attempt resource =
    c.records.ensures ∙ records-told k.attempt lines k.book.accounts resource c.self.invariant ∙ ap (λ (v : ClerkView). unforgotten v.lines v.attempt resource) c.self.view_is in
    let at : last_of c.records.result.now ≡ Some r = sym c.last.ensures.value ∙ ap option_copied c.in-Some-last.is in
    subst (λ (l : List LogRecord). list_any (λ (e : LogRecord). e.seq == r.seq) l ≡ true) told (among c.records.result.now (length c.records.result.now - 1) r at)
