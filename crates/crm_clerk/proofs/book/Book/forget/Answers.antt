use Rattle.std.proofs.Common.{◌≡◌, ◌∙◌, ◌+◌, ◌-◌, ◌<◌, List, take, drop, length, Some, None, sym, ap, arith, length-set}
use Rattle.std.proofs.lemmas.List.{length-take-le, length-drop}
use Rattle.std.proofs.lemmas.List.Elements.{All-set}
use Rattle.qc_base.specs.declared.log_line.LogRecord.{LogRecord}
use Rattle.crm_clerk.specs.declared.book.Counts.{Counts}
use Rattle.crm_clerk.specs.Accounts.{Account, BookView, with_account, without, without_seq}
use Rattle.crm_clerk.specs.Books.{account_in, IsWithin}
use Rattle.crm_clerk.specs.Places.{place_from, seq_from}
use Rattle.crm_clerk.proofs.Books.{found_none, with_none, with_kept, own_place, seq_none, seq_inside, forgot_one, count_set}
use Rattle.crm_clerk.proofs.book.Book.forget.Goals as goal

pub returns-in_default : goal.returns-in_default
returns-in_default c =
    let b = c.self.inside in
    let resource = c.args.resource.now in
    let none : place_from 0 0 resource b.registered.items b.counts.items ≡ None =
    (λ i. place_from 0 0 resource (sym c.deref.ensures.value i) (sym c.deref-2.ensures.value i)) ∙ sym c.place_of.ensures ∙ c.in_default.is in
    let gone = found_none 0 0 resource b.registered.items b.counts.items b.records.items none in
    sym c.self.view_is ∙ (λ i. record { accounts = sym (with_none resource (without c.args.seq) _ gone) i; room = b.room })
    ∙ ap (λ (v : BookView). record v { accounts = with_account resource (without c.args.seq) v.accounts }) c.self.view_is

pub own_records-requires : goal.own_records-requires
own_records-requires c =
    let b = c.self.inside in
    let resource = c.args.resource.now in
    let some : place_from 0 0 resource b.registered.items b.counts.items ≡ Some c.in-Some.place =
    (λ i. place_from 0 0 resource (sym c.deref.ensures.value i) (sym c.deref-2.ensures.value i)) ∙ sym c.place_of.ensures ∙ c.in-Some.is in
    let own = own_place b.registered.items b.counts.items b.records.items c.args.self.now.accounts b.room resource c.in-Some.place c.self.invariant.1 c.self.invariant.2 (ap (λ (v : BookView). v.accounts) c.self.view_is) some in
    omega (arith, own.fits, ap length c.deref-3.ensures.value)

pub returns-in_default-seq_at : goal.returns-in_default-seq_at
returns-in_default-seq_at c =
    let b = c.self.inside in
    let resource = c.args.resource.now in
    let some : place_from 0 0 resource b.registered.items b.counts.items ≡ Some c.in-Some.place =
    (λ i. place_from 0 0 resource (sym c.deref.ensures.value i) (sym c.deref-2.ensures.value i)) ∙ sym c.place_of.ensures ∙ c.in-Some.is in
    let own = own_place b.registered.items b.counts.items b.records.items c.args.self.now.accounts b.room resource c.in-Some.place c.self.invariant.1 c.self.invariant.2 (ap (λ (v : BookView). v.accounts) c.self.view_is) some in
    let p = c.in-Some.place in
    let mine : List LogRecord = take p.counts.kept (drop p.start b.records.items) in
    let none : seq_from 0 c.args.seq mine ≡ None =
    ap (seq_from 0 c.args.seq) (sym (c.own_records.ensures ∙ ap (λ (l : List LogRecord). take p.counts.kept (drop p.start l)) c.deref-3.ensures.value)) ∙ sym c.seq_at.ensures ∙ c.in_default-seq_at.is in
    let same : without_seq c.args.seq mine ≡ mine = seq_none 0 c.args.seq mine none in
    let accounts = with_kept resource (without c.args.seq) c.args.self.now.accounts (account_in own.name p.counts mine) own.account (ap (λ (l : List LogRecord). account_in own.name p.counts l) same) in
    ap (λ (l : List Account). record c.args.self.now { accounts = l }) (sym accounts)

pub overflow_add-place : goal.overflow_add-place
overflow_add-place c =
    let b = c.self.inside in
    let resource = c.args.resource.now in
    let some : place_from 0 0 resource b.registered.items b.counts.items ≡ Some c.in-Some.place =
    (λ i. place_from 0 0 resource (sym c.deref.ensures.value i) (sym c.deref-2.ensures.value i)) ∙ sym c.place_of.ensures ∙ c.in-Some.is in
    let own = own_place b.registered.items b.counts.items b.records.items c.args.self.now.accounts b.room resource c.in-Some.place c.self.invariant.1 c.self.invariant.2 (ap (λ (v : BookView). v.accounts) c.self.view_is) some in
    let p = c.in-Some.place in
    let mine : List LogRecord = take p.counts.kept (drop p.start b.records.items) in
    let at_is : seq_from 0 c.args.seq mine ≡ Some c.in-Some-seq_at.at =
    ap (seq_from 0 c.args.seq) (sym (c.own_records.ensures ∙ ap (λ (l : List LogRecord). take p.counts.kept (drop p.start l)) c.deref-3.ensures.value)) ∙ sym c.seq_at.ensures ∙ c.in-Some-seq_at.is in
    let long : length mine ≡ p.counts.kept = length-take-le p.counts.kept (drop p.start b.records.items) (omega (arith, length-drop p.start b.records.items, own.fits)) in
    let lt : c.in-Some-seq_at.at < p.counts.kept = omega (arith, seq_inside c.args.seq c.in-Some-seq_at.at mine at_is, long) in
    omega (arith, lt, own.fits, b.records.ok.0, b.records.ok.1, b.records.small)

pub remove-requires : goal.remove-requires
remove-requires c =
    let b = c.self.inside in
    let resource = c.args.resource.now in
    let some : place_from 0 0 resource b.registered.items b.counts.items ≡ Some c.in-Some.place =
    (λ i. place_from 0 0 resource (sym c.deref.ensures.value i) (sym c.deref-2.ensures.value i)) ∙ sym c.place_of.ensures ∙ c.in-Some.is in
    let own = own_place b.registered.items b.counts.items b.records.items c.args.self.now.accounts b.room resource c.in-Some.place c.self.invariant.1 c.self.invariant.2 (ap (λ (v : BookView). v.accounts) c.self.view_is) some in
    let p = c.in-Some.place in
    let mine : List LogRecord = take p.counts.kept (drop p.start b.records.items) in
    let at_is : seq_from 0 c.args.seq mine ≡ Some c.in-Some-seq_at.at =
    ap (seq_from 0 c.args.seq) (sym (c.own_records.ensures ∙ ap (λ (l : List LogRecord). take p.counts.kept (drop p.start l)) c.deref-3.ensures.value)) ∙ sym c.seq_at.ensures ∙ c.in-Some-seq_at.is in
    let long : length mine ≡ p.counts.kept = length-take-le p.counts.kept (drop p.start b.records.items) (omega (arith, length-drop p.start b.records.items, own.fits)) in
    let lt : c.in-Some-seq_at.at < p.counts.kept = omega (arith, seq_inside c.args.seq c.in-Some-seq_at.at mine at_is, long) in
    omega (arith, lt, own.fits, b.records.ok.0)

pub index_mut-requires : goal.index_mut-requires
index_mut-requires c =
    let b = c.self.inside in
    let resource = c.args.resource.now in
    let some : place_from 0 0 resource b.registered.items b.counts.items ≡ Some c.in-Some.place =
    (λ i. place_from 0 0 resource (sym c.deref.ensures.value i) (sym c.deref-2.ensures.value i)) ∙ sym c.place_of.ensures ∙ c.in-Some.is in
    let own = own_place b.registered.items b.counts.items b.records.items c.args.self.now.accounts b.room resource c.in-Some.place c.self.invariant.1 c.self.invariant.2 (ap (λ (v : BookView). v.accounts) c.self.view_is) some in
    omega (arith, own.inside, b.counts.ok.0)

pub overflow_sub-index_mut : goal.overflow_sub-index_mut
overflow_sub-index_mut c =
    let b = c.self.inside in
    let resource = c.args.resource.now in
    let some : place_from 0 0 resource b.registered.items b.counts.items ≡ Some c.in-Some.place =
    (λ i. place_from 0 0 resource (sym c.deref.ensures.value i) (sym c.deref-2.ensures.value i)) ∙ sym c.place_of.ensures ∙ c.in-Some.is in
    let own = own_place b.registered.items b.counts.items b.records.items c.args.self.now.accounts b.room resource c.in-Some.place c.self.invariant.1 c.self.invariant.2 (ap (λ (v : BookView). v.accounts) c.self.view_is) some in
    let p = c.in-Some.place in
    let mine : List LogRecord = take p.counts.kept (drop p.start b.records.items) in
    let at_is : seq_from 0 c.args.seq mine ≡ Some c.in-Some-seq_at.at =
    ap (seq_from 0 c.args.seq) (sym (c.own_records.ensures ∙ ap (λ (l : List LogRecord). take p.counts.kept (drop p.start l)) c.deref-3.ensures.value)) ∙ sym c.seq_at.ensures ∙ c.in-Some-seq_at.is in
    let long : length mine ≡ p.counts.kept = length-take-le p.counts.kept (drop p.start b.records.items) (omega (arith, length-drop p.start b.records.items, own.fits)) in
    let lt : c.in-Some-seq_at.at < p.counts.kept = omega (arith, seq_inside c.args.seq c.in-Some-seq_at.at mine at_is, long) in
    let counted : c.index_mut.result.now ≡ p.counts = c.index_mut.ensures.value ∙ own.own c.index_mut.result.now in
    omega (arith, lt, ap (λ (d : Counts). d.kept) counted)

pub invariant_of-self : goal.invariant_of-self
invariant_of-self c =
    let b = c.self.inside in
    let resource = c.args.resource.now in
    let some : place_from 0 0 resource b.registered.items b.counts.items ≡ Some c.in-Some.place =
    (λ i. place_from 0 0 resource (sym c.deref.ensures.value i) (sym c.deref-2.ensures.value i)) ∙ sym c.place_of.ensures ∙ c.in-Some.is in
    let own = own_place b.registered.items b.counts.items b.records.items c.args.self.now.accounts b.room resource c.in-Some.place c.self.invariant.1 c.self.invariant.2 (ap (λ (v : BookView). v.accounts) c.self.view_is) some in
    let p = c.in-Some.place in
    let mine : List LogRecord = take p.counts.kept (drop p.start b.records.items) in
    let at_is : seq_from 0 c.args.seq mine ≡ Some c.in-Some-seq_at.at =
    ap (seq_from 0 c.args.seq) (sym (c.own_records.ensures ∙ ap (λ (l : List LogRecord). take p.counts.kept (drop p.start l)) c.deref-3.ensures.value)) ∙ sym c.seq_at.ensures ∙ c.in-Some-seq_at.is in
    let long : length mine ≡ p.counts.kept = length-take-le p.counts.kept (drop p.start b.records.items) (omega (arith, length-drop p.start b.records.items, own.fits)) in
    let lt : c.in-Some-seq_at.at < p.counts.kept = omega (arith, seq_inside c.args.seq c.in-Some-seq_at.at mine at_is, long) in
    let counted : c.index_mut.result.now ≡ p.counts = c.index_mut.ensures.value ∙ own.own c.index_mut.result.now in
    let written : c.index_mut.result.now.written ≡ p.counts.written = ap (λ (d : Counts). d.written) counted in
    let kept : c.index_mut.result.now.kept ≡ p.counts.kept = ap (λ (d : Counts). d.kept) counted in
    let less : Counts = record { written = c.index_mut.result.now.written; kept = c.index_mut.result.now.kept - 1 } in
    let one : IsWithin b.room less = omega (arith, own.bound, written) in (
      length-set b.counts.items p.index less ∙ c.self.invariant.0,
      omega (arith, count_set b.counts.items p.index less.written less.kept p.counts own.inside own.own, kept, lt, c.self.invariant.1, c.remove.ensures.len, b.records.ok.0, c.remove.new.self.ok.0),
      All-set (IsWithin b.room) b.counts.items p.index less one c.self.invariant.2,
      c.self.invariant.3,
      c.self.invariant.4,
      omega (arith, c.self.invariant.5, c.remove.ensures.len, c.remove.ensures.capacity),
      c.self.invariant.6,
    )

pub returns : goal.returns
returns c =
    let b = c.self.inside in
    let resource = c.args.resource.now in
    let some : place_from 0 0 resource b.registered.items b.counts.items ≡ Some c.in-Some.place =
    (λ i. place_from 0 0 resource (sym c.deref.ensures.value i) (sym c.deref-2.ensures.value i)) ∙ sym c.place_of.ensures ∙ c.in-Some.is in
    let own = own_place b.registered.items b.counts.items b.records.items c.args.self.now.accounts b.room resource c.in-Some.place c.self.invariant.1 c.self.invariant.2 (ap (λ (v : BookView). v.accounts) c.self.view_is) some in
    let p = c.in-Some.place in
    let mine : List LogRecord = take p.counts.kept (drop p.start b.records.items) in
    let at_is : seq_from 0 c.args.seq mine ≡ Some c.in-Some-seq_at.at =
    ap (seq_from 0 c.args.seq) (sym (c.own_records.ensures ∙ ap (λ (l : List LogRecord). take p.counts.kept (drop p.start l)) c.deref-3.ensures.value)) ∙ sym c.seq_at.ensures ∙ c.in-Some-seq_at.is in
    let long : length mine ≡ p.counts.kept = length-take-le p.counts.kept (drop p.start b.records.items) (omega (arith, length-drop p.start b.records.items, own.fits)) in
    let lt : c.in-Some-seq_at.at < p.counts.kept = omega (arith, seq_inside c.args.seq c.in-Some-seq_at.at mine at_is, long) in
    let counted : c.index_mut.result.now ≡ p.counts = c.index_mut.ensures.value ∙ own.own c.index_mut.result.now in
    let less : Counts = record { written = c.index_mut.result.now.written; kept = c.index_mut.result.now.kept - 1 } in
    let kept : less.kept + 1 ≡ p.counts.kept = omega (arith, ap (λ (d : Counts). d.kept) counted, lt) in
    let one = forgot_one b.registered.items b.counts.items b.records.items c.args.self.now.accounts b.room resource p own c.args.seq c.in-Some-seq_at.at at_is less (ap (λ (d : Counts). d.written) counted) kept c.remove.new.self.items c.remove.ensures.items in
    (λ i. record { accounts = one i; room = ap (λ (v : BookView). v.room) c.self.view_is i })
