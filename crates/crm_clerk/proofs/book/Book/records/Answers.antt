use Rattle.std.proofs.Common.{◌≡◌, ◌∙◌, [], length, List, take, drop, Some, None, sym, ap, arith}
use Rattle.std.specs.Option.{option_map_or}
use Rattle.qc_base.specs.declared.log_line.LogRecord.{LogRecord}
use Rattle.crm_clerk.specs.Accounts.{Account, BookView, account_of}
use Rattle.crm_clerk.specs.Places.{place_from}
use Rattle.crm_clerk.proofs.Books.{found_none, own_place}
use Rattle.crm_clerk.proofs.book.Book.records.Goals as goal

pub returns-in_default : goal.returns-in_default
returns-in_default c =
    let b = c.self.inside in
    let resource = c.args.resource.now in
    let none : place_from 0 0 resource b.registered.items b.counts.items ≡ None =
    (λ i. place_from 0 0 resource (sym c.deref.ensures.value i) (sym c.deref-2.ensures.value i)) ∙ sym c.place_of.ensures ∙ c.in_default.is in
    sym (ap (λ (v : BookView). option_map_or (λ (a : Account). a.records) (account_of resource v.accounts) []) (sym c.self.view_is) ∙ ap (λ o. option_map_or (λ (a : Account). a.records) o []) (found_none 0 0 resource b.registered.items b.counts.items b.records.items none))

pub own_records-requires : goal.own_records-requires
own_records-requires c =
    let b = c.self.inside in
    let resource = c.args.resource.now in
    let some : place_from 0 0 resource b.registered.items b.counts.items ≡ Some c.in-Some.place =
    (λ i. place_from 0 0 resource (sym c.deref.ensures.value i) (sym c.deref-2.ensures.value i)) ∙ sym c.place_of.ensures ∙ c.in-Some.is in
    let own = own_place b.registered.items b.counts.items b.records.items c.args.self.now.accounts b.room resource c.in-Some.place c.self.invariant.1 c.self.invariant.2 (ap (λ (v : BookView). v.accounts) c.self.view_is) some in
    omega (arith, own.fits, ap length c.deref-3.ensures.value)

pub returns : goal.returns
returns c =
    let b = c.self.inside in
    let resource = c.args.resource.now in
    let p = c.in-Some.place in
    let some : place_from 0 0 resource b.registered.items b.counts.items ≡ Some c.in-Some.place =
    (λ i. place_from 0 0 resource (sym c.deref.ensures.value i) (sym c.deref-2.ensures.value i)) ∙ sym c.place_of.ensures ∙ c.in-Some.is in
    let own = own_place b.registered.items b.counts.items b.records.items c.args.self.now.accounts b.room resource c.in-Some.place c.self.invariant.1 c.self.invariant.2 (ap (λ (v : BookView). v.accounts) c.self.view_is) some in
    c.own_records.ensures ∙ ap (λ (l : List LogRecord). take p.counts.kept (drop p.start l)) c.deref-3.ensures.value ∙ sym (ap (λ o. option_map_or (λ (a : Account). a.records) o []) own.account)
