use Rattle.std.proofs.Common.{◌≡◌, ◌∙◌, Some, None, sym, ap, option_map}
use Rattle.crm_clerk.specs.Accounts.{Account, BookView, account_of}
use Rattle.crm_clerk.specs.Places.{place_from}
use Rattle.crm_clerk.proofs.Books.{found_none, own_place}
use Rattle.crm_clerk.proofs.book.Book.written.Goals as goal

pub returns-in_default : goal.returns-in_default
returns-in_default c =
    let b = c.self.inside in
    let resource = c.args.resource.now in
    let none : place_from 0 0 resource b.registered.items b.counts.items ≡ None =
    (λ i. place_from 0 0 resource (sym c.deref.ensures.value i) (sym c.deref-2.ensures.value i)) ∙ sym c.place_of.ensures ∙ c.in_default.is in
    sym (ap (λ (v : BookView). option_map (λ (a : Account). a.written) (account_of resource v.accounts)) (sym c.self.view_is) ∙ ap (option_map (λ (a : Account). a.written)) (found_none 0 0 resource b.registered.items b.counts.items b.records.items none))

pub returns : goal.returns
returns c =
    let b = c.self.inside in
    let resource = c.args.resource.now in
    let some : place_from 0 0 resource b.registered.items b.counts.items ≡ Some c.in-Some.place =
    (λ i. place_from 0 0 resource (sym c.deref.ensures.value i) (sym c.deref-2.ensures.value i)) ∙ sym c.place_of.ensures ∙ c.in-Some.is in
    let own = own_place b.registered.items b.counts.items b.records.items c.args.self.now.accounts b.room resource c.in-Some.place c.self.invariant.1 c.self.invariant.2 (ap (λ (v : BookView). v.accounts) c.self.view_is) some in
    sym (ap (option_map (λ (a : Account). a.written)) own.account)
