use Rattle.std.proofs.Common.{◌≡◌, ◌∙◌, ◌+◌, ◌-◌, Some, None, option_map, sym, ap, arith, length-set}
use Rattle.crm_clerk.specs.declared.book.Counts.{Counts}
use Rattle.crm_clerk.specs.Accounts.{BookView, account_of, next_entry}
use Rattle.crm_clerk.specs.Books.{IsWithin}
use Rattle.crm_clerk.specs.Places.{place_from}
use Rattle.crm_clerk.proofs.Books.{found_none, own_place, wrote_one, count_set, within_set}
use Rattle.crm_clerk.proofs.book.Book.write.Goals as goal

pub returns-in_default-clause-entry : goal.returns-in_default-clause-entry
returns-in_default-clause-entry c =
    let b = c.self.inside in
    let resource = c.args.resource.now in
    let none : place_from 0 0 resource b.registered.items b.counts.items ≡ None =
    (λ i. place_from 0 0 resource (sym c.deref.ensures.value i) (sym c.deref-2.ensures.value i)) ∙ sym c.place_of.ensures ∙ c.in_default.is in
    let gone = found_none 0 0 resource b.registered.items b.counts.items b.records.items none in
    sym (ap (λ (v : BookView). option_map (next_entry c.args.key.now c.args.old c.args.new) (account_of resource v.accounts)) (sym c.self.view_is) ∙ ap (option_map (next_entry c.args.key.now c.args.old c.args.new)) gone)

pub overflow_add-entry : goal.overflow_add-entry
overflow_add-entry c =
    let b = c.self.inside in
    let resource = c.args.resource.now in
    let some : place_from 0 0 resource b.registered.items b.counts.items ≡ Some c.in-Some.place =
    (λ i. place_from 0 0 resource (sym c.deref.ensures.value i) (sym c.deref-2.ensures.value i)) ∙ sym c.place_of.ensures ∙ c.in-Some.is in
    let own = own_place b.registered.items b.counts.items b.records.items c.args.self.now.accounts b.room resource c.in-Some.place c.self.invariant.1 c.self.invariant.2 (ap (λ (v : BookView). v.accounts) c.self.view_is) some in
    omega (arith, own.bound, ap (λ (v : BookView). v.room) c.self.view_is, c.requires)

pub overflow_add-place : goal.overflow_add-place
overflow_add-place c =
    let b = c.self.inside in
    let resource = c.args.resource.now in
    let some : place_from 0 0 resource b.registered.items b.counts.items ≡ Some c.in-Some.place =
    (λ i. place_from 0 0 resource (sym c.deref.ensures.value i) (sym c.deref-2.ensures.value i)) ∙ sym c.place_of.ensures ∙ c.in-Some.is in
    let own = own_place b.registered.items b.counts.items b.records.items c.args.self.now.accounts b.room resource c.in-Some.place c.self.invariant.1 c.self.invariant.2 (ap (λ (v : BookView). v.accounts) c.self.view_is) some in
    omega (arith, own.fits, b.records.ok.0, b.records.ok.1, b.records.small)

pub put_in-requires-clause-inside : goal.put_in-requires-clause-inside
put_in-requires-clause-inside c =
    let b = c.self.inside in
    let resource = c.args.resource.now in
    let some : place_from 0 0 resource b.registered.items b.counts.items ≡ Some c.in-Some.place =
    (λ i. place_from 0 0 resource (sym c.deref.ensures.value i) (sym c.deref-2.ensures.value i)) ∙ sym c.place_of.ensures ∙ c.in-Some.is in
    let own = own_place b.registered.items b.counts.items b.records.items c.args.self.now.accounts b.room resource c.in-Some.place c.self.invariant.1 c.self.invariant.2 (ap (λ (v : BookView). v.accounts) c.self.view_is) some in
    omega (arith, own.fits, b.records.ok.0)

pub overflow_add-place-2 : goal.overflow_add-place-2
overflow_add-place-2 c =
    let b = c.self.inside in
    let resource = c.args.resource.now in
    let some : place_from 0 0 resource b.registered.items b.counts.items ≡ Some c.in-Some.place =
    (λ i. place_from 0 0 resource (sym c.deref.ensures.value i) (sym c.deref-2.ensures.value i)) ∙ sym c.place_of.ensures ∙ c.in-Some.is in
    let own = own_place b.registered.items b.counts.items b.records.items c.args.self.now.accounts b.room resource c.in-Some.place c.self.invariant.1 c.self.invariant.2 (ap (λ (v : BookView). v.accounts) c.self.view_is) some in
    omega (arith, own.bound, ap (λ (v : BookView). v.room) c.self.view_is, c.requires)

pub overflow_add-place-3 : goal.overflow_add-place-3
overflow_add-place-3 c =
    let b = c.self.inside in
    let resource = c.args.resource.now in
    let some : place_from 0 0 resource b.registered.items b.counts.items ≡ Some c.in-Some.place =
    (λ i. place_from 0 0 resource (sym c.deref.ensures.value i) (sym c.deref-2.ensures.value i)) ∙ sym c.place_of.ensures ∙ c.in-Some.is in
    let own = own_place b.registered.items b.counts.items b.records.items c.args.self.now.accounts b.room resource c.in-Some.place c.self.invariant.1 c.self.invariant.2 (ap (λ (v : BookView). v.accounts) c.self.view_is) some in
    omega (arith, own.fits, b.records.ok.0, b.records.ok.1, b.records.small)

pub index_mut-requires : goal.index_mut-requires
index_mut-requires c =
    let b = c.self.inside in
    let resource = c.args.resource.now in
    let some : place_from 0 0 resource b.registered.items b.counts.items ≡ Some c.in-Some.place =
    (λ i. place_from 0 0 resource (sym c.deref.ensures.value i) (sym c.deref-2.ensures.value i)) ∙ sym c.place_of.ensures ∙ c.in-Some.is in
    let own = own_place b.registered.items b.counts.items b.records.items c.args.self.now.accounts b.room resource c.in-Some.place c.self.invariant.1 c.self.invariant.2 (ap (λ (v : BookView). v.accounts) c.self.view_is) some in
    omega (arith, own.inside, b.counts.ok.0)

pub invariant_of-self : goal.invariant_of-self
invariant_of-self c =
    let b = c.self.inside in
    let resource = c.args.resource.now in
    let some : place_from 0 0 resource b.registered.items b.counts.items ≡ Some c.in-Some.place =
    (λ i. place_from 0 0 resource (sym c.deref.ensures.value i) (sym c.deref-2.ensures.value i)) ∙ sym c.place_of.ensures ∙ c.in-Some.is in
    let own = own_place b.registered.items b.counts.items b.records.items c.args.self.now.accounts b.room resource c.in-Some.place c.self.invariant.1 c.self.invariant.2 (ap (λ (v : BookView). v.accounts) c.self.view_is) some in
    let p = c.in-Some.place in
    let room : b.room ≡ c.args.self.now.room = ap (λ (v : BookView). v.room) c.self.view_is in
    let more : Counts = record { written = p.counts.written + 1; kept = p.counts.kept + 1 } in
    let one : IsWithin (b.room - 1) more = omega (arith, own.bound, room, c.requires) in (
      length-set b.counts.items p.index more ∙ c.self.invariant.0,
      omega (arith, count_set b.counts.items p.index more.written more.kept p.counts own.inside own.own, c.self.invariant.1, c.put_in.ensures.len, b.records.ok.0, c.put_in.new.records.ok.0),
      within_set b.room b.counts.items p.index more one c.self.invariant.2,
      omega (arith, c.self.invariant.3),
      omega (arith, c.self.invariant.4),
      omega (arith, c.self.invariant.5, c.put_in.ensures.len, c.put_in.ensures.capacity, room, c.requires),
      omega (arith, c.self.invariant.6),
    )

pub returns-clause-entry : goal.returns-clause-entry
returns-clause-entry c =
    let b = c.self.inside in
    let resource = c.args.resource.now in
    let some : place_from 0 0 resource b.registered.items b.counts.items ≡ Some c.in-Some.place =
    (λ i. place_from 0 0 resource (sym c.deref.ensures.value i) (sym c.deref-2.ensures.value i)) ∙ sym c.place_of.ensures ∙ c.in-Some.is in
    let own = own_place b.registered.items b.counts.items b.records.items c.args.self.now.accounts b.room resource c.in-Some.place c.self.invariant.1 c.self.invariant.2 (ap (λ (v : BookView). v.accounts) c.self.view_is) some in
    sym (ap (option_map (next_entry c.args.key.now c.args.old c.args.new)) own.account)

pub returns-clause-some : goal.returns-clause-some
returns-clause-some c =
    let b = c.self.inside in
    let resource = c.args.resource.now in
    let some : place_from 0 0 resource b.registered.items b.counts.items ≡ Some c.in-Some.place =
    (λ i. place_from 0 0 resource (sym c.deref.ensures.value i) (sym c.deref-2.ensures.value i)) ∙ sym c.place_of.ensures ∙ c.in-Some.is in
    let own = own_place b.registered.items b.counts.items b.records.items c.args.self.now.accounts b.room resource c.in-Some.place c.self.invariant.1 c.self.invariant.2 (ap (λ (v : BookView). v.accounts) c.self.view_is) some in
    let one = wrote_one b.registered.items b.counts.items b.records.items c.args.self.now.accounts b.room resource c.in-Some.place own c.args.key.now c.args.old c.args.new c.put_in.new.records.items c.put_in.ensures.items in
    (λ i. record { accounts = one i; room = ap (λ (v : BookView). v.room - 1) c.self.view_is i })
