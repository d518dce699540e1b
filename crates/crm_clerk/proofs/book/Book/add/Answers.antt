use Rattle.std.proofs.Common.{◌∙◌, ◌-◌, ◌++◌, ◌∷◌, [], refl, ap}
use Rattle.crm_clerk.specs.Accounts.{Account, BookView, new_account}
use Rattle.crm_clerk.specs.Books.{accounts_in}
use Rattle.crm_clerk.proofs.Books.{one_more}
use Rattle.crm_clerk.proofs.book.Book.add.Goals as goal

pub returns : goal.returns
returns c =
    let b = c.self.inside in
    let one : Account = new_account c.args.resource.now c.args.phases in
    (λ i. record { accounts = accounts_in (c.push_reserved.ensures.items i) (c.push_reserved-2.ensures.items i) b.records.items; room = b.room - 1 })
    ∙ (λ i. record { accounts = one_more b.registered.items b.counts.items b.records.items (c.args.resource.now, c.args.phases) (record { written = 0; kept = 0 }) c.self.invariant.0 refl i; room = b.room - 1 })
    ∙ ap (λ (v : BookView). record { accounts = v.accounts ++ one ∷ []; room = v.room - 1 }) c.self.view_is
