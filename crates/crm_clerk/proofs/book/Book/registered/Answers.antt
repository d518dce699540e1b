use Rattle.std.proofs.Common.{◌∙◌, ap, map}
use Rattle.crm_clerk.specs.Accounts.{Account, BookView}
use Rattle.crm_clerk.proofs.Books.{pairs}
use Rattle.crm_clerk.proofs.book.Book.registered.Goals as goal

pub returns : goal.returns
returns c =
    let b = c.self.inside in
    c.as_slice.ensures.value ∙ pairs b.registered.items b.counts.items b.records.items c.self.invariant.0 ∙ ap (λ (v : BookView). map (λ (a : Account). (a.resource, a.phases)) v.accounts) c.self.view_is
