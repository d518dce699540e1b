use Rattle.std.proofs.Common.{[], ◌∷◌, Bool, Ok, cond, sym, subst}
use Rattle.crm_driver.specs.Puts.{MakesPuts}
use Rattle.crm_driver.specs.RowRules.{put_of}
use Rattle.crm_driver.proofs.Putting.{none_made}
use Rattle.qc_worker.proofs.carrying.put_back.Goals as goal

pub returns-then-not-resource : goal.returns-then-not-resource
returns-then-not-resource g c =
    let site = c.args.site.now in
    let put = put_of c.args.resource.now.name c.args.last.now.key c.args.last.now.old in
    let P : Bool → Type 0 = λ b. MakesPuts g.S.Site {A = Unit {0}} (cond b (put ∷ []) []) (Ok (tt {0})) site site in
    subst P (sym c.if-not-resource.true) (none_made g.S.Site (tt {0}) site (λ told i left. g.met.S.Site.only_now site i told left))
