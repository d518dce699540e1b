use Rattle.std.proofs.Common.{◌≡◌, [], ◌∷◌, Ok, Err, subst}
use Rattle.crm_driver.specs.Puts.{RowPut, MakesPuts}
use Rattle.crm_driver.specs.RowRules.{put_of}
use Rattle.crm_driver.proofs.Putting.{one_made, one_absent, one_failed}
use Rattle.crm_driver.proofs.put.put_amount.Goals as goal

pub returns-in-Ok : goal.returns-in-Ok
returns-in-Ok g c =
    let site = g.S.Site in
    let old = c.args.site.now in
    let new = c.row_put.new.self in
    let asked = put_of c.as_bytes.result.now c.as_bytes-2.result.now c.get.result in
    let same : asked ≡ put_of c.args.resource.now c.args.key.now c.args.amount = λ i. put_of (c.as_bytes.ensures.value i) (c.as_bytes-2.ensures.value i) (c.get.ensures.value i) in
    subst (λ (p : RowPut). MakesPuts site {A = Unit {0}} (p ∷ []) (Ok (tt {0})) old new) same
    (one_made site asked old new (λ told i left. g.met.S.Site.only_now old i told left) c.row_put.ensures.crash c.row_put.ensures.time (tt {0}) c.in-Ok.ensures.put c.in-Ok.ensures.was c.in-Ok.ensures.certain c.row_put.ensures.cause.no_fewer)

pub returns-in-Err-NoRow : goal.returns-in-Err-NoRow
returns-in-Err-NoRow g c =
    let site = g.S.Site in
    let old = c.args.site.now in
    let new = c.row_put.new.self in
    let asked = put_of c.as_bytes.result.now c.as_bytes-2.result.now c.get.result in
    let same : asked ≡ put_of c.args.resource.now c.args.key.now c.args.amount = λ i. put_of (c.as_bytes.ensures.value i) (c.as_bytes-2.ensures.value i) (c.get.ensures.value i) in
    subst (λ (p : RowPut). MakesPuts site {A = Unit {0}} (p ∷ []) (Ok (tt {0})) old new) same
    (one_absent site asked old new (λ told i left. g.met.S.Site.only_now old i told left) c.row_put.ensures.crash c.row_put.ensures.time (tt {0}) (λ told. c.row_put.ensures.no_row told search) (λ told. c.row_put.ensures.unchanged told search) c.row_put.ensures.cause.no_fewer)

pub returns-in-Err-Failed : goal.returns-in-Err-Failed
returns-in-Err-Failed g c =
    let site = g.S.Site in
    let old = c.args.site.now in
    let new = c.row_put.new.self in
    let asked = put_of c.as_bytes.result.now c.as_bytes-2.result.now c.get.result in
    let same : asked ≡ put_of c.args.resource.now c.args.key.now c.args.amount = λ i. put_of (c.as_bytes.ensures.value i) (c.as_bytes-2.ensures.value i) (c.get.ensures.value i) in
    subst (λ (p : RowPut). MakesPuts site {A = Unit {0}} (p ∷ []) (Err (record {})) old new) same
    (one_failed site asked old new (λ told i left. g.met.S.Site.only_now old i told left) c.row_put.ensures.crash c.row_put.ensures.time (record { no_fewer = c.row_put.ensures.cause.no_fewer; cause = λ f. c.row_put.ensures.cause.cause search }))
