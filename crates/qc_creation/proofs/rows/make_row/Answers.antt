use Rattle.std.proofs.Common.{◌≡◌, ◌∷◌, [], subst, rules, OnOk}
use Rattle.qc_site.specs.Image.{with_row}
use Rattle.qc_site.specs.Disk.{Follows, RowStep}
use Rattle.qc_site.proofs.Moments.{started, goes_on}
use Rattle.qc_creation.specs.Rows.{opening_row, LeavesFront}
use Rattle.qc_creation.proofs.Rowing.{none_yet, one_row}
use Rattle.qc_creation.proofs.rows.make_row.Goals as goal

pub returns : goal.returns
returns g c =
    let site = g.S.Site in
    let resource = c.args.resource.now in
    let key = c.args.key.now in
    let row = opening_row resource (key, c.args.amount) in
    let before = site.may_leave c.args.site.now in
    let P = LeavesFront (row ∷ []) before in
    record {
      made = λ told. subst (λ n. OnOk c.row_make.result (site.shown c.row_make.new.self ≡ with_row resource key n (site.shown c.args.site.now))) c.get.ensures.value (c.row_make.ensures.made told);
      certain = λ told. subst (λ n. OnOk c.row_make.result (Follows (λ d i. i ≡ with_row resource key n d) before (site.may_leave c.row_make.new.self))) c.get.ensures.value (c.row_make.ensures.certain told);
      any_moment = λ told.
          let follows = subst (λ n. Follows (RowStep resource key n) before (site.may_leave c.row_make.new.self)) c.get.ensures.value (c.row_make.ensures.crash told) in
          let start = started site.moment site.left_since c.args.site.now P (λ i left. none_yet (row ∷ []) before i (g.met.S.Site.only_now c.args.site.now i told left)) in
          goes_on site.moment site.left_since c.args.site.now c.args.site.now c.row_make.new.self P _ start (c.row_make.ensures.time told) (one_row row before (site.may_leave c.row_make.new.self) follows);
      cause = search rules;
    }
