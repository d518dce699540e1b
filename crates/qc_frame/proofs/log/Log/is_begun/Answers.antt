use Rattle.std.proofs.Common.{◌≡◌, ◌≤◌, zero, length, take, drop, sym, ◌∙◌, ap, subst, arith, rules, IfSome}
use Rattle.qc_site.specs.Image.{bytes_of}
use Rattle.qc_frame.specs.Frame.{HasHeader, groups_past}
use Rattle.qc_frame.specs.Found.{Finds, OpenFor}
use Rattle.qc_frame.proofs.Begun.{some_group}
use Rattle.qc_frame.proofs.log.Log.is_begun.Goals as goal

pub returns-in-Open : goal.returns-in-Open
returns-in-Open g c = record {
  tells = λ told.
      let site = g.S.Site in
      let file = bytes_of c.args.file (site.shown c.args.site.now) in
      let mid = bytes_of c.args.file (site.shown c.length_under.new.site) in
      let same : site.shown c.length_under.new.site ≡ site.shown c.args.site.now = search rules in
      let here : mid ≡ file = ap (λ i. bytes_of c.args.file i) same in
      let there : HasHeader c.args.header.now file × (c.in-Some.length ≡ length file) = subst (λ r. IfSome r (λ n. HasHeader c.args.header.now file × (n ≡ length file))) c.in-Some.is (c.in_ok-length.ensures.there told) in
      let size : c.in-Some.length ≡ length mid = there.1 ∙ ap length (sym here) in
      let some : 16 ≤ c.in-Some.length = (subst (λ r. IfSome r (λ n. (16 ≤ n) × (n ≤ 4611686018427387904))) c.in-Some.is c.in_ok-length.ensures.bound).0 in
      let found : OpenFor c.in-Open.field-0 (drop 16 mid) = subst (λ x. Finds (drop 16 mid) x) c.in-Open.is (c.in_ok-read_gate.ensures.gate told size some) in
      (there.0, λ none. some_group c.in-Open.field-0 (drop 16 mid) found (ap (λ l. groups_past zero (drop 16 l)) here ∙ none));
  certain = search rules;
  writes = search rules;
}
