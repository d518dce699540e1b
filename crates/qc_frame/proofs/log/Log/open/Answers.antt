use Rattle.std.proofs.Common.{◌≡◌, ◌∙◌, ◌≤◌, [], length, take, drop, refl, sym, ap, subst, arith, rules, inl, take-append-drop, IfSome}
use Rattle.std.proofs.lemmas.List.{length-take-le}
use Rattle.std.proofs.lemmas.Bool.{false≢true}
use Rattle.std.proofs.lemmas.List.Elements.{All-nil}
use Rattle.qc_site.specs.Image.{bytes_of}
use Rattle.qc_frame.specs.Frame.{IsPayload, HasHeader}
use Rattle.qc_frame.proofs.log.Log.open.Goals as goal

pub returns-clause-opens : goal.returns-clause-opens
returns-clause-opens g c = record {
  opened = search rules;
  stands = λ told.
      let site = g.S.Site in
      let file = bytes_of c.args.file (site.shown c.args.site.now) in
      let now = bytes_of c.args.file (site.shown c.length_under.new.site) in
      let same : site.shown c.length_under.new.site ≡ site.shown c.args.site.now = search rules in
      let is : now ≡ file = ap (λ i. bytes_of c.args.file i) same in
      let there : HasHeader c.args.header.now file × (c.in-Some.length ≡ length file) = subst (λ r. IfSome r (λ n. HasHeader c.args.header.now file × (n ≡ length file))) c.in-Some.is (c.in_ok-length.ensures.there told) in
      let some : 16 ≤ c.in-Some.length = (subst (λ r. IfSome r (λ n. (16 ≤ n) × (n ≤ 4611686018427387904))) c.in-Some.is c.in_ok-length.ensures.bound).0 in
      let size : c.in-Some.length ≡ length now = there.1 ∙ ap length (sym is) in
      record {
        size = size;
        certain = λ i here. c.in_ok-length.ensures.certain told i here ∙ sym is;
        behind = omega arith;
        payloads = [];
        led = record {
          front = take 16 now;
          rest = drop 16 now;
          is = sym (take-append-drop 16 now);
          long = length-take-le 16 now (omega (arith, size, some));
          sized = All-nil IsPayload;
          at = refl;
          further = inl refl;
        };
        closed = λ e. absurd (false≢true e);
      };
  header = λ told. (subst (λ r. IfSome r (λ n. HasHeader c.args.header.now (bytes_of c.args.file (g.S.Site.shown c.args.site.now)) × (n ≡ length (bytes_of c.args.file (g.S.Site.shown c.args.site.now))))) c.in-Some.is (c.in_ok-length.ensures.there told)).0;
  not_made = search rules;
  writes = search rules;
}
