use Rattle.std.proofs.Common.{◌≡◌, ◌∙◌, length, take, sym, ap, arith, rules}
use Rattle.std.proofs.lemmas.List.{take_all}
use Rattle.qc_site.specs.Image.{bytes_of}
use Rattle.qc_frame.proofs.log.length_under.Goals as goal

pub returns : goal.returns
returns g c = record {
  there = λ told.
      let file = bytes_of c.args.file (g.S.Site.shown c.args.site.now) in
      let same : g.S.Site.shown c.len.new.self ≡ g.S.Site.shown c.args.site.now = c.in_ok-length.ensures.same told ∙ c.in_ok-sync.ensures.same told in
      let bytes = c.in_ok-count.ensures.bytes told in
      let all : c.in_ok-count.count ≡ 16 = omega (arith, c.in_ok-count.ensures.count, c.if-count-lt16.false) in
      let eq : c.read.new.into ≡ c.args.header.now = search rules in
      let long : length c.read.new.into ≡ 16 = search rules in (
        ap (λ i. take 16 (bytes_of c.args.file i)) (sym same)
            ∙ sym bytes ∙ ap (λ n. take n c.read.new.into) all ∙ take_all 16 c.read.new.into (omega (arith, long)) ∙ eq,
        c.in_ok-length.ensures.size told ∙ ap (λ i. length (bytes_of c.args.file i)) (c.in_ok-sync.ensures.same told),
      );
  none = search rules;
  bound = search rules;
  certain = λ told i here. c.in_ok-sync.ensures.certain told i (c.len.ensures.crash told i (c.read.ensures.crash told i here));
  writes = search rules;
}
