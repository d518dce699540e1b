use Rattle.std.proofs.Common.{◌≡◌, ◌≤◌, ℕ, List, [], take, length, ap, sym, subst, arith, length-take, Err, refl, rules}
use Rattle.std.proofs.lemmas.List.{take_all}
use Rattle.qc_protocol.specs.Texts.{pieces_of}
use Rattle.qc_drill.specs.declared.stop.Stop.{Stop}
use Rattle.qc_drill.specs.declared.stop.Stop.TheVariants.{SourceFault, InputLong}
use Rattle.qc_drill.specs.Calls.{AnswersLines}
use Rattle.qc_drill.specs.Holds.{behind}
use Rattle.qc_drill.specs.Stops.{AllAt}
use Rattle.qc_drill.proofs.Joined.{no-line, lines-other}
use Rattle.qc_drill.proofs.Reading.{take-nil, take-front, took-still, took-read, read-end, stop-whole}
use Rattle.qc_drill.proofs.turn.Drill.take_some.Goals as goal

pub returns-in_default-clause-reads : goal.returns-in_default-clause-reads
returns-in_default-clause-reads g c = λ line h.
    let hub = c.args.self.now.hub in
    let site = c.args.site.now in
    let contents = g.O.Sink.contents c.args.sink.now in
    let same : g.I.Source.left c.read.new.self ≡ g.I.Source.left c.args.source.now = search rules in
    let P : List ℕ → Type 0 = λ l. AnswersLines g.S.Site (behind line (pieces_of l)).ended (Unit {0}) hub site contents hub site contents in
    record {
      given = [];
      took = took-still _ _ same;
      few = omega arith;
      count = tt;
      end = tt;
      long = λ e. absurd cc;
      fault = λ e. refl;
      holds = tt;
      answers = subst P (sym (take-nil c.args.more)) (no-line g.S.Site (Unit {0}) hub hub site contents (λ i told left. g.met.S.Site.only_now site i told left) c.requires (λ s h. h));
    }

pub returns-in-Ok-take_bytes-clause-reads : goal.returns-in-Ok-take_bytes-clause-reads
returns-in-Ok-take_bytes-clause-reads g c = λ line h.
    let n : ℕ = c.in-Ok.count in
    let into : List ℕ = c.read.new.into in
    let size : length into ≡ 4096 = search rules in
    let fits : n ≤ 4096 = search rules in
    let more : c.args.more ≤ n = omega (arith, c.if-count-more.true) in
    let P : List ℕ → Type 0 = λ l. AnswersLines g.S.Site (behind line (pieces_of l)).ended (Unit {0}) c.args.self.now.hub c.args.site.now (g.O.Sink.contents c.args.sink.now) c.take_bytes.new.self.hub c.take_bytes.new.site (g.O.Sink.contents c.take_bytes.new.sink) in
    record {
      given = take n into;
      took = took-read n into _ _ c.in-Ok.ensures.taken;
      few = omega (arith, length-take n into, size, fits);
      count = tt;
      end = tt;
      long = λ e. omega (arith, length-take n into, size, fits, c.if-count-more.true);
      fault = λ e. absurd cc;
      holds = tt;
      answers = subst P (sym (take-front c.args.more n into more)) (lines-other g.S.Site _ _ (Unit {0}) _ _ _ _ _ _ _ (λ w. refl) (λ s h. h) (c.in-Ok-take_bytes.ensures.answers line h));
    }

pub returns-in-Err-clause-reads : goal.returns-in-Err-clause-reads
returns-in-Err-clause-reads g c = λ line h.
    let n : ℕ = c.in-Ok.count in
    let into : List ℕ = c.read.new.into in
    let size : length into ≡ 4096 = search rules in
    let fits : n ≤ 4096 = search rules in
    let more : c.args.more ≤ n = omega (arith, c.if-count-more.true) in
    let kinds = c.in-Err.ensures.few_kinds in
    let P : List ℕ → Type 0 = λ l. AnswersLines g.S.Site (behind line (pieces_of l)).ended (AllAt c.in-Err.stop) c.args.self.now.hub c.args.site.now (g.O.Sink.contents c.args.sink.now) c.take_bytes.new.self.hub c.take_bytes.new.site (g.O.Sink.contents c.take_bytes.new.sink) in
    record {
      given = take n into;
      took = took-read n into _ _ c.in-Ok.ensures.taken;
      few = omega (arith, length-take n into, size, fits);
      count = tt;
      end = tt;
      long = λ e. let is : c.in-Err.stop ≡ InputLong = cc in absurd (kinds.1 (ap (λ (x : Stop). Err x) is));
      fault = λ e. let is : c.in-Err.stop ≡ SourceFault = cc in absurd (kinds.0 (ap (λ (x : Stop). Err x) is));
      holds = tt;
      answers = subst P (sym (take-front c.args.more n into more))
          (lines-other g.S.Site _ _ (AllAt c.in-Err.stop) _ _ _ _ _ _ _ (λ w. absurd (stop-whole c.in-Err.stop (λ is. kinds.0 (ap (λ (x : Stop). Err x) is)) (λ is. kinds.1 (ap (λ (x : Stop). Err x) is)) w)) (λ s h. h) (c.in-Err.ensures.answers line h));
    }

pub returns-in-Ok-take_bytes-2-clause-reads : goal.returns-in-Ok-take_bytes-2-clause-reads
returns-in-Ok-take_bytes-2-clause-reads g c = λ line h.
    let n : ℕ = c.in-Ok.count in
    let into : List ℕ = c.read.new.into in
    let size : length into ≡ 4096 = search rules in
    let fits : n ≤ 4096 = search rules in
    let P : List ℕ → Type 0 = λ l. AnswersLines g.S.Site (behind line (pieces_of l)).ended (Unit {0}) c.args.self.now.hub c.args.site.now (g.O.Sink.contents c.args.sink.now) c.take_bytes-2.new.self.hub c.take_bytes-2.new.site (g.O.Sink.contents c.take_bytes-2.new.sink) in
    let whole : take c.args.more (take n into) ≡ take n into = take_all c.args.more (take n into) (omega (arith, length-take n into, c.if-count-more.false)) in
    record {
      given = take n into;
      took = took-read n into _ _ c.in-Ok.ensures.taken;
      few = omega (arith, length-take n into, size, fits);
      count = omega (arith, length-take n into, size, fits);
      end = λ none. read-end n into _ (omega (arith, size, fits)) none c.in-Ok.ensures.end;
      long = λ e. absurd cc;
      fault = λ e. absurd cc;
      holds = c.in-Ok-take_bytes-2.ensures.holds line h;
      answers = subst P (sym whole) (lines-other g.S.Site _ _ (Unit {0}) _ _ _ _ _ _ _ (λ w. refl) (λ s h. h) (c.in-Ok-take_bytes-2.ensures.answers line h));
    }

pub returns-in-Err-take_bytes-clause-reads : goal.returns-in-Err-take_bytes-clause-reads
returns-in-Err-take_bytes-clause-reads g c = λ line h.
    let n : ℕ = c.in-Ok.count in
    let into : List ℕ = c.read.new.into in
    let size : length into ≡ 4096 = search rules in
    let fits : n ≤ 4096 = search rules in
    let stop = c.in-Err-take_bytes.stop in
    let kinds = c.in-Err-take_bytes.ensures.few_kinds in
    let P : List ℕ → Type 0 = λ l. AnswersLines g.S.Site (behind line (pieces_of l)).ended (AllAt c.in-Err-take_bytes.stop) c.args.self.now.hub c.args.site.now (g.O.Sink.contents c.args.sink.now) c.take_bytes-2.new.self.hub c.take_bytes-2.new.site (g.O.Sink.contents c.take_bytes-2.new.sink) in
    let whole : take c.args.more (take n into) ≡ take n into = take_all c.args.more (take n into) (omega (arith, length-take n into, c.if-count-more.false)) in
    record {
      given = take n into;
      took = took-read n into _ _ c.in-Ok.ensures.taken;
      few = omega (arith, length-take n into, size, fits);
      count = tt;
      end = tt;
      long = λ e. let is : c.in-Err-take_bytes.stop ≡ InputLong = cc in absurd (kinds.1 (ap (λ (x : Stop). Err x) is));
      fault = λ e. let is : c.in-Err-take_bytes.stop ≡ SourceFault = cc in absurd (kinds.0 (ap (λ (x : Stop). Err x) is));
      holds = tt;
      answers = subst P (sym whole)
          (lines-other g.S.Site _ _ (AllAt c.in-Err-take_bytes.stop) _ _ _ _ _ _ _ (λ w. absurd (stop-whole c.in-Err-take_bytes.stop (λ is. kinds.0 (ap (λ (x : Stop). Err x) is)) (λ is. kinds.1 (ap (λ (x : Stop). Err x) is)) w)) (λ s h. h) (c.in-Err-take_bytes.ensures.answers line h));
    }
