use Rattle.std.proofs.Common.{ℕ, List, ◌++◌, arith, Ok}
use Rattle.qc_protocol.specs.Texts.{pieces_of}
use Rattle.qc_drill.specs.Stops.{AnswersAll}
use Rattle.qc_drill.proofs.Causes.{goes-ready, leaves-joined, leaves-ok}
use Rattle.qc_drill.proofs.Joined.{lines-other}
use Rattle.qc_drill.proofs.Reading.{so-far-on, at-end, ended, stopped, finish-whole}
use Rattle.qc_drill.proofs.turn.Drill.answer_all.Goals as goal

pub returns-in-Ok-eq0-clause-reads : goal.returns-in-Ok-eq0-clause-reads
returns-in-Ok-eq0-clause-reads g c =
    let was = c.loop-self.invariant.so_far in
    let taken : List ℕ = was.0 in
    let n : ℕ = c.in-Ok-eq0.field-0 in
    let r = c.in-Ok-eq0.ensures.reads (pieces_of taken).rest was.1.holds in
    let all : List ℕ = taken ++ r.given in
    let on = so-far-on g.S.Site n taken c.loop-self.more c.args.self.now.hub c.loop-self.self.hub c.take_some.new.self.hub c.loop-self.self.piece c.take_some.new.self.piece c.args.site.now c.loop-self.site c.take_some.new.site _ _ _ _ _ _
    (λ site t i told le here. g.met.S.Site.counts_now site t i told le here) c.in-Ok-eq0.ensures.count was.1 r in
    let kinds = c.finish.ensures.few_kinds in
    ended g.S.Site c.finish.result all _ c.args.self.now.hub c.take_some.new.self.hub c.finish.new.self.hub c.take_some.new.self.piece c.args.site.now c.take_some.new.site c.finish.new.site _ _ _ _ _
    (λ site t i told le here. g.met.S.Site.counts_now site t i told le here) on
    (at-end g.S.Site n taken c.loop-self.more c.args.self.now.hub c.loop-self.self.hub c.take_some.new.self.hub c.loop-self.self.piece c.take_some.new.self.piece c.args.site.now c.loop-self.site c.take_some.new.site _ _ _ _ _ _ was.1 (omega arith) r)
    kinds
    (lines-other g.S.Site _ _ (AnswersAll c.finish.result) _ _ _ _ _ _ _ (finish-whole c.finish.result kinds) (λ s h. h) (c.finish.ensures.answers (pieces_of all).rest on.holds))

pub loop-self-preserved : goal.loop-self-preserved
loop-self-preserved g c =
    let was = c.loop-self.invariant.so_far in
    let taken : List ℕ = was.0 in
    let r = c.in-Ok.ensures.reads (pieces_of taken).rest was.1.holds in
    record {
      ready = goes-ready g.S.Site (Ok c.in-Ok.count) c.loop-self.self.hub c.loop-self.site _ c.take_some.new.self.hub c.take_some.new.site _ c.loop-self.invariant.ready (λ e. cc) c.in-Ok.ensures.leaves;
      leaves = leaves-ok g.S.Site c.in-Ok.count (tt {0}) c.args.self.now.hub c.args.site.now _ c.take_some.new.self.hub c.take_some.new.site _
          (leaves-joined g.S.Site _ (Ok c.in-Ok.count) c.args.self.now.hub c.loop-self.self.hub c.take_some.new.self.hub c.args.site.now c.loop-self.site c.take_some.new.site _ _ _ c.loop-self.invariant.ready c.loop-self.invariant.leaves c.in-Ok.ensures.leaves);
      source_count = omega (arith, c.loop-self.invariant.source_count, c.in-Ok.ensures.source_cause.no_fewer);
      so_far = (
        taken ++ r.given,
        so-far-on g.S.Site c.in-Ok.count taken c.loop-self.more c.args.self.now.hub c.loop-self.self.hub c.take_some.new.self.hub c.loop-self.self.piece c.take_some.new.self.piece c.args.site.now c.loop-self.site c.take_some.new.site _ _ _ _ _ _
            (λ site t i told le here. g.met.S.Site.counts_now site t i told le here) c.in-Ok.ensures.count was.1 r,
      );
    }

pub returns-in-Err-clause-reads : goal.returns-in-Err-clause-reads
returns-in-Err-clause-reads g c =
    let was = c.loop-self.invariant.so_far in
    let taken : List ℕ = was.0 in
    stopped g.S.Site c.in-Err.stop taken c.loop-self.more c.args.self.now.hub c.loop-self.self.hub c.take_some.new.self.hub c.loop-self.self.piece c.take_some.new.self.piece c.args.site.now c.loop-self.site c.take_some.new.site _ _ _ _ _ _
    (λ site t i told le here. g.met.S.Site.counts_now site t i told le here) was.1 (c.in-Err.ensures.reads (pieces_of taken).rest was.1.holds)
