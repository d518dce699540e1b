use Rattle.std.proofs.Common.{◌≤◌, ℕ, ◌+◌, List, ◌++◌, length, take, sym, subst, arith, refl, Ok}
use Rattle.std.proofs.lemmas.List.{take_rest, length-drop}
use Rattle.qc_drill.proofs.Causes.{goes-ready, leaves-none, leaves-joined}
use Rattle.qc_drill.proofs.Turns.{CameTo, came-start, came-on, came-end, came-holds, came-stopped, came-within}
use Rattle.qc_drill.proofs.turn.Drill.take_bytes.Goals as goal

pub loop-end-init : goal.loop-end-init
loop-end-init g c = record {
  ready = c.requires.ready;
  small = c.requires.few;
  leaves = leaves-none g.S.Site c.args.self.now.hub c.args.site.now _ c.requires.ready;
  came = λ line h. came-start g.S.Site line c.args.bytes.now c.args.self.now.hub c.args.site.now _ c.args.self.now.piece (λ i told left. g.met.S.Site.only_now c.args.site.now i told left) c.requires.ready h;
}

pub returns-in-Err-clause-answers : goal.returns-in-Err-clause-answers
returns-in-Err-clause-answers g c = λ line h.
    came-stopped g.S.Site line c.args.bytes.now c.loop-end.rest.now _ c.args.self.now.hub c.loop-end.self.hub c.loop-end.self.piece c.args.site.now c.loop-end.site _ _ (λ e. cc) (c.loop-end.invariant.came line h)

pub returns-in-Err-end_line-clause-answers : goal.returns-in-Err-end_line-clause-answers
returns-in-Err-end_line-clause-answers g c = λ line h.
    let came = c.loop-end.invariant.came line h in
    came-within g.S.Site line c.args.bytes.now c.loop-end.rest.now c.in-Some.end _ _ c.args.self.now.hub c.loop-end.self.hub c.end_line.new.self.hub c.loop-end.self.piece c.args.site.now c.loop-end.site c.end_line.new.site _ _ _
    (λ site t i told le here. g.met.S.Site.counts_now site t i told le here) c.in-Some.ensures (λ e. cc) came
    (c.end_line.ensures.answers (came.held ++ take c.in-Some.end c.loop-end.rest.now) (c.in-Ok.ensures came.held came.holds))

pub overflow_add-rest : goal.overflow_add-rest
overflow_add-rest g c = omega (arith, c.in-Some.ensures.0.high, c.loop-end.invariant.small)

pub loop-end-preserved : goal.loop-end-preserved
loop-end-preserved g c =
    let rest : List ℕ = c.loop-end.rest.now in
    let next : ℕ = c.in-Some.end + 1 in
    record {
      ready = goes-ready g.S.Site (Ok c.in-Ok-end_line.field-0) c.loop-end.self.hub c.loop-end.site _ c.end_line.new.self.hub c.end_line.new.site _ c.loop-end.invariant.ready (λ e. cc) c.in-Ok-end_line.ensures.leaves;
      small = subst (λ (l : List ℕ). length l ≤ 4096) (sym (take_rest rest next)) (omega (arith, length-drop next rest, c.loop-end.invariant.small));
      leaves = leaves-joined g.S.Site _ _ c.args.self.now.hub c.loop-end.self.hub c.end_line.new.self.hub c.args.site.now c.loop-end.site c.end_line.new.site _ _ _ c.loop-end.invariant.ready c.loop-end.invariant.leaves c.in-Ok-end_line.ensures.leaves;
      came = λ line h.
          let came = c.loop-end.invariant.came line h in
          subst (λ (l : List ℕ). CameTo g.S.Site line c.args.bytes.now l c.args.self.now.hub c.args.site.now (g.O.Sink.contents c.args.sink.now) c.end_line.new.self.hub c.end_line.new.self.piece c.end_line.new.site (g.O.Sink.contents c.end_line.new.sink)) (sym (take_rest rest next))
          (came-on g.S.Site line c.args.bytes.now rest c.in-Some.end _ c.args.self.now.hub c.loop-end.self.hub c.end_line.new.self.hub c.loop-end.self.piece c.end_line.new.self.piece c.args.site.now c.loop-end.site c.end_line.new.site _ _ _
          (λ site t i told le here. g.met.S.Site.counts_now site t i told le here) c.in-Some.ensures came refl (c.in-Ok-end_line.ensures.answers (came.held ++ take c.in-Some.end rest) (c.in-Ok.ensures came.held came.holds)) c.in-Ok-end_line.ensures.next);
    }

pub returns-in-Ok-append-clause-answers : goal.returns-in-Ok-append-clause-answers
returns-in-Ok-append-clause-answers g c = λ line h.
    came-end g.S.Site line c.args.bytes.now c.loop-end.rest.now _ c.args.self.now.hub c.loop-end.self.hub c.loop-end.self.piece c.args.site.now c.loop-end.site _ _ c.in_default.ensures (c.loop-end.invariant.came line h)

pub returns-in-Ok-append-clause-holds : goal.returns-in-Ok-append-clause-holds
returns-in-Ok-append-clause-holds g c = λ line h.
    let came = c.loop-end.invariant.came line h in
    came-holds g.S.Site line c.args.bytes.now c.loop-end.rest.now c.args.self.now.hub c.loop-end.self.hub c.loop-end.self.piece c.append-2.new.self c.args.site.now c.loop-end.site _ _ c.in_default.ensures came (c.in-Ok-append.ensures came.held came.holds)

pub returns-in-Err-append-clause-answers : goal.returns-in-Err-append-clause-answers
returns-in-Err-append-clause-answers g c = λ line h.
    came-stopped g.S.Site line c.args.bytes.now c.loop-end.rest.now _ c.args.self.now.hub c.loop-end.self.hub c.loop-end.self.piece c.args.site.now c.loop-end.site _ _ (λ e. cc) (c.loop-end.invariant.came line h)
