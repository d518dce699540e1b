use Rattle.std.proofs.Common.{◌≡◌, ℕ, List, true, sym, ◌∙◌, subst, IsOk}
use Rattle.qc_drill.specs.Calls.{AnswersLines}
use Rattle.qc_drill.proofs.Joined.{no-line}
use Rattle.qc_drill.proofs.Reading.{last-none, last-some}
use Rattle.qc_drill.proofs.turn.Drill.finish.Goals as goal

pub returns-then-is_empty-clause-answers : goal.returns-then-is_empty-clause-answers
returns-then-is_empty-clause-answers g c = λ line h.
    let hub = c.args.self.now.hub in
    let site = c.args.site.now in
    let contents = g.O.Sink.contents c.args.sink.now in
    let none = last-none line (sym (c.is_empty.ensures line h) ∙ c.if-is_empty.true) in
    subst (λ (ls : List (List ℕ)). AnswersLines g.S.Site ls (true ≡ true) hub site contents hub site contents) (sym none)
    (no-line g.S.Site (true ≡ true) hub hub site contents (λ i told left. g.met.S.Site.only_now site i told left) c.requires (λ s h. h))

pub returns-clause-answers : goal.returns-clause-answers
returns-clause-answers g c = λ line h.
    let one = last-some line (sym (c.is_empty.ensures line h) ∙ c.if-is_empty.false) in
    subst (λ (ls : List (List ℕ)). AnswersLines g.S.Site ls (IsOk c.end_line.result) c.args.self.now.hub c.args.site.now (g.O.Sink.contents c.args.sink.now) c.end_line.new.self.hub c.end_line.new.site (g.O.Sink.contents c.end_line.new.sink)) (sym one)
    (c.end_line.ensures.answers line h)
