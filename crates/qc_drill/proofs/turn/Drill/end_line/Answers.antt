use Rattle.std.proofs.Common.{◌∙◌, ℕ, List, refl, ap, subst, IfSome, Err, rules}
use Rattle.qc_hub.specs.declared.error.HubError.{HubError}
use Rattle.qc_site.specs.Streams.{Appends, AppendsPart}
use Rattle.qc_hub.proofs.Calling.{left-ready}
use Rattle.qc_drill.proofs.Causes.{leaves-other, no-cause, cause-other}
use Rattle.qc_drill.proofs.Joined.{line-unanswered, line-answered, line-part, wrote-all, wrote-part, wrote-empty}
use Rattle.qc_drill.proofs.turn.Drill.end_line.Goals as goal

pub returns-in-Err-SiteFault-clause-answers : goal.returns-in-Err-SiteFault-clause-answers
returns-in-Err-SiteFault-clause-answers g c = λ line h.
    line-unanswered g.S.Site line _ c.args.self.now.hub c.text_of_line.new.self.hub c.args.site.now c.text_of_line.new.site _ (λ site t i told le here. g.met.S.Site.counts_now site t i told le here) (λ ok. cc)
    (λ told s hub on. (c.text_of_line.ensures.answers told s line hub on h).any_moment)

pub returns-in-Err-NoMemory-clause-answers : goal.returns-in-Err-NoMemory-clause-answers
returns-in-Err-NoMemory-clause-answers g c = λ line h.
    line-unanswered g.S.Site line _ c.args.self.now.hub c.text_of_line.new.self.hub c.args.site.now c.text_of_line.new.site _ (λ site t i told le here. g.met.S.Site.counts_now site t i told le here) (λ ok. cc)
    (λ told s hub on. (c.text_of_line.ensures.answers told s line hub on h).any_moment)

pub returns-then-is_empty-clause-answers : goal.returns-then-is_empty-clause-answers
returns-then-is_empty-clause-answers g c = λ line h.
    line-answered g.S.Site line c.in-Ok.text.items _ c.args.self.now.hub c.text_of_line.new.self.hub c.args.site.now c.text_of_line.new.site _ _
    (left-ready g.S.Site c.args.self.now.hub c.args.site.now c.text_of_line.new.self.hub c.text_of_line.new.site c.requires (λ e. cc) c.in-Ok.ensures.leaves)
    (wrote-empty c.in-Ok.text.items _ (search rules))
    (λ told s hub on. let l = c.in-Ok.ensures.answers told s line hub on h in record { line_is = l.text; others = l.others (λ e. cc); any_moment = l.any_moment })

pub returns-in-Ok-write_all-clause-answers : goal.returns-in-Ok-write_all-clause-answers
returns-in-Ok-write_all-clause-answers g c = λ line h.
    line-answered g.S.Site line c.in-Ok.text.items _ c.args.self.now.hub c.text_of_line.new.self.hub c.args.site.now c.text_of_line.new.site _ _
    (left-ready g.S.Site c.args.self.now.hub c.args.site.now c.text_of_line.new.self.hub c.text_of_line.new.site c.requires (λ e. cc) c.in-Ok.ensures.leaves)
    (wrote-all c.in-Ok.text.items _ _ (subst (λ (t : List ℕ). IfSome (g.O.Sink.contents c.args.sink.now) (Appends t (g.O.Sink.contents c.write_all.new.self))) c.deref.ensures.value c.in-Ok-write_all.ensures.written))
    (λ told s hub on. let l = c.in-Ok.ensures.answers told s line hub on h in record { line_is = l.text; others = l.others (λ e. cc); any_moment = l.any_moment })

pub returns-clause-answers : goal.returns-clause-answers
returns-clause-answers g c = λ line h.
    line-part g.S.Site line c.in-Ok.text.items _ c.args.self.now.hub c.text_of_line.new.self.hub c.args.site.now c.text_of_line.new.site _ _ (λ site t i told le here. g.met.S.Site.counts_now site t i told le here)
    (left-ready g.S.Site c.args.self.now.hub c.args.site.now c.text_of_line.new.self.hub c.text_of_line.new.site c.requires (λ e. cc) c.in-Ok.ensures.leaves)
    (λ ok. cc)
    (wrote-part c.in-Ok.text.items _ _ (subst (λ (t : List ℕ). IfSome (g.O.Sink.contents c.args.sink.now) (AppendsPart t (g.O.Sink.contents c.write_all.new.self))) c.deref.ensures.value c.in-Err.ensures.failed))
    (λ told s hub on. let l = c.in-Ok.ensures.answers told s line hub on h in record { line_is = l.text; others = l.others (λ e. cc); any_moment = l.any_moment })

pub returns-in-Err-SiteFault-clause-leaves : goal.returns-in-Err-SiteFault-clause-leaves
returns-in-Err-SiteFault-clause-leaves g c = record {
  stands = leaves-other g.S.Site _ _ c.args.self.now.hub c.args.site.now c.text_of_line.new.self.hub c.text_of_line.new.site (λ e. refl) (λ e. c.in-Err-SiteFault.is ∙ ap (λ (x : HubError). Err x) c.in-Err-SiteFault.field-0-is) c.text_of_line.ensures.leaves;
  sink = no-cause _ _ (λ e. cc);
}

pub returns-in-Err-NoMemory-clause-leaves : goal.returns-in-Err-NoMemory-clause-leaves
returns-in-Err-NoMemory-clause-leaves g c = record {
  stands = leaves-other g.S.Site _ _ c.args.self.now.hub c.args.site.now c.text_of_line.new.self.hub c.text_of_line.new.site (λ e. absurd cc) (λ e. absurd cc) c.in-Err-NoMemory.ensures.leaves;
  sink = no-cause _ _ (λ e. cc);
}

pub returns-then-is_empty-clause-leaves : goal.returns-then-is_empty-clause-leaves
returns-then-is_empty-clause-leaves g c = record {
  stands = leaves-other g.S.Site _ _ c.args.self.now.hub c.args.site.now c.text_of_line.new.self.hub c.text_of_line.new.site (λ e. absurd cc) (λ e. absurd cc) c.in-Ok.ensures.leaves;
  sink = no-cause _ _ (λ e. cc);
}

pub returns-in-Ok-write_all-clause-leaves : goal.returns-in-Ok-write_all-clause-leaves
returns-in-Ok-write_all-clause-leaves g c = record {
  stands = leaves-other g.S.Site _ _ c.args.self.now.hub c.args.site.now c.text_of_line.new.self.hub c.text_of_line.new.site (λ e. absurd cc) (λ e. absurd cc) c.in-Ok.ensures.leaves;
  sink = cause-other _ _ _ _ (λ e. absurd cc) c.in-Ok-write_all.ensures.cause;
}

pub returns-clause-leaves : goal.returns-clause-leaves
returns-clause-leaves g c = record {
  stands = leaves-other g.S.Site _ _ c.args.self.now.hub c.args.site.now c.text_of_line.new.self.hub c.text_of_line.new.site (λ e. absurd cc) (λ e. absurd cc) c.in-Ok.ensures.leaves;
  sink = cause-other _ _ _ _ (λ e. refl) c.in-Err.ensures.cause;
}
