use Rattle.std.proofs.Common.{refl, sym, ◌∙◌, map, String, Global, string_bytes}
use Rattle.qc_protocol.specs.declared.status.Status.TheVariants.{AlreadyMade, BadWords, InputLong, NotMade, NoCatalogue, Damaged}
use Rattle.qc_hub.proofs.Later.{not-both}
use Rattle.qc_drill.specs.Headline.{is_of_drill}
use Rattle.qc_drill.specs.Inits.{is_of_init}
use Rattle.qc_drill.proofs.Ends.{of-run, of-run-init, not-among, words-apart, was-made-before, not-bad, done-end, init-end, long-input, all-moments, not-made, no-group, damaged-none, is-unfailed, is-unmade, is-empty}
use Rattle.qc_drill.proofs.Accounts.{accounted}
use Rattle.qc_drill.proofs.command.run.Goals as goal

pub returns-then-is_drill-clause-bad_words : goal.returns-then-is_drill-clause-bad_words
returns-then-is_drill-clause-bad_words g c = (λ e. absurd (not-bad c.drill.result c.drill.ensures.drills.kinds e), λ e. absurd (not-both _ e.0 (sym c.is_drill.ensures ∙ c.if-is_drill.true)))

pub returns-then-is_drill-clause-untouched : goal.returns-then-is_drill-clause-untouched
returns-then-is_drill-clause-untouched g c = λ e. absurd (not-bad c.drill.result c.drill.ensures.drills.kinds e)

pub returns-then-is_drill-clause-source_fault : goal.returns-then-is_drill-clause-source_fault
returns-then-is_drill-clause-source_fault g c = c.drill.ensures.source_cause.cause

pub returns-then-is_drill-clause-sink_fault : goal.returns-then-is_drill-clause-sink_fault
returns-then-is_drill-clause-sink_fault g c = c.drill.ensures.sink_cause.cause

pub returns-then-is_drill-clause-site_fault : goal.returns-then-is_drill-clause-site_fault
returns-then-is_drill-clause-site_fault g c = c.drill.ensures.site_cause.cause

pub returns-then-is_drill-clause-done : goal.returns-then-is_drill-clause-done
returns-then-is_drill-clause-done g c = done-end g.S.Site c.drill.result c.args.site.now c.drill.new.site _ _ _ _ c.drill.ensures.drills

pub returns-then-is_drill-clause-input_long : goal.returns-then-is_drill-clause-input_long
returns-then-is_drill-clause-input_long g c = long-input g.S.Site c.drill.result c.args.site.now c.drill.new.site _ _ _ _ c.drill.ensures.drills

pub returns-then-is_drill-clause-not_made : goal.returns-then-is_drill-clause-not_made
returns-then-is_drill-clause-not_made g c = not-made g.S.Site c.drill.result c.args.site.now c.drill.new.site _ _ _ _ c.drill.ensures.drills

pub returns-then-is_drill-clause-no_catalogue : goal.returns-then-is_drill-clause-no_catalogue
returns-then-is_drill-clause-no_catalogue g c = no-group g.S.Site c.drill.result c.args.site.now c.drill.new.site _ _ _ _ c.drill.ensures.drills

pub returns-then-is_drill-clause-damaged : goal.returns-then-is_drill-clause-damaged
returns-then-is_drill-clause-damaged g c = damaged-none g.S.Site c.drill.result c.args.site.now c.drill.new.site _ _ _ _ c.drill.ensures.drills

pub returns-then-is_drill-clause-kinds : goal.returns-then-is_drill-clause-kinds
returns-then-is_drill-clause-kinds g c = of-run c.drill.result c.drill.ensures.drills.kinds

pub returns-then-is_drill-clause-drill : goal.returns-then-is_drill-clause-drill
returns-then-is_drill-clause-drill g c = λ word. c.drill.ensures.drills

pub returns-then-is_drill-clause-any_moment : goal.returns-then-is_drill-clause-any_moment
returns-then-is_drill-clause-any_moment g c = λ word. all-moments g.S.Site c.drill.result c.args.site.now c.drill.new.site _ _ _ _ c.drill.ensures.drills

pub returns-then-is_drill-clause-unfailed : goal.returns-then-is_drill-clause-unfailed
returns-then-is_drill-clause-unfailed g c = λ told s reads word a b d.
    is-unfailed g.S.Site c.drill.result c.args.site.now c.drill.new.site _ _ _ _ c.drill.ensures.drills told s reads (λ e. a (c.drill.ensures.source_cause.cause e)) (λ e. b (c.drill.ensures.sink_cause.cause e)) (λ e. d (c.drill.ensures.site_cause.cause e))

pub returns-then-is_drill-clause-unmade : goal.returns-then-is_drill-clause-unmade
returns-then-is_drill-clause-unmade g c = λ told word. is-unmade g.S.Site c.drill.result c.args.site.now c.drill.new.site _ _ _ _ c.drill.ensures.drills told

pub returns-then-is_drill-clause-empty : goal.returns-then-is_drill-clause-empty
returns-then-is_drill-clause-empty g c = λ told word. is-empty g.S.Site c.drill.result c.args.site.now c.drill.new.site _ _ _ _ c.drill.ensures.drills told

pub returns-then-is_drill-clause-already_made : goal.returns-then-is_drill-clause-already_made
returns-then-is_drill-clause-already_made g c = λ told e. absurd (not-among is_of_drill c.drill.result AlreadyMade c.drill.ensures.drills.kinds refl e)

pub returns-then-is_drill-clause-init : goal.returns-then-is_drill-clause-init
returns-then-is_drill-clause-init g c = λ word. absurd (words-apart (map (λ (w : String Global). string_bytes w) c.args.words.now.items) (sym c.is_drill.ensures ∙ c.if-is_drill.true) word)

pub returns-then-is_init-clause-bad_words : goal.returns-then-is_init-clause-bad_words
returns-then-is_init-clause-bad_words g c = (λ e. absurd (not-among is_of_init c.init.result BadWords c.init.ensures.inits.kinds refl e), λ e. absurd (not-both _ e.1 (sym c.is_init.ensures ∙ c.if-is_init.true)))

pub returns-then-is_init-clause-untouched : goal.returns-then-is_init-clause-untouched
returns-then-is_init-clause-untouched g c = λ e. absurd (not-among is_of_init c.init.result BadWords c.init.ensures.inits.kinds refl e)

pub returns-then-is_init-clause-source_fault : goal.returns-then-is_init-clause-source_fault
returns-then-is_init-clause-source_fault g c = c.init.ensures.source_cause.cause

pub returns-then-is_init-clause-sink_fault : goal.returns-then-is_init-clause-sink_fault
returns-then-is_init-clause-sink_fault g c = c.init.ensures.sink_cause.cause

pub returns-then-is_init-clause-site_fault : goal.returns-then-is_init-clause-site_fault
returns-then-is_init-clause-site_fault g c = c.init.ensures.site_cause.cause

pub returns-then-is_init-clause-done : goal.returns-then-is_init-clause-done
returns-then-is_init-clause-done g c = init-end g.S.Site c.init.result c.args.site.now c.init.new.site _ _ _ _ c.init.ensures.inits

pub returns-then-is_init-clause-input_long : goal.returns-then-is_init-clause-input_long
returns-then-is_init-clause-input_long g c = λ e. absurd (not-among is_of_init c.init.result InputLong c.init.ensures.inits.kinds refl e)

pub returns-then-is_init-clause-not_made : goal.returns-then-is_init-clause-not_made
returns-then-is_init-clause-not_made g c = λ told e. absurd (not-among is_of_init c.init.result NotMade c.init.ensures.inits.kinds refl e)

pub returns-then-is_init-clause-no_catalogue : goal.returns-then-is_init-clause-no_catalogue
returns-then-is_init-clause-no_catalogue g c = λ told e. absurd (not-among is_of_init c.init.result NoCatalogue c.init.ensures.inits.kinds refl e)

pub returns-then-is_init-clause-damaged : goal.returns-then-is_init-clause-damaged
returns-then-is_init-clause-damaged g c = λ told e. absurd (not-among is_of_init c.init.result Damaged c.init.ensures.inits.kinds refl e)

pub returns-then-is_init-clause-already_made : goal.returns-then-is_init-clause-already_made
returns-then-is_init-clause-already_made g c = was-made-before g.S.Site c.init.result c.args.site.now c.init.new.site _ _ _ _ c.init.ensures.inits

pub returns-then-is_init-clause-kinds : goal.returns-then-is_init-clause-kinds
returns-then-is_init-clause-kinds g c = of-run-init c.init.result c.init.ensures.inits.kinds

pub returns-then-is_init-clause-init : goal.returns-then-is_init-clause-init
returns-then-is_init-clause-init g c = λ word. c.init.ensures.inits

pub returns-then-is_init-clause-drill : goal.returns-then-is_init-clause-drill
returns-then-is_init-clause-drill g c = λ word. absurd (not-both _ (sym c.is_drill.ensures ∙ c.if-is_drill.false) word)

pub returns-then-is_init-clause-any_moment : goal.returns-then-is_init-clause-any_moment
returns-then-is_init-clause-any_moment g c = λ word. absurd (not-both _ (sym c.is_drill.ensures ∙ c.if-is_drill.false) word)

pub returns-then-is_init-clause-unfailed : goal.returns-then-is_init-clause-unfailed
returns-then-is_init-clause-unfailed g c = λ told s reads word. absurd (not-both _ (sym c.is_drill.ensures ∙ c.if-is_drill.false) word)

pub returns-then-is_init-clause-unmade : goal.returns-then-is_init-clause-unmade
returns-then-is_init-clause-unmade g c = λ told word. absurd (not-both _ (sym c.is_drill.ensures ∙ c.if-is_drill.false) word)

pub returns-then-is_init-clause-empty : goal.returns-then-is_init-clause-empty
returns-then-is_init-clause-empty g c = λ told word. absurd (not-both _ (sym c.is_drill.ensures ∙ c.if-is_drill.false) word)

pub returns-clause-bad_words : goal.returns-clause-bad_words
returns-clause-bad_words g c = (λ e. (sym c.is_drill.ensures ∙ c.if-is_drill.false, sym c.is_init.ensures ∙ c.if-is_init.false), λ e. refl)

pub returns-then-is_drill-clause-accounts : goal.returns-then-is_drill-clause-accounts
returns-then-is_drill-clause-accounts g c = (λ told. accounted (g.S.Site.shown c.drill.new.site), λ image left. accounted image)

pub returns-then-is_init-clause-accounts : goal.returns-then-is_init-clause-accounts
returns-then-is_init-clause-accounts g c = (λ told. accounted (g.S.Site.shown c.init.new.site), λ image left. accounted image)

pub returns-clause-accounts : goal.returns-clause-accounts
returns-clause-accounts g c = (λ told. accounted (g.S.Site.shown c.args.site.now), λ image left. accounted image)
