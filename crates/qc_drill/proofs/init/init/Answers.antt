use Rattle.std.proofs.Common.{◌≡◌, ◌∙◌, ℕ, List, false, true, sym, ap, subst, Ok, Err, Bool, rules}
use Rattle.std.specs.declared.result.Result.{Result}
use Rattle.qc_protocol.specs.declared.status.Status.{Status}
use Rattle.qc_site.specs.declared.site.Failed.{Failed}
use Rattle.qc_site.specs.declared.site.SiteFile.TheVariants.{Journal as the_file}
use Rattle.qc_frame.specs.Calls.{LooksAt}
use Rattle.qc_journal.specs.History.{journal_header}
use Rattle.qc_creation.specs.declared.error.CreateError.{CreateError}
use Rattle.qc_creation.specs.declared.error.CreateError.TheVariants.{SiteFault, AlreadyMade, BadCatalogue, NoMemory}
use Rattle.qc_creation.specs.Calls.{CreatesSite}
use Rattle.qc_drill.specs.Inits.{Inits}
use Rattle.qc_drill.proofs.Making.{was-made, not-looked, not-read, was-created, create-failed, made-since, create-starved, text-refused, text-read, refusal-said, stop-kind}
use Rattle.qc_drill.proofs.init.init.Goals as goal

pub returns-in-Ok-true-clause-inits : goal.returns-in-Ok-true-clause-inits
returns-in-Ok-true-clause-inits g c =
    let is : c.is_made.result ≡ Ok true = search rules in
    was-made g.S.Site c.args.site.now c.is_made.new.site _ _ (subst (λ (r : Result Bool Failed). LooksAt g.S.Site the_file journal_header r c.args.site.now c.is_made.new.site) is c.is_made.ensures)

pub returns-in-Err-clause-inits : goal.returns-in-Err-clause-inits
returns-in-Err-clause-inits g c = not-looked g.S.Site c.in-Err.field-0 c.args.site.now c.is_made.new.site _ _ c.in-Err.ensures

pub returns-in-Err-read_text-clause-inits : goal.returns-in-Err-read_text-clause-inits
returns-in-Err-read_text-clause-inits g c =
    let is : c.is_made.result ≡ Ok false = search rules in
    let looks = subst (λ (r : Result Bool Failed). LooksAt g.S.Site the_file journal_header r c.args.site.now c.is_made.new.site) is c.is_made.ensures in
    subst (λ (x : Status). Inits g.S.Site x c.args.site.now (g.I.Source.left c.args.source.now) (g.O.Sink.contents c.args.sink.now) c.is_made.new.site (g.I.Source.left c.read_text.new.source) (g.O.Sink.contents c.args.sink.now)) (sym c.status.ensures)
    (not-read g.S.Site c.in-Err-read_text.stop c.args.site.now c.is_made.new.site _ _ _ looks c.in-Err-read_text.ensures.reads (stop-kind c.in-Err-read_text.stop c.in-Err-read_text.ensures.kinds))

pub returns-in-Ok-create-clause-inits : goal.returns-in-Ok-create-clause-inits
returns-in-Ok-create-clause-inits g c =
    let is : c.is_made.result ≡ Ok false = search rules in
    let looks = subst (λ (r : Result Bool Failed). LooksAt g.S.Site the_file journal_header r c.args.site.now c.is_made.new.site) is c.is_made.ensures in
    was-created g.S.Site c.in-Ok.text.items c.args.site.now c.is_made.new.site c.create.new.site _ _ _ looks (text-read c.in-Ok.text _ _ c.in-Ok.ensures.reads) c.in-Ok-create.field-0
    (subst (λ (t : List ℕ). CreatesSite g.S.Site t (Ok c.in-Ok-create.field-0) c.is_made.new.site c.create.new.site) c.deref.ensures.value c.in-Ok-create.ensures)

pub returns-in-Err-SiteFault-clause-inits : goal.returns-in-Err-SiteFault-clause-inits
returns-in-Err-SiteFault-clause-inits g c =
    let is : c.is_made.result ≡ Ok false = search rules in
    let looks = subst (λ (r : Result Bool Failed). LooksAt g.S.Site the_file journal_header r c.args.site.now c.is_made.new.site) is c.is_made.ensures in
    let why : c.create.result ≡ Err SiteFault = c.in-Err-SiteFault.is ∙ ap (λ (e : CreateError). Err e) c.in-Err-SiteFault.field-0-is in
    create-failed g.S.Site c.in-Ok.text.items c.args.site.now c.is_made.new.site c.create.new.site _ _ _ looks (text-read c.in-Ok.text _ _ c.in-Ok.ensures.reads)
    (subst (λ (t : List ℕ). CreatesSite g.S.Site {A = Unit {0}} t (Err SiteFault) c.is_made.new.site c.create.new.site) c.deref.ensures.value
    (subst (λ (r : Result (Unit {0}) CreateError). CreatesSite g.S.Site c.deref.result.now r c.is_made.new.site c.create.new.site) why c.create.ensures))

pub returns-in-Err-AlreadyMade-clause-inits : goal.returns-in-Err-AlreadyMade-clause-inits
returns-in-Err-AlreadyMade-clause-inits g c =
    let is : c.is_made.result ≡ Ok false = search rules in
    let looks = subst (λ (r : Result Bool Failed). LooksAt g.S.Site the_file journal_header r c.args.site.now c.is_made.new.site) is c.is_made.ensures in
    let why : c.create.result ≡ Err AlreadyMade = c.in-Err-AlreadyMade.is ∙ ap (λ (e : CreateError). Err e) c.in-Err-AlreadyMade.field-0-is in
    made-since g.S.Site c.in-Ok.text.items c.args.site.now c.is_made.new.site c.create.new.site _ _ _ looks (text-read c.in-Ok.text _ _ c.in-Ok.ensures.reads)
    (subst (λ (t : List ℕ). CreatesSite g.S.Site {A = Unit {0}} t (Err AlreadyMade) c.is_made.new.site c.create.new.site) c.deref.ensures.value
    (subst (λ (r : Result (Unit {0}) CreateError). CreatesSite g.S.Site c.deref.result.now r c.is_made.new.site c.create.new.site) why c.create.ensures))

pub returns-clause-inits : goal.returns-clause-inits
returns-clause-inits g c =
    let is : c.is_made.result ≡ Ok false = search rules in
    let looks = subst (λ (r : Result Bool Failed). LooksAt g.S.Site the_file journal_header r c.args.site.now c.is_made.new.site) is c.is_made.ensures in
    let why : c.create.result ≡ Err NoMemory = c.in-Err-NoMemory.is ∙ ap (λ (e : CreateError). Err e) c.in-Err-NoMemory.field-0-is in
    create-starved g.S.Site c.in-Ok.text.items c.args.site.now c.is_made.new.site c.create.new.site _ _ _ looks (text-read c.in-Ok.text _ _ c.in-Ok.ensures.reads)
    (subst (λ (t : List ℕ). CreatesSite g.S.Site {A = Unit {0}} t (Err NoMemory) c.is_made.new.site c.create.new.site) c.deref.ensures.value
    (subst (λ (r : Result (Unit {0}) CreateError). CreatesSite g.S.Site c.deref.result.now r c.is_made.new.site c.create.new.site) why c.create.ensures))

pub returns-in-Err-BadCatalogue-clause-inits : goal.returns-in-Err-BadCatalogue-clause-inits
returns-in-Err-BadCatalogue-clause-inits g c =
    let is : c.is_made.result ≡ Ok false = search rules in
    let looks = subst (λ (r : Result Bool Failed). LooksAt g.S.Site the_file journal_header r c.args.site.now c.is_made.new.site) is c.is_made.ensures in
    let e = c.in-Err-BadCatalogue.error in
    let why : c.create.result ≡ Err (BadCatalogue e) = c.in-Err-BadCatalogue.is ∙ ap (λ (e : CreateError). Err e) c.in-Err-BadCatalogue.field-0-is in
    text-refused g.S.Site c.in-Ok.text.items c.args.site.now c.is_made.new.site c.create.new.site _ _ _ looks (text-read c.in-Ok.text _ _ c.in-Ok.ensures.reads) e c.tell_refusal.result _
    (subst (λ (t : List ℕ). CreatesSite g.S.Site {A = Unit {0}} t (Err (BadCatalogue e)) c.is_made.new.site c.create.new.site) c.deref.ensures.value
    (subst (λ (r : Result (Unit {0}) CreateError). CreatesSite g.S.Site c.deref.result.now r c.is_made.new.site c.create.new.site) why c.create.ensures))
    (refusal-said _ c.tell_refusal.result _ _ c.tell_refusal.ensures.line c.tell_refusal.ensures.kinds)
