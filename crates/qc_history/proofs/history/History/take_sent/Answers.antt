use Rattle.std.proofs.Common.{◌≡◌, ◌≢◌, ◌∙◌, ◌+◌, Bool, true, false, length, sym, ap, subst, arith, rules, eq-eqb, ne_eqb, Err}
use Rattle.std.specs.declared.result.Result.{Result}
use Rattle.qc_base.specs.declared.fact.Fact.TheVariants.{Sent}
use Rattle.qc_base.specs.declared.number.NoMemory.{NoMemory}
use Rattle.qc_catalogue.specs.declared.catalogue.Catalogue.{Catalogue}
use Rattle.qc_recorder.specs.Fits.{recording_fits}
use Rattle.qc_store.specs.Stored.{Stored}
use Rattle.qc_history.specs.Taking.{TakesFact}
use Rattle.qc_history.specs.View.{HistoryView}
use Rattle.qc_history.proofs.Follows.{early-sent, other-sent, sent-taken, starves, unfit-sent}
use Rattle.qc_history.proofs.Taken.{sent-short}
use Rattle.qc_history.proofs.history.History.take_sent.Goals as goal

pub returns-then-not-is_later : goal.returns-then-not-is_later
returns-then-not-is_later c = λ numbers.
    let old : HistoryView = c.args.self.now in
    let early : c.is_later.result ≡ false = search rules in
    early-sent old numbers c.args.id c.args.at c.args.recording (sym c.is_later.ensures ∙ early)

pub overflow_add-len : goal.overflow_add-len
overflow_add-len c = search rules

pub returns-then-id-len : goal.returns-then-id-len
returns-then-id-len c = λ numbers.
    let old : HistoryView = c.args.self.now in
    let long : c.len.result ≡ length old.store.messages = c.len.ensures.value ∙ ap (λ (s : Stored). length s.messages) c.store.ensures in
    let other : c.args.id ≢ length old.store.messages + 1 = omega (arith, long) in
    other-sent old numbers c.args.id c.args.at c.args.recording (ne_eqb c.args.id (length old.store.messages + 1) other)

pub returns-then-not-fits : goal.returns-then-not-fits
returns-then-not-fits c = λ numbers.
    let old : HistoryView = c.args.self.now in
    let unfit : c.fits.result ≡ false = search rules in
    unfit-sent old numbers c.args.id c.args.at c.args.recording (ap (λ (k : Catalogue). recording_fits k c.args.recording) (sym c.catalogue.ensures) ∙ sym c.fits.ensures ∙ unfit)

pub returns-in_err-reserve_sent : goal.returns-in_err-reserve_sent
returns-in_err-reserve_sent c = λ numbers.
    let old : HistoryView = c.args.self.now in
    let is : c.from_residual.result ≡ Err c.in_err-reserve_sent.field-0.0 = search rules in
    subst (λ (r : Result Bool NoMemory). TakesFact (Sent c.args.id c.args.at c.args.recording) r old numbers c.reserve_sent.new.self numbers) (sym is)
    (starves old numbers c.reserve_sent.new.self c.reserve_sent.ensures.aside)

pub sent-requires-clause-room : goal.sent-requires-clause-room
sent-requires-clause-room c = c.in_ok-reserve_sent.ensures.room

pub sent-requires-clause-short : goal.sent-requires-clause-short
sent-requires-clause-short c = sent-short c.args.id c.args.at c.args.recording c.requires.limits

pub returns : goal.returns
returns c = λ numbers.
    let old : HistoryView = c.args.self.now in
    let later : c.is_later.result ≡ true = search rules in
    let long : c.len.result ≡ length old.store.messages = c.len.ensures.value ∙ ap (λ (s : Stored). length s.messages) c.store.ensures in
    let next : c.args.id ≡ length old.store.messages + 1 = omega (arith, long) in
    let fit : c.fits.result ≡ true = search rules in
    sent-taken old numbers c.args.id c.args.at c.args.recording c.reserve_sent.new.self c.sent.new.self c.reserve_sent.ensures.aside c.sent.ensures.adds (sym c.is_later.ensures ∙ later)
    (eq-eqb c.args.id (length old.store.messages + 1) next) (ap (λ (k : Catalogue). recording_fits k c.args.recording) (sym c.catalogue.ensures) ∙ sym c.fits.ensures ∙ fit) c.requires.few
