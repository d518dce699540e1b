use Rattle.std.proofs.Common.{◌≡◌, ◌∙◌, true, false, sym, rules, None}
use Rattle.std.specs.Option.{option_map_or}
use Rattle.qc_store.specs.Live.{live_message}
use Rattle.qc_machine.specs.Taking.{can_play}
use Rattle.qc_hub.specs.declared.hub.Hub.{Hub}
use Rattle.qc_hub.proofs.Taken.{has-number, journal-lacks, lacks-number, log-lacks, not-built}
use Rattle.qc_hub.proofs.hub.Hub.number_for.Goals as goal

pub returns-then-not-plays_inside : goal.returns-then-not-plays_inside
returns-then-not-plays_inside c s app m h taken same =
    let hub : Hub = c.args.self.now in
    let is : option_map_or (can_play hub.history.catalogue) (live_message c.args.id hub.history.store.messages) false ≡ false = sym c.plays_inside.ensures ∙ c.if-not-plays_inside.true in
    not-built hub s h app m c.args.id taken same is

pub returns-in-Some : goal.returns-in-Some
returns-in-Some c s app m h taken same =
    let hub : Hub = c.args.self.now in
    let is : option_map_or (can_play hub.history.catalogue) (live_message c.args.id hub.history.store.messages) false ≡ true = search rules in
    journal-lacks hub s h app m c.args.id taken same is c.in-Some.full (sym (c.journal_full.ensures s h) ∙ c.in-Some.is)

pub returns-in-Some-log_full : goal.returns-in-Some-log_full
returns-in-Some-log_full c s app m h taken same =
    let hub : Hub = c.args.self.now in
    let is : option_map_or (can_play hub.history.catalogue) (live_message c.args.id hub.history.store.messages) false ≡ true = search rules in
    let journal : c.journal_full.result ≡ None = search rules in
    log-lacks hub s h app m c.args.id taken same is c.in-Some-log_full.full (sym (c.journal_full.ensures s h) ∙ journal) (sym (c.log_full.ensures s h) ∙ c.in-Some-log_full.is)

pub returns-in-Some-next_attempt : goal.returns-in-Some-next_attempt
returns-in-Some-next_attempt c s app m h taken same =
    let hub : Hub = c.args.self.now in
    let is : option_map_or (can_play hub.history.catalogue) (live_message c.args.id hub.history.store.messages) false ≡ true = search rules in
    let journal : c.journal_full.result ≡ None = search rules in
    let log : c.log_full.result ≡ None = search rules in
    has-number hub s h app m c.args.id taken same is (sym (c.journal_full.ensures s h) ∙ journal) (sym (c.log_full.ensures s h) ∙ log) c.in-Some-next_attempt.number (sym (c.next_attempt.ensures s h) ∙ c.in-Some-next_attempt.is)

pub returns-in-None : goal.returns-in-None
returns-in-None c s app m h taken same =
    let hub : Hub = c.args.self.now in
    let is : option_map_or (can_play hub.history.catalogue) (live_message c.args.id hub.history.store.messages) false ≡ true = search rules in
    let journal : c.journal_full.result ≡ None = search rules in
    let log : c.log_full.result ≡ None = search rules in
    lacks-number hub s h app m c.args.id taken same is (sym (c.journal_full.ensures s h) ∙ journal) (sym (c.log_full.ensures s h) ∙ log) (sym (c.next_attempt.ensures s h) ∙ c.in-None.is) c.length.result c.length.ensures
