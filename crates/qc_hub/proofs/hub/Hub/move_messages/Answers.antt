use Rattle.std.proofs.Common.{◌≡◌, ◌∙◌, ◌+◌, ◌*◌, ◌≤◌, ℕ, List, length, true, sym, ap, arith, Ok}
use Rattle.qc_base.specs.Spelling.{is_between}
use Rattle.qc_base.specs.declared.fact.Fact.{Fact}
use Rattle.qc_catalogue.specs.declared.catalogue.Catalogue.{Catalogue}
use Rattle.qc_journal.specs.Journal.{JournalView}
use Rattle.qc_machine.specs.Moving.{batches, facts_of_batches, ids_moved, route}
use Rattle.qc_machine.specs.Rooms.{journal_full}
use Rattle.qc_machine.specs.State.{State}
use Rattle.qc_site.specs.Image.{Image}
use Rattle.qc_hub.specs.declared.hub.Hub.{Hub}
use Rattle.qc_hub.specs.declared.route.Route.{Route}
use Rattle.qc_hub.specs.Moving.{as_route, source_of}
use Rattle.qc_hub.specs.Stands.{IsHubOf}
use Rattle.qc_hub.proofs.Fit.{sets-nothing}
use Rattle.qc_hub.proofs.Later.{took-journal, took-nothing}
use Rattle.qc_hub.proofs.Moved.{batch-outside, batch-within, move-added, move-batches, move-no-batch, move-no-room, move-not-routed, move-ready, move-starved}
use Rattle.qc_hub.proofs.RoomTaken.{journal-kept}
use Rattle.qc_hub.proofs.hub.Hub.move_messages.Goals as goal

pub returns-in-Err : goal.returns-in-Err
returns-in-Err g c =
    let hub : Hub = c.args.self.now in
    let now : (i : Image) → g.S.Site.told → g.S.Site.left_since c.args.site.now (g.S.Site.moment c.args.site.now) i → g.S.Site.may_leave c.args.site.now i = g.met.S.Site.only_now c.args.site.now in
    move-not-routed g.S.Site hub c.args.site.now c.args.at c.args.from.now c.args.to.now c.args.batch c.requires now c.later-self.result c.later-self.ensures.value c.later-self.ensures.bound c.in-Err.refusal (ap (λ (x : Catalogue). route x c.args.from.now c.args.to.now) (sym c.catalogue.ensures) ∙ sym c.in-Err.ensures)

pub returns-then-batch-lt1 : goal.returns-then-batch-lt1
returns-then-batch-lt1 g c =
    let hub : Hub = c.args.self.now in
    let r : Route = c.in-Ok.route in
    let there : route hub.history.catalogue c.args.from.now c.args.to.now ≡ Ok (as_route r) = ap (λ (x : Catalogue). route x c.args.from.now c.args.to.now) (sym c.catalogue.ensures) ∙ sym c.in-Ok.ensures in
    let now : (i : Image) → g.S.Site.told → g.S.Site.left_since c.args.site.now (g.S.Site.moment c.args.site.now) i → g.S.Site.may_leave c.args.site.now i = g.met.S.Site.only_now c.args.site.now in
    move-no-batch g.S.Site hub c.args.site.now c.args.at c.args.from.now c.args.to.now c.args.batch c.requires now c.later-self.result c.later-self.ensures.value c.later-self.ensures.bound r there (batch-outside c.args.batch c.then-batch-lt1.either)

pub returns-in_default : goal.returns-in_default
returns-in_default g c =
    let hub : Hub = c.args.self.now in
    let now : (i : Image) → g.S.Site.told → g.S.Site.left_since c.args.site.now (g.S.Site.moment c.args.site.now) i → g.S.Site.may_leave c.args.site.now i = g.met.S.Site.only_now c.args.site.now in
    let mid : Hub = record hub { last = c.later-self.result } in
    move-starved g.S.Site hub c.args.site.now c.args.at c.args.from.now c.args.to.now c.args.batch c.requires now c.later-self.result c.later-self.ensures.value c.later-self.ensures.bound mid (took-nothing mid)

pub returns-in_default-facts_moved : goal.returns-in_default-facts_moved
returns-in_default-facts_moved g c =
    let hub : Hub = c.args.self.now in
    let now : (i : Image) → g.S.Site.told → g.S.Site.left_since c.args.site.now (g.S.Site.moment c.args.site.now) i → g.S.Site.may_leave c.args.site.now i = g.met.S.Site.only_now c.args.site.now in
    let mid : Hub = record hub { last = c.later-self.result } in
    move-starved g.S.Site hub c.args.site.now c.args.at c.args.from.now c.args.to.now c.args.batch c.requires now c.later-self.result c.later-self.ensures.value c.later-self.ensures.bound mid (took-nothing mid)

pub returns-in-Some : goal.returns-in-Some
returns-in-Some g c =
    let hub : Hub = c.args.self.now in
    let r : Route = c.in-Ok.route in
    let there : route hub.history.catalogue c.args.from.now c.args.to.now ≡ Ok (as_route r) = ap (λ (x : Catalogue). route x c.args.from.now c.args.to.now) (sym c.catalogue.ensures) ∙ sym c.in-Ok.ensures in
    let now : (i : Image) → g.S.Site.told → g.S.Site.left_since c.args.site.now (g.S.Site.moment c.args.site.now) i → g.S.Site.may_leave c.args.site.now i = g.met.S.Site.only_now c.args.site.now in
    let mid : Hub = record hub { last = c.later-self.result } in
    let ids : List ℕ = c.as_slice-ids.result.now in
    let listed : (s : State) → IsHubOf mid s → ids ≡ ids_moved s (source_of r) = λ s h. c.as_slice-ids.ensures.value ∙ c.in-Ok-ids_moved.ensures s h in
    let within : is_between 1 1000 c.args.batch ≡ true = batch-within c.args.batch c.if-batch-lt1.false c.if-batch-gt-MOST_IN_BATCH.false in
    let named : length c.as_bytes-named.result.now ≡ length r.app = ap (λ (l : List ℕ). length l) c.as_bytes-named.ensures.value in
    let many : c.len.result ≡ length c.in-Ok-facts_moved.facts.items = omega (arith, c.len.ensures, c.in-Ok-facts_moved.facts.ok) in
    let facts : List Fact = c.in-Ok-facts_moved.facts.items in
    let are : facts ≡ facts_of_batches r.app r.to c.later-self.result (batches c.args.batch ids) = c.in-Ok-facts_moved.ensures in
    let looked : (s : State) → IsHubOf mid s → c.full_for.result ≡ journal_full s (length facts * (22 + length r.app) + 8 * length ids) = λ s h.
    c.full_for.ensures s h ∙ (λ i. journal_full s (many i * (22 + named i) + 8 * length ids)) in
    move-no-room g.S.Site hub c.args.site.now c.args.at c.args.from.now c.args.to.now c.args.batch c.requires now c.later-self.result c.later-self.ensures.value c.later-self.ensures.bound r there within c.if-batch-lt1.false ids listed facts are c.full_for.result looked c.in-Some.full c.in-Some.is

pub returns-in_default-reserve : goal.returns-in_default-reserve
returns-in_default-reserve g c =
    let hub : Hub = c.args.self.now in
    let now : (i : Image) → g.S.Site.told → g.S.Site.left_since c.args.site.now (g.S.Site.moment c.args.site.now) i → g.S.Site.may_leave c.args.site.now i = g.met.S.Site.only_now c.args.site.now in
    let mid : Hub = record hub { last = c.later-self.result } in
    move-starved g.S.Site hub c.args.site.now c.args.at c.args.from.now c.args.to.now c.args.batch c.requires now c.later-self.result c.later-self.ensures.value c.later-self.ensures.bound _ (journal-kept mid mid.history c.reserve.new.self (sets-nothing mid.history) c.in_default-reserve.ensures.err)

pub add_batches-requires-clause-ready : goal.add_batches-requires-clause-ready
add_batches-requires-clause-ready g c =
    let hub : Hub = c.args.self.now in
    let r : Route = c.in-Ok.route in
    let there : route hub.history.catalogue c.args.from.now c.args.to.now ≡ Ok (as_route r) = ap (λ (x : Catalogue). route x c.args.from.now c.args.to.now) (sym c.catalogue.ensures) ∙ sym c.in-Ok.ensures in
    let now : (i : Image) → g.S.Site.told → g.S.Site.left_since c.args.site.now (g.S.Site.moment c.args.site.now) i → g.S.Site.may_leave c.args.site.now i = g.met.S.Site.only_now c.args.site.now in
    let mid : Hub = record hub { last = c.later-self.result } in
    let ids : List ℕ = c.as_slice-ids.result.now in
    let listed : (s : State) → IsHubOf mid s → ids ≡ ids_moved s (source_of r) = λ s h. c.as_slice-ids.ensures.value ∙ c.in-Ok-ids_moved.ensures s h in
    let within : is_between 1 1000 c.args.batch ≡ true = batch-within c.args.batch c.if-batch-lt1.false c.if-batch-gt-MOST_IN_BATCH.false in
    let named : length c.as_bytes-named.result.now ≡ length r.app = ap (λ (l : List ℕ). length l) c.as_bytes-named.ensures.value in
    let many : c.len.result ≡ length c.in-Ok-facts_moved.facts.items = omega (arith, c.len.ensures, c.in-Ok-facts_moved.facts.ok) in
    let facts : List Fact = c.as_slice.result.now in
    let are : facts ≡ facts_of_batches r.app r.to c.later-self.result (batches c.args.batch ids) = c.as_slice.ensures.value ∙ c.in-Ok-facts_moved.ensures in
    let same : c.len.result ≡ length facts = many ∙ ap (λ (l : List Fact). length l) (sym c.as_slice.ensures.value) in
    let looked : (s : State) → IsHubOf mid s → c.full_for.result ≡ journal_full s (length facts * (22 + length r.app) + 8 * length ids) = λ s h.
    c.full_for.ensures s h ∙ (λ i. journal_full s (same i * (22 + named i) + 8 * length ids)) in
    move-ready g.S.Site hub c.args.site.now c.args.at c.args.from.now c.args.to.now c.args.batch c.requires now c.later-self.result c.later-self.ensures.value c.later-self.ensures.bound r there within c.if-batch-lt1.false ids listed facts are c.full_for.result looked _ (took-journal mid c.reserve.new.self _ c.in-Ok-reserve.ensures.ok)

pub add_batches-requires-clause-batches : goal.add_batches-requires-clause-batches
add_batches-requires-clause-batches g c =
    let hub : Hub = c.args.self.now in
    let r : Route = c.in-Ok.route in
    let there : route hub.history.catalogue c.args.from.now c.args.to.now ≡ Ok (as_route r) = ap (λ (x : Catalogue). route x c.args.from.now c.args.to.now) (sym c.catalogue.ensures) ∙ sym c.in-Ok.ensures in
    let now : (i : Image) → g.S.Site.told → g.S.Site.left_since c.args.site.now (g.S.Site.moment c.args.site.now) i → g.S.Site.may_leave c.args.site.now i = g.met.S.Site.only_now c.args.site.now in
    let mid : Hub = record hub { last = c.later-self.result } in
    let ids : List ℕ = c.as_slice-ids.result.now in
    let listed : (s : State) → IsHubOf mid s → ids ≡ ids_moved s (source_of r) = λ s h. c.as_slice-ids.ensures.value ∙ c.in-Ok-ids_moved.ensures s h in
    let within : is_between 1 1000 c.args.batch ≡ true = batch-within c.args.batch c.if-batch-lt1.false c.if-batch-gt-MOST_IN_BATCH.false in
    let named : length c.as_bytes-named.result.now ≡ length r.app = ap (λ (l : List ℕ). length l) c.as_bytes-named.ensures.value in
    let many : c.len.result ≡ length c.in-Ok-facts_moved.facts.items = omega (arith, c.len.ensures, c.in-Ok-facts_moved.facts.ok) in
    let facts : List Fact = c.as_slice.result.now in
    let are : facts ≡ facts_of_batches r.app r.to c.later-self.result (batches c.args.batch ids) = c.as_slice.ensures.value ∙ c.in-Ok-facts_moved.ensures in
    let same : c.len.result ≡ length facts = many ∙ ap (λ (l : List Fact). length l) (sym c.as_slice.ensures.value) in
    let looked : (s : State) → IsHubOf mid s → c.full_for.result ≡ journal_full s (length facts * (22 + length r.app) + 8 * length ids) = λ s h.
    c.full_for.ensures s h ∙ (λ i. journal_full s (same i * (22 + named i) + 8 * length ids)) in
    let room : 17 + length r.app + 8 * c.args.batch ≤ c.reserve.new.self.spare = omega (arith, named, ap (λ (j : JournalView). j.spare) c.in-Ok-reserve.ensures.ok) in
    move-batches g.S.Site hub c.args.site.now c.args.at c.args.from.now c.args.to.now c.args.batch c.requires now c.later-self.result c.later-self.ensures.value c.later-self.ensures.bound r there within c.if-batch-lt1.false ids listed facts are c.full_for.result looked _ (took-journal mid c.reserve.new.self _ c.in-Ok-reserve.ensures.ok) c.if-batch-gt-MOST_IN_BATCH.false room

pub returns : goal.returns
returns g c =
    let hub : Hub = c.args.self.now in
    let r : Route = c.in-Ok.route in
    let there : route hub.history.catalogue c.args.from.now c.args.to.now ≡ Ok (as_route r) = ap (λ (x : Catalogue). route x c.args.from.now c.args.to.now) (sym c.catalogue.ensures) ∙ sym c.in-Ok.ensures in
    let now : (i : Image) → g.S.Site.told → g.S.Site.left_since c.args.site.now (g.S.Site.moment c.args.site.now) i → g.S.Site.may_leave c.args.site.now i = g.met.S.Site.only_now c.args.site.now in
    let mid : Hub = record hub { last = c.later-self.result } in
    let ids : List ℕ = c.as_slice-ids.result.now in
    let listed : (s : State) → IsHubOf mid s → ids ≡ ids_moved s (source_of r) = λ s h. c.as_slice-ids.ensures.value ∙ c.in-Ok-ids_moved.ensures s h in
    let within : is_between 1 1000 c.args.batch ≡ true = batch-within c.args.batch c.if-batch-lt1.false c.if-batch-gt-MOST_IN_BATCH.false in
    let named : length c.as_bytes-named.result.now ≡ length r.app = ap (λ (l : List ℕ). length l) c.as_bytes-named.ensures.value in
    let many : c.len.result ≡ length c.in-Ok-facts_moved.facts.items = omega (arith, c.len.ensures, c.in-Ok-facts_moved.facts.ok) in
    let facts : List Fact = c.as_slice.result.now in
    let are : facts ≡ facts_of_batches r.app r.to c.later-self.result (batches c.args.batch ids) = c.as_slice.ensures.value ∙ c.in-Ok-facts_moved.ensures in
    let same : c.len.result ≡ length facts = many ∙ ap (λ (l : List Fact). length l) (sym c.as_slice.ensures.value) in
    let looked : (s : State) → IsHubOf mid s → c.full_for.result ≡ journal_full s (length facts * (22 + length r.app) + 8 * length ids) = λ s h.
    c.full_for.ensures s h ∙ (λ i. journal_full s (same i * (22 + named i) + 8 * length ids)) in
    move-added g.S.Site hub c.args.site.now c.args.at c.args.from.now c.args.to.now c.args.batch c.requires now c.later-self.result c.later-self.ensures.value c.later-self.ensures.bound r there within c.if-batch-lt1.false ids listed facts are c.full_for.result looked _ (took-journal mid c.reserve.new.self _ c.in-Ok-reserve.ensures.ok) c.in_default-full_for.is c.add_batches.result c.add_batches.new.self c.add_batches.new.site c.add_batches.ensures.takes_no_memory c.add_batches.ensures.steps
