-- A hub with one switch more.
use Rattle.std.proofs.Common.{◌≡◌, ℕ, ◌+◌, ◌<◌, ◌≤◌, List, length, Bool, true, le-leb, refl, ap, sym, subst, arith, is_some}
use Rattle.qc_base.specs.Names.{is_name}
use Rattle.qc_base.specs.declared.fact.Fact.{Fact}
use Rattle.qc_base.specs.declared.fact.Fact.TheVariants.{Switched as FactSwitched}
use Rattle.qc_base.specs.Spelling.{is_fact}
use Rattle.qc_catalogue.specs.declared.catalogue.Catalogue.{Catalogue}
use Rattle.qc_catalogue.specs.Lookup.{app_named}
use Rattle.qc_journal.specs.Journal.{CanAppend, JournalView, appended}
use Rattle.qc_history.specs.Adding.{AddsFact, Always}
use Rattle.qc_history.specs.Stands.{IsHistoryOf}
use Rattle.qc_history.specs.View.{HistoryView}
use Rattle.qc_machine.specs.History.{by_text, is_legal, with_fact}
use Rattle.qc_machine.specs.Laws.{IsSettled}
use Rattle.qc_machine.specs.State.{State, with_new_fact}
use Rattle.qc_machine.specs.Switching.{fact_switched, switch_step}
use Rattle.qc_machine.proofs.Bools.{and-both}
use Rattle.qc_machine.proofs.Settled.{app-name, switch-settled}
use Rattle.qc_hub.specs.declared.hub.Hub.{Hub}
use Rattle.qc_hub.specs.Stands.{IsHubOf}
use Rattle.qc_hub.proofs.Added.{IsGrown, fact-in, fit-grown}
use Rattle.qc_hub.proofs.Asked.{hub-orderly}
use Rattle.qc_hub.proofs.Room.{switched-size}

-- what the history's call said, of the hub's own history and moment
pub adds-switch : (v w next : HistoryView) (app : List ℕ) (on : Bool) (l m : ℕ) → v ≡ w → l ≡ m → AddsFact (FactSwitched app on l) Always v next → AddsFact (FactSwitched app on m) Always w next
adds-switch v w next app on l m a b adds =
    subst (λ (k : ℕ). AddsFact (FactSwitched app on k) Always w next) b (subst (λ (u : HistoryView). AddsFact (FactSwitched app on l) Always u next) a adds)

-- the application is there
module _ (hub : Hub) (app : List ℕ) (on : Bool) (known : is_some (app_named app hub.history.catalogue.apps) ≡ true) where
  abbrev pub switched_by : Fact
  switched_by = FactSwitched app on hub.last

  there : (s : State) → IsHubOf hub s → is_some (app_named app s.history.catalogue.apps) ≡ true
  there s h = subst (λ (c : Catalogue). is_some (app_named app c.apps) ≡ true) h.history.catalogue known

  pub switch-limits : (s : State) → IsHubOf hub s → is_fact switched_by ≡ true
  switch-limits s h = and-both (is_name app) _ (app-name s.history.catalogue app (hub-orderly hub s h) (there s h)) (le-leb hub.last 1000000000000 (omega (arith, h.last, h.settled.in_time)))

  pub switch-can : (s : State) → IsHubOf hub s → hub.journal.ended ≡ true → 15 + length app ≤ hub.journal.spare → CanAppend hub.journal switched_by
  switch-can s h ended room = record { limits = switch-limits s h; ended = ended; room = omega (arith, room, switched-size app on hub.last) }

  same : (s : State) → IsHubOf hub s → switched_by ≡ fact_switched s app on
  same s h = ap (λ (n : ℕ). FactSwitched app on n) h.last

  pub switch-grows : (s : State) → IsHubOf hub s → IsGrown switched_by s (switch_step s app on).state
  switch-grows s h = subst (λ (f : Fact). IsGrown f s (switch_step s app on).state) (sym (same s h)) (record { history = refl; rows = refl; journal = refl; log = refl })

  settled : (s : State) → IsHubOf hub s → IsSettled by_text (with_new_fact (fact_switched s app on) s)
  settled s h = switch-settled by_text s app on h.settled (hub-orderly hub s h) (there s h)

  pub switch-legal : (s : State) → IsHubOf hub s → is_legal by_text (switch_step s app on).state.history.facts ≡ true
  switch-legal s h = (settled s h).legal

  module _ (journal : JournalView) (history : HistoryView) (grows : journal ≡ appended hub.journal switched_by) (counted : hub.history.facts < 18446744073709551615) (adds : AddsFact switched_by Always hub.history history) where
    abbrev new : Hub
    new = record hub { journal = journal; history = history }

    pub switch-in : (s : State) → IsHubOf hub s → IsHubOf new (switch_step s app on).state
    switch-in s h =
        let short : length s.history.facts < 18446744073709551615 = omega (arith, counted, h.history.counted) in
        let kept : IsHistoryOf history (with_fact switched_by s.history) = adds.settles s.history h.history tt short in
        fact-in hub new switched_by s (switch_step s app on).state h (switch-grows s h) grows refl refl refl refl refl kept h.clients h.players (settled s h)
        (fit-grown hub new switched_by Always adds counted grows h.fit.played h.fit.places h.fit)
