-- What a hub keeps where it takes room.
use Rattle.std.proofs.Common.{◌≡◌, ◌∙◌, ◌≤◌, List, true, refl, sym, ap, subst, arith, Option}
use Rattle.qc_base.specs.declared.recording.Row.{Row}
use Rattle.qc_catalogue.specs.declared.catalogue.Catalogue.{Catalogue}
use Rattle.qc_history.specs.Adding.{SetsAside}
use Rattle.qc_history.specs.Stands.{IsHistoryOf}
use Rattle.qc_history.specs.View.{HistoryView}
use Rattle.qc_machine.specs.History.{History}
use Rattle.qc_machine.specs.State.{HeldAttempt}
use Rattle.qc_players.specs.Players.{ArePlayedBy, players_of}
use Rattle.qc_rows.specs.Places.{Places, are_reserved, rows_seen}
use Rattle.qc_txn.specs.Attempt.{AttemptView}
use Rattle.qc_hub.specs.declared.hub.Hub.{Hub}
use Rattle.qc_hub.specs.Stands.{HavePlaces, IsFit}

-- room alone

pub sets-nothing : (v : HistoryView) → SetsAside v v
sets-nothing v = record { kept = refl; places = λ rows is. is }

pub sets-same : (v w : HistoryView) → w ≡ v → SetsAside v w
sets-same v w is = subst (λ (x : HistoryView). SetsAside v x) (sym is) (sets-nothing v)

pub sets-more : (u v w : HistoryView) → SetsAside u v → SetsAside v w → SetsAside u w
sets-more u v w first second = record {
  kept = second.kept ∙ ap (λ (x : HistoryView). let y : HistoryView = record x {
    store = record x.store { room = w.store.room };
    tables = record x.tables { places = w.tables.places };
    rows = w.rows;
    off = record x.off { room = w.off.room };
  } in y) first.kept;
  places = λ rows is. second.places rows (first.places rows is);
}

-- a history is kept with other room, and was before

pub same-history : (v w : HistoryView) (h : History) → SetsAside v w → IsHistoryOf v h → IsHistoryOf w h
same-history v w h aside is =
    subst (λ (x : HistoryView). IsHistoryOf x h) (sym aside.kept)
    (record { catalogue = is.catalogue; messages = is.messages; tables = is.tables; outside = is.outside; counted = is.counted; last = is.last; off = is.off; attempt = is.attempt })

pub was-history : (v w : HistoryView) (h : History) → SetsAside v w → IsHistoryOf w h → IsHistoryOf v h
was-history v w h aside is =
    let k = subst (λ (x : HistoryView). IsHistoryOf x h) aside.kept is in
    record { catalogue = k.catalogue; messages = k.messages; tables = k.tables; outside = k.outside; counted = k.counted; last = k.last; off = k.off; attempt = k.attempt }

pub same-catalogue : (v w : HistoryView) → SetsAside v w → w.catalogue ≡ v.catalogue
same-catalogue v w aside = ap (λ (x : HistoryView). x.catalogue) aside.kept

-- attempts that are held go on and end without memory, also with other room

places-on : (players : List (Option HeldAttempt)) (old new : List Places) → ((rows : List Row) → are_reserved rows old ≡ true → are_reserved rows new ≡ true) → HavePlaces old players → HavePlaces new players
places-on players old new kept have n a at open_ = kept (rows_seen a.play.view) (have n a at open_)

pub fit-on : (hub new : Hub) → SetsAside hub.history new.history → new.players ≡ hub.players → hub.journal.spare ≤ new.journal.spare → new.journal.place ≡ hub.journal.place → IsFit hub → IsFit new
fit-on hub new aside players room place fit = record {
  played = subst (λ (p : List (Option AttemptView)). ArePlayedBy new.history.catalogue p) (sym players) (subst (λ (c : Catalogue). ArePlayedBy c hub.players) (sym (same-catalogue hub.history new.history aside)) fit.played);
  places = subst (λ (p : List (Option AttemptView)). HavePlaces new.history.tables.places (players_of p)) (sym players)
      (places-on (players_of hub.players) hub.history.tables.places new.history.tables.places aside.places fit.places);
  room = omega (arith, fit.room, room);
  counted = omega (arith, fit.counted, place, ap (λ (x : HistoryView). x.facts) aside.kept);
}
