-- Attempts that can be played, and how they begin.
use Rattle.std.proofs.Common.{◌≡◌, ◌∙◌, ℕ, ◌==◌, ◌≤◌, List, Bool, true, false, ◌&&◌, length, refl, sym, ap, subst, eqb-true, Option, Some, None, is_some, if◌then◌else◌, Ok, Err, IfOk}
use Rattle.std.proofs.lemmas.Bool.{and_parts, false≢true}
use Rattle.std.proofs.lemmas.Option.{same_Some}
use Rattle.std.specs.declared.result.Result.{Result}
use Rattle.qc_base.specs.declared.fact.Kind.{Kind}
use Rattle.qc_base.specs.declared.fact.Place.{Place}
use Rattle.qc_base.specs.declared.message.Message.{Message}
use Rattle.qc_base.specs.declared.number.NoMemory.{NoMemory}
use Rattle.qc_base.specs.declared.recording.Recording.{Recording}
use Rattle.qc_base.specs.declared.recording.Row.{Row}
use Rattle.qc_catalogue.specs.declared.catalogue.Catalogue.{Catalogue}
use Rattle.qc_listener.specs.Choice.{kind_at}
use Rattle.qc_listener.specs.Index.{MessageRows, rows_kept}
use Rattle.qc_machine.specs.History.{settled_amount}
use Rattle.qc_play.specs.Play.{Seen}
use Rattle.qc_play.specs.State.{StateView}
use Rattle.qc_store.specs.Due.{is_queued}
use Rattle.qc_txn.specs.Attempt.{AttemptView, PlaysBy, begun, effects_in}
use Rattle.qc_txn.specs.Outcome.{new_play, view_of}
use Rattle.qc_txn.specs.Parts.{is_playable, parts_of, rows_of_attempt}
use Rattle.qc_history.specs.Playing.{BeginsOn, kind_of_attempt}
use Rattle.qc_history.specs.View.{HistoryView, IsSound}
use Rattle.qc_history.proofs.Again.{kept-rows}
use Rattle.qc_history.proofs.Found.{Told, kind-told}
use Rattle.qc_history.proofs.Kept.{found-kept, found-passes, found-short}

-- what is told of a message whose attempt can be played
pub record CanPlay (c : Catalogue) (of : ℕ) (rows : List MessageRows) (r : Recording) (kind : Kind) : Type 0 where
  pub kept : rows_kept of kind rows ≡ Some (rows_of_attempt c r kind)
  pub playable : is_playable c r kind ≡ true

some-if : {A : Type 0} (b : Bool) (x : A) → is_some (if b then Some x else None) ≡ true → b ≡ true
some-if true x e = refl
some-if false x e = absurd (false≢true e)

module _ (c : Catalogue) (ms : List Message) (rows : List MessageRows) (facts : ℕ) (sound : IsSound c ms rows facts) (of : ℕ) (r : Recording) (place : Place) (t : Told of ms r place) where
  pub told-short : length r.calls ≤ 64
  told-short = subst (λ (x : Recording). length x.calls ≤ 64) t.recording (found-short c ms rows facts sound of t.message t.found)

  pub can-play : is_some (kind_of_attempt c of ms) ≡ true → CanPlay c of rows r (kind_at place)
  can-play some =
      let test : (is_queued place && is_playable c r (kind_at place)) ≡ true =
      some-if (is_queued place && is_playable c r (kind_at place)) (kind_at place) (ap (λ (o : Option Kind). is_some o) (sym (kind-told c of ms r place t)) ∙ some) in
      let parts = and_parts (is_queued place) (is_playable c r (kind_at place)) test in
      let kept = kept-rows c rows t.message (kind_at place) (found-kept c ms rows facts sound of t.message t.found (ap is_queued t.place ∙ parts.0)) in
      let id : t.message.id ≡ of = eqb-true t.message.id of (found-passes (λ (m : Message). m.id == of) ms t.message t.found) in
      record {
        kept = ap (λ n. rows_kept n (kind_at place) rows) (sym id) ∙ kept ∙ ap (λ (x : Recording). Some (rows_of_attempt c x (kind_at place))) t.recording;
        playable = parts.1;
      }

-- it begins over the settled amounts of its rows
module _ (view : HistoryView) (of number : ℕ) (r : Recording) (place : Place) (t : Told of view.store.messages r place) (can : CanPlay view.catalogue of view.rows r (kind_at place)) where
  abbrev seen_by : Recording → Place → List Seen
  seen_by x p = view_of (settled_amount view.tables.tables view.outside) (rows_of_attempt view.catalogue x (kind_at p))

  -- the effects of all its calls
  abbrev effects_by : Recording → Place → ℕ
  effects_by x p = effects_in (parts_of view.catalogue x (kind_at p))

  pub begins : (rows : List Row) (seen : List Seen) (state : StateView) (a : AttemptView) → Some rows ≡ rows_kept of (kind_at place) view.rows → seen ≡ view_of (settled_amount view.tables.tables view.outside) rows
      → state.play ≡ new_play seen → state.room ≡ effects_by r place → a ≡ begun of number (kind_at place) r state → PlaysBy view.catalogue a → BeginsOn view of number a
  begins rows seen state a told sees play room is plays =
      let own : rows ≡ rows_of_attempt view.catalogue r (kind_at place) = same_Some rows (rows_of_attempt view.catalogue r (kind_at place)) (told ∙ can.kept) in
      let all : seen ≡ seen_by r place = sees ∙ ap (view_of (settled_amount view.tables.tables view.outside)) own in
      let id : t.message.id ≡ of = eqb-true t.message.id of (found-passes (λ (m : Message). m.id == of) view.store.messages t.message t.found) in
      record {
        message = t.message;
        found = t.found;
        is = is
            ∙ (λ i. begun of number (kind_at place) r (record { play = play i; room = room i }))
            ∙ ap (λ (s : List Seen). begun of number (kind_at place) r (record { play = new_play s; room = effects_by r place })) all
            ∙ (λ i. begun (sym id i) number (kind_at (sym t.place i)) (sym t.recording i) (record { play = new_play (seen_by (sym t.recording i) (sym t.place i)); room = effects_by (sym t.recording i) (sym t.place i) }));
        plays = plays;
      }

  pub begins-if : (rows : List Row) (seen : List Seen) (state : StateView) (result : Result AttemptView NoMemory) → Some rows ≡ rows_kept of (kind_at place) view.rows → seen ≡ view_of (settled_amount view.tables.tables view.outside) rows
      → state.play ≡ new_play seen → state.room ≡ effects_by r place → IfOk result (λ a. a ≡ begun of number (kind_at place) r state) → IfOk result (λ a. PlaysBy view.catalogue a) → IfOk result (λ a. BeginsOn view of number a)
  begins-if rows seen state (Ok a) told sees play room is plays = begins rows seen state a told sees play room is plays
  begins-if rows seen state (Err e) told sees play room is plays = tt
