-- What is chosen at each end of the walk.
use Rattle.std.proofs.Common.{◌≡◌, ◌∙◌, ℕ, ◌+◌, ◌<◌, ◌≤◌, ◌==◌, List, Bool, true, false, not, ◌&&◌, All, length, get_or, count_by, Option, Some, None, option_map, sym, ap, subst, arith, if◌then◌else◌}
use Rattle.std.specs.Option.{option_map_or}
use Rattle.std.specs.Str.{bytes_eq}
use Rattle.std.proofs.lemmas.Bool.{and_from, le-leb}
use Rattle.std.proofs.lemmas.List.Elements.{filter_passes}
use Rattle.std.proofs.lemmas.List.Sums.{count_by-le-length, length-filter}
use Rattle.qc_base.specs.declared.fact.Kind.{Kind}
use Rattle.qc_base.specs.declared.fact.Kind.TheVariants.{Normal, Final}
use Rattle.qc_base.specs.declared.fact.Place.{Place}
use Rattle.qc_base.specs.declared.fact.Place.TheVariants.{Queue}
use Rattle.qc_base.specs.declared.message.Message.{Message}
use Rattle.qc_base.specs.Messages.{of_app, waiting_as}
use Rattle.qc_catalogue.specs.declared.catalogue.Catalogue.{Catalogue}
use Rattle.qc_listener.specs.declared.chosen.Chosen.TheVariants.{Take, NothingDue}
use Rattle.qc_listener.specs.Choice.{AreKept, chosen, chosen_by, due_messages, due_of, earliest_due, has_free_rows, is_due, kind_at}
use Rattle.qc_listener.specs.Index.{MessageRows, rows_by, rows_kept}
use Rattle.qc_listener.proofs.Kept.{rows_of_kind}
use Rattle.qc_listener.proofs.Lists.{none_counted, one_if}
use Rattle.qc_listener.proofs.Walk.{Looked, all_counted, begun, fewer, first_chosen, first_later, looked_on, next_none, next_some, none_chosen, none_later, queued_rise, split_later, split_none}
use Rattle.qc_rows.specs.Holdings.{Holding, is_held, are_free}
use Rattle.qc_store.specs.Due.{is_behind, is_queued, next_due, queued_messages}
use Rattle.qc_store.specs.Stored.{IdsRise}
use Rattle.qc_store.proofs.First.{IsFirst}

abbrev idle_of : List Holding → Message → Bool
idle_of holdings m = not (is_held holdings m.id)

-- whether the rows are free that the index keeps for an attempt of a kind on a message
abbrev pub is_free : List Holding → List MessageRows → ℕ → Kind → Bool
is_free holdings index id kind = option_map_or (are_free holdings) (rows_kept id kind index) false

abbrev free_of : List Holding → List MessageRows → Message → Bool
free_of holdings index m = is_free holdings index m.id (kind_at m.place)

-- the walk so far: each turn looked at one message
pub record Walked (holdings : List Holding) (index : List MessageRows) (now : ℕ) (app : List ℕ) (ms : List Message) (after : Option (ℕ × ℕ)) (blocked turns : ℕ) : Type 0 where
  pub looked : Looked now (idle_of holdings) (free_of holdings index) (queued_messages app ms) after blocked
  pub left : turns + count_by (is_behind after) (queued_messages app ms) ≤ length ms
  pub few : blocked ≤ turns

module _ (holdings : List Holding) (index : List MessageRows) (now : ℕ) (app : List ℕ) (ms : List Message) (up : IdsRise ms) where
  abbrev queued : List Message
  queued = queued_messages app ms

  abbrev idle : Message → Bool
  idle = idle_of holdings

  abbrev free : Message → Bool
  free = free_of holdings index

  rise : IdsRise queued
  rise = queued_rise app None ms up

  stand : All (λ (x : Message). is_queued x.place ≡ true) queued
  stand = filter_passes (λ (x : Message). is_queued x.place) (of_app app ms)

  few_queued : length queued ≤ length ms
  few_queued =
      let own = λ (x : Message). bytes_eq x.recording.app app in
      let place = λ (x : Message). is_queued x.place in
      omega (arith, length-filter place (of_app app ms), count_by-le-length place (of_app app ms), length-filter own ms, count_by-le-length own ms)

  pub set_out : Walked holdings index now app ms None 0 0
  set_out = record {
    looked = begun now idle free queued;
    left = omega (arith, few_queued, count_by-le-length (is_behind None) queued);
    few = omega arith;
  }

  module _ (after : Option (ℕ × ℕ)) (blocked turns : ℕ) (walked : Walked holdings index now app ms after blocked turns) where
    module _ (c : Catalogue) (kept : AreKept c index app ms) where
      same : All (λ (x : Message). free x ≡ has_free_rows c holdings x) queued
      same k d lt =
          let x = get_or queued k d in
          let kind = kind_at x.place in
          ap (λ (o : Option (List _)). option_map_or (are_free holdings) o false) (ap (option_map (rows_by kind)) (kept k d lt) ∙ ap Some (rows_of_kind c x.id x.recording kind))

      all_passed : All (λ (x : Message). is_behind after x ≡ false) queued → NothingDue None blocked ≡ chosen c holdings now app ms
      all_passed none =
          let split = split_none now idle free queued after blocked walked.looked none in
          let choice = none_chosen now idle free queued after blocked walked.looked (has_free_rows c holdings) same split in
          let earliest = none_later now queued after stand split none in
          let count = all_counted now idle free queued after blocked walked.looked split in
          λ i. chosen_by (sym choice i) (sym earliest i) (count i)

      pub none_left : next_due app after ms ≡ None → NothingDue None blocked ≡ chosen c holdings now app ms
      none_left e = all_passed (next_none app after ms up e)

      pub all_walked : length ms ≤ turns → NothingDue None blocked ≡ chosen c holdings now app ms
      all_walked le = all_passed (none_counted (is_behind after) queued (omega (arith, le, walked.left)))

    module _ (id queue tries due : ℕ) (told : next_due app after ms ≡ Some (id, queue, tries, due)) where
      found : (m : Message) × IsFirst (is_behind after) queued m × (m.id ≡ id) × (m.place ≡ Queue queue tries due)
      found = next_some app after ms up id queue tries due told

      abbrev m : Message
      m = found.0

      due_is : due_of m ≡ due
      due_is = ap (λ (p : Place). (waiting_as m.id p).due) found.3

      idle_is : idle m ≡ not (is_held holdings id)
      idle_is = ap (λ n. not (is_held holdings n)) found.2

      free_is : free m ≡ is_free holdings index id (if tries == 3 then Final else Normal)
      free_is = λ i. is_free holdings index (found.2 i) (kind_at (found.3 i))

      is_due_now : due ≤ now → is_due now m.place ≡ true
      is_due_now le = ap (is_due now) found.3 ∙ le-leb due now le

      pub comes_later : (c : Catalogue) → AreKept c index app ms → now < due → NothingDue (Some due) blocked ≡ chosen c holdings now app ms
      comes_later c kept lt =
          let later : now < due_of m = omega (arith, lt, due_is) in
          let split = split_later now idle free queued after blocked walked.looked m stand found.1 later in
          let choice = none_chosen now idle free queued after blocked walked.looked (has_free_rows c holdings) (same c kept) split in
          let earliest = first_later now queued after stand split m found.1 later ∙ ap Some due_is in
          let count = all_counted now idle free queued after blocked walked.looked split in
          λ i. chosen_by (sym choice i) (sym earliest i) (count i)

      pub is_taken : (c : Catalogue) → AreKept c index app ms → due ≤ now → is_held holdings id ≡ false → is_free holdings index id (if tries == 3 then Final else Normal) ≡ true → Take id ≡ chosen c holdings now app ms
      is_taken c kept le unheld rows =
          let waits = and_from (is_due now m.place) (idle m) (is_due_now le) (idle_is ∙ ap not unheld) in
          let choice = first_chosen now idle free queued after blocked walked.looked (has_free_rows c holdings) (same c kept) rise m found.1 waits (free_is ∙ rows) in
          let earliest = earliest_due now app ms in
          let count = length (due_messages holdings now app ms) in
          ap Take (sym found.2) ∙ sym (ap (λ (o : Option Message). chosen_by o earliest count) choice)

      on : due ≤ now → (idle m && free m) ≡ false → Walked holdings index now app ms (Some (due, id)) (blocked + one_if (idle m)) (turns + 1)
      on le skip =
          let fewer-behind = fewer queued rise after m found.1 in
          let to : ℕ × ℕ → Type 0 = λ p. Walked holdings index now app ms (Some p) (blocked + one_if (idle m)) (turns + 1) in
          subst to {x = (due_of m, m.id)} {y = (due, id)} (λ i. (due_is i, found.2 i)) (record {
            looked = looked_on queued rise after m found.1 now idle free blocked walked.looked (is_due_now le) skip;
            left = omega (arith, walked.left, fewer-behind);
            few = omega (arith, walked.few, at_most_one (idle m));
          })
        where
          at_most_one : (b : Bool) → one_if b ≤ 1
          at_most_one true = omega arith
          at_most_one false = omega arith

      pub held_on : due ≤ now → is_held holdings id ≡ true → Walked holdings index now app ms (Some (due, id)) blocked (turns + 1)
      held_on le held =
          let busy : idle m ≡ false = idle_is ∙ ap not held in
          let none : blocked + one_if (idle m) ≡ blocked = omega (arith, ap one_if busy) in
          subst (λ n. Walked holdings index now app ms (Some (due, id)) n (turns + 1)) none (on le (ap (λ (b : Bool). b && free m) busy))

      pub blocked_on : due ≤ now → is_held holdings id ≡ false → is_free holdings index id (if tries == 3 then Final else Normal) ≡ false → Walked holdings index now app ms (Some (due, id)) (blocked + 1) (turns + 1)
      blocked_on le unheld rows =
          let open_now : idle m ≡ true = idle_is ∙ ap not unheld in
          let one : blocked + one_if (idle m) ≡ blocked + 1 = omega (arith, ap one_if open_now) in
          subst (λ n. Walked holdings index now app ms (Some (due, id)) n (turns + 1)) one (on le (ap (λ (b : Bool). b && free m) open_now ∙ (free_is ∙ rows)))
