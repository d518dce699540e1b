-- The message of an id, as the store tells it.
use Rattle.std.proofs.Common.{◌≡◌, ◌∙◌, ℕ, List, Bool, true, false, refl, sym, ap, option_map, option_and_then, Option, Some, None, if◌then◌else◌}
use Rattle.std.proofs.lemmas.Option.{none-some, same_Some}
use Rattle.qc_base.specs.declared.fact.Place.{Place}
use Rattle.qc_base.specs.declared.message.Message.{Message}
use Rattle.qc_base.specs.declared.recording.Recording.{Recording}
use Rattle.qc_base.specs.Messages.{is_consumed, message_of}
use Rattle.qc_catalogue.specs.declared.catalogue.Catalogue.{Catalogue}
use Rattle.qc_store.specs.Live.{live_message, told_of, unless_consumed}
use Rattle.qc_history.specs.Playing.{kind_by, kind_of_attempt, kind_on}

-- a message that isn't consumed
pub record Told (of : ℕ) (ms : List Message) (r : Recording) (at : Place) : Type 0 where
  pub message : Message
  pub found : message_of of ms ≡ Some message
  pub recording : message.recording ≡ r
  pub place : message.place ≡ at

pub told-some : (of : ℕ) (ms : List Message) (r : Recording) (place : Place) → Some (r, place) ≡ option_map told_of (live_message of ms) → Told of ms r place
told-some of ms r place e = by (message_of of ms) refl e
  where
    test : (m : Message) → message_of of ms ≡ Some m → (b : Bool) → Some (r, place) ≡ option_map told_of (if b then None else Some m) → Told of ms r place
    test m found true e = absurd (none-some (r, place) (sym e))
    test m found false e =
        let same : (r, place) ≡ (m.recording, m.place) = same_Some (r, place) (m.recording, m.place) e in
        record { message = m; found = found; recording = ap (λ (p : Recording × Place). p.0) (sym same); place = ap (λ (p : Recording × Place). p.1) (sym same) }

    by : (o : Option Message) → message_of of ms ≡ o → Some (r, place) ≡ option_map told_of (option_and_then unless_consumed o) → Told of ms r place
    by None found e = absurd (none-some (r, place) (sym e))
    by (Some m) found e = test m found (is_consumed m.place) e

-- the kind of an attempt on it
pub kind-told : (c : Catalogue) (of : ℕ) (ms : List Message) (r : Recording) (place : Place) → Told of ms r place → kind_of_attempt c of ms ≡ kind_by c r place
kind-told c of ms r place t = ap (option_and_then (kind_on c)) t.found ∙ (λ i. kind_by c (t.recording i) (t.place i))
