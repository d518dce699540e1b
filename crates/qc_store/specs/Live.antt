-- Messages by their ids.
use Rattle.std.specs.Prelude.{ℕ, List, Bool, false, not, Option, option_and_then, Some, None, if◌then◌else◌}
use Rattle.std.specs.List.{list_all}
use Rattle.std.specs.Option.{option_map_or}
use denote.Ref.{Bor}
use Rattle.qc_base.specs.declared.recording.Recording.{Recording}
use Rattle.qc_base.specs.declared.fact.Place.{Place}
use Rattle.qc_base.specs.declared.message.Message.{Message}
use Rattle.qc_base.specs.Messages.{message_of, is_consumed}
use Rattle.qc_store.specs.Due.{is_queued}

abbrev pub unless_consumed : Message → Option Message
unless_consumed m = if is_consumed m.place then None else Some m

-- the message of an id, where it isn't consumed
abbrev pub live_message : ℕ → List Message → Option Message
live_message id messages = option_and_then unless_consumed (message_of id messages)

-- what is told of a message: what it carries, and where it stands
abbrev pub told_of : Message → Recording × Place
told_of m = (m.recording, m.place)

abbrev pub as_told : Bor Recording × Place → Recording × Place
as_told found = (found.0.now, found.1)

abbrev pub is_live : ℕ → List Message → Bool
is_live id messages = option_map_or (λ (m : Message). not (is_consumed m.place)) (message_of id messages) false

abbrev pub are_live : List ℕ → List Message → Bool
are_live ids messages = list_all (λ id. is_live id messages) ids

-- whether the message of an id stands in one of the queues 0 to 5
abbrev pub is_waiting : ℕ → List Message → Bool
is_waiting id messages = option_map_or (λ (m : Message). is_queued m.place) (message_of id messages) false
