-- What a store counts beside its messages.
use Rattle.std.specs.Prelude.{◌≡◌, ℕ, ◌+◌, List, [], ◌∷◌, ◌++◌, length, find, All, Bool, true, if◌then◌else◌}
use Rattle.std.specs.List.{list_any}
use Rattle.std.specs.Option.{option_map_or}
use Rattle.std.specs.Str.{bytes_eq}
use Rattle.qc_base.specs.declared.message.Message.{Message}
use Rattle.qc_base.specs.Messages.{consumed_ids, message_of}
use Rattle.qc_store.specs.declared.tally.Tally.{Tally}
use Rattle.qc_store.specs.Stored.{IdsRise}

-- whether an application is counted
abbrev pub is_tallied : List ℕ → List Tally → Bool
is_tallied app tallies = list_any (λ (t : Tally). bytes_eq t.app app) tallies

-- how many of its messages are consumed; none of an application that isn't counted
abbrev pub tally_of : List ℕ → List Tally → ℕ
tally_of app tallies = option_map_or (λ (t : Tally). t.consumed) (find (λ (t : Tally). bytes_eq t.app app) tallies) 0

-- an application more is counted, unless it is already
abbrev pub with_app : List ℕ → List Tally → List Tally
with_app app tallies = if is_tallied app tallies then tallies else tallies ++ record { app = app; consumed = 0 } ∷ []

-- one message more of the application is consumed
abbrev pub with_one : List ℕ → List Tally → List Tally
with_one app [] = []
with_one app (t ∷ tallies) = if bytes_eq t.app app then record t { consumed = t.consumed + 1 } ∷ tallies else t ∷ with_one app tallies

-- the counts are those of the messages
pub record AreCounted (messages : List Message) (sent : ℕ) (tallies : List Tally) : Type 0 where
  pub rises : IdsRise messages
  pub all_sent : sent ≡ length messages
  pub all_consumed : (app : List ℕ) → tally_of app tallies ≡ length (consumed_ids app messages)
  pub known : All (λ (m : Message). is_tallied m.recording.app tallies ≡ true) messages

-- one message more of its application is consumed
abbrev pub after_played : ℕ → List Message → List Tally → List Tally
after_played id messages tallies = option_map_or (λ (m : Message). with_one m.recording.app tallies) (message_of id messages) tallies
