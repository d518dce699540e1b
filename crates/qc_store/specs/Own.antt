-- The messages of one application.
use Rattle.std.specs.Prelude.{◌≡◌, ℕ, List, map}
use Rattle.qc_base.specs.declared.message.Message.{Message}
use Rattle.qc_base.specs.Messages.{of_app}
use Rattle.qc_store.specs.Stored.{IdsRise}
use denote.Ref.{Bor}

-- references to the messages of an application, in order, of those of a store
abbrev pub AreOwn : List ℕ → List Message → List (Bor Message) → Type 0
AreOwn app messages own = IdsRise messages × (map (λ (r : Bor Message). r.now) own ≡ of_app app messages)
