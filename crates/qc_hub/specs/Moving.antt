-- Moves: their routes and their batches.
use Rattle.std.specs.Prelude.{◌≡◌, ◌≤◌, ◌+◌, ◌^◌, ℕ, List, All, length, true, Option, Some, None, Result, Ok, Err}
use Rattle.qc_base.specs.declared.fact.Fact.{Fact}
use Rattle.qc_base.specs.declared.fact.Fact.TheVariants.{Moved}
use Rattle.qc_base.specs.Names.{is_name}
use Rattle.qc_base.specs.Spelling.{spelled_fact}
use Rattle.qc_protocol.specs.declared.reply.Refusal.{Refusal}
use Rattle.qc_machine.specs.Moving.{AreMovable, QueueOf, Route}
use Rattle.qc_machine.specs.State.{State, with_new_fact}
use Rattle.qc_hub.specs.declared.hub.Hub.{Hub}
use Rattle.qc_hub.specs.declared.route.Route.{Route as RouteHere}
use Rattle.qc_hub.specs.Stands.{IsHubOf}

abbrev pub as_queue : List ℕ × ℕ → QueueOf
as_queue q = record { app = q.0; queue = q.1 }

abbrev pub source_of : RouteHere → QueueOf
source_of r = record { app = r.app; queue = r.queue }

abbrev pub as_route : RouteHere → Route
as_route r = record { source = source_of r; to = r.to }

abbrev pub told_route : Result RouteHere Refusal → Result Route Refusal
told_route (Ok r) = Ok (as_route r)
told_route (Err refusal) = Err refusal

-- a number, where it is one of 64 bits
abbrev pub is_same_unless : Option ℕ → ℕ → Type 0
is_same_unless (Some n) m = n ≡ m
is_same_unless None m = 2 ^ 64 ≤ m

-- a batch of a move, which may be added now and for which there is room
pub record IsBatch (fact : Fact) (hub : Hub) : Type 0 where
  pub app : List ℕ
  pub queue : ℕ
  pub ids : List ℕ
  pub is : fact ≡ Moved app queue hub.last ids
  pub named : is_name app ≡ true
  pub within : queue ≤ 6
  pub some : 1 ≤ length ids
  pub few : length ids ≤ 1000
  pub movable : (s : State) → IsHubOf hub s → AreMovable s app ids
  pub room : length (spelled_fact fact) + 4 ≤ hub.journal.spare

-- a batch was added, and there is as much room as before
pub record HasBatch (fact : Fact) (hub new : Hub) : Type 0 where
  pub is_in : (s : State) → IsHubOf hub s → IsHubOf new (with_new_fact fact s)
  pub last : new.last ≡ hub.last
  pub spare : new.journal.spare ≡ hub.journal.spare

abbrev pub AreBatches : List Fact → Hub → Type 0
AreBatches facts hub = All (λ (fact : Fact). IsBatch fact hub) facts
