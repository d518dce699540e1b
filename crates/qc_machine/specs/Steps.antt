-- A step, and the states in its midst.
use Rattle.std.specs.Prelude.{◌≡◌, ◌⊎◌, List, [], ◌∷◌}
use Rattle.qc_protocol.specs.declared.reply.Reply.{Reply}
use Rattle.qc_machine.specs.State.{State}

pub record Step : Type 0 where
  -- the states behind each change of the site, where there may be more than one
  pub through : List State
  pub state : State
  pub reply : Reply

-- a step that changes no more than it is given
abbrev pub stays : State → Reply → Step
stays s reply = record { through = []; state = s; reply = reply }

-- the state is one of these
abbrev pub Among : List State → State → Type 0
Among [] x = ⊥
Among (y ∷ ys) x = (x ≡ y) ⊎ Among ys x

-- the states whose history a crash in the midst of a step may leave
abbrev pub IsBetween : State → Step → State → Type 0
IsBetween s t x = (x ≡ s) ⊎ (Among t.through x ⊎ (x ≡ t.state))
