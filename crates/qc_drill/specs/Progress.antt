-- How far a line has come.
use Rattle.std.specs.Prelude.{◌≡◌, ◌⊎◌, ℕ, List}
use Rattle.qc_site.specs.Image.{Image}
use Rattle.qc_machine.specs.Sites.{IsSiteOf}
use Rattle.qc_machine.specs.State.{State, at_moment}
use Rattle.qc_hub.specs.declared.hub.Hub.{Hub}
use Rattle.qc_hub.specs.Stands.{IsHubOf}
use Rattle.qc_drill.specs.Drill.{asked, asked_at, out_of_line, after_line}

-- the text of a line's reply, and the hub and the site after it
pub record AnswersLine (s : State) (line : List ℕ) (hub : Hub) (shown : Image) (text : List ℕ) : Type 0 where
  pub replies : text ≡ out_of_line s line
  pub is_in : IsHubOf hub (after_line s line)
  pub on_site : IsSiteOf shown (after_line s line)

-- nothing changed but the last moment seen, or the line was carried out
pub record MayStand (s : State) (line : List ℕ) (hub : Hub) (shown : Image) : Type 0 where
  pub state : State
  pub is_in : IsHubOf hub state
  pub on_site : IsSiteOf shown state
  pub by : (state ≡ s) ⊎ ((state ≡ at_moment (asked_at (asked line)) s) ⊎ (state ≡ after_line s line))
