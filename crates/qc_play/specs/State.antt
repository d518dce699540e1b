-- The state of an attempt between its calls, as callers see it.
use Rattle.std.specs.Prelude.{ℕ}
use Rattle.qc_play.specs.Play.{Play}

-- the play state, and room for so many more effects
pub record StateView : Type 0 where
  pub play : Play
  pub room : ℕ
