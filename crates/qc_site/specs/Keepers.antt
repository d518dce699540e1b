-- The rows of a keeper before a call and after it.
use Rattle.std.specs.Prelude.{Option, IfSome}
use Rattle.qc_base.specs.Rows.{OutsideRows}

-- they go on by this step, where the keeper tells them both before and after
abbrev pub Goes : Option OutsideRows → Option OutsideRows → (OutsideRows → OutsideRows → Type 0) → Type 0
Goes before after step = IfSome before (λ old. IfSome after (λ new. step old new))
