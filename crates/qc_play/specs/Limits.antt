-- Amounts that are in their range, from 0 to 10^15.
use Rattle.std.specs.Prelude.{ℕ, List, Bool, true, ◌&&◌, Option, Some, None}
use Rattle.std.specs.List.{list_all}
use Rattle.qc_play.specs.declared.effect.Effect.{Effect}
use Rattle.qc_play.specs.declared.effect.Effect.TheVariants.{Change, Retract}
use Rattle.qc_play.specs.declared.record.PlayRecord.{PlayRecord}
use Rattle.qc_play.specs.Play.{Seen, fits}

-- a row's amount, where it has one
abbrev pub seen_fits : Option ℕ → Bool
seen_fits (Some n) = fits n
seen_fits None = true

abbrev pub view_fits : List Seen → Bool
view_fits view = list_all (λ (s : Seen). seen_fits s.1) view

-- the amounts before and after each change
abbrev pub record_fits : PlayRecord → Bool
record_fits r = fits r.entry.old && fits r.entry.new

abbrev pub records_fit : List PlayRecord → Bool
records_fit rs = list_all record_fits rs

abbrev pub effect_fits : Effect → Bool
effect_fits (Change resource key old new) = fits old && fits new
effect_fits (Retract resource) = true

abbrev pub effects_fit : List Effect → Bool
effects_fit es = list_all effect_fits es
