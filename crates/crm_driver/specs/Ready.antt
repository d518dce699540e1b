-- When a resource is ready: where it has no bounds, or the last new amount of each of its rows lies within them.
use Rattle.std.specs.Prelude.{ℕ, nat_le, List, [], ◌∷◌, Bool, true, ◌&&◌, ◌||◌, Option}
use Rattle.std.specs.List.{list_any}
use Rattle.std.specs.Option.{option_map_or}
use Rattle.std.specs.Str.{bytes_eq}
use Rattle.qc_base.specs.declared.log_line.LogRecord.{LogRecord}
use Rattle.qc_catalogue.specs.declared.catalogue.Resource.{Resource}

abbrev pub is_within : ℕ × ℕ → LogRecord → Bool
is_within bounds r = nat_le bounds.0 r.new && nat_le r.new bounds.1

-- another record of the same row follows
abbrev pub is_replaced : LogRecord → List LogRecord → Bool
is_replaced r rs = list_any (λ (s : LogRecord). bytes_eq s.key r.key) rs

abbrev pub last_ones_within : ℕ × ℕ → List LogRecord → Bool
last_ones_within bounds [] = true
last_ones_within bounds (r ∷ rs) = (is_replaced r rs || is_within bounds r) && last_ones_within bounds rs

abbrev pub is_ready_by : Option (ℕ × ℕ) → List LogRecord → Bool
is_ready_by bounds records = option_map_or (λ b. last_ones_within b records) bounds true

abbrev pub is_ready : Resource → List LogRecord → Bool
is_ready resource records = is_ready_by resource.bounds records
