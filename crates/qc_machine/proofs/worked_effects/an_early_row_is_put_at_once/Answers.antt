use Rattle.std.proofs.Common.{refl}
use Rattle.std.specs.Str.{is_utf8, chars}
use Rattle.std.specs.Fmt.{digits}
use lib.Utf8.{encode}
use Rattle.qc_base.specs.Spelling.{two_bytes, four_bytes, eight_bytes}
use Rattle.qc_frame.specs.Frame.{size_bytes}
use Rattle.qc_machine.proofs.worked_effects.an_early_row_is_put_at_once.Goals as goal

pub returns : goal.returns
unfolding is_utf8 chars digits encode size_bytes two_bytes four_bytes eight_bytes
returns c = record { told = refl; at_once = refl; logged = refl; ends = refl; finished = refl; last = refl }
