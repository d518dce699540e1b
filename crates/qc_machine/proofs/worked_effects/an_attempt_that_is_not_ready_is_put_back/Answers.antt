use Rattle.std.proofs.Common.{refl}
use Rattle.std.specs.Str.{is_utf8, chars}
use Rattle.std.specs.Fmt.{digits}
use lib.Utf8.{encode}
use Rattle.qc_base.specs.Spelling.{two_bytes, four_bytes, eight_bytes}
use Rattle.qc_machine.proofs.worked_effects.an_attempt_that_is_not_ready_is_put_back.Goals as goal

pub returns : goal.returns
unfolding is_utf8 chars digits encode two_bytes four_bytes eight_bytes
returns c = record { told = refl; back = refl; unasked = refl; letters = refl; forgotten = refl; none = refl }
