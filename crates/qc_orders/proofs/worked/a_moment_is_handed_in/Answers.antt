use Rattle.std.proofs.Common.{refl}
use Rattle.std.specs.Str.{is_utf8, chars}
use Rattle.std.specs.Fmt.{digits}
use lib.Utf8.{encode}
use Rattle.serde_json.proofs.OnLiterals.{serde_json_on_literals}
use Rattle.qc_orders.proofs.worked.a_moment_is_handed_in.Goals as goal

pub returns : goal.returns
unfolding is_utf8 chars digits encode serde_json_on_literals
returns c = refl
