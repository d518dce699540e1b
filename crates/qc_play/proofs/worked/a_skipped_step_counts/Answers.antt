use Rattle.std.proofs.Common.{refl}
use Rattle.std.specs.Str.{is_utf8, chars}
use lib.Utf8.{encode}
use Rattle.qc_script.specs.Scripts.{script_of}
use Rattle.qc_script.specs.Words.{words}
use Rattle.qc_play.proofs.worked.a_skipped_step_counts.Goals as goal

pub returns-clause-moved : goal.returns-clause-moved
unfolding is_utf8 chars encode script_of words
returns-clause-moved c = refl

pub returns-clause-too_many : goal.returns-clause-too_many
unfolding is_utf8 chars encode script_of words
returns-clause-too_many c = refl
