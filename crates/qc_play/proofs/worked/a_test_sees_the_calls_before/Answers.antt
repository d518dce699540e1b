use Rattle.std.proofs.Common.{refl}
use Rattle.std.specs.Str.{is_utf8, chars}
use lib.Utf8.{encode}
use Rattle.qc_script.specs.Scripts.{script_of}
use Rattle.qc_script.specs.Words.{words}
use Rattle.qc_play.proofs.worked.a_test_sees_the_calls_before.Goals as goal

pub returns-clause-enough : goal.returns-clause-enough
unfolding is_utf8 chars encode script_of words
returns-clause-enough c = refl

pub returns-clause-too_few : goal.returns-clause-too_few
unfolding is_utf8 chars encode script_of words
returns-clause-too_few c = refl
