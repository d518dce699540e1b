use Rattle.std.proofs.Common.{refl}
use Rattle.std.specs.Str.{is_utf8, chars}
use lib.Utf8.{encode}
use Rattle.qc_script.specs.Scripts.{script_of}
use Rattle.qc_script.specs.Words.{words}
use Rattle.qc_play.proofs.worked.a_retract_takes_back.Goals as goal

pub returns-clause-till : goal.returns-clause-till
unfolding is_utf8 chars encode script_of words
returns-clause-till c = refl

pub returns-clause-post : goal.returns-clause-post
unfolding is_utf8 chars encode script_of words
returns-clause-post c = refl
