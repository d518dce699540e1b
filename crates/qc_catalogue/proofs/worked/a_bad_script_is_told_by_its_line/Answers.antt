use Rattle.std.proofs.Common.{refl}
use Rattle.std.specs.Str.{is_utf8, chars}
use lib.Utf8.{encode}
use Rattle.toml.proofs.OnLiterals.{toml_on_literals}
use Rattle.uuid.proofs.OnLiterals.{uuid_on_literals}
use Rattle.qc_script.specs.Scripts.{script_of}
use Rattle.qc_script.specs.Words.{words}
use Rattle.qc_catalogue.proofs.worked.a_bad_script_is_told_by_its_line.Goals as goal

pub returns : goal.returns
unfolding is_utf8 chars encode toml_on_literals uuid_on_literals script_of words
returns c = refl
