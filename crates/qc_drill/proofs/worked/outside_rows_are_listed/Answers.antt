use Rattle.std.proofs.Common.{◌≡◌, refl, sym, subst}
use Rattle.std.specs.Str.{is_utf8, chars}
use Rattle.std.specs.Fmt.{digits}
use lib.Utf8.{encode}
use Rattle.serde_json.proofs.OnLiterals.{serde_json_on_literals}
use Rattle.qc_machine.specs.Step.{step, refusal}
use Rattle.qc_catalogue.specs.declared.catalogue.Catalogue.{Catalogue}
use Rattle.qc_drill.specs.Headline.{programs_limits, run_out}
use Rattle.qc_drill.specs.Worked.{three_resources, three_held}
use Rattle.qc_drill.proofs.Sampled.{made_by, sample-read}
use Rattle.qc_drill.proofs.worked.outside_rows_are_listed.Goals as goal

pub returns : goal.returns
unfolding is_utf8 chars digits encode step refusal serde_json_on_literals
returns c = subst (λ (k : Catalogue). run_out (made_by k programs_limits) three_resources ≡ three_held) (sym (sample-read c.the_sample_is_a_catalogue.ensures)) refl
