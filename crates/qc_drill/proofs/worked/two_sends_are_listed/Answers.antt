use Rattle.std.proofs.Common.{◌≡◌, [], ◌∷◌, ◌++◌, refl, sym, subst}
use Rattle.std.specs.Str.{is_utf8, chars}
use Rattle.std.specs.Fmt.{digits}
use lib.Utf8.{encode}
use Rattle.serde_json.proofs.OnLiterals.{serde_json_on_literals}
use Rattle.qc_base.specs.Spelling.{two_bytes, eight_bytes}
use Rattle.qc_machine.specs.Step.{step, refusal}
use Rattle.qc_catalogue.specs.declared.catalogue.Catalogue.{Catalogue}
use Rattle.qc_drill.specs.Headline.{programs_limits, run_out}
use Rattle.qc_drill.specs.Worked.{two_sends_and_queues, two_sent_and_listed}
use Rattle.qc_drill.proofs.Sampled.{made_by, sample-read}
use Rattle.qc_drill.proofs.worked.two_sends_are_listed.Goals as goal

pub returns : goal.returns
unfolding is_utf8 chars digits encode two_bytes eight_bytes step refusal serde_json_on_literals
returns c =
    let read = sym (sample-read c.the_sample_is_a_catalogue.ensures) in
    record {
      replies = subst (λ (k : Catalogue). run_out (made_by k programs_limits) two_sends_and_queues ≡ two_sent_and_listed) read refl;
      ended = subst (λ (k : Catalogue). run_out (made_by k programs_limits) (two_sends_and_queues ++ 10 ∷ []) ≡ two_sent_and_listed) read refl;
    }
