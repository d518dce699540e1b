use Rattle.std.proofs.Common.{◌≡◌, refl, sym, subst}
use Rattle.std.specs.Str.{is_utf8, chars}
use Rattle.std.specs.Fmt.{digits}
use lib.Utf8.{encode}
use Rattle.serde_json.proofs.OnLiterals.{serde_json_on_literals}
use Rattle.qc_base.specs.Spelling.{two_bytes, eight_bytes}
use Rattle.qc_machine.specs.Step.{step, refusal}
use Rattle.qc_catalogue.specs.declared.catalogue.Catalogue.{Catalogue}
use Rattle.qc_drill.specs.Headline.{programs_limits, run_out}
use Rattle.qc_drill.specs.Worked.{send_and_queues, sent_and_listed, full_and_listed}
use Rattle.qc_drill.proofs.Sampled.{made_by, sample-read}
use Rattle.qc_drill.proofs.worked.a_send_takes_its_room.Goals as goal

pub returns : goal.returns
unfolding is_utf8 chars digits encode two_bytes eight_bytes step refusal serde_json_on_literals
returns c =
    let read = sym (sample-read c.the_sample_is_a_catalogue.ensures) in
    record {
      fits = subst (λ (k : Catalogue). run_out (made_by k (record programs_limits { log_bytes = 1737 })) send_and_queues ≡ sent_and_listed) read refl;
      full = subst (λ (k : Catalogue). run_out (made_by k (record programs_limits { log_bytes = 1736 })) send_and_queues ≡ full_and_listed) read refl;
    }
