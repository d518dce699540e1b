use Rattle.std.proofs.Common.{take, refl, sym, ap}
use Rattle.qc_base.specs.Spelling.{four_bytes}
use Rattle.qc_frame.specs.Frame.{size_at, size_bytes, groups}
use Rattle.qc_machine.specs.History.{by_text, history_of}
use Rattle.qc_machine.specs.Sites.{file_end, as_read}
use Rattle.qc_drill.specs.Headline.{programs_limits}
use Rattle.qc_drill.specs.Worked.{made_facts}
use Rattle.qc_drill.proofs.Sampled.{sample-some}
use Rattle.qc_drill.proofs.worked.a_group_that_is_cut_is_closed.Goals as goal

pub returns : goal.returns
unfolding size_at size_bytes four_bytes
returns c = λ image journal log. record {
  facts = made_facts;
  stands = record {
    headers = record { journal = ap (take 16) journal; log = ap (take 16) log };
    spelled = record { groups = ap groups journal; limits = refl };
    legal = sample-some c.the_sample_is_a_catalogue.ensures;
    unused = ap groups log;
  };
  is = λ i. as_read programs_limits (history_of by_text made_facts) image.rows (file_end (sym journal i)) (file_end (sym log i));
}
