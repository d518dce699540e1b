use Rattle.std.proofs.Common.{◌≡◌, [], ◌∷◌, take, drop, map, refl, sym, ap, subst}
use Rattle.std.specs.Str.{is_utf8, chars}
use Rattle.std.specs.Fmt.{digits}
use lib.Utf8.{encode}
use Rattle.serde_json.proofs.OnLiterals.{serde_json_on_literals}
use Rattle.qc_base.specs.declared.fact.Fact.{Fact}
use Rattle.qc_base.specs.Spelling.{spelled_fact, two_bytes, four_bytes, eight_bytes}
use Rattle.qc_frame.specs.Frame.{size_at, size_bytes, group, groups}
use Rattle.qc_journal.specs.History.{fact_payload}
use Rattle.qc_catalogue.specs.declared.catalogue.Catalogue.{Catalogue}
use Rattle.qc_machine.specs.History.{by_text, history_of}
use Rattle.qc_machine.specs.Sites.{IsSiteOf, file_end, as_read}
use Rattle.qc_machine.specs.Step.{step, refusal}
use Rattle.qc_drill.specs.Headline.{programs_limits, run_out, run_to}
use Rattle.qc_drill.specs.Worked.{made_facts, send_and_queues, sent_and_listed, sent_fact, sent_group}
use Rattle.qc_drill.proofs.Sampled.{made_by, sample-some, sample-read, sample-sent}
use Rattle.qc_drill.proofs.worked.a_send_is_listed.Goals as goal

pub returns-clause-start : goal.returns-clause-start
unfolding size_at size_bytes four_bytes
returns-clause-start c = λ image journal log rows. record {
  facts = made_facts;
  stands = record {
    headers = record { journal = ap (take 16) journal; log = ap (take 16) log };
    spelled = record { groups = ap groups journal; limits = refl };
    legal = sample-some c.the_sample_is_a_catalogue.ensures;
    unused = ap groups log;
  };
  is = λ i. as_read programs_limits (history_of by_text made_facts) (sym rows i) (file_end (sym journal i)) (file_end (sym log i));
}

pub returns-clause-orders : goal.returns-clause-orders
unfolding is_utf8 chars encode serde_json_on_literals
returns-clause-orders c = refl

pub returns-clause-replies : goal.returns-clause-replies
unfolding is_utf8 chars digits encode two_bytes eight_bytes step refusal serde_json_on_literals
returns-clause-replies c = subst (λ (k : Catalogue). run_out (made_by k programs_limits) send_and_queues ≡ sent_and_listed) (sym (sample-read c.the_sample_is_a_catalogue.ensures)) refl

pub returns-clause-fact : goal.returns-clause-fact
unfolding is_utf8 chars encode two_bytes eight_bytes step refusal serde_json_on_literals
returns-clause-fact c = subst (λ (k : Catalogue). map spelled_fact (drop 1 (run_to (made_by k programs_limits) send_and_queues).history.facts) ≡ sent_fact ∷ []) (sym (sample-read c.the_sample_is_a_catalogue.ensures)) refl

pub returns-clause-group : goal.returns-clause-group
unfolding is_utf8 chars encode two_bytes eight_bytes size_bytes step refusal serde_json_on_literals
returns-clause-group c =
    subst (λ (k : Catalogue). map (λ (f : Fact). group (fact_payload f)) (drop 1 (run_to (made_by k programs_limits) send_and_queues).history.facts) ≡ sent_group ∷ []) (sym (sample-read c.the_sample_is_a_catalogue.ensures)) refl

pub returns-clause-journal : goal.returns-clause-journal
unfolding is_utf8 chars encode two_bytes four_bytes eight_bytes size_at size_bytes step refusal serde_json_on_literals
returns-clause-journal c = λ image journal log rows.
    subst (λ (k : Catalogue). IsSiteOf image (run_to (made_by k programs_limits) send_and_queues)) (sym (sample-read c.the_sample_is_a_catalogue.ensures)) (record {
      stands = record {
        headers = record { journal = ap (take 16) journal; log = ap (take 16) log };
        spelled = record { groups = ap groups journal; limits = refl };
        legal = sample-sent c.the_sample_is_a_catalogue.ensures;
        unused = ap groups log;
      };
      rows = rows;
      journal = sym (ap file_end journal);
      log = sym (ap file_end log);
    })
