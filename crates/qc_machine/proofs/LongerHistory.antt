-- A log that is legal stays so beside a history that goes on.
use Rattle.std.proofs.Common.{◌≡◌, ◌∙◌, ℕ, ◌≤◌, ◌==◌, nat_le, List, [], ◌∷◌, ◌++◌, length, true, not, filter_map, refl, ap, arith}
use Rattle.std.specs.List.{list_any, list_all}
use Rattle.std.proofs.lemmas.Bool.{and_parts, and_from, leb-true, le-leb}
use Rattle.std.proofs.lemmas.List.Folds.{list_all-append}
use Rattle.std.proofs.lemmas.List.Elements.{filter_map-append}
use Rattle.qc_base.specs.declared.fact.Fact.{Fact}
use Rattle.qc_base.specs.declared.log_line.LogLine.{LogLine}
use Rattle.qc_base.specs.declared.log_line.LogLine.TheVariants.{Opened, Registered, Written, Forgot, Done}
use Rattle.qc_base.specs.LogLines.{attempt_of_line}
use Rattle.qc_base.specs.Spelling.{is_between}
use Rattle.qc_catalogue.specs.declared.catalogue.Catalogue.{Catalogue}
use Rattle.crm_history.specs.declared.ended.Ended.{Ended}
use Rattle.crm_history.specs.Legal.{is_about, is_log_legal, line_may_follow, lines_follow}
use Rattle.qc_machine.specs.History.{History}
use Rattle.qc_machine.specs.Sound.{agrees_with, all_agree, ended_by, ended_in, is_log_of}

module _ (c : Catalogue) (sent more : ℕ) (le : sent ≤ more) (ended others : List Ended) where
  sent-still : (id : ℕ) → is_between 1 sent id ≡ true → is_between 1 more id ≡ true
  sent-still id e =
      let parts = and_parts (nat_le 1 id) _ e in
      and_from (nat_le 1 id) _ parts.0 (le-leb id more (omega (arith, leb-true id sent parts.1, le)))

  follows-still : (before : List LogLine) (line : LogLine) → agrees_with others line ≡ true → line_may_follow c sent ended before line ≡ true
      → line_may_follow c more (ended ++ others) before line ≡ true
  follows-still before (Opened attempt id) agrees e =
      let parts = and_parts (not (list_any (λ line. attempt_of_line line == attempt) before)) _ e in
      let rest = and_parts (is_between 1 sent id) _ parts.1 in
      and_from (not (list_any (λ line. attempt_of_line line == attempt) before)) _ parts.0
      (and_from (is_between 1 more id) _ (sent-still id rest.0)
      (list_all-append (is_about attempt id) ended others ∙ and_from (list_all (is_about attempt id) ended) _ rest.1 agrees))
  follows-still before (Registered attempt resource phases) agrees e = e
  follows-still before (Written attempt resource r) agrees e = e
  follows-still before (Forgot attempt resource seq) agrees e = e
  follows-still before (Done attempt) agrees e = e

  follow-still : (before lines : List LogLine) → all_agree others lines ≡ true → lines_follow c sent ended before lines ≡ true
      → lines_follow c more (ended ++ others) before lines ≡ true
  follow-still before [] agree e = refl
  follow-still before (line ∷ lines) agree e =
      let agrees = and_parts (agrees_with others line) _ agree in
      let parts = and_parts (line_may_follow c sent ended before line) _ e in
      and_from (line_may_follow c more (ended ++ others) before line) _
      (follows-still before line agrees.0 parts.0) (follow-still (before ++ line ∷ []) lines agrees.1 parts.1)

  pub legal-still : (lines : List LogLine) → all_agree others lines ≡ true → is_log_legal c sent ended lines ≡ true
      → is_log_legal c more (ended ++ others) lines ≡ true
  legal-still lines agree e = follow-still [] lines agree e

-- beside a history with facts more
pub log-still : (h g : History) (facts : List Fact) (lines : List LogLine) → g.catalogue ≡ h.catalogue → length h.messages ≤ length g.messages
    → g.facts ≡ h.facts ++ facts → all_agree (filter_map ended_by facts) lines ≡ true → is_log_of h lines ≡ true → is_log_of g lines ≡ true
log-still h g facts lines catalogue le more agree e =
    let ended : ended_in g ≡ ended_in h ++ filter_map ended_by facts = ap (filter_map ended_by) more ∙ filter_map-append ended_by h.facts facts in
    (λ i. is_log_legal (catalogue i) (length g.messages) (ended i) lines)
    ∙ legal-still h.catalogue (length h.messages) (length g.messages) le (ended_in h) (filter_map ended_by facts) lines agree e
