-- Lines of others behind change nothing that is said of an attempt, and what stands in front of them was legal.
use Rattle.std.proofs.Common.{◌≡◌, ◌∙◌, ℕ, ◌==◌, List, [], ◌∷◌, ◌++◌, true, false, not, ◌&&◌, sym, ap, refl, true≢false}
use Rattle.std.specs.List.{list_all}
use Rattle.std.proofs.lemmas.Bool.{and_parts, and_from, or_from, eqb-true, eq-eqb, false_from_ne_true}
use Rattle.qc_base.specs.declared.log_line.LogLine.{LogLine}
use Rattle.qc_base.specs.LogLines.{attempt_of_line, is_unfinished, registrations, unforgotten}
use Rattle.qc_catalogue.specs.declared.catalogue.Catalogue.{Catalogue}
use Rattle.crm_history.specs.declared.ended.Ended.{Ended}
use Rattle.crm_history.specs.Legal.{line_may_follow, lines_follow, is_log_legal}
use Rattle.qc_machine.specs.OwnLines.{is_own, is_named, own_lines}
use Rattle.qc_machine.proofs.OwnLines.{own-behind, own-done, own-opened, own-registrations, own-unforgotten}

module _ (lines more : List LogLine) (a : ℕ) (others : is_named more a ≡ false) where
  -- what is said by the attempt's own lines alone
  stays : {A : Type 0} (f : List LogLine → A) → ((l : List LogLine) → f (own_lines a l) ≡ f l) → f (lines ++ more) ≡ f lines
  stays f own = sym (own (lines ++ more)) ∙ ap f (own-behind a lines more others) ∙ own lines

  pub registered-behind : registrations (lines ++ more) a ≡ registrations lines a
  registered-behind = stays (λ l. registrations l a) (own-registrations a)

  pub kept-behind : (resource : List ℕ) → unforgotten (lines ++ more) a resource ≡ unforgotten lines a resource
  kept-behind resource = stays (λ l. unforgotten l a resource) (λ l. own-unforgotten a l resource)

  pub unfinished-behind : is_unfinished (lines ++ more) a ≡ is_unfinished lines a
  unfinished-behind = stays (λ l. is_unfinished l a) (λ l i. own-opened a l i && not (own-done a l i))

-- lines of one attempt aren't of another
pub of-one-alone : (a b : ℕ) (more : List LogLine) → list_all (is_own a) more ≡ true → (b == a) ≡ false → is_named more b ≡ false
of-one-alone a b [] all other = refl
of-one-alone a b (line ∷ more) all other =
    let parts = and_parts (attempt_of_line line == a) _ all in
    or_from (attempt_of_line line == b) _
    (false_from_ne_true (attempt_of_line line == b) (λ t. true≢false (sym (eq-eqb b a (sym (eqb-true (attempt_of_line line) b t) ∙ eqb-true (attempt_of_line line) a parts.0)) ∙ other)))
    (of-one-alone a b more parts.1 other)

-- a front of a legal log is legal

module _ (c : Catalogue) (sent : ℕ) (ended : List Ended) where
  follow-front : (before lines more : List LogLine) → lines_follow c sent ended before (lines ++ more) ≡ true → lines_follow c sent ended before lines ≡ true
  follow-front before [] more e = refl
  follow-front before (line ∷ lines) more e =
      let parts = and_parts (line_may_follow c sent ended before line) _ e in
      and_from (line_may_follow c sent ended before line) _ parts.0 (follow-front (before ++ line ∷ []) lines more parts.1)

  pub legal-front : (lines more : List LogLine) → is_log_legal c sent ended (lines ++ more) ≡ true → is_log_legal c sent ended lines ≡ true
  legal-front lines more e = follow-front [] lines more e
