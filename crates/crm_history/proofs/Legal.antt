-- A log is legal line by line.
use Rattle.std.proofs.Common.{◌≡◌, ◌∙◌, ℕ, List, [], ◌∷◌, ◌++◌, Bool, true, ◌&&◌, refl, sym, ap, append_assoc, append-nil}
use Rattle.std.proofs.Math.Bool.{and_assoc, and-true}
use Rattle.qc_base.specs.declared.log_line.LogLine.{LogLine}
use Rattle.qc_catalogue.specs.declared.catalogue.Catalogue.{Catalogue}
use Rattle.crm_history.specs.declared.ended.Ended.{Ended}
use Rattle.crm_history.specs.Legal.{line_may_follow, lines_follow}

module _ (c : Catalogue) (sent : ℕ) (ended : List Ended) where
  pub follow-more : (before lines : List LogLine) (line : LogLine)
      → lines_follow c sent ended before (lines ++ line ∷ []) ≡ (lines_follow c sent ended before lines && line_may_follow c sent ended (before ++ lines) line)
  follow-more before [] line = and-true (line_may_follow c sent ended before line) ∙ ap (λ (b : List LogLine). line_may_follow c sent ended b line) (sym (append-nil before))
  follow-more before (first ∷ lines) line =
      ap (λ (b : Bool). line_may_follow c sent ended before first && b) (follow-more (before ++ first ∷ []) lines line ∙ ap (λ (b : List LogLine). lines_follow c sent ended (before ++ first ∷ []) lines && line_may_follow c sent ended b line) (append_assoc before (first ∷ []) lines))
      ∙ sym (and_assoc (line_may_follow c sent ended before first) (lines_follow c sent ended (before ++ first ∷ []) lines) (line_may_follow c sent ended (before ++ first ∷ lines) line))
