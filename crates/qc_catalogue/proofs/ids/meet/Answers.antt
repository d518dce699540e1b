use Rattle.std.proofs.Common.{◌≡◌, ◌∙◌, ℕ, List, [], ◌∷◌, not, ap, refl, nat_cmp, is_eq}
use Rattle.std.specs.Cmp.Lexicographic.{slice_cmp}
use Rattle.std.specs.List.{list_any}
use Rattle.std.specs.Str.{bytes_eq}
use Rattle.std.proofs.lemmas.Map.Text.{is_eq-slice_cmp}
use Rattle.qc_catalogue.proofs.ids.meet.Goals as goal

same_ids : (id : List ℕ) (ids : List (List ℕ)) → list_any (λ x. is_eq (slice_cmp nat_cmp id x)) ids ≡ list_any (bytes_eq id) ids
same_ids id [] = refl
same_ids id (x ∷ xs) = rw (is_eq-slice_cmp id x, same_ids id xs)

pub returns-in-Ok-clause-seen : goal.returns-in-Ok-clause-seen
returns-in-Ok-clause-seen c = c.in-Ok.ensures.added ∙ ap not (same_ids c.args.id c.args.met.now.keys)
