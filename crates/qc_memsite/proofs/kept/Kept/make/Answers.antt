use Rattle.std.proofs.Common.{◌≡◌, ◌≤◌, ◌∙◌, ℕ, List, [], length, sym, ap, subst, arith}
use Rattle.qc_site.specs.Image.{IsShort}
use Rattle.qc_site.specs.declared.site.SiteFile.TheVariants.{Journal, CrmLog, Snap}
use Rattle.qc_memsite.specs.Contents.{image_of}
use Rattle.qc_memsite.specs.declared.content.Content.{Content}
use Rattle.qc_memsite.proofs.Tied.{shown_begun, left_begun, ends_begun}
use Rattle.qc_memsite.proofs.kept.Kept.make.Goals as goal

none_short : (bytes : List ℕ) → bytes ≡ [] → length bytes ≤ 4611686018427387904
none_short bytes is = omega (arith, ap (λ (l : List ℕ). length l) is)

pub invariant_of-result : goal.invariant_of-result
invariant_of-result c =
    let content = c.empty-content.result in
    let empty = c.empty-content.ensures in
    let begun = c.begin-history.result in
    let first = c.begin-history.ensures.0 in
    let none = c.begin-history.ensures.1 in
    record {
      first_short = subst (λ (f : Content). IsShort (image_of f)) (sym first) (record { journal = none_short _ (empty.files Journal); crm_log = none_short _ (empty.files CrmLog); snap = none_short _ (empty.files Snap) });
      ends = ends_begun content begun first none;
      shown = shown_begun content begun first none;
      left = left_begun content begun first none (λ flips file. empty.files file ∙ sym (empty.left flips file));
    }
