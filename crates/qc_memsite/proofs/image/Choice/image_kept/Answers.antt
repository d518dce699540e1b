use Rattle.std.proofs.Common.{◌∙◌, sym, subst}
use Rattle.qc_site.specs.Image.{Image, IsShort}
use Rattle.qc_site.specs.declared.site.SiteFile.TheVariants.{Journal, CrmLog, Snap}
use Rattle.qc_memsite.specs.Bounds.{short_image}
use Rattle.qc_memsite.specs.Contents.{image_of}
use Rattle.qc_memsite.specs.Shown.{first_by, calls_by, images_by}
use Rattle.qc_memsite.specs.declared.content.Content.{Content}
use Rattle.qc_memsite.proofs.Allowed.{allowed}
use Rattle.qc_memsite.proofs.Tied.{shown_begun, left_begun, ends_begun}
use Rattle.qc_memsite.proofs.image.Choice.image_kept.Goals as goal

pub returns-clause-image : goal.returns-clause-image
returns-clause-image c =
    let made = c.in_ok-content.ensures in
    let content = c.in_ok-content.content in
    subst (λ (e : Image). images_by c.args.kept.now e) (shown_begun content c.begin-history.result c.begin-history.ensures.0 c.begin-history.ensures.1) (allowed c.args.self c.args.kept.now (image_of content) (made.files Journal) (made.files CrmLog) (made.files Snap) made.rows)

pub invariant_of-result : goal.invariant_of-result
invariant_of-result c =
    let kept = c.args.kept.now in
    let content = c.in_ok-content.content in
    let made = c.in_ok-content.ensures in
    let begun = c.begin-history.result in
    let first = c.begin-history.ensures.0 in
    let none = c.begin-history.ensures.1 in
    let image = allowed c.args.self kept (image_of content) (made.files Journal) (made.files CrmLog) (made.files Snap) made.rows in
    record {
      first_short = subst (λ (f : Content). IsShort (image_of f)) (sym first) (short_image (first_by kept) (calls_by kept) kept.first_short kept.ends (image_of content) image);
      ends = ends_begun content begun first none;
      shown = shown_begun content begun first none;
      left = left_begun content begun first none (λ flips file. made.files file ∙ sym (made.left flips file));
    }
