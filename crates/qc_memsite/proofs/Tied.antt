-- One call more is one step more of the files.
use Rattle.std.proofs.Common.{◌≡◌, ℕ, List, [], ◌∷◌, ◌++◌, ◌≤◌, refl, sym, ◌∙◌, ap, subst, All, Bool}
use Rattle.qc_site.specs.Image.{Image, IsShort, bytes_of}
use Rattle.qc_site.specs.declared.site.SiteFile.{SiteFile}
use Rattle.qc_memsite.specs.declared.content.Content.{Content}
use Rattle.qc_memsite.specs.declared.history.History.{History}
use Rattle.std.proofs.lemmas.List.Elements.{All-nil}
use Rattle.qc_memsite.specs.Bounds.{end_of}
use Rattle.qc_memsite.specs.Call.{Call}
use Rattle.qc_memsite.specs.Calls.{after, shown_after}
use Rattle.qc_memsite.specs.Contents.{image_of}
use Rattle.qc_memsite.specs.Chosen.{file_left, left_of}
use Rattle.qc_memsite.specs.Left.{left_in, file_of, left_by, Same, Goes}
use Rattle.qc_memsite.proofs.Mixed.{shown_file}
use Rattle.qc_memsite.proofs.Steps.{shown_push}

left_push : (flips : Bool) (file : SiteFile) (calls : List Call) (x : Call) (s : Image) (i : List ℕ) → left_of flips file (calls ++ x ∷ []) (bytes_of file s) i ≡ file_left flips file x (bytes_of file (shown_after calls s)) (left_of flips file calls (bytes_of file s) i)
left_push flips file [] x s i = refl
left_push flips file (y ∷ calls) x s i =
    let next = shown_file file y s in
    ap (λ (l : List ℕ). left_of flips file (calls ++ x ∷ []) l (file_left flips file y (bytes_of file s) i)) (sym next)
    ∙ left_push flips file calls x (after y s) (file_left flips file y (bytes_of file s) i)
    ∙ ap (λ (l : List ℕ). file_left flips file x (bytes_of file (shown_after (y ∷ calls) s)) (left_of flips file calls l (file_left flips file y (bytes_of file s) i))) next

module _ (old new : Content) (was now : History) (x : Call) (went : Goes x old new) (first : now.first ≡ was.first) (is : now.calls ≡ was.calls ++ x ∷ []) (shown : image_of old ≡ shown_after was.calls (image_of was.first)) where
  pub shown_on : image_of new ≡ shown_after now.calls (image_of now.first)
  shown_on = went.shown ∙ ap (after x) shown ∙ sym (shown_push was.calls x (image_of was.first)) ∙ (λ i. shown_after (sym is i) (image_of (sym first i)))

  pub left_on : ((flips : Bool) (file : SiteFile) → left_by flips file was ≡ left_in flips (file_of file old)) → (flips : Bool) (file : SiteFile) → left_by flips file now ≡ left_in flips (file_of file new)
  left_on left flips file =
      (λ i. left_of flips file (is i) (bytes_of file (image_of (first i))) (bytes_of file (image_of (first i))))
      ∙ left_push flips file was.calls x (image_of was.first) (bytes_of file (image_of was.first))
      ∙ (λ i. file_left flips file x (bytes_of file (sym shown i)) (left flips file i))
      ∙ sym (went.left flips file)

module _ (old new : Content) (was : History) (same : Same old new) where
  pub shown_kept : image_of old ≡ shown_after was.calls (image_of was.first) → image_of new ≡ shown_after was.calls (image_of was.first)
  shown_kept shown = same.shown ∙ shown

  pub left_kept : ((flips : Bool) (file : SiteFile) → left_by flips file was ≡ left_in flips (file_of file old)) → (flips : Bool) (file : SiteFile) → left_by flips file was ≡ left_in flips (file_of file new)
  left_kept left flips file = left flips file ∙ sym (same.left flips file)

-- a history begins with a content that no call has changed
module _ (content : Content) (begun : History) (first : begun.first ≡ content) (none : begun.calls ≡ []) where
  pub shown_begun : image_of content ≡ shown_after begun.calls (image_of begun.first)
  shown_begun = λ i. shown_after (sym none i) (image_of (sym first i))

  pub left_begun : ((flips : Bool) (file : SiteFile) → bytes_of file (image_of content) ≡ left_in flips (file_of file content)) → (flips : Bool) (file : SiteFile) → left_by flips file begun ≡ left_in flips (file_of file content)
  left_begun settled flips file = (λ i. left_of flips file (none i) (bytes_of file (image_of (first i))) (bytes_of file (image_of (first i)))) ∙ settled flips file

  pub ends_begun : All (λ x. end_of x ≤ 4611686018427387904) begun.calls
  ends_begun = subst (λ (l : List Call). All (λ x. end_of x ≤ 4611686018427387904) l) (sym none) (All-nil (λ x. end_of x ≤ 4611686018427387904))

pub short_first : (was now : History) → now.first ≡ was.first → IsShort (image_of was.first) → IsShort (image_of now.first)
short_first was now first short = subst (λ (f : Content). IsShort (image_of f)) (sym first) short
