-- What a call makes of what a site keeps.
use Rattle.std.proofs.Common.{◌≡◌, ℕ, ◌≤◌, ◌<◌, List, [], ◌∷◌, ◌++◌, length, sym, ◌∙◌, ap, subst, inr, true, cond, Some, Option}
use Rattle.std.specs.Option.{is_some}
use Rattle.qc_base.specs.Rows.{set_row}
use Rattle.qc_site.specs.Image.{Image, bytes_of, with_row}
use Rattle.qc_site.specs.Disk.{FileStep, Torn, OneStep, Elapses, Follows, RowStep, PutStep}
use Rattle.qc_site.specs.declared.site.SiteFile.{SiteFile}
use Rattle.qc_memsite.specs.declared.content.Content.{Content}
use Rattle.qc_memsite.specs.declared.kept.Kept.{Kept}
use Rattle.qc_memsite.specs.Call.{Call, Wrote, Put}
use Rattle.qc_memsite.specs.Calls.{after, shown_after, Leaves, ImageOf, SinceOf}
use Rattle.qc_memsite.specs.Contents.{image_of}
use Rattle.qc_memsite.specs.Shown.{shown_by, images_by, moment_by, since_by}
use Rattle.qc_memsite.proofs.Pushed.{shown_to, image_to, elapses_to, wrote_torn, wrote_one, nothing_done, put_done, put_step}
use Rattle.qc_memsite.proofs.SameRows.{shown_rows}

module _ (old new : Kept) (same : new.history.first ≡ old.history.first) where
  -- one call more
  module _ (x : Call) (is : new.history.calls ≡ old.history.calls ++ x ∷ []) where
    pub shown_now : shown_by new ≡ after x (shown_by old)
    shown_now = ap (λ (f : Content). shown_after new.history.calls (image_of f)) same ∙ shown_to (image_of old.history.first) old.history.calls new.history.calls x is

    pub image_now : (c : Image) → images_by new c → (d : Image) × images_by old d × Leaves x (shown_by old) d c
    image_now c here = image_to (image_of old.history.first) old.history.calls new.history.calls x is c (subst (λ (f : Content). ImageOf (image_of f) new.history.calls c) same here)

    pub time_now : Elapses (moment_by old) (moment_by new) (since_by old) (since_by new) (images_by new)
    time_now = subst (λ (f : Content). Elapses (moment_by old) (moment_by new) (since_by old) (SinceOf (image_of f) new.history.calls) (ImageOf (image_of f) new.history.calls)) (sym same) (elapses_to (image_of old.history.first) old.history.calls new.history.calls x is)

  -- from these images on
  pub onto : {step : Image → Image → Type 0} → Follows step (images_by old) (ImageOf (image_of old.history.first) new.history.calls) → Follows step (images_by old) (images_by new)
  onto follows c here = follows c (subst (λ (f : Content). ImageOf (image_of f) new.history.calls c) same here)

  pub torn_now : (file : SiteFile) (at : ℕ) (bytes : List ℕ) → new.history.calls ≡ old.history.calls ++ Wrote file at bytes ∷ [] → at ≤ length (bytes_of file (shown_by old)) → Follows (FileStep file (Torn at (length bytes))) (images_by old) (images_by new)
  torn_now file at bytes is le = onto (wrote_torn (image_of old.history.first) old.history.calls new.history.calls file at bytes is le)

  pub one_now : (file : SiteFile) (at : ℕ) (bytes : List ℕ) → new.history.calls ≡ old.history.calls ++ Wrote file at bytes ∷ [] → length bytes ≡ 1 → at < length (bytes_of file (shown_by old)) → Follows (FileStep file (OneStep at bytes)) (images_by old) (images_by new)
  one_now file at bytes is one lt = onto (wrote_one (image_of old.history.first) old.history.calls new.history.calls file at bytes is one lt)

  -- a call that did nothing
  pub nothing_now : (file : SiteFile) (step : List ℕ → List ℕ → Type 0) → ((bytes : List ℕ) → step bytes bytes) → new.history.calls ≡ old.history.calls → Follows (FileStep file step) (images_by old) (images_by new)
  nothing_now file step stays is = onto (nothing_done (image_of old.history.first) file step stays old.history.calls new.history.calls is)

  module _ (resource key : List ℕ) (amount : ℕ) (is : new.history.calls ≡ old.history.calls ++ Put resource key amount ∷ []) where
    pub put_done_now : Follows (λ d c. c ≡ with_row resource key amount d) (images_by old) (images_by new)
    put_done_now = onto (put_done (image_of old.history.first) old.history.calls new.history.calls resource key amount is)

    -- the row is there
    pub put_there_now : (n : ℕ) → (shown_by old).rows resource key ≡ Some n → Follows (PutStep resource key amount) (images_by old) (images_by new)
    put_there_now n there c here =
        let from = put_done_now c here in
        let is : is_some (from.0.rows resource key) ≡ true = ap (λ (o : Option ℕ). is_some o) ((λ i. shown_rows (image_of old.history.first) old.history.calls from.0 from.1 i resource key) ∙ there) in
        (from.0, from.1, inr (from.2 ∙ (λ i. record from.0 { rows = cond (sym is i) (set_row resource key amount from.0.rows) from.0.rows })))

    pub put_step_now : Follows (RowStep resource key amount) (images_by old) (images_by new)
    put_step_now = onto (put_step (image_of old.history.first) old.history.calls new.history.calls resource key amount is)
