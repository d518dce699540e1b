-- Logs stand where nothing was written, and the log of compensations where the journal alone changed.
use Rattle.std.proofs.Common.{◌≡◌, ℕ, List, sym, ap, ◌∙◌, subst}
use Rattle.qc_site.specs.declared.site.Site.{Ghosts}
use Rattle.qc_site.specs.declared.site.SiteFile.{SiteFile}
use Rattle.qc_site.specs.declared.site.SiteFile.TheVariants.{Journal, CrmLog}
use Rattle.qc_site.specs.Disk.{Images, Certain}
use Rattle.qc_site.specs.Image.{Image, bytes_of, with_bytes}
use Rattle.qc_frame.specs.Calls.{LogStands, ChangesFile, WritesNothing}
use Rattle.qc_frame.specs.Log.{LogView, StandsOn}

-- a log stands among other images too, in each of which its file is certain
pub stands-among : (file : List ℕ) (images more : Images) (log : LogView) → Certain log.file file more → StandsOn file images log → StandsOn file more log
stands-among file images more log certain st = record { size = st.size; certain = certain; behind = st.behind; payloads = st.payloads; led = st.led; closed = st.closed }

-- the other log's bytes stay where the journal's are replaced
pub other-bytes : (f : SiteFile) (bytes : List ℕ) (image : Image) → f ≡ CrmLog → bytes_of f (with_bytes Journal bytes image) ≡ bytes_of f image
other-bytes f bytes image is = ap (λ (x : SiteFile). bytes_of x (with_bytes Journal bytes image)) is ∙ ap (λ (x : SiteFile). bytes_of x image) (sym is)

module _ {S : Type 0} (g : Ghosts S) where
  pub stands-still : {then : Type 0} (log : LogView) (site after : S) → ¬ then → WritesNothing g then site after → LogStands g log site → LogStands g log after
  stands-still log site after fine writes stands = λ told.
      let st = stands told in
      let file = bytes_of log.file (g.shown site) in
      subst (λ (i : Image). StandsOn (bytes_of log.file i) (g.may_leave after) log) (sym (writes.same told fine))
      (stands-among file (g.may_leave site) (g.may_leave after) log (λ c here. st.certain c (writes.crash told c here)) st)

  pub other-stands : {failed : Type 0} (step : List ℕ → List ℕ → Type 0) (log : LogView) (site after : S) → log.file ≡ CrmLog → ((c : Image) → g.told → g.may_leave after c → g.left_since after (g.moment site) c) → ¬ failed → ChangesFile g Journal step failed site after → LogStands g log site → LogStands g log after
  other-stands step log site after is counts fine changes stands = λ told.
      let st = stands told in
      let shown = changes.shown told fine in
      let same : bytes_of log.file (g.shown after) ≡ bytes_of log.file (g.shown site) = ap (λ (i : Image). bytes_of log.file i) shown.is ∙ other-bytes log.file shown.bytes (g.shown site) is in
      let certain : Certain log.file (bytes_of log.file (g.shown site)) (g.may_leave after) = λ c here.
      let left = (changes.any_moment told).each c (counts c told here) in
      ap (λ (i : Image). bytes_of log.file i) left.2.is ∙ other-bytes log.file left.2.bytes left.0 is ∙ st.certain left.0 left.1 in
      subst (λ (b : List ℕ). StandsOn b (g.may_leave after) log) (sym same) (stands-among (bytes_of log.file (g.shown site)) (g.may_leave site) (g.may_leave after) log certain st)
