-- Puts of outside rows, one after another, and what a crash may leave of them. `g` has the members of the site's trait.
use Rattle.std.specs.Prelude.{◌≡◌, ◌⊎◌, ℕ, List, [], ◌∷◌, ◌++◌, None, OnOk, IsOk, IsErr}
use Rattle.std.specs.declared.result.Result.{Result}
use Rattle.qc_base.specs.Rows.{OutsideRows}
use Rattle.qc_site.specs.declared.site.Failed.{Failed}
use Rattle.qc_site.specs.declared.site.Site.{Ghosts}
use Rattle.qc_site.specs.Image.{Image, with_put}
use Rattle.qc_site.specs.Causes.{HasCause}
use Rattle.qc_site.specs.Disk.{Images, Follows, LeavesOnly}

-- an amount that an outside row is to have
pub record RowPut : Type 0 where
  pub resource : List ℕ
  pub key : List ℕ
  pub amount : ℕ

abbrev pub after_put : RowPut → Image → Image
after_put p image = with_put p.resource p.key p.amount image

-- the image after these puts, in order; a row that isn't there is passed over
abbrev pub after_puts : List RowPut → Image → Image
after_puts [] image = image
after_puts (p ∷ puts) image = after_puts puts (after_put p image)

-- An image goes on by these puts, in order. One may be passed over where its row isn't among those that the site shows.
abbrev pub GoesByPut : OutsideRows → RowPut → Image → Image → Type 0
GoesByPut rows p old new = (new ≡ after_put p old) ⊎ ((rows p.resource p.key ≡ None) × (new ≡ old))

abbrev pub GoesByPuts : OutsideRows → List RowPut → Image → Image → Type 0
GoesByPuts rows [] old new = new ≡ old
GoesByPuts rows (p ∷ puts) old new = (mid : Image) × GoesByPut rows p old mid × GoesByPuts rows puts mid new

-- an image is one of those before, gone on by some of these puts, from the first on
pub record LeavesFront (rows : OutsideRows) (puts : List RowPut) (before : Images) (c : Image) : Type 0 where
  pub was : Image
  pub there : before was
  pub done : List RowPut
  pub left : List RowPut
  pub split : puts ≡ done ++ left
  pub by : GoesByPuts rows done was c

module _ {S : Type 0} (g : Ghosts S) where
  -- A call that makes these puts, in order, each of them one step, and changes nothing else of the site. It fails only
  -- where a put failed. Without puts it doesn't touch the site.
  pub record MakesPuts {A : Type 0} (puts : List RowPut) (result : Result A Failed) (site after : S) : Type 0 where
    -- whatever the site tells
    pub nothing : puts ≡ [] → IsOk result × (after ≡ site)
    pub made : g.told → OnOk result (g.shown after ≡ after_puts puts (g.shown site))
    -- and so is each image, so that each later crash leaves the puts
    pub certain : g.told →
        OnOk result (Follows (GoesByPuts (g.shown site).rows puts) (g.may_leave site) (g.may_leave after))
    pub any_moment : g.told →
        LeavesOnly g.moment g.left_since site after (LeavesFront (g.shown site).rows puts (g.may_leave site))
    pub cause : HasCause (g.faults site) (g.faults after) (IsErr result)
