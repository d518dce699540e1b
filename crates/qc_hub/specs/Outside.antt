-- Reading the outside rows of a site. `g` has the members of the site's trait.
use Rattle.std.specs.Prelude.{◌≡◌, ℕ, List, map, Option, IfOk, IsErr}
use Rattle.std.specs.declared.result.Result.{Result}
use Rattle.qc_protocol.specs.declared.reply.ShownRow.{ShownRow}
use Rattle.qc_site.specs.declared.site.Failed.{Failed}
use Rattle.qc_site.specs.declared.site.Site.{Ghosts}
use Rattle.qc_frame.specs.Calls.{WritesNothing}
use Rattle.qc_machine.specs.Listing.{held_row}

module _ {S : Type 0} (g : Ghosts S) where
  -- A call that reads the amount of a row, where the row is there.
  pub record ReadsRow (resource key : List ℕ) (result : Result (Option ℕ) Failed) (site after : S) : Type 0 where
    pub read : g.told → IfOk result (λ amount. amount ≡ (g.shown site).rows resource key)
    pub writes : WritesNothing g (IsErr result) site after

  -- A call that reads these rows of a resource, in their order.
  pub record ReadsRows (resource : List ℕ) (rows : List (List ℕ × ℕ)) (result : Result (List ShownRow) Failed) (site after : S) : Type 0 where
    pub read : g.told → IfOk result (λ shown. shown ≡ map (held_row (g.shown site).rows resource) rows)
    pub writes : WritesNothing g (IsErr result) site after
