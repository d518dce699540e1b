-- The connections of a door in memory.
use Rattle.std.specs.Prelude.{◌≡◌, List, [], ◌∷◌, reverse}
use Rattle.qc_site.specs.declared.door.Next.{Next}
use Rattle.qc_site.specs.declared.door.Next.TheVariants.{Link, Closed}
use Rattle.qc_memsite.specs.declared.link.MemDoor.{MemDoor}
use Rattle.qc_memsite.specs.declared.link.MemLink.{MemLink}

-- those that are left, the next one first
abbrev pub links_of : MemDoor → List MemLink
links_of door = reverse door.links.items

-- the first of them, or none
abbrev pub Gives : Next MemLink → List MemLink → List MemLink → Type 0
Gives (Link link) old new = old ≡ link ∷ new
Gives Closed old new = (old ≡ []) × (new ≡ [])
