-- What a crash in the midst of finishing leaves of a site. `g` has the members of the site's trait.
use Rattle.std.specs.Prelude.{◌≡◌, ℕ, List, [], ◌∷◌, ◌++◌, map, OnOk}
use Rattle.std.specs.declared.result.Result.{Result}
use Rattle.qc_base.specs.Rows.{OutsideRows}
use Rattle.qc_base.specs.LogLines.{unfinished}
use Rattle.qc_base.specs.declared.log_line.LogLine.{LogLine}
use Rattle.qc_site.specs.declared.site.Site.{Ghosts}
use Rattle.qc_site.specs.declared.site.SiteFile.TheVariants.{CrmLog as the_file}
use Rattle.qc_site.specs.Disk.{FileStep, Follows, Images, LeavesOnly}
use Rattle.qc_site.specs.Image.{Image}
use Rattle.qc_frame.specs.Gate.{After}
use Rattle.qc_frame.specs.Log.{SameLog, Whole, WholeOrNot}
use Rattle.qc_catalogue.specs.declared.catalogue.Catalogue.{Catalogue}
use Rattle.crm_log.specs.Log.{lines_payload}
use Rattle.crm_driver.specs.Puts.{RowPut, GoesByPuts}
use Rattle.crm_history.specs.declared.ended.Ended.{Ended}
use Rattle.crm_history.specs.Legal.{is_committed}
use Rattle.crm_recovery.specs.Settling.{done_group, phase_puts}

-- an attempt, and what its phase puts
pub record Finish : Type 0 where
  pub attempt : ℕ
  pub puts : List RowPut

abbrev pub finish_of : Catalogue → List Ended → List LogLine → ℕ → Finish
finish_of c ended lines a = record { attempt = a; puts = phase_puts c lines a (is_committed a ended) }

-- of each unfinished attempt, in rising number
abbrev pub finishes : Catalogue → List Ended → List LogLine → List Finish
finishes c ended lines = map (finish_of c ended lines) (unfinished lines)

-- An image goes on by a whole attempt: its puts are made, in order, and then its Done is a group of the log. A put may
-- be passed over where its row isn't among those that the site shows.
pub record GoesByFinish (rows : OutsideRows) (f : Finish) (old new : Image) : Type 0 where
  pub put : Image
  pub puts : GoesByPuts rows f.puts old put
  pub done : FileStep the_file (Whole (lines_payload (done_group f.attempt))) put new

abbrev pub GoesByFinishes : OutsideRows → List Finish → Image → Image → Type 0
GoesByFinishes rows [] old new = new ≡ old
GoesByFinishes rows (f ∷ fs) old new = (mid : Image) × GoesByFinish rows f old mid × GoesByFinishes rows fs mid new

-- or by the begin of one: some of its puts, from the first on, and its Done is no group of the log
pub record GoesByPart (rows : OutsideRows) (puts : List RowPut) (old new : Image) : Type 0 where
  pub made : List RowPut
  pub left : List RowPut
  pub split : puts ≡ made ++ left
  pub put : Image
  pub by : GoesByPuts rows made old put
  pub undone : FileStep the_file SameLog put new

-- of the attempts that are left the first may have begun
abbrev pub GoesByNext : OutsideRows → List Finish → Image → Image → Type 0
GoesByNext rows [] old new = new ≡ old
GoesByNext rows (f ∷ fs) old new = GoesByPart rows f.puts old new

-- an image is one of those before, gone on by a front of these attempts, and by the begin of the next
pub record LeavesFinishes (rows : OutsideRows) (all : List Finish) (before : Images) (c : Image) : Type 0 where
  pub was : Image
  pub there : before was
  pub done : List Finish
  pub left : List Finish
  pub split : all ≡ done ++ left
  pub mid : Image
  pub whole : GoesByFinishes rows done was mid
  pub part : GoesByNext rows left mid c

module _ {S : Type 0} (g : Ghosts S) where
  -- A call that finishes these attempts, one after another: a crash at any moment leaves an image so, and after Ok each
  -- image has them all.
  pub record FinishesInTurn {A E : Type 0} (all : List Finish) (result : Result A E) (site after : S) : Type 0 where
    pub certain : g.told → OnOk result (Follows (GoesByFinishes (g.shown site).rows all) (g.may_leave site) (g.may_leave after))
    pub any_moment : g.told → LeavesOnly g.moment g.left_since site after (LeavesFinishes (g.shown site).rows all (g.may_leave site))

  -- A call that adds the Done of an attempt: a crash at any moment leaves it whole or not at all.
  pub record AddsDone {A E : Type 0} (a : ℕ) (result : Result A E) (site after : S) : Type 0 where
    pub certain : g.told → OnOk result (Follows (FileStep the_file (Whole (lines_payload (done_group a)))) (g.may_leave site) (g.may_leave after))
    pub any_moment : g.told → LeavesOnly g.moment g.left_since site after (After the_file (WholeOrNot (lines_payload (done_group a))) (g.may_leave site))
