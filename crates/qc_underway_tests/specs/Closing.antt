-- What is set aside for the end of an attempt.
use Rattle.std.specs.Prelude.{◌≡◌, ℕ, ◌+◌, Vec}
use Rattle.std.specs.declared.alloc.Global.{Global}
use Rattle.qc_base.specs.declared.log_line.Notice.{Notice}
use Rattle.qc_entries.specs.Entries.{EntriesView}
use Rattle.crm_clerk.specs.Clerk.{ClerkView}
use Rattle.crm_clerk.specs.Staging.{HasRoomFor}
use Rattle.qc_underway.specs.declared.compensators.Compensators.{Compensators}
use Rattle.qc_underway.specs.Compensators.{CanHear, all_records}

-- the resources can be asked and hear their phase, and the log has only more room
pub record AsksFrom (clerk : ClerkView) (old new : EntriesView) (told : Compensators) (notices : Vec Notice Global) : Type 0 where
  pub hears : CanHear 2 clerk told notices
  pub room : HasRoomFor (all_records clerk + 1) new
  pub spare : ℕ
  pub same : new ≡ record old { log = record old.log { spare = spare } }
