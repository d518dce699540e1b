-- What a drill writes and leaves where the site stands for no legal history.
use Rattle.std.specs.Prelude.{◌≡◌, ℕ, List, [], ◌∷◌, ◌++◌, take, codes, decimal, Option, Some}
use Rattle.qc_protocol.specs.declared.status.Status.{Status}
use Rattle.qc_protocol.specs.declared.status.Status.TheVariants.{NotMade, NoCatalogue, Damaged, SinkFault, SiteFault, NoMemory}
use Rattle.qc_site.specs.Files.{file_name}
use Rattle.qc_site.specs.Image.{Image}
use Rattle.qc_frame.specs.Frame.{groups}
use Rattle.qc_frame.specs.declared.error.Damage.{Damage}
use Rattle.qc_machine.specs.declared.error.OpenError.TheVariants.{NotMade as not_made, NoCatalogue as no_catalogue, NoMemory as no_memory}
use Rattle.qc_machine.specs.Opening.{DamagedAt}
use Rattle.qc_machine.specs.Sites.{HasHeaders}
use Rattle.qc_hub.specs.Calls.{LeavesDamaged, LeavesUnopened}
use Rattle.qc_drill.specs.Fronts.{IsFrontOf}

-- the line on damage, with its newline
abbrev pub damage_line : Damage → List ℕ
damage_line d = codes "damaged " ++ file_name d.file ++ codes " at " ++ decimal d.at ++ 10 ∷ []

-- The line names the first entry that doesn't fit, and the site is left as an opening leaves it that found this.
pub record TellsDamage (before : Image) (line : List ℕ) (now : Image) : Type 0 where
  pub damage : Damage
  pub headers : HasHeaders before
  pub place : DamagedAt before damage
  pub is : line ≡ damage_line damage
  pub leaves : LeavesDamaged damage.file before now

-- a front of this line
pub record TellsPart (before : Image) (text : List ℕ) (now : Image) : Type 0 where
  pub line : List ℕ
  pub tells : TellsDamage before line now
  pub front : IsFrontOf line text

-- a journal with its header and no group, and a log with its header
pub record HasNoGroup (image : Image) : Type 0 where
  pub headers : HasHeaders image
  pub none : groups image.journal ≡ []

-- The text that was written and the site, by the status. No other status comes.
abbrev pub LeavesUnread : Image → List ℕ → Status → Image → Type 0
LeavesUnread before text NotMade now = (¬ HasHeaders before) × ((text ≡ []) × LeavesUnopened not_made before now)
LeavesUnread before text NoCatalogue now = HasNoGroup before × ((text ≡ []) × LeavesUnopened no_catalogue before now)
LeavesUnread before text Damaged now = TellsDamage before text now
LeavesUnread before text SinkFault now = TellsPart before text now
LeavesUnread before text SiteFault now = text ≡ []
LeavesUnread before text NoMemory now = (text ≡ []) × LeavesUnopened no_memory before now
LeavesUnread before text _ now = ⊥

-- what the sink holds after the line on damage, behind what it held, by the status
abbrev pub HoldsLine : List ℕ → List ℕ → Status → Option (List ℕ) → Type 0
HoldsLine held line Damaged contents = contents ≡ Some (held ++ line)
HoldsLine held line SinkFault contents = (n : ℕ) × (contents ≡ Some (held ++ take n line))
HoldsLine held line _ contents = contents ≡ Some held
