-- A drill of some bytes over a site in memory that was made from the sample catalogue.
use Rattle.std.specs.Prelude.{◌≡◌, ℕ, List, [], ◌∷◌, Option, Some}
use Rattle.qc_base.specs.declared.fact.Fact.TheVariants.{Catalogue as InForce}
use Rattle.qc_protocol.specs.declared.status.Status.{Status}
use Rattle.qc_catalogue.specs.Sample.{sample}
use Rattle.qc_site.specs.Image.{Image}
use Rattle.qc_machine.specs.History.{by_text, history_of}
use Rattle.qc_machine.specs.Sites.{StandsFor, as_read, file_end}
use Rattle.qc_machine.specs.State.{State}
use Rattle.qc_drill.specs.Headline.{programs_limits, WritesReplies}
use Rattle.qc_drill.specs.Reads.{HasRead}

-- the state that a site is read as that was made from the sample
abbrev pub sample_state : Image → State
sample_state image = as_read programs_limits (history_of by_text (InForce sample ∷ [])) image.rows (file_end image.journal) (file_end image.crm_log)

-- What the sink holds after a drill of these bytes: the replies of the machine to the lines that were read of them, from
-- the state that a site is read as that was made from the sample. A drill that is done has read all of them.
pub record DrillsSample (bytes : List ℕ) (status : Status) (contents : Option (List ℕ)) : Type 0 where
  pub text : List ℕ
  pub sink : contents ≡ Some text
  pub made : Image
  pub stands : StandsFor by_text made (InForce sample ∷ [])
  pub taken : List ℕ
  pub lines : List (List ℕ)
  -- what is left of the source, which is nothing where the drill is done
  pub left : Option (List ℕ)
  pub read : HasRead status (Some bytes) left taken lines
  pub replies : WritesReplies (sample_state made) lines text status
