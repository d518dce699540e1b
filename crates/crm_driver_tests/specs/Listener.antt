-- The rules of the listener.
use Rattle.std.specs.Prelude.{ℕ, ◌-◌, List, [], ◌∷◌, ◌++◌, ◌==◌, Some, None, length}
use Rattle.qc_base.specs.declared.log_line.LogRecord.{LogRecord}
use Rattle.qc_base.specs.declared.log_line.Heard.{Heard}
use Rattle.crm_driver.specs.Compensators.{Rules, CompensatorState}
use Rattle.crm_driver.specs.RowRules.{put_of}

-- Records of which the new amount is 0 are forgotten. It is ready after two records. It puts old amounts back, and puts
-- nothing in the commit phase.
abbrev pub listener_rules : List ℕ → Rules
listener_rules resource = record {
  forgets = λ r. r.new == 0;
  ready = λ rs. length rs == 2;
  commit_put = λ r. None;
  abort_put = λ r. Some (put_of resource r.key r.old);
}

pub record ListenerView : Type 0 where
  pub resource : List ℕ
  pub heard : List Heard
  pub delivered : List LogRecord
  pub spare : ℕ

abbrev pub state_of : ListenerView → CompensatorState
state_of l = record { heard = l.heard; delivered = l.delivered; spare = l.spare; rules = listener_rules l.resource }

-- after one call more
abbrev pub told_of : Heard → List LogRecord → ListenerView → ListenerView
told_of entry records l = record l { heard = l.heard ++ entry ∷ []; delivered = records; spare = l.spare - 1 }
