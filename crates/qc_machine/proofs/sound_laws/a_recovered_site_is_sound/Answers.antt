use Rattle.std.proofs.Common.{length, ◌++◌}
use Rattle.crm_log.specs.Log.{all_lines}
use Rattle.crm_recovery.specs.Settling.{done_groups}
use Rattle.qc_machine.specs.Sound.{ended_in, settled_by_log}
use Rattle.qc_machine.proofs.PutRows.{settled-already, settled-sound}
use Rattle.qc_machine.proofs.sound_laws.a_recovered_site_is_sound.Goals as goal

pub returns : goal.returns
returns c = record {
  sound = λ h lines rows is.
      settled-sound h (lines ++ all_lines (done_groups lines)) (settled_by_log h lines rows)
      (c.nothing_is_left_to_finish.ensures.legal h.catalogue (length h.messages) (ended_in h) lines is.legal)
      (c.nothing_is_left_to_finish.ensures.finished lines) is.settled;
  settled = λ h lines rows next. settled-already h (lines ++ all_lines (done_groups lines)) next (c.nothing_is_left_to_finish.ensures.finished lines);
}
