use Rattle.std.proofs.Common.{length}
use Rattle.qc_machine.specs.Sound.{ended_in}
use Rattle.qc_machine.proofs.CutShort.{cut-left, cut-sound}
use Rattle.qc_machine.proofs.sound_laws.a_recovery_may_be_cut_short.Goals as goal

pub returns : goal.returns
returns c = record {
  left = λ h lines rows front rest a done left legal is all split.
      cut-left h lines rows front rest a done left (c.nothing_is_left_to_finish.ensures.legal h.catalogue (length h.messages) (ended_in h) lines legal) legal is all split;
  sound = λ h lines rows front rest a done left legal is all split.
      cut-sound h lines rows front rest a done left (c.nothing_is_left_to_finish.ensures.legal h.catalogue (length h.messages) (ended_in h) lines legal) legal is all split;
}
