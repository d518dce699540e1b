use Rattle.qc_recovery.proofs.Settled.{of-history}
use Rattle.qc_recovery.proofs.laws.a_recovery_keeps_the_history.Goals as goal

pub returns : goal.returns
returns c = λ before now facts lines goes own stands.
    of-history before now facts lines goes (c.nothing_is_left_to_finish.ensures.finished lines) c.a_recovered_site_is_sound.ensures.sound c.where_all_is_done_rows_are_settled.ensures.settled own stands
