use Rattle.qc_machine.proofs.QuietFacts.{sound-on, left-on}
use Rattle.qc_machine.proofs.sound_laws.a_fact_that_commits_nothing_keeps_a_site_sound.Goals as goal

pub returns : goal.returns
returns c = record { sound = sound-on; left = left-on }
