use Rattle.qc_machine.proofs.LongerHistory.{legal-still}
use Rattle.qc_machine.proofs.QuietFacts.{all-agree, log-on}
use Rattle.qc_machine.proofs.sound_laws.a_log_is_of_a_longer_history.Goals as goal

pub returns : goal.returns
returns c = record { legal = λ k sent more ended others lines le. legal-still k sent more le ended others lines; beside = log-on; nothing = all-agree }
