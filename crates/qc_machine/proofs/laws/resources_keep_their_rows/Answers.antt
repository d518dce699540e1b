use Rattle.qc_machine.specs.History.{by_text}
use Rattle.qc_machine.proofs.Resources.{amounts-named, rows-named}
use Rattle.qc_machine.proofs.laws.resources_keep_their_rows.Goals as goal

pub returns : goal.returns
returns c = record { places = rows-named by_text; amounts = amounts-named by_text }
