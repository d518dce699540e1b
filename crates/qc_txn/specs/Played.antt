-- A call to play, as the code hands it on.
use Rattle.qc_txn.specs.declared.parts.CallToPlay.{CallToPlay}
use Rattle.qc_txn.specs.Parts.{Part}

abbrev pub part_of : CallToPlay → Part
part_of p = record { number = p.number; script = p.script.now; args = p.args.now }
