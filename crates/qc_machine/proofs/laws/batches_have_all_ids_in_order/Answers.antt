use Rattle.qc_machine.proofs.Batches.{batches-joined, batches-of-size}
use Rattle.qc_machine.proofs.laws.batches_have_all_ids_in_order.Goals as goal

pub returns : goal.returns
returns c = record { joined = batches-joined; sizes = batches-of-size }
