-- Whatever an image stands for is a legal history, and keeps the accounts of one.
use Rattle.qc_site.specs.Image.{Image}
use Rattle.qc_machine.specs.History.{by_text}
use Rattle.qc_machine.proofs.EachOnce.{each-once}
use Rattle.qc_machine.proofs.Recorders.{reads-orderly}
use Rattle.qc_machine.proofs.Totals.{totals-settled}
use Rattle.qc_drill.specs.Accounts.{KeepsAccounts}

pub accounted : (c : Image) → KeepsAccounts c
accounted c facts stands = record { once = each-once by_text facts reads-orderly stands.legal; totals = totals-settled by_text facts stands.legal }
