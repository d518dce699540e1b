-- What the history of an image keeps, so that its messages and totals can be accounted for.
use Rattle.std.specs.Prelude.{List}
use Rattle.qc_base.specs.declared.fact.Fact.{Fact}
use Rattle.qc_site.specs.Image.{Image}
use Rattle.qc_machine.specs.History.{by_text}
use Rattle.qc_machine.specs.Once.{EachOnce, TotalsSettled}
use Rattle.qc_machine.specs.Sites.{StandsFor}

-- each message that was sent stands in one place, and totals are changed by committed attempts alone
pub record IsAccounted (facts : List Fact) : Type 0 where
  pub once : EachOnce by_text facts
  pub totals : TotalsSettled by_text facts

-- so it is in the history that the image stands for, where it stands for one
abbrev pub KeepsAccounts : Image → Type 0
KeepsAccounts c = (facts : List Fact) → StandsFor by_text c facts → IsAccounted facts
