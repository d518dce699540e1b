use Rattle.qc_laws.proofs.CallByCall.{all-go, part-goes, run-held, so-far-none}
use Rattle.qc_laws.proofs.Carried.{all-carried, carried-aside}
use Rattle.qc_laws.proofs.laws.effects_are_carried_out.Goals as goal

pub returns : goal.returns
returns m = record {
  begun = so-far-none;
  effects = λ c attempt id rows first o before after effects known outer is leads.
      let on = all-carried c attempt id rows first known effects o before after is outer leads in (on.carried, on.leaves);
  part = λ c rows first count x p known is. part-goes c rows first known count x p is;
  calls = λ c rows first parts all x known is. all-go c rows first known parts all x is;
  held = run-held;
  others = carried-aside;
}
