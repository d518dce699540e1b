use Rattle.std.proofs.Common.{◌≡◌, List, [], Ok, Err, subst}
use Rattle.std.specs.Prelude.{Result, OnOk}
use Rattle.toml.specs.View.{table_view}
use Rattle.qc_catalogue.specs.Catalogue.{apps_found}
use Rattle.qc_catalogue.specs.Findings.{Finding, walked}
use Rattle.qc_catalogue.proofs.Findings.{Met}
use Rattle.qc_catalogue.proofs.read.read_all_apps.Goals as goal

-- a walk that began with no UUID
from_none : {A E : Type 0} (r : Result A E) (found : List Finding) (before after : Met) → before ≡ [] → OnOk r (walked before found ≡ Ok after) → OnOk r ((met : Met) × (walked [] found ≡ Ok met))
from_none (Ok v) found before after is on = (after, subst (λ m. walked m found ≡ Ok after) is on)
from_none (Err e) found before after is on = on

pub returns-clause-walked : goal.returns-clause-walked
returns-clause-walked c = from_none c.read_apps.result (apps_found c.args.names.now (table_view c.args.top.now)) c.new-met.result.keys c.read_apps.new.met.keys c.new-met.ensures.empty c.read_apps.ensures.walked
