-- The sample catalogue begins a history.
use Rattle.std.proofs.Common.{◌≡◌, [], ◌∷◌, true, ◌&&◌, ap}
use Rattle.std.specs.Prelude.{Result, Ok, is_some, unwrap_or, codes}
use Rattle.qc_base.specs.declared.recording.Arg.TheVariants.{Text, Whole}
use Rattle.qc_base.specs.declared.recording.Recording.{Recording}
use Rattle.qc_catalogue.specs.Catalogue.{catalogue_of}
use Rattle.qc_catalogue.specs.Sample.{sample, sample_catalogue}
use Rattle.qc_catalogue.specs.declared.catalogue.Catalogue.{Catalogue}
use Rattle.qc_catalogue.specs.declared.error.CatalogueError.{CatalogueError}
use Rattle.qc_recorder.specs.Fits.{recording_fits}
use Rattle.qc_rows.specs.Outside.{opened_resources}
use Rattle.qc_rows.specs.Tables.{opened_tables}
use Rattle.qc_machine.specs.declared.limits.Limits.{Limits}
use Rattle.qc_machine.specs.History.{by_text, if_ok, no_catalogue}
use Rattle.qc_machine.specs.Sites.{no_clients, no_players}
use Rattle.qc_machine.specs.State.{State}
use Rattle.qc_drill.specs.Worked.{made_facts, made_rows, made_end}

pub sample-some : catalogue_of sample ≡ Ok sample_catalogue → (is_some (by_text sample) && true) ≡ true
unfolding by_text
sample-some is = ap (λ (r : Result Catalogue CatalogueError). is_some (if_ok r) && true) is

-- the sample's catalogue is in force
pub sample-read : catalogue_of sample ≡ Ok sample_catalogue → unwrap_or (by_text sample) no_catalogue ≡ sample_catalogue
unfolding by_text
sample-read is = ap (λ (r : Result Catalogue CatalogueError). unwrap_or (if_ok r) no_catalogue) is

-- the state of a site that was just made from the sample, by its catalogue
abbrev pub made_by : Catalogue → Limits → State
made_by c limits = record {
  history = record { facts = made_facts; catalogue = c; messages = []; tables = opened_tables c; outside = opened_resources c; last = 0 };
  rows = made_rows;
  last = 0;
  clients = no_clients;
  players = no_players;
  journal = record { gate = 1672; size = 1673 };
  log = made_end;
  limits = limits;
}

-- the recording of the worked lines
abbrev pub placed : Recording
placed = record { app = codes "Orders"; component = codes "Order"; calls = record { method = codes "Place"; args = Text (codes "bolt") ∷ Whole 4 ∷ [] } ∷ [] }

-- behind the sample's catalogue a message of it goes on
pub sample-sent : catalogue_of sample ≡ Ok sample_catalogue → (is_some (by_text sample) && (recording_fits (unwrap_or (by_text sample) no_catalogue) placed && true)) ≡ true
unfolding by_text
sample-sent is = ap (λ (r : Result Catalogue CatalogueError). is_some (if_ok r) && (recording_fits (unwrap_or (if_ok r) no_catalogue) placed && true)) is
