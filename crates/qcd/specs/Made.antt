-- Why a site couldn't be made or opened, as a status.
use Rattle.qc_protocol.specs.declared.status.Status.{Status}
use Rattle.qc_protocol.specs.declared.status.Status.TheVariants.{SiteFault as site_fault, AlreadyMade as made}
use Rattle.qc_protocol.specs.declared.status.Status.TheVariants.{BadCatalogue as bad_catalogue, NoMemory as memory}
use Rattle.qc_creation.specs.declared.error.CreateError.{CreateError}
use Rattle.qc_creation.specs.declared.error.CreateError.TheVariants.{SiteFault, AlreadyMade, BadCatalogue, NoMemory}
use Rattle.qc_realsite.specs.declared.folder.OpenError.{OpenError}
use Rattle.qc_realsite.specs.declared.folder.OpenError.TheVariants.{Taken, Failed, NoMemory as no_memory}

abbrev pub status_made : CreateError → Status
status_made SiteFault = site_fault
status_made AlreadyMade = made
status_made (BadCatalogue refusal) = bad_catalogue
status_made NoMemory = memory

-- a folder that can't be opened, or that another process has, is a fault of the site
abbrev pub status_unopened : OpenError → Status
status_unopened Taken = site_fault
status_unopened Failed = site_fault
status_unopened no_memory = memory
