-- A drill over a site that was made from the sample, of what is told in memory.
use Rattle.std.proofs.Common.{◌≡◌, ℕ, List, [], ◌∷◌, ◌++◌, Option, Some, refl, subst}
use Rattle.qc_base.specs.declared.fact.Fact.TheVariants.{Catalogue as InForce}
use Rattle.qc_protocol.specs.declared.status.Status.{Status}
use Rattle.qc_catalogue.specs.Sample.{sample}
use Rattle.qc_site.specs.declared.site.Site.{Ghosts}
use Rattle.qc_machine.specs.History.{by_text}
use Rattle.qc_machine.specs.Sites.{StandsFor}
use Rattle.qc_drill.specs.Headline.{Drills}
use Rattle.qc_drill.specs.Reads.{HasRead}
use Rattle.qc_drill_tests.specs.Memory.{sample_state, DrillsSample}

pub drilled : {S : Type 0} (g : Ghosts S) (status : Status) (site after : S) (bytes : List ℕ) (had held left now : Option (List ℕ)) → had ≡ Some bytes → held ≡ Some [] → g.told → StandsFor by_text (g.shown site) (InForce sample ∷ []) → Drills g status site had held after left now → DrillsSample bytes status now
drilled g status site after bytes had held left now source sink told stands d =
    let runs = d.runs told (sample_state (g.shown site)) (record { facts = InForce sample ∷ []; stands = stands; is = refl }) in
    record {
      text = d.text;
      sink = d.wrote [] sink;
      made = g.shown site;
      stands = stands;
      taken = d.taken;
      lines = d.lines;
      left = left;
      read = subst (λ (o : Option (List ℕ)). HasRead status o left d.taken d.lines) source d.read;
      replies = runs.replies;
    }
