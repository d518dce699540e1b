use Rattle.std.proofs.Common.{◌∙◌, ℕ, List, Bool, bytes_eq, ap}
use Rattle.std.specs.List.{list_any}
use Rattle.qc_base.specs.LogLines.{Registration, registrations}
use Rattle.qc_worker.proofs.Written.{any-map}
use Rattle.qc_worker.proofs.carrying.has_registered.Goals as goal

pub returns : goal.returns
returns c =
    let own : List ℕ × ℕ → Bool = λ r. bytes_eq r.0 c.args.resource.now in
    let seen : Registration → List ℕ × ℕ = λ r. (r.resource, r.phases) in
    c.is_among.ensures ∙ ap (list_any own) c.registered.ensures ∙ any-map own seen (registrations c.args.clerk.now.lines c.args.clerk.now.attempt)
