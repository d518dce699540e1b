use Rattle.std.proofs.Common.{◌≡◌, ◌∙◌, ◌<◌, List, [], ◌∷◌, length, map, Option, Some, None, option_map, Bor, sym, ap, arith, append-nil, Vec, Global}
use Rattle.std.proofs.lemmas.List.{map-append}
use Rattle.qc_base.specs.declared.log_line.LogLine.{LogLine}
use Rattle.qc_base.specs.LogLines.{unforgotten}
use Rattle.qc_catalogue.specs.declared.catalogue.Resource.{Resource}
use Rattle.crm_recovery.specs.Tellings.{Plan, plan_of, plan_by, new_plan}
use Rattle.crm_recovery.specs.declared.telling.Telling.{Telling}
use Rattle.crm_recovery.proofs.Picked.{picked-one}
use Rattle.crm_recovery.proofs.phase.tellings_of.Goals.{in-Some+in_ok-telling+in-Ok, in_default}
use Rattle.crm_recovery.proofs.phase.tellings_of.Goals as goal

pub loop-line-preserved : goal.loop-line-preserved
loop-line-preserved c =
    let lines = c.args.lines.now in
    let attempt = c.args.attempt in
    let h : LogLine → Option Plan = plan_by c.args.catalogue.now lines attempt c.args.committed in
    let i = c.loop-line.line-index in
    let line = c.line-item.result in
    let got : List Plan = map plan_of c.loop-line.tellings.items in
    let inside : i < length lines = omega (arith, c.loop-line-test.true) in
    let planned : Option Resource → Option Plan = option_map (λ (r : Resource). new_plan r (unforgotten lines attempt r.name)) in
    elim c.match-heard_by.branch [
      | in-Some+in_ok-telling+in-Ok w ↦
          let gives : h line ≡ Some (plan_of w.in_ok-telling.telling)
          = ap planned (sym c.heard_by.ensures ∙ ap (option_map (λ (r : Bor Resource). r.now)) w.in-Some.is) ∙ ap Some (sym w.in_ok-telling.ensures) in
          ap (λ (v : Vec Telling Global). map plan_of v.items) w.tellings-is ∙ ap (map plan_of) w.in-Ok.ensures.items
          ∙ map-append plan_of c.loop-line.tellings.items (w.in_ok-telling.telling ∷ [])
          ∙ picked-one h lines i line (Some (plan_of w.in_ok-telling.telling)) got inside c.line-item.is gives c.loop-line.invariant
      | in_default w ↦
          let gives : h line ≡ None = ap planned (sym c.heard_by.ensures ∙ ap (option_map (λ (r : Bor Resource). r.now)) w.in_default.is) in
          ap (λ (v : Vec Telling Global). map plan_of v.items) w.tellings-is ∙ sym (append-nil got) ∙ picked-one h lines i line None got inside c.line-item.is gives c.loop-line.invariant
    ]
