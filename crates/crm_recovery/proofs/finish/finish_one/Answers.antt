use Rattle.std.proofs.Common.{◌≡◌, ◌∙◌, ℕ, List, [], ◌∷◌, ◌++◌, Bool, true, map, Result, Ok, Err, refl, sym, ap, subst, rules, All}
use Rattle.std.specs.List.{flat_map}
use Rattle.qc_base.specs.LogLines.{phases_of}
use Rattle.qc_base.specs.declared.log_line.Notice.{Notice}
use Rattle.qc_frame.proofs.Staged.{stands_reserved}
use Rattle.qc_entries.specs.Entries.{EntriesView}
use Rattle.crm_driver.specs.Puts.{RowPut, MakesPuts}
use Rattle.crm_history.specs.Legal.{is_committed}
use Rattle.crm_recovery.specs.Settling.{phase_puts}
use Rattle.qc_base.specs.declared.log_line.LogLine.{LogLine}
use Rattle.qc_base.specs.declared.log_line.Recovered.{Recovered}
use Rattle.qc_site.specs.declared.site.Failed.{Failed}
use Rattle.qc_catalogue.specs.declared.catalogue.Catalogue.{Catalogue}
use Rattle.crm_history.specs.declared.ended.Ended.{Ended}
use Rattle.crm_recovery.specs.declared.error.FinishError.{FinishError}
use Rattle.crm_recovery.specs.declared.error.FinishError.TheVariants.{SiteFault, NoMemory as wanting}
use Rattle.crm_recovery.specs.Calls.{CanFinish, IsSameLog}
use Rattle.crm_recovery.specs.Moments.{Finish, finish_of, FinishesInTurn}
use Rattle.crm_recovery.proofs.InTurn.{untouched, put-failed, done-failed, one-in-turn}
use Rattle.crm_recovery.specs.Tellings.{Plan, IsReady, plan_of, plans, plan_notices, plan_puts}
use Rattle.crm_recovery.proofs.Picked.{plans-ready, plans-told, plans-puts, fits-legal}
use Rattle.crm_recovery.proofs.Finishing.{stands-put, one-finished}
use Rattle.crm_recovery.proofs.finish.finish_one.Goals as goal

pub deliver_all-requires-clause-ready : goal.deliver_all-requires-clause-ready
deliver_all-requires-clause-ready g c =
    let committed = c.is_committed-committed.result in
    let all : map plan_of c.as_mut_slice.result.now ≡ plans c.args.catalogue.now c.args.lines.now c.args.attempt committed = ap (map plan_of) c.as_mut_slice.ensures.value ∙ c.in_ok-tellings.ensures in
    subst (λ (l : List Plan). All IsReady l) (sym all) (plans-ready c.args.catalogue.now c.args.lines.now c.args.attempt committed)

pub write_done-requires-clause-stands : goal.write_done-requires-clause-stands
write_done-requires-clause-stands g c =
    let site = g.S.Site in
    let puts = flat_map (plan_puts c.is_committed-committed.result) (map plan_of c.as_mut_slice.result.now) in
    let stood = stands_reserved site.told (site.shown c.args.site.now) (site.may_leave c.args.site.now) c.args.log.now.log c.reserve.new.self.log _ (ap (λ (v : EntriesView). v.log) c.in_ok-reserve.ensures.ok) c.requires.stands in
    stands-put site (tt {0}) puts c.reserve.new.self.log c.args.site.now c.deliver_all.new.site c.in_ok-deliver_all.ensures.puts stood

pub returns-clause-told : goal.returns-clause-told
returns-clause-told g c =
    let catalogue = c.args.catalogue.now in
    let lines = c.args.lines.now in
    let attempt = c.args.attempt in
    let committed = c.is_committed-committed.result in
    let is : committed ≡ is_committed attempt c.args.ended.now = c.is_committed-committed.ensures in
    let all : map plan_of c.as_mut_slice.result.now ≡ plans catalogue lines attempt committed = ap (map plan_of) c.as_mut_slice.ensures.value ∙ c.in_ok-tellings.ensures in
    let told : c.over.result ≡ flat_map (plan_notices committed) (map plan_of c.as_mut_slice.result.now)
    = c.over.ensures ∙ c.in_ok-deliver_all.ensures.told ∙ ap (λ (l : List Notice). l ++ flat_map (plan_notices committed) (map plan_of c.as_mut_slice.result.now)) c.in_ok-notices.ensures.0 in
    let notices : c.over.result ≡ phases_of lines attempt (is_committed attempt c.args.ended.now) true
    = told ∙ ap (flat_map (plan_notices committed)) all
    ∙ plans-told catalogue lines attempt committed c.requires.can.phases (fits-legal catalogue c.requires.can.sent c.args.ended.now lines c.requires.can.legal)
    ∙ ap (λ (b : Bool). phases_of lines attempt b true) is in
    λ i. record { attempt = attempt; committed = is i; notices = notices i }

pub returns-clause-finishes : goal.returns-clause-finishes
returns-clause-finishes g c =
    let site = g.S.Site in
    let catalogue = c.args.catalogue.now in
    let lines = c.args.lines.now in
    let attempt = c.args.attempt in
    let committed = c.is_committed-committed.result in
    let all : map plan_of c.as_mut_slice.result.now ≡ plans catalogue lines attempt committed = ap (map plan_of) c.as_mut_slice.ensures.value ∙ c.in_ok-tellings.ensures in
    let puts : flat_map (plan_puts committed) (map plan_of c.as_mut_slice.result.now) ≡ phase_puts catalogue lines attempt (is_committed attempt c.args.ended.now)
    = ap (flat_map (plan_puts committed)) all
    ∙ plans-puts catalogue lines attempt committed c.requires.can.phases (fits-legal catalogue c.requires.can.sent c.args.ended.now lines c.requires.can.legal)
    ∙ ap (λ (b : Bool). phase_puts catalogue lines attempt b) c.is_committed-committed.ensures in
    let stood = stands_reserved site.told (site.shown c.args.site.now) (site.may_leave c.args.site.now) c.args.log.now.log c.reserve.new.self.log _ (ap (λ (v : EntriesView). v.log) c.in_ok-reserve.ensures.ok) c.requires.stands in
    let same : IsSameLog c.args.log.now c.reserve.new.self = subst (λ (v : EntriesView). IsSameLog c.args.log.now v) (sym c.in_ok-reserve.ensures.ok) refl in
    let makes = subst (λ (l : List RowPut). MakesPuts site {A = Unit {0}} l (Ok (tt {0})) c.args.site.now c.deliver_all.new.site) puts c.in_ok-deliver_all.ensures.puts in
    one-finished site (phase_puts catalogue lines attempt (is_committed attempt c.args.ended.now)) attempt _ _ _ c.args.log.now c.reserve.new.self c.write_done.new.log c.args.site.now c.deliver_all.new.site c.write_done.new.site (λ e. search rules) same stood makes c.in_ok-write_done.ensures.finishes

pub returns-in_err-tellings-clause-moments : goal.returns-in_err-tellings-clause-moments
returns-in_err-tellings-clause-moments g c =
    let site = c.args.site.now in
    let all : List Finish = finish_of c.args.catalogue.now c.args.ended.now c.args.lines.now c.args.attempt ∷ [] in
    let is : ◌≡◌ {A = Result Recovered FinishError} c.from_residual.result (Err wanting) = search rules in
    subst (λ (r : Result Recovered FinishError). FinishesInTurn g.S.Site all r site site) (sym is) (untouched g.S.Site all wanting site (λ told i left. g.met.S.Site.only_now site i told left))

pub returns-in_err-notices-clause-moments : goal.returns-in_err-notices-clause-moments
returns-in_err-notices-clause-moments g c =
    let site = c.args.site.now in
    let all : List Finish = finish_of c.args.catalogue.now c.args.ended.now c.args.lines.now c.args.attempt ∷ [] in
    let is : ◌≡◌ {A = Result Recovered FinishError} c.from_residual-in_err-notices.result (Err wanting) = search rules in
    subst (λ (r : Result Recovered FinishError). FinishesInTurn g.S.Site all r site site) (sym is) (untouched g.S.Site all wanting site (λ told i left. g.met.S.Site.only_now site i told left))

pub returns-in_err-reserve-clause-moments : goal.returns-in_err-reserve-clause-moments
returns-in_err-reserve-clause-moments g c =
    let site = c.args.site.now in
    let all : List Finish = finish_of c.args.catalogue.now c.args.ended.now c.args.lines.now c.args.attempt ∷ [] in
    let is : ◌≡◌ {A = Result Recovered FinishError} c.from_residual-in_err-reserve.result (Err wanting) = search rules in
    subst (λ (r : Result Recovered FinishError). FinishesInTurn g.S.Site all r site site) (sym is) (untouched g.S.Site all wanting site (λ told i left. g.met.S.Site.only_now site i told left))

-- what the plans put is what the phase puts
abbrev planned-puts : (catalogue : Catalogue) (ended : List Ended) (lines : List LogLine) (attempt : ℕ) (committed : Bool) (now : List Plan) → CanFinish catalogue ended lines → now ≡ plans catalogue lines attempt committed → committed ≡ is_committed attempt ended
    → flat_map (plan_puts committed) now ≡ phase_puts catalogue lines attempt (is_committed attempt ended)
planned-puts catalogue ended lines attempt committed now can all is =
    ap (flat_map (plan_puts committed)) all ∙ plans-puts catalogue lines attempt committed can.phases (fits-legal catalogue can.sent ended lines can.legal) ∙ ap (λ (b : Bool). phase_puts catalogue lines attempt b) is

pub returns-in_err-deliver_all-clause-moments : goal.returns-in_err-deliver_all-clause-moments
returns-in_err-deliver_all-clause-moments g c =
    let site = g.S.Site in
    let committed = c.is_committed-committed.result in
    let now : List Plan = map plan_of c.as_mut_slice.result.now in
    let f : Finish = finish_of c.args.catalogue.now c.args.ended.now c.args.lines.now c.args.attempt in
    let all : now ≡ plans c.args.catalogue.now c.args.lines.now c.args.attempt committed = ap (map plan_of) c.as_mut_slice.ensures.value ∙ c.in_ok-tellings.ensures in
    let puts = planned-puts c.args.catalogue.now c.args.ended.now c.args.lines.now c.args.attempt committed now c.requires.can all c.is_committed-committed.ensures in
    let e : Failed = c.in_err-deliver_all.field-0.0 in
    let makes : MakesPuts site {A = Unit {0}} f.puts (Err e) c.args.site.now c.deliver_all.new.site = subst (λ (l : List RowPut). MakesPuts site {A = Unit {0}} l (Err e) c.args.site.now c.deliver_all.new.site) puts c.in_err-deliver_all.ensures.puts in
    let is : ◌≡◌ {A = Result Recovered FinishError} c.from_residual-in_err-deliver_all.result (Err SiteFault) = search rules in
    subst (λ (r : Result Recovered FinishError). FinishesInTurn site (f ∷ []) r c.args.site.now c.deliver_all.new.site) (sym is) (put-failed site f e SiteFault c.args.site.now c.deliver_all.new.site makes)

pub returns-in_err-write_done-clause-moments : goal.returns-in_err-write_done-clause-moments
returns-in_err-write_done-clause-moments g c =
    let site = g.S.Site in
    let committed = c.is_committed-committed.result in
    let now : List Plan = map plan_of c.as_mut_slice.result.now in
    let f : Finish = finish_of c.args.catalogue.now c.args.ended.now c.args.lines.now c.args.attempt in
    let all : now ≡ plans c.args.catalogue.now c.args.lines.now c.args.attempt committed = ap (map plan_of) c.as_mut_slice.ensures.value ∙ c.in_ok-tellings.ensures in
    let puts = planned-puts c.args.catalogue.now c.args.ended.now c.args.lines.now c.args.attempt committed now c.requires.can all c.is_committed-committed.ensures in
    let makes : MakesPuts site {A = Unit {0}} f.puts (Ok (tt {0})) c.args.site.now c.deliver_all.new.site = subst (λ (l : List RowPut). MakesPuts site {A = Unit {0}} l (Ok (tt {0})) c.args.site.now c.deliver_all.new.site) puts c.in_ok-deliver_all.ensures.puts in
    let e : Failed = c.in_err-write_done.field-0.0 in
    let is : ◌≡◌ {A = Result Recovered FinishError} c.from_residual-in_err-write_done.result (Err SiteFault) = search rules in
    subst (λ (r : Result Recovered FinishError). FinishesInTurn site (f ∷ []) r c.args.site.now c.write_done.new.site) (sym is)
    (done-failed site f e SiteFault c.args.site.now c.deliver_all.new.site c.write_done.new.site makes c.in_err-write_done.ensures.moments)

pub returns-clause-moments : goal.returns-clause-moments
returns-clause-moments g c =
    let site = g.S.Site in
    let committed = c.is_committed-committed.result in
    let now : List Plan = map plan_of c.as_mut_slice.result.now in
    let f : Finish = finish_of c.args.catalogue.now c.args.ended.now c.args.lines.now c.args.attempt in
    let all : now ≡ plans c.args.catalogue.now c.args.lines.now c.args.attempt committed = ap (map plan_of) c.as_mut_slice.ensures.value ∙ c.in_ok-tellings.ensures in
    let puts = planned-puts c.args.catalogue.now c.args.ended.now c.args.lines.now c.args.attempt committed now c.requires.can all c.is_committed-committed.ensures in
    let makes : MakesPuts site {A = Unit {0}} f.puts (Ok (tt {0})) c.args.site.now c.deliver_all.new.site = subst (λ (l : List RowPut). MakesPuts site {A = Unit {0}} l (Ok (tt {0})) c.args.site.now c.deliver_all.new.site) puts c.in_ok-deliver_all.ensures.puts in
    one-in-turn site f _ _ c.args.site.now c.deliver_all.new.site c.write_done.new.site makes c.in_ok-write_done.ensures.moments
