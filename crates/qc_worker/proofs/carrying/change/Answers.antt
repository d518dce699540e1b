use Rattle.std.proofs.Common.{◌+◌, [], Bool, Ok, MatchBool, sym, subst}
use Rattle.qc_frame.proofs.Staged.{stands_still}
use Rattle.crm_driver.specs.RowRules.{put_of}
use Rattle.crm_driver.proofs.Putting.{none_made}
use Rattle.qc_worker.specs.Calls.{WritesThenPuts, PutsThenWrites}
use Rattle.qc_worker.specs.Effects.{change_lines, first_room}
use Rattle.qc_worker.proofs.Written.{staged-log}
use Rattle.qc_worker.proofs.Logged.{written-behind}
use Rattle.qc_worker.proofs.carrying.change.Goals as goal

pub returns-then-not-resource : goal.returns-then-not-resource
returns-then-not-resource g c =
    let site = c.args.site.now in
    let old = c.args.clerk.now in
    let resource = c.args.resource.now in
    let log = c.args.log.now in
    let new = c.write_change.new.clerk in
    let later = c.write_change.new.log in
    let lines = change_lines old resource c.args.key.now c.args.old c.args.new in
    let taken = first_room old resource + 1 in
    let put = put_of resource.name c.args.key.now c.args.new in
    let none = none_made g.S.Site (tt {0}) site (λ told i left. g.met.S.Site.only_now site i told left) in
    let P : Bool → Type 0 = λ b. MatchBool b (WritesThenPuts g.S.Site {A = Unit {0}} lines taken put (Ok (tt {0})) old log site new later site) (PutsThenWrites g.S.Site {A = Unit {0}} [] lines taken (Ok (tt {0})) old log site new later site) in
    subst P (sym c.if-not-resource.true) (written-behind g.S.Site (tt {0}) [] lines taken old new log later site site none c.write_change.ensures.written c.requires.stands)

pub force_then_put-requires-clause-stands : goal.force_then_put-requires-clause-stands
force_then_put-requires-clause-stands g c =
    let site = c.args.site.now in
    let lines = change_lines c.args.clerk.now c.args.resource.now c.args.key.now c.args.old c.args.new in
    let taken = first_room c.args.clerk.now c.args.resource.now + 1 in
    let later = c.write_change.new.log in
    stands_still g.S.Site.told (g.S.Site.shown site) (g.S.Site.may_leave site) c.args.log.now.log later.log later.log.payload later.log.spare
    (staged-log lines taken c.args.clerk.now c.write_change.new.clerk c.args.log.now later c.write_change.ensures.written) c.requires.stands
