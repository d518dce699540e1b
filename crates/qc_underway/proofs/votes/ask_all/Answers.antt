use Rattle.std.proofs.Common.{◌+◌, ◌<◌, length, drop, Some, None, ap, arith}
use Rattle.qc_underway.specs.Compensators.{registered_by}
use Rattle.qc_underway.specs.Votes.{as_registration}
use Rattle.qc_underway.proofs.Asking.{all-behind, as-many, asking-begun, asking-orderly, at-hand, forgets-some, is-prepared, next-hears, next-room, refused, still-hears, still-made, went-on}
use Rattle.qc_underway.proofs.votes.ask_all.Goals as goal

pub loop-index-init : goal.loop-index-init
loop-index-init c = asking-begun c.args.told.now c.args.clerk.now c.args.log.now c.args.notices.now c.requires.orderly c.requires.hears c.requires.log

pub bounds-registered-index : goal.bounds-registered-index
bounds-registered-index c =
    let l = c.loop-index in
    let told = c.args.told.now in
    let clerk = c.args.clerk.now in
    let log = c.args.log.now in
    let old = c.args.notices.now in
    let regs = registered_by clerk in
    omega (arith, c.loop-index-test.true, ap length c.registered.ensures, ap length c.registered-index-end.ensures, as-many told clerk log old None (drop l.index regs) l.told l.clerk l.log l.notices l.invariant)

pub ask_registered-requires-clause-orderly : goal.ask_registered-requires-clause-orderly
ask_registered-requires-clause-orderly c =
    let l = c.loop-index in
    let told = c.args.told.now in
    let clerk = c.args.clerk.now in
    let log = c.args.log.now in
    let old = c.args.notices.now in
    let regs = registered_by clerk in
    asking-orderly told clerk log old None (drop l.index regs) l.told l.clerk l.log l.notices c.requires.orderly l.invariant

pub ask_registered-requires-clause-hears : goal.ask_registered-requires-clause-hears
ask_registered-requires-clause-hears c =
    let l = c.loop-index in
    let told = c.args.told.now in
    let clerk = c.args.clerk.now in
    let log = c.args.log.now in
    let old = c.args.notices.now in
    let regs = registered_by clerk in
    let r = c.index-registered-index.result in
    let inside : l.index < length c.registered.result.now = omega (arith, c.loop-index-test.true, ap length c.registered.ensures, ap length c.registered-index-end.ensures, as-many told clerk log old None (drop l.index regs) l.told l.clerk l.log l.notices l.invariant) in
    let so = at-hand told clerk log old l.told l.clerk l.log l.notices l.index c.registered.result.now r l.invariant c.registered.ensures inside c.index-registered-index.is in
    next-hears told clerk log old (as_registration r) (drop (l.index + 1) regs) l.told l.clerk l.log l.notices so

pub ask_registered-requires-clause-log : goal.ask_registered-requires-clause-log
ask_registered-requires-clause-log c =
    let l = c.loop-index in
    let told = c.args.told.now in
    let clerk = c.args.clerk.now in
    let log = c.args.log.now in
    let old = c.args.notices.now in
    let regs = registered_by clerk in
    let r = c.index-registered-index.result in
    let inside : l.index < length c.registered.result.now = omega (arith, c.loop-index-test.true, ap length c.registered.ensures, ap length c.registered-index-end.ensures, as-many told clerk log old None (drop l.index regs) l.told l.clerk l.log l.notices l.invariant) in
    let so = at-hand told clerk log old l.told l.clerk l.log l.notices l.index c.registered.result.now r l.invariant c.registered.ensures inside c.index-registered-index.is in
    (next-room told clerk log old (as_registration r) (drop (l.index + 1) regs) l.told l.clerk l.log l.notices so).1

pub ask_registered-requires-clause-room : goal.ask_registered-requires-clause-room
ask_registered-requires-clause-room c =
    let l = c.loop-index in
    let told = c.args.told.now in
    let clerk = c.args.clerk.now in
    let log = c.args.log.now in
    let old = c.args.notices.now in
    let regs = registered_by clerk in
    let r = c.index-registered-index.result in
    let inside : l.index < length c.registered.result.now = omega (arith, c.loop-index-test.true, ap length c.registered.ensures, ap length c.registered-index-end.ensures, as-many told clerk log old None (drop l.index regs) l.told l.clerk l.log l.notices l.invariant) in
    let so = at-hand told clerk log old l.told l.clerk l.log l.notices l.index c.registered.result.now r l.invariant c.registered.ensures inside c.index-registered-index.is in
    (next-room told clerk log old (as_registration r) (drop (l.index + 1) regs) l.told l.clerk l.log l.notices so).0

pub returns-then-not-ask_registered-clause-prepared : goal.returns-then-not-ask_registered-clause-prepared
returns-then-not-ask_registered-clause-prepared c =
    let l = c.loop-index in
    let told = c.args.told.now in
    let clerk = c.args.clerk.now in
    let log = c.args.log.now in
    let old = c.args.notices.now in
    let regs = registered_by clerk in
    let r = c.index-registered-index.result in
    let inside : l.index < length c.registered.result.now = omega (arith, c.loop-index-test.true, ap length c.registered.ensures, ap length c.registered-index-end.ensures, as-many told clerk log old None (drop l.index regs) l.told l.clerk l.log l.notices l.invariant) in
    let so = at-hand told clerk log old l.told l.clerk l.log l.notices l.index c.registered.result.now r l.invariant c.registered.ensures inside c.index-registered-index.is in
    let new = c.ask_registered.new in
    let left = drop (l.index + 1) regs in
    let ready = c.ask_registered.result in
    let no = refused told clerk log old (as_registration r) left l.told l.clerk l.log l.notices ready new.told new.clerk new.log new.notices so c.ask_registered.ensures c.if-not-ask_registered.true in
    is-prepared told clerk log old (Some r.0) left new.told new.clerk new.log new.notices no tt

pub returns-then-not-ask_registered-clause-forgets : goal.returns-then-not-ask_registered-clause-forgets
returns-then-not-ask_registered-clause-forgets c =
    let l = c.loop-index in
    let told = c.args.told.now in
    let clerk = c.args.clerk.now in
    let log = c.args.log.now in
    let old = c.args.notices.now in
    let regs = registered_by clerk in
    let r = c.index-registered-index.result in
    let inside : l.index < length c.registered.result.now = omega (arith, c.loop-index-test.true, ap length c.registered.ensures, ap length c.registered-index-end.ensures, as-many told clerk log old None (drop l.index regs) l.told l.clerk l.log l.notices l.invariant) in
    let so = at-hand told clerk log old l.told l.clerk l.log l.notices l.index c.registered.result.now r l.invariant c.registered.ensures inside c.index-registered-index.is in
    let new = c.ask_registered.new in
    let left = drop (l.index + 1) regs in
    let ready = c.ask_registered.result in
    let no = refused told clerk log old (as_registration r) left l.told l.clerk l.log l.notices ready new.told new.clerk new.log new.notices so c.ask_registered.ensures c.if-not-ask_registered.true in
    forgets-some told clerk log old (Some r.0) left new.told new.clerk new.log new.notices no tt

pub returns-then-not-ask_registered-clause-orderly : goal.returns-then-not-ask_registered-clause-orderly
returns-then-not-ask_registered-clause-orderly c =
    let l = c.loop-index in
    let told = c.args.told.now in
    let clerk = c.args.clerk.now in
    let log = c.args.log.now in
    let old = c.args.notices.now in
    let regs = registered_by clerk in
    let r = c.index-registered-index.result in
    let inside : l.index < length c.registered.result.now = omega (arith, c.loop-index-test.true, ap length c.registered.ensures, ap length c.registered-index-end.ensures, as-many told clerk log old None (drop l.index regs) l.told l.clerk l.log l.notices l.invariant) in
    let so = at-hand told clerk log old l.told l.clerk l.log l.notices l.index c.registered.result.now r l.invariant c.registered.ensures inside c.index-registered-index.is in
    let new = c.ask_registered.new in
    let left = drop (l.index + 1) regs in
    let ready = c.ask_registered.result in
    let no = refused told clerk log old (as_registration r) left l.told l.clerk l.log l.notices ready new.told new.clerk new.log new.notices so c.ask_registered.ensures c.if-not-ask_registered.true in
    asking-orderly told clerk log old (Some r.0) left new.told new.clerk new.log new.notices c.requires.orderly no

pub returns-then-not-ask_registered-clause-hears : goal.returns-then-not-ask_registered-clause-hears
returns-then-not-ask_registered-clause-hears c =
    let l = c.loop-index in
    let told = c.args.told.now in
    let clerk = c.args.clerk.now in
    let log = c.args.log.now in
    let old = c.args.notices.now in
    let regs = registered_by clerk in
    let r = c.index-registered-index.result in
    let inside : l.index < length c.registered.result.now = omega (arith, c.loop-index-test.true, ap length c.registered.ensures, ap length c.registered-index-end.ensures, as-many told clerk log old None (drop l.index regs) l.told l.clerk l.log l.notices l.invariant) in
    let so = at-hand told clerk log old l.told l.clerk l.log l.notices l.index c.registered.result.now r l.invariant c.registered.ensures inside c.index-registered-index.is in
    let new = c.ask_registered.new in
    let left = drop (l.index + 1) regs in
    let ready = c.ask_registered.result in
    let no = refused told clerk log old (as_registration r) left l.told l.clerk l.log l.notices ready new.told new.clerk new.log new.notices so c.ask_registered.ensures c.if-not-ask_registered.true in
    still-hears told clerk log old (Some r.0) left new.told new.clerk new.log new.notices no tt

pub returns-then-not-ask_registered-clause-made : goal.returns-then-not-ask_registered-clause-made
returns-then-not-ask_registered-clause-made c =
    let l = c.loop-index in
    let told = c.args.told.now in
    let clerk = c.args.clerk.now in
    let log = c.args.log.now in
    let old = c.args.notices.now in
    let regs = registered_by clerk in
    let r = c.index-registered-index.result in
    let inside : l.index < length c.registered.result.now = omega (arith, c.loop-index-test.true, ap length c.registered.ensures, ap length c.registered-index-end.ensures, as-many told clerk log old None (drop l.index regs) l.told l.clerk l.log l.notices l.invariant) in
    let so = at-hand told clerk log old l.told l.clerk l.log l.notices l.index c.registered.result.now r l.invariant c.registered.ensures inside c.index-registered-index.is in
    let new = c.ask_registered.new in
    let left = drop (l.index + 1) regs in
    let ready = c.ask_registered.result in
    let no = refused told clerk log old (as_registration r) left l.told l.clerk l.log l.notices ready new.told new.clerk new.log new.notices so c.ask_registered.ensures c.if-not-ask_registered.true in
    still-made told clerk log old (Some r.0) left new.told new.clerk new.log new.notices no tt

pub loop-index-preserved : goal.loop-index-preserved
loop-index-preserved c =
    let l = c.loop-index in
    let told = c.args.told.now in
    let clerk = c.args.clerk.now in
    let log = c.args.log.now in
    let old = c.args.notices.now in
    let regs = registered_by clerk in
    let r = c.index-registered-index.result in
    let inside : l.index < length c.registered.result.now = omega (arith, c.loop-index-test.true, ap length c.registered.ensures, ap length c.registered-index-end.ensures, as-many told clerk log old None (drop l.index regs) l.told l.clerk l.log l.notices l.invariant) in
    let so = at-hand told clerk log old l.told l.clerk l.log l.notices l.index c.registered.result.now r l.invariant c.registered.ensures inside c.index-registered-index.is in
    let new = c.ask_registered.new in
    let left = drop (l.index + 1) regs in
    let ready = c.ask_registered.result in
    let on = went-on told clerk log old (as_registration r) left l.told l.clerk l.log l.notices ready new.told new.clerk new.log new.notices so c.ask_registered.ensures c.if-not-ask_registered.false in
    on

pub returns-clause-prepared : goal.returns-clause-prepared
returns-clause-prepared c =
    let l = c.loop-index in
    let told = c.args.told.now in
    let clerk = c.args.clerk.now in
    let log = c.args.log.now in
    let old = c.args.notices.now in
    let regs = registered_by clerk in
    let none = all-behind regs c.registered-index-end.result.now l.index c.registered-index-end.ensures (omega (arith, c.loop-index-test.false)) in
    is-prepared told clerk log old None (drop l.index regs) l.told l.clerk l.log l.notices l.invariant none

pub returns-clause-orderly : goal.returns-clause-orderly
returns-clause-orderly c =
    let l = c.loop-index in
    let told = c.args.told.now in
    let clerk = c.args.clerk.now in
    let log = c.args.log.now in
    let old = c.args.notices.now in
    let regs = registered_by clerk in
    asking-orderly told clerk log old None (drop l.index regs) l.told l.clerk l.log l.notices c.requires.orderly l.invariant

pub returns-clause-hears : goal.returns-clause-hears
returns-clause-hears c =
    let l = c.loop-index in
    let told = c.args.told.now in
    let clerk = c.args.clerk.now in
    let log = c.args.log.now in
    let old = c.args.notices.now in
    let regs = registered_by clerk in
    let none = all-behind regs c.registered-index-end.result.now l.index c.registered-index-end.ensures (omega (arith, c.loop-index-test.false)) in
    still-hears told clerk log old None (drop l.index regs) l.told l.clerk l.log l.notices l.invariant none
