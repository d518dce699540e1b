use Rattle.std.proofs.Common.{◌≡◌, ◌∙◌, true, false, not, sym, ap}
use Rattle.qc_base.specs.LogLines.{is_opened}
use Rattle.qc_underway.proofs.Ending.{ends-opened, not-opened, one-line, opened-by, stands-taken}
use Rattle.qc_underway.proofs.phase.finish.Goals as goal

pub returns-then-is_empty : goal.returns-then-is_empty
returns-then-is_empty g c =
    let clerk = c.args.clerk in
    let none : is_opened clerk.lines clerk.attempt ≡ false = sym (opened-by clerk c.registered.result.now c.requires.orderly c.registered.ensures) ∙ ap not (sym c.is_empty.ensures ∙ c.if-is_empty.true) in
    not-opened g.S.Site clerk c.args.log.now c.args.site.now none c.requires.stands

pub finish-requires : goal.finish-requires
finish-requires g c = one-line c.args.clerk c.args.log.now c.requires.room

pub force-requires : goal.force-requires
force-requires g c = record { stands = stands-taken g.S.Site _ c.args.log.now c.finish.new.log c.args.site.now c.finish.ensures.room c.requires.stands }

pub returns : goal.returns
returns g c =
    let clerk = c.args.clerk in
    let opened : is_opened clerk.lines clerk.attempt ≡ true = sym (opened-by clerk c.registered.result.now c.requires.orderly c.registered.ensures) ∙ ap not (sym c.is_empty.ensures ∙ c.if-is_empty.false) in
    ends-opened g.S.Site c.force.result clerk c.args.log.now c.finish.new.log c.force.new.self c.args.site.now c.force.new.site opened c.finish.ensures.log c.finish.ensures.room c.finish.ensures.waits c.force.ensures.forces c.force.ensures.spells
