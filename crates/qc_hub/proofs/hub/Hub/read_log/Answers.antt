use Rattle.std.proofs.Common.{◌≡◌, true, false, sym, subst, rules, Err, is_some}
use Rattle.qc_hub.specs.Opening.{FindsNoLine}
use Rattle.qc_hub.proofs.OpeningLog.{at_log, log-stopped, log-found, log-none}
use Rattle.qc_hub.proofs.hub.Hub.read_log.Goals as goal

pub returns-in-Err : goal.returns-in-Err
returns-in-Err g c =
    subst (λ e. FindsNoLine g.S.Site (Err e) c.args.self.now c.args.site.now (at_log c.args.self.now c.next_group.new.self) c.next_group.new.site) (sym c.log_error.ensures)
    (log-stopped g.S.Site c.args.site.now c.next_group.new.site c.args.self.now c.next_group.new.self c.requires.opened c.in-Err.error c.in-Err.ensures.finds c.in-Err.ensures.reads)

pub returns-then-is_some : goal.returns-then-is_some
returns-then-is_some g c =
    let some : is_some c.in-Ok.next ≡ true = search rules in
    subst (λ e. FindsNoLine g.S.Site (Err e) c.args.self.now c.args.site.now (at_log c.args.self.now c.next_group.new.self) c.next_group.new.site) (sym c.used_log.ensures)
    (log-found g.S.Site c.args.site.now c.next_group.new.site c.args.self.now c.next_group.new.self c.requires.opened c.in-Ok.next some c.in-Ok.ensures.finds c.in-Ok.ensures.reads)

pub returns : goal.returns
returns g c =
    let none : is_some c.in-Ok.next ≡ false = search rules in
    log-none g.S.Site c.args.site.now c.next_group.new.site c.args.self.now c.next_group.new.self c.requires.opened c.in-Ok.next none c.requires.stands c.in-Ok.ensures.finds c.in-Ok.ensures.reads
