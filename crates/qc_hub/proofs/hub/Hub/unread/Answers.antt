use Rattle.std.proofs.Common.{refl}
use Rattle.qc_hub.proofs.OpeningLogs.{logs-both}
use Rattle.qc_hub.proofs.hub.Hub.unread.Goals as goal

pub returns : goal.returns
returns g c =
    logs-both g.S.Site c.args.limits c.args.site.now c.open.new.site c.open-2.new.site c.in-Ok-open.journal c.in-Ok-open.ensures.opens c.in-Ok-open-2.log _ c.in-Ok-open-2.ensures.opens
    c.in-Ok-reserve.ensures.ok refl c.in-Ok.ensures.history c.in-Ok.ensures.clients c.in-Ok.ensures.players refl refl
