use Rattle.std.proofs.Common.{◌∙◌, length, ap, arith, length-append}
use Rattle.qc_base.specs.Spelling.{spelled_line}
use Rattle.qc_base.proofs.LogSpellings.{line-bounded}
use Rattle.qc_frame.specs.Frame.{entry}
use Rattle.qc_frame.proofs.Payload.{length-entry}
use Rattle.qc_frame.proofs.Staged.{stands_reserved, stands_staged}
use Rattle.qc_entries.specs.Entries.{EntriesView}
use Rattle.crm_log_tests.proofs.add_two.Goals as goal

pub overflow_add-size_of_line : goal.overflow_add-size_of_line
overflow_add-size_of_line g c = omega (arith, c.size_of_line.ensures.bounds.1, c.size_of_line-2.ensures.bounds.1)

pub overflow_add-size_of_line-2 : goal.overflow_add-size_of_line-2
overflow_add-size_of_line-2 g c = omega (arith, c.size_of_line.ensures.bounds.1, c.size_of_line-2.ensures.bounds.1)

pub stage_line-requires : goal.stage_line-requires
stage_line-requires g c =
    let res = c.in_ok-reserve.ensures.ok in
    let bounds = line-bounded c.args.first.now c.requires.limits.0 in
    record {
      limits = c.requires.limits.0;
      can = record {
        some = bounds.0;
        ended = ap (λ (v : EntriesView). v.log.ended) res ∙ c.requires.ended;
        room = omega (arith, ap (λ (v : EntriesView). v.log.spare) res, c.size_of_line.ensures.size, c.size_of_line-2.ensures.size);
        fits = omega (arith, ap (λ (v : EntriesView). length v.log.payload) res, ap length c.requires.waits, bounds.1);
      };
    }

pub stage_line-requires-2 : goal.stage_line-requires-2
stage_line-requires-2 g c =
    let res = c.in_ok-reserve.ensures.ok in
    let first = spelled_line c.args.first.now in
    let bounds = line-bounded c.args.first.now c.requires.limits.0 in
    let more = line-bounded c.args.second.now c.requires.limits.1 in
    let payload = ap (λ (v : EntriesView). length v.log.payload) c.stage_line.ensures.stages in
    record {
      limits = c.requires.limits.1;
      can = record {
        some = more.0;
        ended = ap (λ (v : EntriesView). v.log.ended) c.stage_line.ensures.stages ∙ ap (λ (v : EntriesView). v.log.ended) res ∙ c.requires.ended;
        room = omega (arith, ap (λ (v : EntriesView). v.log.spare) c.stage_line.ensures.stages, ap (λ (v : EntriesView). v.log.spare) res, c.size_of_line.ensures.size, c.size_of_line-2.ensures.size);
        fits = omega (arith, payload, length-append c.reserve.new.self.log.payload (entry first), length-entry first, ap (λ (v : EntriesView). length v.log.payload) res, ap length c.requires.waits, bounds.1, more.1);
      };
    }

pub force-requires : goal.force-requires
force-requires g c =
    let site = g.S.Site in
    let shown = site.shown c.args.site.now in
    let images = site.may_leave c.args.site.now in
    let old = c.args.log.now.log in
    let res = ap (λ (v : EntriesView). v.log) c.in_ok-reserve.ensures.ok in
    let roomier = stands_reserved site.told shown images old c.reserve.new.self.log _ res c.requires.stands in
    let one = stands_staged site.told shown images c.reserve.new.self.log c.stage_line.new.self.log (spelled_line c.args.first.now) (ap (λ (v : EntriesView). v.log) c.stage_line.ensures.stages) roomier in
    record { stands = stands_staged site.told shown images c.stage_line.new.self.log c.stage_line-2.new.self.log (spelled_line c.args.second.now) (ap (λ (v : EntriesView). v.log) c.stage_line-2.ensures.stages) one }
