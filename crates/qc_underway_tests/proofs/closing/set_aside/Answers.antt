use Rattle.std.proofs.Common.{◌≡◌, ◌∙◌, ◌≤◌, ◌+◌, ◌*◌, ℕ, List, length, max, Bool, true, sym, ap, arith}
use Rattle.std.specs.Prelude.{sum_by}
use Rattle.std.specs.List.{list_all}
use Rattle.qc_base.specs.LogLines.{Registration}
use Rattle.qc_frame.specs.Log.{LogView}
use Rattle.qc_entries.specs.Entries.{EntriesView}
use Rattle.qc_underway.specs.Compensators.{all_records, registered_by}
use Rattle.qc_underway.proofs.Made.{can-hear-made, is_made}
use Rattle.qc_underway_tests.proofs.Pairs.{all-pairs, length-pairs, pair_count, pairs_of, sum-pairs}
use Rattle.qc_underway_tests.proofs.closing.set_aside.Goals as goal

pub returns : goal.returns
returns c =
    let catalogue = c.args.catalogue.now in
    let names = c.args.names.now in
    let clerk = c.args.clerk.now in
    let old = c.args.log.now in
    let new = c.reserve.new.self in
    let regs = registered_by clerk in
    let records = c.in_ok-records.records in
    let pairs = c.registered-registered.result.now in
    let are : pairs ≡ pairs_of regs = c.registered-registered.ensures in
    let sum : records ≡ all_records clerk = c.in_ok-records.ensures ∙ ap (sum_by (pair_count clerk)) are ∙ sum-pairs clerk regs in
    let ours : list_all (λ (r : Registration). is_made catalogue names r.resource) regs ≡ true
    = sym (ap (list_all (λ (p : List ℕ × ℕ). is_made catalogue names p.0)) are ∙ all-pairs catalogue names regs) ∙ sym c.are_ours.ensures ∙ c.if-not-are_ours.false in
    let log_is : new.log ≡ record old.log { spare = max old.log.spare (132 * (records + 1)) } = ap (λ (v : EntriesView). v.log) c.in-Ok-reserve.ensures.ok in
    let few : records ≤ 64 = omega (arith, c.if-records-gt64.false) in
    record {
      hears = can-hear-made catalogue names records (length pairs) c.in-Ok.told c.in-Ok-room_for_notices.notices clerk c.in-Ok.ensures.kept c.in-Ok.ensures.forget
          c.in-Ok-room_for_notices.ensures.0 c.in-Ok-room_for_notices.ensures.1 (omega (arith, sum)) (omega (arith, ap length are, length-pairs regs)) ours;
      room = record {
        ended = ap (λ (l : LogView). l.ended) log_is ∙ c.requires.ended;
        room = omega (arith, sum, ap (λ (l : LogView). l.spare) log_is);
        fits = omega (arith, sum, few, ap (λ (l : LogView). length l.payload) log_is, ap length c.requires.nothing);
      };
      spare = max old.log.spare (132 * (records + 1));
      same = c.in-Ok-reserve.ensures.ok;
    }
