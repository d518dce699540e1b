use Rattle.std.proofs.Common.{◌≡◌, ◌+◌, ◌++◌, ◌∷◌, [], List, ℕ, length, max, ap, ◌∙◌, rules, arith, length-append}
use Rattle.std.specs.List.{flat_map}
use Rattle.qc_frame.specs.Frame.{entry}
use Rattle.qc_frame.specs.Log.{LogView}
use Rattle.qc_frame.proofs.Payload.{length-entry}
use Rattle.qc_frame.proofs.Staged.{stands_reserved}
use Rattle.qc_frame_tests.proofs.add_and_read.Goals as goal

two_long : (entries : List (List ℕ)) (first second : List ℕ) → entries ≡ first ∷ second ∷ [] → length (flat_map entry entries) ≡ length first + length second + 8
two_long entries first second is =
    ap (λ (l : List (List ℕ)). length (flat_map entry l)) is ∙ omega (arith, length-append (entry first) (entry second ++ []), length-append (entry second) [], length-entry first, length-entry second)

pub force_and_read-requires-clause-stands : goal.force_and_read-requires-clause-stands
force_and_read-requires-clause-stands g c =
    let site = g.S.Site in
    let now = c.open_at_end.new.site in
    let log : LogView = c.in_ok-log.log in
    stands_reserved site.told (site.shown now) (site.may_leave now) log c.reserve.new.self (max log.spare (length c.args.first.now + length c.args.second.now + 8)) c.in_ok-reserve.ensures.ok c.in_ok-log.ensures.stands

pub force_and_read-requires-clause-can : goal.force_and_read-requires-clause-can
force_and_read-requires-clause-can g c =
    let items : c.deref.result.now ≡ c.args.first.now ∷ c.args.second.now ∷ [] = search rules in
    let long = two_long c.deref.result.now c.args.first.now c.args.second.now items in
    record {
      whole = ap (λ (l : LogView). l.start) c.in_ok-reserve.ensures.ok ∙ c.in_ok-log.ensures.whole.1;
      ended = search rules;
      waits = search rules;
      any = search rules;
      some = search rules;
      room = omega (arith, long, ap (λ (l : LogView). l.spare) c.in_ok-reserve.ensures.ok);
      fits = omega (arith, long, c.requires.fit.0, c.requires.fit.1);
    }
