use Rattle.std.proofs.Common.{◌≡◌, ◌+◌, ◌≤◌, ◌<◌, suc, length, drop, slice_get, rules, subst, sym, ap, ◌∙◌, Some, None, arith}
use Rattle.qc_script.specs.Naming.{effects}
use Rattle.qc_txn.specs.Attempt.{AttemptView, PlaysBy, count_of, effects_in}
use Rattle.qc_txn.specs.Parts.{parts_of}
use Rattle.qc_txn.specs.Played.{part_of}
use Rattle.qc_txn.proofs.PartsAt.{count_is, effects_at, nothing_at, plays_on}
use Rattle.qc_txn.proofs.attempt.Attempt.run_next.Goals as goal

pub returns-in_default-clause-ran : goal.returns-in_default-clause-ran
returns-in_default-clause-ran c =
    let none : slice_get (parts_of c.args.catalogue.now c.args.self.now.recording c.args.self.now.kind) c.args.self.now.calls ≡ None = search rules in
    let all = count_is c.args.catalogue.now c.args.self.now.recording c.args.self.now.kind c.requires.plays.playable in
    let count : c.args.self.now.count ≡ count_of c.args.self.now.recording c.args.self.now.kind = subst (λ (a : AttemptView). a.count ≡ count_of a.recording a.kind) c.self.view_is c.self.invariant.all in
    let left : c.args.self.now.calls < c.args.self.now.count = search rules in
    let less : c.args.self.now.calls < length (parts_of c.args.catalogue.now c.args.self.now.recording c.args.self.now.kind) = omega (arith, all, count, left) in
    absurd (nothing_at (parts_of c.args.catalogue.now c.args.self.now.recording c.args.self.now.kind) c.args.self.now.calls none less)

pub run_call-requires : goal.run_call-requires
run_call-requires c =
    let parts = parts_of c.args.catalogue.now c.args.self.now.recording c.args.self.now.kind in
    let here_is : slice_get parts c.args.self.now.calls ≡ Some (part_of c.in-Some.part) = subst (λ (a : AttemptView). slice_get (parts_of c.args.catalogue.now a.recording a.kind) a.calls ≡ Some (part_of c.in-Some.part)) c.self.view_is (sym c.in-Some.ensures) in
    let next = effects_at parts c.args.self.now.calls (part_of c.in-Some.part) here_is in
    let room = c.requires.plays.room in
    let same = ap (λ (a : AttemptView). a.room) c.self.view_is in
    omega (arith, next, room, same)

pub returns-in-Ok-clause-plays : goal.returns-in-Ok-clause-plays
returns-in-Ok-clause-plays c =
    let plays = subst (λ (a : AttemptView). PlaysBy c.args.catalogue.now a) (sym c.self.view_is) c.requires.plays in
    plays_on c.args.catalogue.now _ (part_of c.in-Some.part) _ _ _ plays (sym c.in-Some.ensures) c.in-Ok.ensures.room
