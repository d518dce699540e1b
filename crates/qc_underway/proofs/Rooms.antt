-- Room for effects, and for calls, that are left.
use Rattle.std.proofs.Common.{◌≡◌, ◌∙◌, ℕ, suc, ◌+◌, List, [], ◌∷◌, ◌++◌, length, drop, Some, slice_get, refl, sym, ap, subst, arith}
use Rattle.std.specs.Prelude.{◌-◌}
use Rattle.qc_entries.specs.Entries.{EntriesView}
use Rattle.qc_catalogue.specs.declared.catalogue.Catalogue.{Catalogue}
use Rattle.qc_play.specs.declared.effect.Effect.{Effect}
use Rattle.qc_play.specs.Play.{Play, Ran, ran, failed_at, run_call}
use Rattle.qc_txn.specs.Attempt.{AttemptView, RunsCall}
use Rattle.qc_txn.specs.Parts.{Part, parts_of}
use Rattle.qc_txn.proofs.PartsAt.{drop_at}
use Rattle.crm_clerk.specs.Clerk.{ClerkView}
use Rattle.qc_underway.specs.Standing.{HasRoom, HasRoomForAll, HasRoomLeft, LeavesRoom, clerk_by, clerk_by_all, lines_by, lines_by_all, lines_left, room_by_all, room_left}

-- behind so much that was taken

pub room-behind : (taken more n m : ℕ) (old new : ClerkView) (log later : EntriesView) → HasRoom (taken + more) (n + m) old log → new.room ≡ old.room - taken → LeavesRoom n log later → HasRoom more m new later
room-behind taken more n m old new log later has is leaves = record {
  clerks = omega (arith, has.clerks, is);
  logs = record {
    ended = leaves.ended ∙ has.logs.ended;
    room = omega (arith, has.logs.room, leaves.room);
    fits = omega (arith, has.logs.fits, leaves.fits);
  };
}

pub room-front : (taken more n m : ℕ) (clerk : ClerkView) (log : EntriesView) → HasRoom (taken + more) (n + m) clerk log → HasRoom taken n clerk log
room-front taken more n m clerk log has = record {
  clerks = omega (arith, has.clerks);
  logs = record { ended = has.logs.ended; room = omega (arith, has.logs.room); fits = omega (arith, has.logs.fits) };
}

-- effects one after another

pub attempt-all : (c : Catalogue) (clerk : ClerkView) (es : List Effect) → (clerk_by_all c clerk es).attempt ≡ clerk.attempt
attempt-all c clerk [] = refl
attempt-all c clerk (e ∷ es) = attempt-all c (clerk_by c clerk e) es

pub id-all : (c : Catalogue) (clerk : ClerkView) (es : List Effect) → (clerk_by_all c clerk es).id ≡ clerk.id
id-all c clerk [] = refl
id-all c clerk (e ∷ es) = id-all c (clerk_by c clerk e) es

pub room-all : (c : Catalogue) (clerk : ClerkView) (es : List Effect) → (clerk_by_all c clerk es).room ≡ clerk.room - room_by_all c clerk es
room-all c clerk [] = omega arith
room-all c clerk (e ∷ es) = omega (arith, room-all c (clerk_by c clerk e) es)

pub clerk-push : (c : Catalogue) (clerk : ClerkView) (es : List Effect) (e : Effect) → clerk_by_all c clerk (es ++ e ∷ []) ≡ clerk_by c (clerk_by_all c clerk es) e
clerk-push c clerk [] e = refl
clerk-push c clerk (x ∷ es) e = clerk-push c (clerk_by c clerk x) es e

pub lines-push : (c : Catalogue) (clerk : ClerkView) (es : List Effect) (e : Effect) → lines_by_all c clerk (es ++ e ∷ []) ≡ lines_by_all c clerk es + length (lines_by c (clerk_by_all c clerk es) e)
lines-push c clerk [] e = omega arith
lines-push c clerk (x ∷ es) e = omega (arith, lines-push c (clerk_by c clerk x) es e)

-- the next call

module _ (c : Catalogue) (p : Part) (parts : List Part) (play next : Play) (clerk : ClerkView) (runs : run_call p.script p.args play ≡ ran next) where
  abbrev after : ClerkView
  after = clerk_by_all c clerk next.effects

  lines-next : lines_left c (p ∷ parts) play clerk ≡ lines_by_all c clerk next.effects + lines_left c parts next after
  lines-next =
      let left : Ran → ℕ = λ r. elim r [
        | ran next ↦ lines_by_all c clerk next.effects + lines_left c parts next (clerk_by_all c clerk next.effects)
        | failed_at step ↦ 0
      ] in
      ap left runs

  room-next : room_left c (p ∷ parts) play clerk ≡ room_by_all c clerk next.effects + room_left c parts next after
  room-next =
      let left : Ran → ℕ = λ r. elim r [
        | ran next ↦ room_by_all c clerk next.effects + room_left c parts next (clerk_by_all c clerk next.effects)
        | failed_at step ↦ 0
      ] in
      ap left runs

module _ (c : Catalogue) (p : Part) (old new : AttemptView) (number : ℕ) (clerk : ClerkView) (log : EntriesView)
    (at : slice_get (parts_of c old.recording old.kind) old.calls ≡ Some p) (runs : RunsCall p old new number) (has : HasRoomLeft c old clerk log) where
  abbrev parts : List Part
  parts = parts_of c old.recording old.kind

  abbrev rest : List Part
  rest = drop (suc old.calls) parts

  split : HasRoom (room_by_all c clerk new.play.effects + room_left c rest new.play (clerk_by_all c clerk new.play.effects))
      (lines_by_all c clerk new.play.effects + lines_left c rest new.play (clerk_by_all c clerk new.play.effects)) clerk log
  split =
      let here = drop_at parts old.calls p at in
      let lines = ap (λ (l : List Part). lines_left c l old.play clerk) here ∙ lines-next c p rest old.play new.play clerk runs.play in
      let room = ap (λ (l : List Part). room_left c l old.play clerk) here ∙ room-next c p rest old.play new.play clerk runs.play in
      subst (λ (n : ℕ). HasRoom n (lines_by_all c clerk new.play.effects + lines_left c rest new.play (clerk_by_all c clerk new.play.effects)) clerk log) room
      (subst (λ (n : ℕ). HasRoom (room_left c (drop old.calls parts) old.play clerk) n clerk log) lines has)

  pub room-for-call : HasRoomForAll c new.play.effects clerk log
  room-for-call =
      room-front (room_by_all c clerk new.play.effects) (room_left c rest new.play (clerk_by_all c clerk new.play.effects)) (lines_by_all c clerk new.play.effects) (lines_left c rest new.play (clerk_by_all c clerk new.play.effects)) clerk log split

  pub room-behind-call : (done : ClerkView) (later : EntriesView) → done ≡ clerk_by_all c clerk new.play.effects → LeavesRoom (lines_by_all c clerk new.play.effects) log later → HasRoomLeft c new done later
  room-behind-call done later is leaves =
      let next : ClerkView = clerk_by_all c clerk new.play.effects in
      let left = room-behind (room_by_all c clerk new.play.effects) (room_left c rest new.play next) (lines_by_all c clerk new.play.effects) (lines_left c rest new.play next) clerk next log later split (room-all c clerk new.play.effects) leaves in
      let same : parts_of c new.recording new.kind ≡ parts = ap (λ (a : AttemptView). parts_of c a.recording a.kind) runs.kept in
      let calls : suc old.calls ≡ new.calls = omega (arith, ap (λ (a : AttemptView). a.calls) runs.kept) in
      let P : List Part → ClerkView → Type 0 = λ l k. HasRoom (room_left c l new.play k) (lines_left c l new.play k) k later in
      subst (λ (k : ClerkView). P (drop new.calls (parts_of c new.recording new.kind)) k) (sym is)
      (subst (λ (l : List Part). P (drop new.calls l) next) (sym same) (subst (λ (n : ℕ). P (drop n parts) next) calls left))
