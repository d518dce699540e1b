-- The entries that are left of a group.
use Rattle.std.proofs.Common.{◌≡◌, ℕ, zero, ◌+◌, ◌≤◌, List, [], ◌∷◌, Bool, true, false, cond, ◌==◌, nat_le, length, take, drop, get_or, refl, ap, arith}
use Rattle.std.proofs.lemmas.List.{length-take-le, length-drop}
use Rattle.std.proofs.lemmas.Bool.{and_parts, leb-true}
use Rattle.qc_frame.specs.Frame.{groups_past, is_open, size_at}
use Rattle.qc_frame.specs.declared.entries.Entry.{Entry}
use Rattle.qc_frame.specs.Log.{LogView, NextGroup}

-- what an open gate says of the bytes behind it
opened : (gate : ℕ) (rest : List ℕ) → is_open gate rest ≡ true → (1 ≤ size_at rest) × (size_at rest + 5 ≤ length rest)
opened gate rest h =
    let size = size_at rest in
    let a = and_parts (gate == 1) _ h in
    let b = and_parts (nat_le 1 size) _ a.1 in
    let c = and_parts (nat_le size 33554432) (nat_le (size + 5) (length rest)) b.1 in
    (leb-true 1 size b.0, leb-true (size + 5) (length rest) c.1)

-- no payload of an open group is empty
pub payload_some : (bytes payload : List ℕ) (more : List (List ℕ)) → groups_past zero bytes ≡ payload ∷ more → 1 ≤ length payload
payload_some [] payload more e = absurd (omega (arith, ap length e))
payload_some (gate ∷ rest) payload more e = by (is_open gate rest) refl e
  where
    by : (b : Bool) → is_open gate rest ≡ b → cond b (take (size_at rest) (drop 4 rest) ∷ groups_past (size_at rest + 4) rest) [] ≡ payload ∷ more → 1 ≤ length payload
    by false h e = absurd (omega (arith, ap length e))
    by true h e =
        let first : take (size_at rest) (drop 4 rest) ≡ payload = ap (λ (l : List (List ℕ)). get_or l 0 []) e in
        let facts = opened gate rest h in
        omega (arith, ap length first, facts.0, facts.1, length-drop 4 rest, length-take-le (size_at rest) (drop 4 rest) (omega (arith, facts.1, length-drop 4 rest)))

-- so a group has an entry
pub group_some : (file : List ℕ) (old new : LogView) (at : ℕ) (entries : List Entry) → NextGroup file old new at entries → 1 ≤ length entries
group_some file old new at [] group =
    let none : group.payload ≡ [] = group.spelled.spelled.0 in
    absurd (omega (arith, ap length none, payload_some (drop old.place file) group.payload _ group.next))
group_some file old new at (e ∷ entries) group = omega arith
