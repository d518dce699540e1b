-- The groups of a file are spelled by one list of lists of entries.
use Rattle.std.proofs.Common.{◌≡◌, ◌<◌, ◌≤◌, ◌^◌, ◌+◌, ℕ, zero, suc, List, [], ◌∷◌, ◌++◌, length, take, drop, map, Bool, true, false, cond, ◌==◌, nat_le, refl, sym, ◌∙◌, ap, subst, arith, length-append, All}
use Rattle.std.specs.List.{flat_map}
use Rattle.std.proofs.lemmas.Bool.{and_parts, leb-true}
use Rattle.std.proofs.lemmas.List.{length-take, map-append}
use Rattle.std.proofs.lemmas.List.Elements.{All-nil, All-cons, All-head, All-tail, All-push}
use Rattle.qc_site.specs.Image.{Image, bytes_of}
use Rattle.qc_frame.specs.Frame.{size_at, is_open, groups_past, groups_at, groups, entry, IsEntries}
use Rattle.qc_frame.specs.Log.{LogView, Spelled, WholeFrom, Whole, SameLog, DamagedBehind}
use Rattle.qc_frame.proofs.Payload.{entries_alone, length-entry}

pub groups_short : (n : ℕ) (file : List ℕ) → All (λ p. length p < 2 ^ 32) (groups_past n file)
groups_short n [] = All-nil (λ p. length p < 2 ^ 32)
groups_short (suc n) (b ∷ rest) = groups_short n rest
groups_short zero (gate ∷ rest) = by_gate (groups_short (size_at rest + 4) rest) (is_open gate rest) refl
  where
    first_short : is_open gate rest ≡ true → length (take (size_at rest) (drop 4 rest)) < 2 ^ 32
    first_short opens =
        let most = (and_parts (nat_le (size_at rest) 33554432) _ ((and_parts (nat_le 1 (size_at rest)) _ ((and_parts (gate == 1) _ opens).1)).1)).0 in
        omega (arith, length-take (size_at rest) (drop 4 rest), leb-true (size_at rest) 33554432 most)

    by_gate : All (λ p. length p < 2 ^ 32) (groups_past (size_at rest + 4) rest) → (b : Bool) → is_open gate rest ≡ b → All (λ p. length p < 2 ^ 32) (cond b (take (size_at rest) (drop 4 rest) ∷ groups_past (size_at rest + 4) rest) [])
    by_gate more true opens = All-cons (λ p. length p < 2 ^ 32) (take (size_at rest) (drop 4 rest)) (groups_past (size_at rest + 4) rest) (first_short opens) more
    by_gate more false shut = All-nil (λ p. length p < 2 ^ 32)

-- lists with the same payloads are the same
pub lists_alone : (xs ys : List (List (List ℕ))) → All (λ p. length p < 2 ^ 32) (map (λ entries. flat_map entry entries) ys) → map (λ entries. flat_map entry entries) xs ≡ map (λ entries. flat_map entry entries) ys → xs ≡ ys
lists_alone [] [] short same = refl
lists_alone [] (y ∷ ys) short same = absurd (omega (arith, ap length same))
lists_alone (x ∷ xs) [] short same = absurd (omega (arith, ap length same))
lists_alone (x ∷ xs) (y ∷ ys) short same =
    let head : flat_map entry x ≡ flat_map entry y = cc in
    let tail : map (λ (entries : List (List ℕ)). flat_map entry entries) xs ≡ map (λ (entries : List (List ℕ)). flat_map entry entries) ys = cc in
    let first = entries_alone x y (All-head (λ p. length p < 2 ^ 32) (flat_map entry y) (map (λ entries. flat_map entry entries) ys) short) head in
    let rest = lists_alone xs ys (All-tail (λ p. length p < 2 ^ 32) (flat_map entry y) (map (λ entries. flat_map entry entries) ys) short) tail in
    λ i. first i ∷ rest i

pub spelled_alone : (payloads : List (List ℕ)) (xs ys : List (List (List ℕ))) → All (λ p. length p < 2 ^ 32) payloads → Spelled payloads xs → Spelled payloads ys → xs ≡ ys
spelled_alone payloads xs ys short first second = lists_alone xs ys (subst (λ (l : List (List ℕ)). All (λ p. length p < 2 ^ 32) l) second.0 short) (sym first.0 ∙ second.0)

-- one group more
pub spelled_more : (payloads : List (List ℕ)) (lists : List (List (List ℕ))) (entries : List (List ℕ)) → Spelled payloads lists → All (λ e. 1 ≤ length e) entries → Spelled (payloads ++ flat_map entry entries ∷ []) (lists ++ entries ∷ [])
spelled_more payloads lists entries spelled some = (
  ap (λ (l : List (List ℕ)). l ++ flat_map entry entries ∷ []) spelled.0 ∙ sym (map-append (λ (e : List (List ℕ)). flat_map entry e) lists (entries ∷ [])),
  All-push (λ entries. All (λ e. 1 ≤ length e) entries) lists entries spelled.1 some,
)

pub flat_some : (entries : List (List ℕ)) → 1 ≤ length entries → 1 ≤ length (flat_map entry entries)
flat_some [] any = absurd (omega arith)
flat_some (e ∷ entries) any = omega (arith, length-append (entry e) (flat_map entry entries), length-entry e)

-- the groups of a file that has one group more
all_groups : (old new : List ℕ) (entries : List (List ℕ)) → Whole (flat_map entry entries) old new → groups_at new 16 ≡ groups old ++ flat_map entry entries ∷ []
all_groups old new entries whole = whole.more

-- what is read of a file that has one group more
pub read_back : (old new : List ℕ) (entries : List (List ℕ)) (before lists : List (List (List ℕ))) → Whole (flat_map entry entries) old new → All (λ e. 1 ≤ length e) entries → Spelled (groups old) before → Spelled (groups_at new 16) lists → lists ≡ before ++ entries ∷ []
read_back old new entries before lists whole some had read =
    let all = all_groups old new entries whole in
    let short = subst (λ (l : List (List ℕ)). All (λ p. length p < 2 ^ 32) l) whole.more (groups_short zero (drop 16 new)) in
    spelled_alone (groups old ++ flat_map entry entries ∷ []) lists (before ++ entries ∷ []) short (subst (λ (l : List (List ℕ)). Spelled l lists) all read) (spelled_more (groups old) before entries had some)

-- where the groups are spelled, none of them is no list of entries
pub spelled_none : (payloads : List (List ℕ)) (payload : List ℕ) (rest : List (List ℕ)) (lists : List (List (List ℕ))) → Spelled (payloads ++ payload ∷ rest) lists → ((entries : List (List ℕ)) → ¬ IsEntries entries payload) → ⊥
spelled_none [] payload rest [] spelled none = absurd (omega (arith, ap length spelled.0))
spelled_none [] payload rest (x ∷ lists) spelled none =
    let is = spelled.0 in
    let first : payload ≡ flat_map entry x = cc in
    none x (first, All-head (λ entries. All (λ e. 1 ≤ length e) entries) x lists spelled.1)
spelled_none (p ∷ payloads) payload rest [] spelled none = absurd (omega (arith, ap length spelled.0))
spelled_none (p ∷ payloads) payload rest (x ∷ lists) spelled none =
    let is = spelled.0 in
    let more : payloads ++ payload ∷ rest ≡ map (λ (entries : List (List ℕ)). flat_map entry entries) lists = cc in
    spelled_none payloads payload rest lists (more, All-tail (λ entries. All (λ e. 1 ≤ length e) entries) x lists spelled.1) none

-- so none is found damaged
pub never_damaged : (old new : List ℕ) (entries : List (List ℕ)) (before : List (List (List ℕ))) (at : ℕ) → Whole (flat_map entry entries) old new → All (λ e. 1 ≤ length e) entries → Spelled (groups old) before → DamagedBehind new 16 at → ⊥
never_damaged old new entries before at whole some had found =
    let rest = groups_at new (found.place + 5 + length found.damage.payload) in
    let is : groups old ++ flat_map entry entries ∷ [] ≡ found.read.payloads ++ found.damage.payload ∷ rest
    = sym (all_groups old new entries whole) ∙ found.read.led ∙ ap (λ (l : List (List ℕ)). found.read.payloads ++ l) found.damage.next in
    spelled_none found.read.payloads found.damage.payload rest (before ++ entries ∷ []) (subst (λ (l : List (List ℕ)). Spelled l (before ++ entries ∷ [])) is (spelled_more (groups old) before entries had some)) found.damage.stops.none

-- what waits once the entries are staged
pub waiting : (log now : LogView) (entries : List (List ℕ)) (spare : ℕ) → now ≡ record log { payload = log.payload ++ flat_map entry entries; spare = spare } → log.payload ≡ [] → now.payload ≡ flat_map entry entries
waiting log now entries spare is waits = ap (λ (l : LogView). l.payload) is ∙ ap (λ (l : List ℕ). l ++ flat_map entry entries) waits

pub some_wait : (log now : LogView) (entries : List (List ℕ)) (spare : ℕ) → now ≡ record log { payload = log.payload ++ flat_map entry entries; spare = spare } → log.payload ≡ [] → 1 ≤ length entries → 0 < length now.payload
some_wait log now entries spare is waits any = omega (arith, ap length (waiting log now entries spare is waits), flat_some entries any)

-- and the group that they are once they are forced
pub made_whole : (log now : LogView) (entries : List (List ℕ)) (spare : ℕ) (old new : Image) → now ≡ record log { payload = log.payload ++ flat_map entry entries; spare = spare } → log.start ≡ 16 → log.payload ≡ [] → WholeFrom now.start now.payload (bytes_of now.file old) (bytes_of now.file new) → Whole (flat_map entry entries) (bytes_of log.file old) (bytes_of log.file new)
made_whole log now entries spare old new is start waits whole =
    subst (λ n. WholeFrom n (flat_map entry entries) (bytes_of log.file old) (bytes_of log.file new)) (ap (λ (l : LogView). l.start) is ∙ start) (
    subst (λ f. WholeFrom now.start (flat_map entry entries) (bytes_of f old) (bytes_of f new)) (ap (λ (l : LogView). l.file) is) (
    subst (λ (p : List ℕ). WholeFrom now.start p (bytes_of now.file old) (bytes_of now.file new)) (waiting log now entries spare is waits) whole))

-- also where the file is read on without a change of its groups
pub whole_still : (payload old mid new : List ℕ) → Whole payload old mid → SameLog mid new → Whole payload old new
whole_still payload old mid new whole same = record { front = same.front ∙ whole.front; more = same.same ∙ whole.more }
