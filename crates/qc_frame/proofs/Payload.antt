-- How entries fill a payload.
use Rattle.std.proofs.Common.{◌≡◌, ◌⊎◌, ⊎_elim, ℕ, zero, suc, ◌+◌, ◌^◌, ◌<◌, ◌≤◌, List, [], ◌∷◌, ◌++◌, length, take, drop, get_or, refl, sym, ◌∙◌, ap, subst, arith, append_assoc, length-append, take-append-drop, All, rules}
use Rattle.std.specs.List.{flat_map}
use Rattle.std.specs.Int.{w32, from_be_bytes}
use Rattle.std.proofs.lemmas.List.{take_at, drop_at, drop-take, take-take, append-nil, length-take, length-take-le, length-drop, get_or-take, get_or-drop, get_or_past}
use Rattle.std.proofs.lemmas.Bool.{cases_lt}
use Rattle.std.proofs.lemmas.List.Elements.{All-push}
use Rattle.std.proofs.lemmas.Nat.{be_bytes_4}
use Rattle.qc_frame.specs.Frame.{size_at, size_bytes, entry, NoEntry, offsets, EntriesAt, StopsBefore}
use Rattle.qc_frame.proofs.Groups.{size_at-size_bytes, length-size_bytes}

small_front : (bytes : List ℕ) → ((i : ℕ) → i < 4 → get_or bytes i 0 < 256) → (i : ℕ) → get_or (take 4 bytes) i 0 < 256
small_front bytes small i = ⊎_elim
    (λ (lt : i < 4). subst (λ b. b < 256) (sym (get_or-take 4 bytes i 0 lt)) (small i lt))
    (λ (ge : 4 ≤ i). subst (λ b. b < 256) (sym (get_or_past (take 4 bytes) i 0 (omega (arith, length-take 4 bytes, ge)))) (omega arith))
    (cases_lt i 4)

-- the length in front of bytes is those four bytes
pub size_bytes-size_at : (bytes : List ℕ) → 4 ≤ length bytes → ((i : ℕ) → i < 4 → get_or bytes i 0 < 256) → size_bytes (size_at bytes) ≡ take 4 bytes
unfolding size_at size_bytes
size_bytes-size_at bytes long small = be_bytes_4 (take 4 bytes) (from_be_bytes w32 (take 4 bytes)) (length-take-le 4 bytes long) (small_front bytes small) refl

pub length-entry : (bytes : List ℕ) → length (entry bytes) ≡ 4 + length bytes
length-entry bytes = omega (arith, length-append (size_bytes (length bytes)) bytes, length-size_bytes (length bytes))

size_at-entry : (bytes rest : List ℕ) → length bytes < 2 ^ 32 → size_at (entry bytes ++ rest) ≡ length bytes
size_at-entry bytes rest few = ap size_at (append_assoc (size_bytes (length bytes)) bytes rest) ∙ size_at-size_bytes (length bytes) (bytes ++ rest) few

-- entries are spelled in one way only, so what stops before an end isn't spelled by others
pub none_fits : (entries others : List (List ℕ)) (rest : List ℕ) → 1 ≤ length rest → NoEntry rest → length (flat_map entry others) < 2 ^ 32 → All (λ e. 1 ≤ length e) others → flat_map entry entries ++ rest ≡ flat_map entry others → ⊥
none_fits [] [] rest some unfit few all is = absurd (omega (arith, ap length is, some))
none_fits [] (f ∷ others) rest some unfit few all is =
    let long : length rest ≡ 4 + length f + length (flat_map entry others) = ap length is ∙ length-append (entry f) (flat_map entry others) ∙ omega (arith, length-entry f) in
    let fits : length f < 2 ^ 32 = omega (arith, few, long, length-append (entry f) (flat_map entry others), length-entry f) in
    let size : size_at rest ≡ length f = ap size_at is ∙ size_at-entry f (flat_map entry others) fits in
    let one : 1 ≤ length f = all zero [] (omega arith) in
    ⊎_elim (λ (short : length rest < 4). absurd (omega (arith, short, long))) (λ (two : (size_at rest ≡ 0) ⊎ (length rest < size_at rest + 4)). ⊎_elim (λ (none : size_at rest ≡ 0). absurd (omega (arith, none, size, one))) (λ (past : length rest < size_at rest + 4). absurd (omega (arith, past, size, long))) two) unfit
none_fits (e ∷ entries) [] rest some unfit few all is = absurd (omega (arith, ap length is, some, length-append (flat_map entry (e ∷ entries)) rest))
none_fits (e ∷ entries) (f ∷ others) rest some unfit few all is =
    let left : entry e ++ (flat_map entry entries ++ rest) ≡ entry f ++ flat_map entry others = sym (append_assoc (entry e) (flat_map entry entries) rest) ∙ is in
    let long : length (entry f ++ flat_map entry others) ≡ 4 + length f + length (flat_map entry others) = length-append (entry f) (flat_map entry others) ∙ omega (arith, length-entry f) in
    let long_e : length (entry f ++ flat_map entry others) ≡ 4 + length e + length (flat_map entry entries ++ rest) = ap length (sym left) ∙ length-append (entry e) (flat_map entry entries ++ rest) ∙ omega (arith, length-entry e) in
    let same : length e ≡ length f = sym (size_at-entry e (flat_map entry entries ++ rest) (omega (arith, few, long_e))) ∙ ap size_at left ∙ size_at-entry f (flat_map entry others) (omega (arith, few, long)) in
    let tail : flat_map entry entries ++ rest ≡ flat_map entry others =
    sym (drop_at (entry e) (flat_map entry entries ++ rest) (4 + length e) (length-entry e)) ∙ ap (λ (l : List ℕ). drop (4 + length e) l) left ∙ drop_at (entry f) (flat_map entry others) (4 + length e) (omega (arith, length-entry f, same)) in
    none_fits entries others rest some unfit (omega (arith, few, long)) (λ k d lt. all (suc k) d (omega (arith, lt))) tail

-- a payload is spelled by one list of entries only
pub entries_alone : (entries others : List (List ℕ)) → length (flat_map entry others) < 2 ^ 32 → flat_map entry entries ≡ flat_map entry others → entries ≡ others
entries_alone [] [] few is = refl
entries_alone [] (f ∷ others) few is = absurd (omega (arith, ap length is, length-append (entry f) (flat_map entry others), length-entry f))
entries_alone (e ∷ entries) [] few is = absurd (omega (arith, ap length is, length-append (entry e) (flat_map entry entries), length-entry e))
entries_alone (e ∷ entries) (f ∷ others) few is =
    let long : length (entry f ++ flat_map entry others) ≡ 4 + length f + length (flat_map entry others) = length-append (entry f) (flat_map entry others) ∙ omega (arith, length-entry f) in
    let long_e : length (entry f ++ flat_map entry others) ≡ 4 + length e + length (flat_map entry entries) = ap length (sym is) ∙ length-append (entry e) (flat_map entry entries) ∙ omega (arith, length-entry e) in
    let same : length e ≡ length f = sym (size_at-entry e (flat_map entry entries) (omega (arith, few, long_e))) ∙ ap size_at is ∙ size_at-entry f (flat_map entry others) (omega (arith, few, long)) in
    let tail : flat_map entry entries ≡ flat_map entry others =
    sym (drop_at (entry e) (flat_map entry entries) (4 + length e) (length-entry e)) ∙ ap (λ (l : List ℕ). drop (4 + length e) l) is ∙ drop_at (entry f) (flat_map entry others) (4 + length e) (omega (arith, length-entry f, same)) in
    let front : entry e ≡ entry f =
    sym (take_at (entry e) (flat_map entry entries) (4 + length e) (length-entry e)) ∙ ap (λ (l : List ℕ). take (4 + length e) l) is ∙ take_at (entry f) (flat_map entry others) (4 + length e) (omega (arith, length-entry f, same)) in
    let head : e ≡ f = sym (drop_at (size_bytes (length e)) e 4 (length-size_bytes (length e))) ∙ ap (λ (l : List ℕ). drop 4 l) front ∙ drop_at (size_bytes (length f)) f 4 (length-size_bytes (length f)) in
    let rest = entries_alone entries others (omega (arith, few, long)) tail in
    λ i. head i ∷ rest i

pub flat_map-entry : (entries : List (List ℕ)) (e : List ℕ) → flat_map entry (entries ++ e ∷ []) ≡ flat_map entry entries ++ entry e
flat_map-entry [] e = append-nil (entry e)
flat_map-entry (f ∷ entries) e = ap (λ (l : List ℕ). entry f ++ l) (flat_map-entry entries e) ∙ sym (append_assoc (entry f) (flat_map entry entries) (entry e))

offsets-push : (at : ℕ) (entries : List (List ℕ)) (e : List ℕ) → offsets at (entries ++ e ∷ []) ≡ offsets at entries ++ (at + length (flat_map entry entries)) ∷ []
offsets-push at [] e = ap (λ n. n ∷ []) (omega arith)
offsets-push at (f ∷ entries) e = ap (λ (l : List ℕ). at ∷ l) (offsets-push (at + 4 + length f) entries e ∙ ap (λ n. offsets (at + 4 + length f) entries ++ n ∷ []) (omega (arith, length-append (entry f) (flat_map entry entries), length-entry f)))

all_push : (entries : List (List ℕ)) (e : List ℕ) → All (λ e. 1 ≤ length e) entries → 1 ≤ length e → All (λ e. 1 ≤ length e) (entries ++ e ∷ [])
all_push entries e all here = search (rules, All-push)

-- one entry more
pub entries_push : (at place size : ℕ) (places : List ℕ) (entries : List (List ℕ)) (payload bytes : List ℕ) → EntriesAt at places entries (take place payload) → place ≤ length payload
    → size ≡ size_at (drop place payload) → 1 ≤ size → size + 4 ≤ length (drop place payload) → ((i : ℕ) → get_or payload i 0 < 256) → bytes ≡ take size (drop 4 (drop place payload))
    → EntriesAt at (places ++ (at + place) ∷ []) (entries ++ bytes ∷ []) (take (place + (4 + size)) payload)
entries_push at place size places entries payload bytes so_far le is some inside small read =
    let rest = drop place payload in
    let long : length bytes ≡ size = ap length read ∙ length-take-le size (drop 4 rest) (omega (arith, length-drop 4 rest)) in
    let head : size_bytes (length bytes) ≡ take 4 rest = ap size_bytes (long ∙ is) ∙ size_bytes-size_at rest (omega (arith, inside)) (λ i lt. subst (λ b. b < 256) (sym (get_or-drop place payload i 0)) (small (place + i))) in
    let one : entry bytes ≡ take (4 + size) rest = (λ i. head i ++ read i) ∙ split (4 + size) rest in
    let front : take (place + (4 + size)) payload ≡ flat_map entry entries ++ entry bytes =
    sym (split2 place (4 + size) payload) ∙ (λ i. so_far.spelled.0 i ++ sym one i) in
    let there : length (flat_map entry entries) ≡ place = sym (ap length so_far.spelled.0) ∙ length-take-le place payload le in
    record {
      spelled = (front ∙ sym (flat_map-entry entries bytes), all_push entries bytes so_far.spelled.1 (omega (arith, long, some)));
      placed = (λ i. so_far.placed i ++ (at + sym there i) ∷ []) ∙ sym (offsets-push at entries bytes);
    }
  where
    split : (n : ℕ) (l : List ℕ) → take 4 l ++ take size (drop 4 l) ≡ take (4 + size) l
    split n l = ap (λ (m : List ℕ). take 4 l ++ m) (sym (drop-take 4 size l)) ∙ ap (λ (m : List ℕ). m ++ drop 4 (take (4 + size) l)) (sym (take-take 4 (4 + size) l (omega arith))) ∙ take-append-drop 4 (take (4 + size) l)

    split2 : (n m : ℕ) (l : List ℕ) → take n l ++ take m (drop n l) ≡ take (n + m) l
    split2 n m l = ap (λ (k : List ℕ). take n l ++ k) (sym (drop-take n m l)) ∙ ap (λ (k : List ℕ). k ++ drop n (take (n + m) l)) (sym (take-take n (n + m) l (omega arith))) ∙ take-append-drop n (take (n + m) l)

-- an entry that doesn't fit
pub stops : (at place n : ℕ) (places : List ℕ) (entries : List (List ℕ)) (payload : List ℕ) → EntriesAt at places entries (take place payload) → place < length payload → length payload < 2 ^ 32 → NoEntry (drop place payload) → n ≡ at + place → StopsBefore at n payload
stops at place n places entries payload so_far lt few unfit is =
    record {
      entries = entries;
      rest = drop place payload;
      front = take place payload;
      is = sym (take-append-drop place payload);
      spelled = so_far.spelled;
      there = is ∙ ap (λ m. at + m) (sym (length-take-le place payload (omega (arith, lt))));
      left = omega (arith, length-drop place payload, lt);
      unfit = unfit;
      none = λ others them. none_fits entries others (drop place payload) (omega (arith, length-drop place payload, lt)) unfit (omega (arith, ap length them.0, few)) them.1
          (ap (λ (l : List ℕ). l ++ drop place payload) (sym so_far.spelled.0) ∙ take-append-drop place payload ∙ them.0);
    }
