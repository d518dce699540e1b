-- No fact's spelling begins another, and how long one is.
use Rattle.std.proofs.Common.{◌≡◌, ℕ, ◌<◌, ◌≤◌, ◌*◌, List, ◌++◌, [], ◌∷◌, length, get_or, nat_le, nat_lt, Bool, true, false, ◌&&◌, refl, sym, ◌∙◌, ap, arith, append_assoc, length-append}
use Rattle.std.specs.List.{flat_map, list_all}
use Rattle.std.proofs.lemmas.Bool.{and_parts}
use Rattle.qc_base.specs.Names.{is_name, is_name_byte, is_letter}
use Rattle.qc_base.specs.Spelling.{short_bytes, two_bytes, four_bytes, eight_bytes, is_id, is_attempt, is_moment, is_between, kind_byte, flag_byte, spelled_recording, is_recording, is_recorded, spelled_fact, is_fact, IsPrefixFree}
use Rattle.qc_base.specs.declared.recording.Recording.{Recording}
use Rattle.qc_base.specs.declared.fact.Fact.{Fact}
use Rattle.qc_base.specs.declared.fact.Fact.TheVariants.{Catalogue, Sent, Played, Failed, Moved, Switched}
use Rattle.qc_base.specs.declared.fact.Kind.{Kind}
use Rattle.qc_base.specs.declared.fact.Kind.TheVariants.{Normal, Final}
use Rattle.qc_base.proofs.Bytes.{fronts_same, length-two_bytes, length-four_bytes, length-eight_bytes}
use Rattle.qc_base.proofs.PrefixFree.{short_bytes-free, two_bytes-free, four_bytes-free, eight_bytes-free, flat_map-free, recording-free}

-- parts one behind the other, from the left and from the right

pub two_parts : (a b x : List ℕ) → a ++ b ++ x ≡ a ++ (b ++ x)
two_parts a b x = append_assoc a b x

pub three_parts : (a b c x : List ℕ) → a ++ b ++ c ++ x ≡ a ++ (b ++ (c ++ x))
three_parts a b c x = simp append_assoc

pub four_parts : (a b c d x : List ℕ) → a ++ b ++ c ++ d ++ x ≡ a ++ (b ++ (c ++ (d ++ x)))
four_parts a b c d x = simp append_assoc

-- limits of numbers

pub id_below : (n : ℕ) → is_id n ≡ true → n < 18446744073709551616
id_below n h = grind (arith, h)

pub moment_below : (n : ℕ) → is_moment n ≡ true → n < 18446744073709551616
moment_below n h = grind (arith, h)

pub attempt_below : (n : ℕ) → is_attempt n ≡ true → n < 18446744073709551616
attempt_below n h =
    let low_high = and_parts (nat_le 1 n) (nat_le n 9223372036854775807) h in
    grind (arith, low_high.1)

pub id-free : IsPrefixFree is_id eight_bytes
id-free m n x y v w e = eight_bytes-free m n x y (id_below m v) (id_below n w) e

pub moment-free : IsPrefixFree is_moment eight_bytes
moment-free m n x y v w e = eight_bytes-free m n x y (moment_below m v) (moment_below n w) e

pub attempt-free : IsPrefixFree is_attempt eight_bytes
attempt-free m n x y v w e = eight_bytes-free m n x y (attempt_below m v) (attempt_below n w) e

pub kind-free : (k l : Kind) (x y : List ℕ) → kind_byte k ∷ x ≡ kind_byte l ∷ y → (k ≡ l) × (x ≡ y)
kind-free Normal Normal x y e = (refl, cc)
kind-free Final Final x y e = (refl, cc)
kind-free Normal Final x y e = absurd (omega (arith, ap (λ (l : List ℕ). get_or l 0 0) e))
kind-free Final Normal x y e = absurd (omega (arith, ap (λ (l : List ℕ). get_or l 0 0) e))

pub flag-free : (a b : Bool) (x y : List ℕ) → flag_byte a ∷ x ≡ flag_byte b ∷ y → (a ≡ b) × (x ≡ y)
flag-free true true x y e = (refl, cc)
flag-free false false x y e = (refl, cc)
flag-free true false x y e = absurd (omega (arith, ap (λ (l : List ℕ). get_or l 0 0) e))
flag-free false true x y e = absurd (omega (arith, ap (λ (l : List ℕ). get_or l 0 0) e))

-- one kind of fact each

catalogue-free : (a b x y : List ℕ) → is_fact (Catalogue a) ≡ true → is_fact (Catalogue b) ≡ true → spelled_fact (Catalogue a) ++ x ≡ spelled_fact (Catalogue b) ++ y → (Catalogue a ≡ Catalogue b) × (x ≡ y)
catalogue-free a b x y v w e =
    let tails : four_bytes (length a) ++ a ++ x ≡ four_bytes (length b) ++ b ++ y = cc in
    let whole = sym (two_parts (four_bytes (length a)) a x) ∙ tails ∙ two_parts (four_bytes (length b)) b y in
    let sizes = four_bytes-free (length a) (length b) (a ++ x) (b ++ y) (grind (arith, v)) (grind (arith, w)) whole in
    let texts = fronts_same a b x y sizes.0 sizes.1 in
    (ap Catalogue texts.0, texts.1)

sent-free : (i j s t : ℕ) (r q : Recording) (x y : List ℕ) → is_fact (Sent i s r) ≡ true → is_fact (Sent j t q) ≡ true → spelled_fact (Sent i s r) ++ x ≡ spelled_fact (Sent j t q) ++ y → (Sent i s r ≡ Sent j t q) × (x ≡ y)
sent-free i j s t r q x y v w e =
    let tails : eight_bytes i ++ eight_bytes s ++ two_bytes (length (spelled_recording r)) ++ spelled_recording r ++ x ≡ eight_bytes j ++ eight_bytes t ++ two_bytes (length (spelled_recording q)) ++ spelled_recording q ++ y = cc in
    let whole = sym (four_parts (eight_bytes i) (eight_bytes s) (two_bytes (length (spelled_recording r))) (spelled_recording r) x) ∙ tails ∙ four_parts (eight_bytes j) (eight_bytes t) (two_bytes (length (spelled_recording q))) (spelled_recording q) y in
    let in_v = and_parts (is_id i) (is_moment s && is_recording r) v in
    let in_w = and_parts (is_id j) (is_moment t && is_recording q) w in
    let ids = id-free i j _ _ in_v.0 in_w.0 whole in
    let moments = moment-free s t _ _ (and_parts (is_moment s) (is_recording r) in_v.1).0 (and_parts (is_moment t) (is_recording q) in_w.1).0 ids.1 in
    let sizes = fronts_same (two_bytes (length (spelled_recording r))) (two_bytes (length (spelled_recording q))) _ _ (length-two_bytes _ ∙ sym (length-two_bytes _)) moments.1 in
    let recordings = recording-free r q x y (and_parts (is_moment s) (is_recording r) in_v.1).1 (and_parts (is_moment t) (is_recording q) in_w.1).1 sizes.1 in
    (λ k. Sent (ids.0 k) (moments.0 k) (recordings.0 k), recordings.1)

played-free : (i j a b s t : ℕ) (k l : Kind) (x y : List ℕ) → is_fact (Played i a k s) ≡ true → is_fact (Played j b l t) ≡ true → spelled_fact (Played i a k s) ++ x ≡ spelled_fact (Played j b l t) ++ y → (Played i a k s ≡ Played j b l t) × (x ≡ y)
played-free i j a b s t k l x y v w e =
    let tails : eight_bytes i ++ eight_bytes a ++ (kind_byte k ∷ eight_bytes s) ++ x ≡ eight_bytes j ++ eight_bytes b ++ (kind_byte l ∷ eight_bytes t) ++ y = cc in
    let whole = sym (three_parts (eight_bytes i) (eight_bytes a) (kind_byte k ∷ eight_bytes s) x) ∙ tails ∙ three_parts (eight_bytes j) (eight_bytes b) (kind_byte l ∷ eight_bytes t) y in
    let in_v = and_parts (is_id i) (is_attempt a && is_moment s) v in
    let in_w = and_parts (is_id j) (is_attempt b && is_moment t) w in
    let ids = id-free i j _ _ in_v.0 in_w.0 whole in
    let attempts = attempt-free a b _ _ (and_parts (is_attempt a) (is_moment s) in_v.1).0 (and_parts (is_attempt b) (is_moment t) in_w.1).0 ids.1 in
    let kinds = kind-free k l (eight_bytes s ++ x) (eight_bytes t ++ y) attempts.1 in
    let moments = moment-free s t x y (and_parts (is_attempt a) (is_moment s) in_v.1).1 (and_parts (is_attempt b) (is_moment t) in_w.1).1 kinds.1 in
    (λ p. Played (ids.0 p) (attempts.0 p) (kinds.0 p) (moments.0 p), moments.1)

failed-free : (i j a b s t : ℕ) (x y : List ℕ) → is_fact (Failed i a s) ≡ true → is_fact (Failed j b t) ≡ true → spelled_fact (Failed i a s) ++ x ≡ spelled_fact (Failed j b t) ++ y → (Failed i a s ≡ Failed j b t) × (x ≡ y)
failed-free i j a b s t x y v w e =
    let tails : eight_bytes i ++ eight_bytes a ++ eight_bytes s ++ x ≡ eight_bytes j ++ eight_bytes b ++ eight_bytes t ++ y = cc in
    let whole = sym (three_parts (eight_bytes i) (eight_bytes a) (eight_bytes s) x) ∙ tails ∙ three_parts (eight_bytes j) (eight_bytes b) (eight_bytes t) y in
    let in_v = and_parts (is_id i) (is_attempt a && is_moment s) v in
    let in_w = and_parts (is_id j) (is_attempt b && is_moment t) w in
    let ids = id-free i j _ _ in_v.0 in_w.0 whole in
    let attempts = attempt-free a b _ _ (and_parts (is_attempt a) (is_moment s) in_v.1).0 (and_parts (is_attempt b) (is_moment t) in_w.1).0 ids.1 in
    let moments = moment-free s t x y (and_parts (is_attempt a) (is_moment s) in_v.1).1 (and_parts (is_attempt b) (is_moment t) in_w.1).1 attempts.1 in
    (λ p. Failed (ids.0 p) (attempts.0 p) (moments.0 p), moments.1)

moved-free : (a b i j : List ℕ) (q r s t : ℕ) (x y : List ℕ) → is_fact (Moved a q s i) ≡ true → is_fact (Moved b r t j) ≡ true → spelled_fact (Moved a q s i) ++ x ≡ spelled_fact (Moved b r t j) ++ y → (Moved a q s i ≡ Moved b r t j) × (x ≡ y)
moved-free a b i j q r s t x y v w e =
    let tails : short_bytes a ++ (q ∷ eight_bytes s) ++ two_bytes (length i) ++ flat_map eight_bytes i ++ x ≡ short_bytes b ++ (r ∷ eight_bytes t) ++ two_bytes (length j) ++ flat_map eight_bytes j ++ y = cc in
    let whole = sym (four_parts (short_bytes a) (q ∷ eight_bytes s) (two_bytes (length i)) (flat_map eight_bytes i) x) ∙ tails ∙ four_parts (short_bytes b) (r ∷ eight_bytes t) (two_bytes (length j)) (flat_map eight_bytes j) y in
    let apps = short_bytes-free a b _ _ whole in
    let queues : q ≡ r = cc apps.1 in
    let behind : eight_bytes s ++ (two_bytes (length i) ++ (flat_map eight_bytes i ++ x)) ≡ eight_bytes t ++ (two_bytes (length j) ++ (flat_map eight_bytes j ++ y)) = cc apps.1 in
    let in_v = and_parts (nat_le q 6) (is_moment s && (is_between 1 1000 (length i) && list_all is_id i)) (and_parts (is_name a) _ v).1 in
    let in_w = and_parts (nat_le r 6) (is_moment t && (is_between 1 1000 (length j) && list_all is_id j)) (and_parts (is_name b) _ w).1 in
    let at_v = and_parts (is_moment s) (is_between 1 1000 (length i) && list_all is_id i) in_v.1 in
    let at_w = and_parts (is_moment t) (is_between 1 1000 (length j) && list_all is_id j) in_w.1 in
    let ids_v = and_parts (is_between 1 1000 (length i)) (list_all is_id i) at_v.1 in
    let ids_w = and_parts (is_between 1 1000 (length j)) (list_all is_id j) at_w.1 in
    let moments = moment-free s t _ _ at_v.0 at_w.0 behind in
    let sizes = two_bytes-free (length i) (length j) _ _ (count_below i ids_v.0) (count_below j ids_w.0) moments.1 in
    let ids = flat_map-free is_id eight_bytes id-free i j x y ids_v.1 ids_w.1 sizes.0 sizes.1 in
    (λ p. Moved (apps.0 p) (queues p) (moments.0 p) (ids.0 p), ids.1)
  where
    count_below : (ids : List ℕ) → is_between 1 1000 (length ids) ≡ true → length ids < 65536
    count_below ids h = let high = (and_parts (nat_le 1 (length ids)) (nat_le (length ids) 1000) h).1 in grind (arith, high)

switched-free : (a b : List ℕ) (f g : Bool) (s t : ℕ) (x y : List ℕ) → is_fact (Switched a f s) ≡ true → is_fact (Switched b g t) ≡ true → spelled_fact (Switched a f s) ++ x ≡ spelled_fact (Switched b g t) ++ y → (Switched a f s ≡ Switched b g t) × (x ≡ y)
switched-free a b f g s t x y v w e =
    let tails : short_bytes a ++ (flag_byte f ∷ eight_bytes s) ++ x ≡ short_bytes b ++ (flag_byte g ∷ eight_bytes t) ++ y = cc in
    let whole = sym (two_parts (short_bytes a) (flag_byte f ∷ eight_bytes s) x) ∙ tails ∙ two_parts (short_bytes b) (flag_byte g ∷ eight_bytes t) y in
    let apps = short_bytes-free a b _ _ whole in
    let flags = flag-free f g (eight_bytes s ++ x) (eight_bytes t ++ y) apps.1 in
    let moments = moment-free s t x y (and_parts (is_name a) (is_moment s) v).1 (and_parts (is_name b) (is_moment t) w).1 flags.1 in
    (λ p. Switched (apps.0 p) (flags.0 p) (moments.0 p), moments.1)

pub fact-free : IsPrefixFree is_fact spelled_fact
fact-free (Catalogue a) (Catalogue b) x y v w e = catalogue-free a b x y v w e
fact-free (Sent i s r) (Sent j t q) x y v w e = sent-free i j s t r q x y v w e
fact-free (Played i a k s) (Played j b l t) x y v w e = played-free i j a b s t k l x y v w e
fact-free (Failed i a s) (Failed j b t) x y v w e = failed-free i j a b s t x y v w e
fact-free (Moved a q s i) (Moved b r t j) x y v w e = moved-free a b i j q r s t x y v w e
fact-free (Switched a f s) (Switched b g t) x y v w e = switched-free a b f g s t x y v w e
fact-free a b x y v w e = absurd (omega (arith, ap (λ (l : List ℕ). get_or l 0 0) e))

-- how long a spelling is

pub name-short : (name : List ℕ) → is_name name ≡ true → length name ≤ 32
name-short [] h = omega arith
name-short (b ∷ rest) h =
    let last = (and_parts (list_all is_name_byte rest) (nat_lt (length rest) 32) (and_parts (is_letter b) _ h).1).1 in
    let short : length rest < 32 = grind (arith, last) in
    omega arith

pub length-ids : (ids : List ℕ) → length (flat_map eight_bytes ids) ≡ 8 * length ids
length-ids [] = refl
length-ids (id ∷ ids) = omega (arith, length-append (eight_bytes id) (flat_map eight_bytes ids), length-eight_bytes id, length-ids ids)

pub fact-bounded : (fact : Fact) → is_fact fact ≡ true → (1 ≤ length (spelled_fact fact)) × (length (spelled_fact fact) ≤ 1048581)
fact-bounded (Catalogue text) h =
    let short : length text ≤ 1048576 = grind (arith, h) in
    (omega arith, omega (arith, length-append (four_bytes (length text)) text, length-four_bytes (length text)))
fact-bounded (Sent id at r) h =
    let rest = and_parts (is_moment at) (is_recording r) (and_parts (is_id id) (is_moment at && is_recording r) h).1 in
    let last = (and_parts (is_recorded r) (nat_le (length (spelled_recording r)) 16384) rest.1).1 in
    let short : length (spelled_recording r) ≤ 16384 = grind (arith, last) in
    let size : List ℕ = two_bytes (length (spelled_recording r)) in (
      omega arith,
      omega (
        arith,
        length-append (eight_bytes id ++ eight_bytes at ++ size) (spelled_recording r),
        length-append (eight_bytes id ++ eight_bytes at) size,
        length-append (eight_bytes id) (eight_bytes at),
        length-eight_bytes id,
        length-eight_bytes at,
        length-two_bytes (length (spelled_recording r)),
      ),
    )
fact-bounded (Played id attempt kind at) h =
    (omega arith, omega (arith, length-append (eight_bytes id ++ eight_bytes attempt) (kind_byte kind ∷ eight_bytes at), length-append (eight_bytes id) (eight_bytes attempt), length-eight_bytes id, length-eight_bytes attempt, length-eight_bytes at))
fact-bounded (Failed id attempt at) h =
    (omega arith, omega (arith, length-append (eight_bytes id ++ eight_bytes attempt) (eight_bytes at), length-append (eight_bytes id) (eight_bytes attempt), length-eight_bytes id, length-eight_bytes attempt, length-eight_bytes at))
fact-bounded (Moved app queue at ids) h =
    let parts = and_parts (is_name app) (nat_le queue 6 && (is_moment at && (is_between 1 1000 (length ids) && list_all is_id ids))) h in
    let counted = and_parts (is_moment at) (is_between 1 1000 (length ids) && list_all is_id ids) (and_parts (nat_le queue 6) _ parts.1).1 in
    let high = (and_parts (nat_le 1 (length ids)) (nat_le (length ids) 1000) (and_parts (is_between 1 1000 (length ids)) (list_all is_id ids) counted.1).0).1 in
    let short : length ids ≤ 1000 = grind (arith, high) in
    let head : List ℕ = short_bytes app ++ (queue ∷ eight_bytes at) in (
      omega arith,
      omega (
        arith,
        name-short app parts.0,
        length-append (head ++ two_bytes (length ids)) (flat_map eight_bytes ids),
        length-append head (two_bytes (length ids)),
        length-append (short_bytes app) (queue ∷ eight_bytes at),
        length-eight_bytes at,
        length-two_bytes (length ids),
        length-ids ids,
      ),
    )
fact-bounded (Switched app on at) h =
    (omega arith, omega (arith, name-short app (and_parts (is_name app) (is_moment at) h).0, length-append (short_bytes app) (flag_byte on ∷ eight_bytes at), length-eight_bytes at))
