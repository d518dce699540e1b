-- No log line's spelling begins another, and how long one is.
use Rattle.std.proofs.Common.{◌≡◌, ℕ, ◌≤◌, List, ◌++◌, [], ◌∷◌, length, get_or, nat_le, true, ◌&&◌, ◌==◌, sym, ◌∙◌, ap, arith, append_assoc, length-append}
use Rattle.std.specs.List.{list_all}
use Rattle.std.specs.Str.{is_utf8}
use Rattle.std.proofs.lemmas.Bool.{and_parts}
use Rattle.qc_base.specs.Names.{is_name, is_text, is_text_byte}
use Rattle.qc_base.specs.Spelling.{short_bytes, four_bytes, eight_bytes, is_id, is_attempt, is_amount, is_between, fits_four, spelled_line, is_line, is_record, IsPrefixFree}
use Rattle.qc_base.specs.declared.log_line.LogRecord.{LogRecord}
use Rattle.qc_base.specs.declared.log_line.LogLine.{LogLine}
use Rattle.qc_base.specs.declared.log_line.LogLine.TheVariants.{Opened, Registered, Written, Forgot, Done}
use Rattle.qc_base.proofs.Bytes.{length-four_bytes, length-eight_bytes}
use Rattle.qc_base.proofs.PrefixFree.{short_bytes-free, four_bytes-free, eight_bytes-free}
use Rattle.qc_base.proofs.Facts.{two_parts, three_parts, attempt-free, id-free, name-short}

pub six_parts : (a b c d e f x : List ℕ) → a ++ b ++ c ++ d ++ e ++ f ++ x ≡ a ++ (b ++ (c ++ (d ++ (e ++ (f ++ x)))))
six_parts a b c d e f x = simp append_assoc

pub amount-free : IsPrefixFree is_amount eight_bytes
amount-free m n x y v w e = eight_bytes-free m n x y (grind (arith, v)) (grind (arith, w)) e

opened-free : (a b i j : ℕ) (x y : List ℕ) → is_line (Opened a i) ≡ true → is_line (Opened b j) ≡ true → spelled_line (Opened a i) ++ x ≡ spelled_line (Opened b j) ++ y → (Opened a i ≡ Opened b j) × (x ≡ y)
opened-free a b i j x y v w e =
    let tails : eight_bytes a ++ eight_bytes i ++ x ≡ eight_bytes b ++ eight_bytes j ++ y = cc in
    let whole = sym (two_parts (eight_bytes a) (eight_bytes i) x) ∙ tails ∙ two_parts (eight_bytes b) (eight_bytes j) y in
    let in_v = and_parts (is_attempt a) (is_id i) v in
    let in_w = and_parts (is_attempt b) (is_id j) w in
    let attempts = attempt-free a b _ _ in_v.0 in_w.0 whole in
    let ids = id-free i j x y in_v.1 in_w.1 attempts.1 in
    (λ p. Opened (attempts.0 p) (ids.0 p), ids.1)

registered-free : (a b p q : ℕ) (r s x y : List ℕ) → is_line (Registered a r p) ≡ true → is_line (Registered b s q) ≡ true → spelled_line (Registered a r p) ++ x ≡ spelled_line (Registered b s q) ++ y → (Registered a r p ≡ Registered b s q) × (x ≡ y)
registered-free a b p q r s x y v w e =
    let tails : eight_bytes a ++ short_bytes r ++ (p ∷ []) ++ x ≡ eight_bytes b ++ short_bytes s ++ (q ∷ []) ++ y = cc in
    let whole = sym (three_parts (eight_bytes a) (short_bytes r) (p ∷ []) x) ∙ tails ∙ three_parts (eight_bytes b) (short_bytes s) (q ∷ []) y in
    let attempts = attempt-free a b _ _ (and_parts (is_attempt a) _ v).0 (and_parts (is_attempt b) _ w).0 whole in
    let resources = short_bytes-free r s (p ∷ x) (q ∷ y) attempts.1 in
    let phases : p ≡ q = cc resources.1 in
    let lefts : x ≡ y = cc resources.1 in
    (λ k. Registered (attempts.0 k) (resources.0 k) (phases k), lefts)

record-free : (r s : LogRecord) (x y : List ℕ) → is_record r ≡ true → is_record s ≡ true
    → four_bytes r.seq ++ ((r.flags ∷ short_bytes r.key) ++ (eight_bytes r.old ++ (eight_bytes r.new ++ x))) ≡ four_bytes s.seq ++ ((s.flags ∷ short_bytes s.key) ++ (eight_bytes s.old ++ (eight_bytes s.new ++ y))) → (r ≡ s) × (x ≡ y)
record-free r s x y v w e =
    let in_v = and_parts (is_between 1 4294967295 r.seq) ((r.flags == 0) && (is_text r.key && (is_amount r.old && is_amount r.new))) v in
    let in_w = and_parts (is_between 1 4294967295 s.seq) ((s.flags == 0) && (is_text s.key && (is_amount s.old && is_amount s.new))) w in
    let high_v = (and_parts (nat_le 1 r.seq) (nat_le r.seq 4294967295) in_v.0).1 in
    let high_w = (and_parts (nat_le 1 s.seq) (nat_le s.seq 4294967295) in_w.0).1 in
    let seqs = four_bytes-free r.seq s.seq _ _ (grind (arith, high_v)) (grind (arith, high_w)) e in
    let flags : r.flags ≡ s.flags = cc seqs.1 in
    let behind : short_bytes r.key ++ (eight_bytes r.old ++ (eight_bytes r.new ++ x)) ≡ short_bytes s.key ++ (eight_bytes s.old ++ (eight_bytes s.new ++ y)) = cc seqs.1 in
    let keys = short_bytes-free r.key s.key _ _ behind in
    let amounts_v = and_parts (is_amount r.old) (is_amount r.new) (and_parts (is_text r.key) (is_amount r.old && is_amount r.new) (and_parts (r.flags == 0) _ in_v.1).1).1 in
    let amounts_w = and_parts (is_amount s.old) (is_amount s.new) (and_parts (is_text s.key) (is_amount s.old && is_amount s.new) (and_parts (s.flags == 0) _ in_w.1).1).1 in
    let olds = amount-free r.old s.old _ _ amounts_v.0 amounts_w.0 keys.1 in
    let news = amount-free r.new s.new x y amounts_v.1 amounts_w.1 olds.1 in
    (λ k. record { seq = seqs.0 k; flags = flags k; key = keys.0 k; old = olds.0 k; new = news.0 k }, news.1)

written-free : (a b : ℕ) (m n : List ℕ) (r s : LogRecord) (x y : List ℕ) → is_line (Written a m r) ≡ true → is_line (Written b n s) ≡ true → spelled_line (Written a m r) ++ x ≡ spelled_line (Written b n s) ++ y → (Written a m r ≡ Written b n s) × (x ≡ y)
written-free a b m n r s x y v w e =
    let tails : eight_bytes a ++ short_bytes m ++ four_bytes r.seq ++ (r.flags ∷ short_bytes r.key) ++ eight_bytes r.old ++ eight_bytes r.new ++ x ≡ eight_bytes b ++ short_bytes n ++ four_bytes s.seq ++ (s.flags ∷ short_bytes s.key) ++ eight_bytes s.old ++ eight_bytes s.new ++ y = cc in
    let whole = sym (six_parts (eight_bytes a) (short_bytes m) (four_bytes r.seq) (r.flags ∷ short_bytes r.key) (eight_bytes r.old) (eight_bytes r.new) x) ∙ tails ∙ six_parts (eight_bytes b) (short_bytes n) (four_bytes s.seq) (s.flags ∷ short_bytes s.key) (eight_bytes s.old) (eight_bytes s.new) y in
    let in_v = and_parts (is_attempt a) (is_name m && is_record r) v in
    let in_w = and_parts (is_attempt b) (is_name n && is_record s) w in
    let attempts = attempt-free a b _ _ in_v.0 in_w.0 whole in
    let resources = short_bytes-free m n _ _ attempts.1 in
    let records = record-free r s x y (and_parts (is_name m) (is_record r) in_v.1).1 (and_parts (is_name n) (is_record s) in_w.1).1 resources.1 in
    (λ k. Written (attempts.0 k) (resources.0 k) (records.0 k), records.1)

forgot-free : (a b p q : ℕ) (r s x y : List ℕ) → is_line (Forgot a r p) ≡ true → is_line (Forgot b s q) ≡ true → spelled_line (Forgot a r p) ++ x ≡ spelled_line (Forgot b s q) ++ y → (Forgot a r p ≡ Forgot b s q) × (x ≡ y)
forgot-free a b p q r s x y v w e =
    let tails : eight_bytes a ++ short_bytes r ++ four_bytes p ++ x ≡ eight_bytes b ++ short_bytes s ++ four_bytes q ++ y = cc in
    let whole = sym (three_parts (eight_bytes a) (short_bytes r) (four_bytes p) x) ∙ tails ∙ three_parts (eight_bytes b) (short_bytes s) (four_bytes q) y in
    let in_v = and_parts (is_attempt a) (is_name r && fits_four p) v in
    let in_w = and_parts (is_attempt b) (is_name s && fits_four q) w in
    let attempts = attempt-free a b _ _ in_v.0 in_w.0 whole in
    let resources = short_bytes-free r s _ _ attempts.1 in
    let high_v = (and_parts (is_name r) (fits_four p) in_v.1).1 in
    let high_w = (and_parts (is_name s) (fits_four q) in_w.1).1 in
    let seqs = four_bytes-free p q x y (grind (arith, high_v)) (grind (arith, high_w)) resources.1 in
    (λ k. Forgot (attempts.0 k) (resources.0 k) (seqs.0 k), seqs.1)

done-free : (a b : ℕ) (x y : List ℕ) → is_line (Done a) ≡ true → is_line (Done b) ≡ true → spelled_line (Done a) ++ x ≡ spelled_line (Done b) ++ y → (Done a ≡ Done b) × (x ≡ y)
done-free a b x y v w e =
    let tails : eight_bytes a ++ x ≡ eight_bytes b ++ y = cc in
    let attempts = attempt-free a b x y v w tails in
    (ap Done attempts.0, attempts.1)

pub line-free : IsPrefixFree is_line spelled_line
line-free (Opened a i) (Opened b j) x y v w e = opened-free a b i j x y v w e
line-free (Registered a r p) (Registered b s q) x y v w e = registered-free a b p q r s x y v w e
line-free (Written a m r) (Written b n s) x y v w e = written-free a b m n r s x y v w e
line-free (Forgot a r p) (Forgot b s q) x y v w e = forgot-free a b p q r s x y v w e
line-free (Done a) (Done b) x y v w e = done-free a b x y v w e
line-free a b x y v w e = absurd (omega (arith, ap (λ (l : List ℕ). get_or l 0 0) e))

-- how long a spelling is

pub text-short : (text : List ℕ) → is_text text ≡ true → length text ≤ 64
text-short text h =
    let high = (and_parts (nat_le (length text) 64) (list_all is_text_byte text && is_utf8 text) (and_parts (nat_le 1 (length text)) _ h).1).0 in
    grind (arith, high)

pub line-bounded : (line : LogLine) → is_line line ≡ true → (1 ≤ length (spelled_line line)) × (length (spelled_line line) ≤ 128)
line-bounded (Opened attempt id) h = (omega arith, omega (arith, length-append (eight_bytes attempt) (eight_bytes id), length-eight_bytes attempt, length-eight_bytes id))
line-bounded (Registered attempt resource phases) h =
    let name = name-short resource (and_parts (is_name resource) (is_between 1 7 phases) (and_parts (is_attempt attempt) _ h).1).0 in
    (omega arith, omega (arith, name, length-append (eight_bytes attempt ++ short_bytes resource) (phases ∷ []), length-append (eight_bytes attempt) (short_bytes resource), length-eight_bytes attempt))
line-bounded (Written attempt resource r) h =
    let limits = and_parts (is_name resource) (is_record r) (and_parts (is_attempt attempt) _ h).1 in
    let name = name-short resource limits.0 in
    let behind = (and_parts (is_between 1 4294967295 r.seq) ((r.flags == 0) && (is_text r.key && (is_amount r.old && is_amount r.new))) limits.1).1 in
    let key = text-short r.key (and_parts (is_text r.key) (is_amount r.old && is_amount r.new) (and_parts (r.flags == 0) _ behind).1).0 in
    let first : List ℕ = eight_bytes attempt ++ short_bytes resource ++ four_bytes r.seq in
    let keyed : List ℕ = r.flags ∷ short_bytes r.key in (
      omega arith,
      omega (
        arith,
        name,
        key,
        length-append (first ++ keyed ++ eight_bytes r.old) (eight_bytes r.new),
        length-append (first ++ keyed) (eight_bytes r.old),
        length-append first keyed,
        length-append (eight_bytes attempt ++ short_bytes resource) (four_bytes r.seq),
        length-append (eight_bytes attempt) (short_bytes resource),
        length-eight_bytes attempt,
        length-four_bytes r.seq,
        length-eight_bytes r.old,
        length-eight_bytes r.new,
      ),
    )
line-bounded (Forgot attempt resource seq) h =
    let name = name-short resource (and_parts (is_name resource) (fits_four seq) (and_parts (is_attempt attempt) _ h).1).0 in
    (omega arith, omega (arith, name, length-append (eight_bytes attempt ++ short_bytes resource) (four_bytes seq), length-append (eight_bytes attempt) (short_bytes resource), length-eight_bytes attempt, length-four_bytes seq))
line-bounded (Done attempt) h = (omega arith, omega (arith, length-eight_bytes attempt))
