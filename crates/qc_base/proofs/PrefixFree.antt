-- No spelling begins another.
use Rattle.std.proofs.Common.{◌≡◌, ℕ, get_or, ◌<◌, List, ◌++◌, [], ◌∷◌, length, Bool, true, refl, sym, ◌∙◌, ap, arith, append_assoc, flat_map}
use Rattle.std.specs.List.{list_all}
use Rattle.std.specs.Int.{w16, w32, w64, from_be_bytes}
use Rattle.std.proofs.lemmas.Nat.{from_be_bytes-to_be_bytes_2, from_be_bytes-to_be_bytes_4, from_be_bytes-to_be_bytes_8}
use Rattle.qc_base.specs.Spelling.{short_bytes, two_bytes, four_bytes, eight_bytes, IsPrefixFree}
use Rattle.std.proofs.lemmas.Bool.{and_parts}
use Rattle.qc_base.specs.Names.{is_name}
use Rattle.qc_base.specs.Spelling.{spelled_arg, spelled_args, spelled_call, spelled_calls, spelled_recording, is_arg, are_args, is_call, are_calls, is_recorded, is_recording}
use Rattle.qc_base.specs.declared.recording.Arg.TheVariants.{Text, Whole}
use Rattle.qc_base.proofs.Bytes.{fronts_same, length-two_bytes, length-four_bytes, length-eight_bytes}

-- names and texts

pub short_bytes-free : (a b x y : List ℕ) → short_bytes a ++ x ≡ short_bytes b ++ y → (a ≡ b) × (x ≡ y)
short_bytes-free a b x y e =
    let lengths : length a ≡ length b = cc in
    let tails : a ++ x ≡ b ++ y = cc in
    fronts_same a b x y lengths tails

-- numbers

pub two_bytes-free : (m n : ℕ) (x y : List ℕ) → m < 65536 → n < 65536 → two_bytes m ++ x ≡ two_bytes n ++ y → (m ≡ n) × (x ≡ y)
unfolding two_bytes
two_bytes-free m n x y a b e =
    let parts = fronts_same (two_bytes m) (two_bytes n) x y (length-two_bytes m ∙ sym (length-two_bytes n)) e in
    (sym (from_be_bytes-to_be_bytes_2 m a) ∙ ap (from_be_bytes w16) parts.0 ∙ from_be_bytes-to_be_bytes_2 n b, parts.1)

pub four_bytes-free : (m n : ℕ) (x y : List ℕ) → m < 4294967296 → n < 4294967296 → four_bytes m ++ x ≡ four_bytes n ++ y → (m ≡ n) × (x ≡ y)
unfolding four_bytes
four_bytes-free m n x y a b e =
    let parts = fronts_same (four_bytes m) (four_bytes n) x y (length-four_bytes m ∙ sym (length-four_bytes n)) e in
    (sym (from_be_bytes-to_be_bytes_4 m a) ∙ ap (from_be_bytes w32) parts.0 ∙ from_be_bytes-to_be_bytes_4 n b, parts.1)

pub eight_bytes-free : (m n : ℕ) (x y : List ℕ) → m < 18446744073709551616 → n < 18446744073709551616 → eight_bytes m ++ x ≡ eight_bytes n ++ y → (m ≡ n) × (x ≡ y)
unfolding eight_bytes
eight_bytes-free m n x y a b e =
    let parts = fronts_same (eight_bytes m) (eight_bytes n) x y (length-eight_bytes m ∙ sym (length-eight_bytes n)) e in
    (sym (from_be_bytes-to_be_bytes_8 m a) ∙ ap (from_be_bytes w64) parts.0 ∙ from_be_bytes-to_be_bytes_8 n b, parts.1)

-- lists of values, of one length

pub flat_map-free : {A : Type 0} (within : A → Bool) (spelled : A → List ℕ) → IsPrefixFree within spelled → (xs ys : List A) (p q : List ℕ) → list_all within xs ≡ true → list_all within ys ≡ true → length xs ≡ length ys
    → flat_map spelled xs ++ p ≡ flat_map spelled ys ++ q → (xs ≡ ys) × (p ≡ q)
flat_map-free within spelled free [] [] p q v w l e = (refl, e)
flat_map-free within spelled free [] (b ∷ ys) p q v w l e = absurd (omega arith)
flat_map-free within spelled free (a ∷ xs) [] p q v w l e = absurd (omega arith)
flat_map-free within spelled free (a ∷ xs) (b ∷ ys) p q v w l e =
    let step = sym (append_assoc (spelled a) (flat_map spelled xs) p) ∙ e ∙ append_assoc (spelled b) (flat_map spelled ys) q in
    let heads = free a b (flat_map spelled xs ++ p) (flat_map spelled ys ++ q) ((and_parts (within a) (list_all within xs) v).0) ((and_parts (within b) (list_all within ys) w).0) step in
    let tails = flat_map-free within spelled free xs ys p q ((and_parts (within a) (list_all within xs) v).1) ((and_parts (within b) (list_all within ys) w).1) (omega arith) heads.1 in
    (cc, tails.1)

-- recordings

pub arg-free : IsPrefixFree is_arg spelled_arg
arg-free (Text a) (Text b) x y v w e =
    let tails : short_bytes a ++ x ≡ short_bytes b ++ y = cc in
    let parts = short_bytes-free a b x y tails in
    (ap Text parts.0, parts.1)
arg-free (Whole m) (Whole n) x y v w e =
    let tails : eight_bytes m ++ x ≡ eight_bytes n ++ y = cc in
    let parts = eight_bytes-free m n x y (grind (arith, v)) (grind (arith, w)) tails in
    (ap Whole parts.0, parts.1)
arg-free (Text a) (Whole n) x y v w e = absurd (omega (arith, ap (λ (l : List ℕ). get_or l 0 0) e))
arg-free (Whole m) (Text b) x y v w e = absurd (omega (arith, ap (λ (l : List ℕ). get_or l 0 0) e))

pub args-free : IsPrefixFree are_args spelled_args
args-free xs ys x y v w e =
    let lengths : length xs ≡ length ys = cc in
    let tails : flat_map spelled_arg xs ++ x ≡ flat_map spelled_arg ys ++ y = cc in
    flat_map-free is_arg spelled_arg arg-free xs ys x y (and_parts _ (list_all is_arg xs) v).1 (and_parts _ (list_all is_arg ys) w).1 lengths tails

pub call-free : IsPrefixFree is_call spelled_call
call-free a b x y v w e =
    let whole = sym (append_assoc (short_bytes a.method) (spelled_args a.args) x) ∙ e ∙ append_assoc (short_bytes b.method) (spelled_args b.args) y in
    let methods = short_bytes-free a.method b.method (spelled_args a.args ++ x) (spelled_args b.args ++ y) whole in
    let args = args-free a.args b.args x y (and_parts (is_name a.method) (are_args a.args) v).1 (and_parts (is_name b.method) (are_args b.args) w).1 methods.1 in
    (λ i. record { method = methods.0 i; args = args.0 i }, args.1)

pub calls-free : IsPrefixFree are_calls spelled_calls
calls-free xs ys x y v w e =
    let lengths : length xs ≡ length ys = cc in
    let tails : flat_map spelled_call xs ++ x ≡ flat_map spelled_call ys ++ y = cc in
    flat_map-free is_call spelled_call call-free xs ys x y (and_parts _ (list_all is_call xs) v).1 (and_parts _ (list_all is_call ys) w).1 lengths tails

pub three_parts : (a b c x : List ℕ) → a ++ b ++ c ++ x ≡ a ++ (b ++ (c ++ x))
three_parts a b c x = simp append_assoc

pub recorded-free : IsPrefixFree is_recorded spelled_recording
recorded-free a b x y v w e =
    let whole = sym (three_parts (short_bytes a.app) (short_bytes a.component) (spelled_calls a.calls) x) ∙ e ∙ three_parts (short_bytes b.app) (short_bytes b.component) (spelled_calls b.calls) y in
    let apps = short_bytes-free a.app b.app _ _ whole in
    let components = short_bytes-free a.component b.component _ _ apps.1 in
    let within_a = (and_parts (is_name a.component) (are_calls a.calls) (and_parts (is_name a.app) _ v).1).1 in
    let within_b = (and_parts (is_name b.component) (are_calls b.calls) (and_parts (is_name b.app) _ w).1).1 in
    let calls = calls-free a.calls b.calls x y within_a within_b components.1 in
    (λ i. record { app = apps.0 i; component = components.0 i; calls = calls.0 i }, calls.1)

pub recording-free : IsPrefixFree is_recording spelled_recording
recording-free a b x y v w e =
    recorded-free a b x y (and_parts (is_recorded a) _ v).0 (and_parts (is_recorded b) _ w).0 e
