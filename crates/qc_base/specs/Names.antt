-- Names, texts and the names of queues.
use Rattle.std.specs.Prelude.{◌≡◌, ℕ, ◌-◌, ◌≤◌, nat_le, nat_lt, List, [], ◌∷◌, ◌++◌, length, take, drop, replicate, Bool, false, not, ◌&&◌, ◌||◌, ◌==◌}
use Rattle.std.specs.Str.{is_utf8}
use Rattle.std.specs.List.{list_all}
use Rattle.std.proofs.Common.{ap, sym, ◌∙◌, arith, length-take-le, take-append-drop}

abbrev pub is_letter : ℕ → Bool
is_letter b = (nat_le 65 b && nat_le b 90) || (nat_le 97 b && nat_le b 122)

abbrev pub is_digit : ℕ → Bool
is_digit b = nat_le 48 b && nat_le b 57

abbrev pub is_name_byte : ℕ → Bool
is_name_byte b = is_letter b || (is_digit b || (b == 95))

-- 1 to 32 letters, digits and _, the first a letter
abbrev pub is_name : List ℕ → Bool
is_name [] = false
is_name (b ∷ rest) = is_letter b && (list_all is_name_byte rest && nat_lt (length rest) 32)

-- the name of an application has no _
abbrev pub is_app_name : List ℕ → Bool
is_app_name bytes = is_name bytes && list_all (λ b. not (b == 95)) bytes

-- no control character of ASCII
abbrev pub is_text_byte : ℕ → Bool
is_text_byte b = nat_le 32 b && not (b == 127)

-- 1 to 64 bytes of UTF-8 without control characters
abbrev pub is_text : List ℕ → Bool
is_text bytes = nat_le 1 (length bytes) && (nat_le (length bytes) 64 && (list_all is_text_byte bytes && is_utf8 bytes))

-- the bytes behind the first len are 0
pub record Padded (size len : ℕ) (bytes : List ℕ) : Type 0 where
  pub fits : len ≤ size
  pub long : length bytes ≡ size
  pub zeros : drop len bytes ≡ replicate (size - len) 0

-- the bytes and the length by what is seen of them
pub padded_back : {A : Type 0} (size len : ℕ) (bytes : List ℕ) → Padded size len bytes → (make : List ℕ → ℕ → A)
    → make (take len bytes ++ replicate (size - length (take len bytes)) 0) (length (take len bytes)) ≡ make bytes len
padded_back size len bytes p make = λ i. make (whole i) (len_is i)
  where
    len_is : length (take len bytes) ≡ len
    len_is = length-take-le len bytes (omega (arith, p.fits, p.long))

    whole : take len bytes ++ replicate (size - length (take len bytes)) 0 ≡ bytes
    whole = ap (λ (k : ℕ). take len bytes ++ replicate (size - k) 0) len_is ∙ ap (λ (l : List ℕ). take len bytes ++ l) (sym p.zeros) ∙ take-append-drop len bytes
