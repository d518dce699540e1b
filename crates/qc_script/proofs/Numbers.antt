-- Numbers.
use Rattle.std.proofs.Common.{◌≡◌, ℕ, ◌+◌, ◌-◌, ◌*◌, ◌<◌, ◌≤◌, List, [], ◌∷◌, length, drop, get_or, refl, arith}
use Rattle.std.proofs.lemmas.List.{drop_more}
use Rattle.qc_script.specs.Terms.{value_from}

-- more digits make no number less
pub value_grows : (n : ℕ) (ds : List ℕ) → n ≤ value_from n ds
value_grows n [] = omega arith
value_grows n (d ∷ ds) = let more : n * 10 + (d - 48) ≤ value_from (n * 10 + (d - 48)) ds = value_grows (n * 10 + (d - 48)) ds in omega arith

pub value_step : (n : ℕ) (ds : List ℕ) (i : ℕ) → i < length ds → value_from n (drop i ds) ≡ value_from (n * 10 + (get_or ds i 0 - 48)) (drop (i + 1) ds)
value_step n ds i lt = rw (drop_more ds i 0 lt) refl
