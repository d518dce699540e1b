-- Numbers of attempts, and names, in bytes.
use Rattle.std.proofs.Common.{◌≡◌, ◌≤◌, ℕ, true, nat_le, arith}
use Rattle.std.proofs.lemmas.Bool.{and_parts, leb-true, le-leb}
use Rattle.qc_base.specs.Names.{is_name}
use Rattle.qc_base.specs.Spelling.{short_bytes, is_id, is_attempt, IsPrefixFree}
use Rattle.qc_base.proofs.PrefixFree.{short_bytes-free}

pub name_free : IsPrefixFree is_name short_bytes
name_free a b x y v w e = short_bytes-free a b x y e

pub attempt_is_id : (n : ℕ) → is_attempt n ≡ true → is_id n ≡ true
attempt_is_id n h = le-leb n 18446744073709551615 (omega (arith, leb-true n 9223372036854775807 (and_parts (nat_le 1 n) _ h).1))

pub attempt_some : (n : ℕ) → is_attempt n ≡ true → 1 ≤ n
attempt_some n h = leb-true 1 n (and_parts (nat_le 1 n) _ h).0

pub attempt_most : (n : ℕ) → is_attempt n ≡ true → n ≤ 9223372036854775807
attempt_most n h = leb-true n 9223372036854775807 (and_parts (nat_le 1 n) _ h).1
