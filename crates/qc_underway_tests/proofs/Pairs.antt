-- Registrations as a clerk tells them, as pairs.
use Rattle.std.proofs.Common.{◌≡◌, ◌&&◌, ◌+◌, ℕ, List, [], ◌∷◌, length, map, Bool, refl, ap, arith}
use Rattle.std.specs.Prelude.{sum_by}
use Rattle.std.specs.List.{list_all}
use Rattle.std.proofs.lemmas.List.Sums.{sum_by-cons}
use Rattle.qc_base.specs.LogLines.{Registration}
use Rattle.qc_catalogue.specs.declared.catalogue.Catalogue.{Catalogue}
use Rattle.crm_clerk.specs.Clerk.{ClerkView}
use Rattle.qc_underway.specs.Compensators.{count_of, records_of}
use Rattle.qc_underway.proofs.Made.{is_made}

abbrev pub pairs_of : List Registration → List (List ℕ × ℕ)
pairs_of rs = map {B = List ℕ × ℕ} (λ (r : Registration). (r.resource, r.phases)) rs

abbrev pub pair_count : ClerkView → List ℕ × ℕ → ℕ
pair_count clerk p = length (records_of clerk p.0)

pub sum-pairs : (clerk : ClerkView) (rs : List Registration) → sum_by (pair_count clerk) (pairs_of rs) ≡ sum_by (count_of clerk) rs
sum-pairs clerk [] = refl
sum-pairs clerk (r ∷ rs) = omega (arith, sum-pairs clerk rs, sum_by-cons (pair_count clerk) (r.resource, r.phases) (pairs_of rs), sum_by-cons (count_of clerk) r rs)

pub all-pairs : (c : Catalogue) (names : List (List ℕ)) (rs : List Registration) → list_all (λ (p : List ℕ × ℕ). is_made c names p.0) (pairs_of rs) ≡ list_all (λ (r : Registration). is_made c names r.resource) rs
all-pairs c names [] = refl
all-pairs c names (r ∷ rs) = ap (λ (b : Bool). is_made c names r.resource && b) (all-pairs c names rs)

pub length-pairs : (rs : List Registration) → length (pairs_of rs) ≡ length rs
length-pairs [] = refl
length-pairs (r ∷ rs) = omega (arith, length-pairs rs)
