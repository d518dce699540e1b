-- How long the spelling of each fact is.
use Rattle.std.proofs.Common.{◌≡◌, ◌+◌, ◌*◌, ℕ, List, ◌∷◌, ◌++◌, Bool, length, arith, length-append}
use Rattle.std.specs.List.{flat_map}
use Rattle.qc_base.specs.Spelling.{short_bytes, two_bytes, four_bytes, eight_bytes, kind_byte, flag_byte, spelled_recording, spelled_fact}
use Rattle.qc_base.specs.declared.recording.Recording.{Recording}
use Rattle.qc_base.specs.declared.fact.Fact.TheVariants.{Catalogue, Sent, Played, Failed, Moved, Switched}
use Rattle.qc_base.specs.declared.fact.Kind.{Kind}
use Rattle.qc_base.proofs.Bytes.{length-two_bytes, length-four_bytes, length-eight_bytes}
use Rattle.qc_base.proofs.Facts.{length-ids}

pub length-catalogue : (text : List ℕ) → length (spelled_fact (Catalogue text)) ≡ 5 + length text
length-catalogue text = omega (arith, length-append (1 ∷ four_bytes (length text)) text, length-four_bytes (length text))

pub length-sent : (id at : ℕ) (r : Recording) → length (spelled_fact (Sent id at r)) ≡ 19 + length (spelled_recording r)
length-sent id at r =
    let size = two_bytes (length (spelled_recording r)) in
    omega (arith, length-append (2 ∷ eight_bytes id ++ eight_bytes at ++ size) (spelled_recording r), length-append (2 ∷ eight_bytes id ++ eight_bytes at) size, length-append (2 ∷ eight_bytes id) (eight_bytes at), length-eight_bytes id, length-eight_bytes at, length-two_bytes (length (spelled_recording r)))

pub length-played : (id attempt at : ℕ) (kind : Kind) → length (spelled_fact (Played id attempt kind at)) ≡ 26
length-played id attempt at kind = omega (arith, length-append (3 ∷ eight_bytes id ++ eight_bytes attempt) (kind_byte kind ∷ eight_bytes at), length-append (3 ∷ eight_bytes id) (eight_bytes attempt), length-eight_bytes id, length-eight_bytes attempt, length-eight_bytes at)

pub length-failed : (id attempt at : ℕ) → length (spelled_fact (Failed id attempt at)) ≡ 25
length-failed id attempt at = omega (arith, length-append (4 ∷ eight_bytes id ++ eight_bytes attempt) (eight_bytes at), length-append (4 ∷ eight_bytes id) (eight_bytes attempt), length-eight_bytes id, length-eight_bytes attempt, length-eight_bytes at)

pub length-moved : (app ids : List ℕ) (queue at : ℕ) → length (spelled_fact (Moved app queue at ids)) ≡ 13 + length app + 8 * length ids
length-moved app ids queue at =
    let head : List ℕ = 5 ∷ short_bytes app in
    let place : List ℕ = queue ∷ eight_bytes at in
    let count : List ℕ = two_bytes (length ids) in
    omega (arith, length-append (head ++ place ++ count) (flat_map eight_bytes ids), length-append (head ++ place) count, length-append head place, length-ids ids, length-eight_bytes at, length-two_bytes (length ids))

pub length-switched : (app : List ℕ) (on : Bool) (at : ℕ) → length (spelled_fact (Switched app on at)) ≡ 11 + length app
length-switched app on at = omega (arith, length-append (6 ∷ short_bytes app) (flag_byte on ∷ eight_bytes at), length-eight_bytes at)

-- for `using`, where a goal counts the bytes of a fact
pub ruleset fact_lengths = (length-catalogue, length-sent, length-played, length-failed, length-ids, length-moved, length-switched, length-two_bytes, length-four_bytes, length-eight_bytes)
