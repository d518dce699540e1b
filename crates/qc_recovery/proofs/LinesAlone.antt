-- Lines that a file spells are its alone.
use Rattle.std.proofs.Common.{◌≡◌, ◌∙◌, ◌^◌, ◌<◌, ℕ, zero, List, [], ◌∷◌, ◌++◌, length, map, drop, true, refl, sym, ap, subst, arith, get_or, All}
use Rattle.std.specs.List.{list_all}
use Rattle.std.proofs.lemmas.Bool.{and_parts}
use Rattle.std.proofs.lemmas.List.Elements.{All-head, All-tail}
use Rattle.std.proofs.lemmas.List.Folds.{flat_map-map}
use Rattle.qc_base.specs.Spelling.{is_line, spelled_line}
use Rattle.qc_base.specs.declared.log_line.LogLine.{LogLine}
use Rattle.qc_base.proofs.LogSpellings.{line-free}
use Rattle.qc_frame.specs.Frame.{entry}
use Rattle.qc_frame.proofs.Payload.{entries_alone}
use Rattle.qc_frame.proofs.ReadBack.{groups_short}
use Rattle.crm_log.specs.Log.{lines_payload, SpellsLog}

line-one : (a b : LogLine) → is_line a ≡ true → is_line b ≡ true → spelled_line a ≡ spelled_line b → a ≡ b
line-one a b v w e = (line-free a b [] [] v w (ap (λ (l : List ℕ). l ++ []) e)).0

spelled-one : (xs ys : List LogLine) → list_all is_line xs ≡ true → list_all is_line ys ≡ true → map spelled_line xs ≡ map spelled_line ys → xs ≡ ys
spelled-one [] [] v w e = refl
spelled-one [] (b ∷ ys) v w e = absurd (omega (arith, ap length e))
spelled-one (a ∷ xs) [] v w e = absurd (omega (arith, ap length e))
spelled-one (a ∷ xs) (b ∷ ys) v w e =
    let in_a = and_parts (is_line a) (list_all is_line xs) v in
    let in_b = and_parts (is_line b) (list_all is_line ys) w in
    let head : spelled_line a ≡ spelled_line b = cc in
    let tail : map spelled_line xs ≡ map spelled_line ys = cc in
    let one = line-one a b in_a.0 in_b.0 head in
    let all = spelled-one xs ys in_a.1 in_b.1 tail in
    λ i. one i ∷ all i

payload-one : (xs ys : List LogLine) → list_all is_line xs ≡ true → list_all is_line ys ≡ true → length (lines_payload ys) < 2 ^ 32 → lines_payload xs ≡ lines_payload ys → xs ≡ ys
payload-one xs ys v w short e =
    let there = flat_map-map entry spelled_line ys in
    spelled-one xs ys v w (entries_alone (map spelled_line xs) (map spelled_line ys) (omega (arith, short, ap length there)) (flat_map-map entry spelled_line xs ∙ e ∙ sym there))

payloads-one : (xs ys : List (List LogLine)) → list_all (list_all is_line) xs ≡ true → list_all (list_all is_line) ys ≡ true → All (λ p. length p < 2 ^ 32) (map lines_payload ys) → map lines_payload xs ≡ map lines_payload ys → xs ≡ ys
payloads-one [] [] v w short e = refl
payloads-one [] (b ∷ ys) v w short e = absurd (omega (arith, ap length e))
payloads-one (a ∷ xs) [] v w short e = absurd (omega (arith, ap length e))
payloads-one (a ∷ xs) (b ∷ ys) v w short e =
    let in_a = and_parts (list_all is_line a) (list_all (list_all is_line) xs) v in
    let in_b = and_parts (list_all is_line b) (list_all (list_all is_line) ys) w in
    let head : lines_payload a ≡ lines_payload b = ap (λ (l : List (List ℕ)). get_or l 0 []) e in
    let tail : map lines_payload xs ≡ map lines_payload ys = ap (λ (l : List (List ℕ)). drop 1 l) e in
    let one = payload-one a b in_a.0 in_b.0 (All-head (λ p. length p < 2 ^ 32) (lines_payload b) (map lines_payload ys) short) head in
    let all = payloads-one xs ys in_a.1 in_b.1 (All-tail (λ p. length p < 2 ^ 32) (lines_payload b) (map lines_payload ys) short) tail in
    λ i. one i ∷ all i

pub log-one : (file : List ℕ) (xs ys : List (List LogLine)) → SpellsLog file xs → SpellsLog file ys → xs ≡ ys
log-one file xs ys a b =
    payloads-one xs ys a.limits b.limits (subst (λ (l : List (List ℕ)). All (λ p. length p < 2 ^ 32) l) b.groups (groups_short zero (drop 16 file))) (sym a.groups ∙ b.groups)
