use Rattle.std.proofs.Common.{◌≡◌, ◌∙◌, ◌+◌, ◌<◌, ◌++◌, ◌∷◌, [], List, ℕ, get_or, length, take, drop, map, sym, ap, subst, arith, rules}
use Rattle.std.proofs.lemmas.List.{map-append, length-drop, take_rest}
use Rattle.std.proofs.lemmas.Grind.{common_steps}
use Rattle.qc_frame.specs.Frame.{EntriesAt, NoEntry, size_at}
use Rattle.qc_frame.specs.declared.entries.Entry.{Entry}
use Rattle.qc_frame.proofs.Payload.{entries_push, stops}
use Rattle.qc_frame.proofs.entries.read_entries.Goals as goal

pub returns-in_default-clause-damaged : goal.returns-in_default-clause-damaged
returns-in_default-clause-damaged c = λ n is.
    let there : n ≡ c.args.at + c.loop-place.place = cc in
    let none : NoEntry (drop c.loop-place.place c.args.payload.now) = subst (λ (l : List ℕ). NoEntry l) (take_rest c.args.payload.now c.loop-place.place) (c.in_default.ensures.none) in
    stops c.args.at c.loop-place.place n _ _ c.args.payload.now c.loop-place.invariant.1 c.loop-place-test.true (omega arith) none there

pub loop-place-preserved : goal.loop-place-preserved
loop-place-preserved c =
    let payload = c.args.payload.now in
    let place = c.loop-place.place in
    let size = c.in-Some.size in
    let bytes = c.over-word.result in
    let e : Entry = record { at = c.args.at + place; bytes = bytes } in
    let pushed : c.push.new.self.items ≡ c.loop-place.entries.items ++ e ∷ [] = c.in-Ok.ensures.items in
    let read : bytes ≡ take size (drop 4 (drop place payload)) = grind (arith, common_steps) in
    let small : (i : ℕ) → get_or payload i 0 < 256 = search rules in
    let some = c.in-Some.ensures.some in
    let more = entries_push c.args.at place size _ _ payload bytes c.loop-place.invariant.1 c.loop-place.invariant.0 (some.0 ∙ ap size_at (take_rest payload place)) some.1 (omega (arith, some.2, ap length (take_rest payload place))) small read in
    let places = ap (λ (l : List Entry). map (λ e. e.at) l) pushed ∙ map-append (λ (e : Entry). e.at) c.loop-place.entries.items (e ∷ []) in
    let entries = ap (λ (l : List Entry). map (λ e. e.bytes) l) pushed ∙ map-append (λ (e : Entry). e.bytes) c.loop-place.entries.items (e ∷ []) in
    (omega (arith, some.2, length-drop place payload, ap length (take_rest payload place)), subst (λ (l : List ℕ). EntriesAt c.args.at l (map (λ e. e.bytes) c.push.new.self.items) (take (place + (4 + size)) payload)) (sym places) (subst (λ (l : List (List ℕ)). EntriesAt c.args.at (map (λ e. e.at) c.loop-place.entries.items ++ (c.args.at + place) ∷ []) l (take (place + (4 + size)) payload)) (sym entries) more))
