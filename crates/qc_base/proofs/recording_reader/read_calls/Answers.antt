use Rattle.std.proofs.Common.{rules, ◌≡◌, ◌<◌, [], ◌∷◌, ◌++◌, length, ◌∙◌, arith, true}
use Rattle.std.specs.List.{flat_map, list_all}
use Rattle.std.proofs.lemmas.Bool.{and_parts, and_from}
use Rattle.qc_base.specs.Spelling.{spelled_call, is_call, is_between}
use Rattle.qc_base.proofs.PrefixFree.{call-free}
use Rattle.qc_base.proofs.Gathered.{gathered_none_yet, gathered_more, gathered_stops, counted_read}
use Rattle.qc_base.proofs.recording_reader.read_calls.Goals as goal

pub loop-init : goal.loop-init
loop-init c = gathered_none_yet is_call spelled_call _ _ (search rules)

pub returns-in_default-2 : goal.returns-in_default-2
returns-in_default-2 c = λ value left limits e.
    let none = rw c.in_default-2.is at c.in_ok-call.ensures in
    let heads : c.in-Some.count ≡ length value = cc c.in-Some.ensures in
    let tails : c.read_byte.new.self ≡ flat_map spelled_call value ++ left = cc c.in-Some.ensures in
    let more : length c.loop.calls.items < length value = omega arith in
    gathered_stops is_call spelled_call call-free _ _ _ value left c.loop.invariant.limits c.loop.invariant.is none (and_parts (is_between 1 64 (length value)) (list_all is_call value) limits).1 more tails

pub loop-preserved : goal.loop-preserved
loop-preserved c =
    let pushed : c.push.new.self.items ≡ c.loop.calls.items ++ c.in-Some-2.call ∷ [] = search rules in
    gathered_more is_call spelled_call _ _ _ _ _ _ _ c.loop.invariant (rw c.in-Some-2.is at c.in_ok-call.ensures) pushed

pub returns : goal.returns
returns c =
    let counted : c.in-Some.count ≡ length c.loop.calls.items = omega arith in
    let within : is_between 1 64 (length c.loop.calls.items) ≡ true = grind (arith, counted) in
    rw c.over.ensures (record {
      limits = and_from (is_between 1 64 (length c.loop.calls.items)) (list_all is_call c.loop.calls.items) within c.loop.invariant.limits;
      is = c.in-Some.ensures ∙ counted_read _ _ _ _ counted c.loop.invariant.is;
    })
