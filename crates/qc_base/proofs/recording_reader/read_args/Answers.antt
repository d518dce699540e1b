use Rattle.std.proofs.Common.{rules, ◌≡◌, ◌<◌, [], ◌∷◌, ◌++◌, length, ◌∙◌, arith, nat_le, true}
use Rattle.std.specs.List.{flat_map, list_all}
use Rattle.std.proofs.lemmas.Bool.{and_parts, and_from}
use Rattle.qc_base.specs.Spelling.{spelled_arg, is_arg}
use Rattle.qc_base.proofs.PrefixFree.{arg-free}
use Rattle.qc_base.proofs.Gathered.{gathered_none_yet, gathered_more, gathered_stops, counted_read}
use Rattle.qc_base.proofs.recording_reader.read_args.Goals as goal

pub loop-init : goal.loop-init
loop-init c = gathered_none_yet is_arg spelled_arg _ _ (search rules)

pub returns-in_default-read_arg : goal.returns-in_default-read_arg
returns-in_default-read_arg c = λ value left limits e.
    let heads : c.in-Some.count ≡ length value = cc c.in-Some.ensures in
    let tails : c.read_byte.new.self ≡ flat_map spelled_arg value ++ left = cc c.in-Some.ensures in
    let more : length c.loop.args.items < length value = omega arith in
    gathered_stops is_arg spelled_arg arg-free _ _ _ value left c.loop.invariant.limits c.loop.invariant.is c.in_default-read_arg.ensures (and_parts (nat_le (length value) 16) (list_all is_arg value) limits).1 more tails

pub loop-preserved : goal.loop-preserved
loop-preserved c =
    let pushed : c.push.new.self.items ≡ c.loop.args.items ++ c.in-Some-read_arg.arg ∷ [] = search rules in
    gathered_more is_arg spelled_arg _ _ _ _ _ _ _ c.loop.invariant c.in-Some-read_arg.ensures pushed

pub returns : goal.returns
returns c =
    let counted : c.in-Some.count ≡ length c.loop.args.items = omega arith in
    let within : nat_le (length c.loop.args.items) 16 ≡ true = grind (arith, counted) in
    rw c.over.ensures (record {
      limits = and_from (nat_le (length c.loop.args.items) 16) (list_all is_arg c.loop.args.items) within c.loop.invariant.limits;
      is = c.in-Some.ensures ∙ counted_read _ _ _ _ counted c.loop.invariant.is;
    })
