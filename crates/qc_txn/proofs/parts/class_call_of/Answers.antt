use Rattle.std.proofs.Common.{ℕ, List, ◌≡◌, ◌∙◌, refl, sym, ap, length, slice_get, Some, None}
use Rattle.std.proofs.lemmas.Option.{slice_get_past, slice_get_read}
use Rattle.qc_catalogue.specs.Lookup.{method_of}
use Rattle.qc_txn.proofs.PartsAt.{none_at, part_at}
use Rattle.qc_txn.proofs.parts.class_call_of.Goals as goal

pub returns-in_default : goal.returns-in_default
returns-in_default c =
    sym (none_at c.args.class.now.methods c.args.calls.now c.args.place (slice_get_past c.args.calls.now c.args.place c.in_default.ensures.lookup.3))

pub returns : goal.returns
returns c =
    let there : slice_get c.args.calls.now c.args.place ≡ Some c.in-Some.call.now =
    slice_get_read c.args.calls.now (length c.args.calls.now) c.args.place c.in-Some.call.now refl c.in-Some.ensures.lookup.3.0 c.in-Some.ensures.lookup.1 in
    ap Some c.of_method.ensures
    ∙ sym (part_at c.args.class.now.methods c.args.calls.now c.args.place c.in-Some.call.now c.in-Some-method.method.now there
    (ap (λ (n : List ℕ). method_of n c.args.class.now.methods) (sym c.as_bytes.ensures.value) ∙ sym c.in-Some-method.ensures))
