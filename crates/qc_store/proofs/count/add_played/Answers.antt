use Rattle.std.proofs.Common.{◌≡◌, ◌∙◌, ◌==◌, ◌<◌, ◌^◌, ℕ, List, Option, None, sym, ap, subst, arith, eq-eqb}
use Rattle.std.specs.Option.{option_map_or}
use Rattle.std.proofs.lemmas.Bool.{ne_eqb}
use Rattle.std.proofs.lemmas.List.{take_all}
use Rattle.qc_base.specs.declared.message.Message.{Message}
use Rattle.qc_base.specs.Messages.{message_of}
use Rattle.qc_store.specs.declared.tally.Tally.{Tally}
use Rattle.qc_store.specs.Tallies.{tally_of, with_one}
use Rattle.qc_store.proofs.Placing.{not_yet, found_here}
use Rattle.qc_store.proofs.count.add_played.Goals as goal

pub add_one-requires : goal.add_one-requires
add_one-requires c =
    let app = c.as_bytes.result.now in
    subst (λ (l : List Tally). tally_of app l < 2 ^ 63) (sym c.loop-message.invariant.same) (c.requires app)

pub returns-then-message-id : goal.returns-then-message-id
returns-then-message-id c =
    let ts = c.args.tallies.now in
    let x = c.message-item.result in
    let found = found_here (λ (m : Message). m.id == c.args.id) c.args.messages.now c.loop-message.message-index x (omega arith) c.message-item.is c.loop-message.invariant.none (eq-eqb x.id c.args.id c.if-message-id.true) in
    c.add_one.ensures ∙ ap (with_one c.as_bytes.result.now) c.loop-message.invariant.same ∙ ap (λ (app : List ℕ). with_one app ts) c.as_bytes.ensures.value
    ∙ sym (ap (λ (o : Option Message). option_map_or (λ (m : Message). with_one m.recording.app ts) o ts) found)

pub loop-message-preserved : goal.loop-message-preserved
loop-message-preserved c =
    let x = c.message-item.result in record {
      same = c.loop-message.invariant.same;
      none = not_yet (λ (m : Message). m.id == c.args.id) c.args.messages.now c.loop-message.message-index x (omega arith) c.message-item.is c.loop-message.invariant.none (ne_eqb x.id c.args.id c.if-message-id.false);
    }

pub returns : goal.returns
returns c =
    let ts = c.args.tallies.now in
    let none : message_of c.args.id c.args.messages.now ≡ None = ap (message_of c.args.id) (sym (take_all c.loop-message.message-index c.args.messages.now c.loop-message-test.false)) ∙ c.loop-message.invariant.none in
    c.loop-message.invariant.same ∙ sym (ap (λ (o : Option Message). option_map_or (λ (m : Message). with_one m.recording.app ts) o ts) none)
