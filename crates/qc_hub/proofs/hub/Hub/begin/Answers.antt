use Rattle.std.proofs.Common.{refl, sym, subst, Some}
use Rattle.qc_catalogue.specs.declared.catalogue.Catalogue.{Catalogue}
use Rattle.qc_hub.specs.declared.hub.Hub.{Hub}
use Rattle.qc_hub.proofs.Begun.{begun-plays, begun-taken}
use Rattle.qc_hub.proofs.Fit.{same-catalogue, sets-nothing}
use Rattle.qc_hub.proofs.Taken.{kind-there, take-behind, take-untaken}
use Rattle.qc_players.specs.Players.{IsPlayedBy}
use Rattle.qc_hub.proofs.hub.Hub.begin.Goals as goal

pub returns-in-Err : goal.returns-in-Err
returns-in-Err c = record {
  begun = tt;
  played = tt;
  places = tt;
  others = λ s h. take-untaken s c.args.player c.args.app.now c.in-Err.refusal (c.in-Err.ensures s h);
  kept = sets-nothing c.args.self.now.history;
  same = refl;
}

pub returns-in-Err-number_for : goal.returns-in-Err-number_for
returns-in-Err-number_for c = record {
  begun = tt;
  played = tt;
  places = tt;
  others = λ s h.
      let one = c.in-Ok.ensures s h in
      take-behind s c.args.player c.args.app.now one.0 (Some c.in-Err-number_for.refusal) one.1 one.2 (c.in-Err-number_for.ensures s c.args.app.now one.0 h one.2 one.3);
  kept = sets-nothing c.args.self.now.history;
  same = refl;
}

pub begin-requires : goal.begin-requires
begin-requires c =
    let hub : Hub = c.args.self.now in
    let s = c.requires.0 in
    let h = c.requires.1 in
    let one = c.in-Ok.ensures s h in
    kind-there hub s h c.args.app.now one.0 c.in-Ok.id one.2 one.3 (c.in-Ok-number_for.ensures s c.args.app.now one.0 h one.2 one.3).0

pub returns-in_default : goal.returns-in_default
returns-in_default c = record { begun = tt; played = tt; places = tt; others = λ s h. tt; kept = sets-nothing c.args.self.now.history; same = refl }

pub returns-in_default-reserve : goal.returns-in_default-reserve
returns-in_default-reserve c = record { begun = tt; played = tt; places = tt; others = λ s h. tt; kept = c.reserve.ensures.aside; same = refl }

pub returns : goal.returns
returns c =
    let hub : Hub = c.args.self.now in
    let s = c.requires.0 in
    let h = c.requires.1 in
    record {
      begun = λ s h. begun-taken hub s h c.args.player c.args.app.now c.in-Ok.id c.in-Ok-number_for.number (c.in-Ok.ensures s h) (λ app m chosen same. c.in-Ok-number_for.ensures s app m h chosen same) c.in-Ok-begin.attempt c.in-Ok-begin.ensures;
      played = subst (λ (x : Catalogue). IsPlayedBy x c.in-Ok-begin.attempt) (sym (same-catalogue hub.history c.reserve.new.self c.reserve.ensures.aside))
          (begun-plays hub s h c.args.player c.args.app.now c.in-Ok.id c.in-Ok-number_for.number (c.in-Ok.ensures s h) (λ app m chosen same. c.in-Ok-number_for.ensures s app m h chosen same) c.in-Ok-begin.attempt c.in-Ok-begin.ensures);
      places = c.in-Ok-reserve.ensures.reserved;
      others = tt;
      kept = c.reserve.ensures.aside;
      same = refl;
    }
