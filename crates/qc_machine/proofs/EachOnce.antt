-- In a legal history each message stands in one place.
use Rattle.std.proofs.Common.{◌≡◌, ◌∙◌, ℕ, ◌≤◌, ◌==◌, List, All, Bool, true, ◌&&◌, map, count_by, sym, refl, ap, arith, Option, Some, None, is_some}
use Rattle.std.specs.Str.{bytes_eq}
use Rattle.std.proofs.lemmas.Bool.{and_parts, and_from}
use Rattle.std.proofs.lemmas.List.Elements.{All-weaker}
use Rattle.qc_base.specs.declared.fact.Fact.{Fact}
use Rattle.qc_base.specs.declared.message.Message.{Message}
use Rattle.qc_base.specs.declared.recording.Recording.{Recording}
use Rattle.qc_base.specs.Messages.{is_consumed}
use Rattle.qc_catalogue.specs.declared.catalogue.App.{App}
use Rattle.qc_catalogue.specs.declared.catalogue.Catalogue.{Catalogue}
use Rattle.qc_catalogue.specs.Lookup.{app_named}
use Rattle.qc_catalogue.specs.Orderly.{are_apart}
use Rattle.qc_recorder.specs.Fits.{component_of_app, fits_component, recording_fits}
use Rattle.qc_machine.specs.History.{Reader, History, no_facts, history_of, is_legal}
use Rattle.qc_machine.specs.Laws.{ReadsOrderly}
use Rattle.qc_machine.specs.Once.{listed, is_send, is_played, EachOnce}
use Rattle.qc_machine.specs.Orderly.{IsMessageOf, is_consumed_as, IsOrderly}
use Rattle.qc_machine.proofs.Counts.{count-all, count-narrower}
use Rattle.qc_machine.proofs.Histories.{facts-of, orderly-history}
use Rattle.qc_machine.proofs.Keeping.{legal-orderly}
use Rattle.qc_machine.proofs.Listed.{IsPlaced, IsOfOne, listed-count, consumed-count, one-app}
use Rattle.qc_machine.proofs.Numbered.{has_id, rises, numbered-once, numbered-within}

-- what fits a catalogue is of an application that is there
pub fits-app : (c : Catalogue) (r : Recording) → recording_fits c r ≡ true → is_some (app_named r.app c.apps) ≡ true
fits-app c r e = by (app_named r.app c.apps) e
  where
    by : (o : Option App) → fits_component r.calls (component_of_app r.component o) ≡ true → is_some o ≡ true
    by None e = e
    by (Some a) e = refl

-- what is consumed is so by its id, and was played once
once-played : (h : History) (app : List ℕ) (id : ℕ) → IsOrderly h → 1 ≤ count_by (λ (m : Message). bytes_eq m.recording.app app && (is_consumed m.place && (m.id == id))) h.messages → count_by (is_played id) h.facts ≡ 1
once-played h app id o some =
    let ms : List Message = h.messages in
    let spent : Message → Bool = λ m. bytes_eq m.recording.app app && (is_consumed m.place && (m.id == id)) in
    let few : count_by spent ms ≤ count_by (is_consumed_as id) ms = count-narrower spent (is_consumed_as id) (λ m e. turned (bytes_eq m.recording.app app) (is_consumed m.place) (m.id == id) e) ms in
    let has : count_by (is_consumed_as id) ms ≤ count_by (has_id id) ms = count-narrower (is_consumed_as id) (has_id id) (λ m e. (and_parts (m.id == id) _ e).0) ms in
    let within = numbered-within id 1 ms o.numbered (omega (arith, some, few, has)) in
    omega (arith, o.played id, some, few, has, numbered-once id 1 ms o.numbered within.0 within.1)
  where
    turned : (a b c : Bool) → (a && (b && c)) ≡ true → (c && b) ≡ true
    turned a b c e = let both = and_parts b c (and_parts a _ e).1 in and_from c b both.1 both.0

pub each-once : (read : Reader) (facts : List Fact) → ReadsOrderly read → is_legal read facts ≡ true → EachOnce read facts
each-once read facts reads legal =
    let h : History = history_of read facts in
    let o : IsOrderly h = legal-orderly read facts legal in
    let names : are_apart (map (λ (a : App). a.name) h.catalogue.apps) ≡ true = (and_parts (are_apart (map (λ (a : App). a.name) h.catalogue.apps)) _ (orderly-history read facts reads)).0 in
    let placed : All IsPlaced h.messages = All-weaker (IsMessageOf h.catalogue) IsPlaced (λ m is. is.place) h.messages o.messages in
    let one : All (IsOfOne h.catalogue.apps) h.messages = All-weaker (IsMessageOf h.catalogue) (IsOfOne h.catalogue.apps) (λ m is. one-app m.recording.app h.catalogue.apps names (fits-app h.catalogue m.recording is.fits)) h.messages o.messages in
    let all : (p : ℕ → Bool) → count_by p (listed h) ≡ count_by (λ (m : Message). p m.id) h.messages = λ p. listed-count p h (rises 1 h.messages o.numbered) placed one in
    record {
      all_sent = o.sent ∙ ap (λ (l : List Fact). count_by is_send l) (facts-of read no_facts facts);
      once = λ id low high. all (λ n. n == id) ∙ numbered-once id 1 h.messages o.numbered low (omega (arith, high));
      none_else = sym (count-all (listed h)) ∙ all (λ n. true) ∙ count-all h.messages;
      played_once = λ app id some.
          sym (ap (λ (l : List Fact). count_by (is_played id) l) (facts-of read no_facts facts)) ∙ once-played h app id o (omega (arith, some, consumed-count (λ n. n == id) app h.messages));
    }
