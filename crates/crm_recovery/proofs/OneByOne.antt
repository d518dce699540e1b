-- How far a recovery has come. `g` has the members of the site's trait.
use Rattle.std.proofs.Common.{◌≡◌, ◌∙◌, ◌<◌, ◌+◌, ℕ, List, [], ◌∷◌, ◌++◌, length, map, take, drop, get_or, Ok, Err, sym, ap, subst, append-nil}
use Rattle.std.specs.List.{flat_map}
use Rattle.std.proofs.lemmas.List.{map-append, take-append-drop, drop_more}
use Rattle.std.proofs.lemmas.Grind.{flat_map-append}
use Rattle.qc_base.specs.declared.log_line.LogLine.{LogLine}
use Rattle.qc_base.specs.declared.log_line.Recovered.{Recovered}
use Rattle.qc_site.specs.declared.site.Failed.{Failed}
use Rattle.qc_site.specs.declared.site.Site.{Ghosts}
use Rattle.qc_entries.specs.Entries.{EntriesView}
use Rattle.qc_catalogue.specs.declared.catalogue.Catalogue.{Catalogue}
use Rattle.crm_driver.specs.Puts.{RowPut}
use Rattle.crm_history.specs.declared.ended.Ended.{Ended}
use Rattle.crm_history.specs.Legal.{is_committed}
use Rattle.crm_recovery.specs.declared.error.FinishError.{FinishError}
use Rattle.crm_recovery.specs.Settling.{done_group, phase_puts, attempts_puts, recovery_of}
use Rattle.crm_recovery.specs.Calls.{Finishes}
use Rattle.crm_recovery.specs.Moments.{Finish, finish_of, FinishesInTurn}
use Rattle.crm_recovery.proofs.Finishing.{finishes-on, retold}
use Rattle.crm_recovery.proofs.InTurn.{turn-on, turn-failed, lacks-shown}

-- these attempts are finished
pub record FinishedSoFar {S : Type 0} (g : Ghosts S) (c : Catalogue) (ended : List Ended) (lines : List LogLine) (done : List ℕ) (told : List Recovered) (log : EntriesView) (site : S) (now : EntriesView) (mid : S) : Type 0 where
  pub says : told ≡ map (recovery_of ended lines) done
  pub finishes : Finishes g {A = Unit {0}} {E = Failed} (attempts_puts c ended lines done) (map done_group done) ⊥ (Ok (tt {0})) log site now mid
  pub turns : FinishesInTurn g {A = Unit {0}} {E = Failed} (map (finish_of c ended lines) done) (Ok (tt {0})) site mid

module _ {S : Type 0} (g : Ghosts S) (c : Catalogue) (ended : List Ended) (lines : List LogLine) where
  abbrev f : ℕ → Finish
  f = finish_of c ended lines

  -- one attempt more
  pub one-more : (done now : List ℕ) (a : ℕ) (told further : List Recovered) (one : Recovered) (failed : Type 0) (log mid new : EntriesView) (site between after : S) → now ≡ done ++ a ∷ [] → further ≡ told ++ one ∷ [] → one ≡ recovery_of ended lines a
      → FinishedSoFar g c ended lines done told log site mid between → Finishes g {A = Recovered} {E = FinishError} (phase_puts c lines a (is_committed a ended)) (done_group a ∷ []) failed (Ok one) mid between new after
      → FinishesInTurn g {A = Recovered} {E = FinishError} (f a ∷ []) (Ok one) between after → FinishedSoFar g c ended lines now further log site new after
  one-more done now a told further one failed log mid new site between after more pushed says so then turn =
      let p : ℕ → List RowPut = λ x. phase_puts c lines x (is_committed x ended) in
      let last : Finishes g {A = Unit {0}} {E = Failed} (p a) (done_group a ∷ []) ⊥ (Ok (tt {0})) mid between new after = retold g (p a) (done_group a ∷ []) failed ⊥ one (tt {0}) mid new between after (λ x. x) then in
      let both = finishes-on g (flat_map p done) (p a) (map done_group done) (done_group a ∷ []) ⊥ ⊥ (tt {0}) (Ok (tt {0})) log mid new site between after so.finishes last in
      let puts : flat_map p done ++ p a ≡ flat_map p now = ap (λ (l : List RowPut). flat_map p done ++ l) (sym (append-nil (p a))) ∙ sym (flat_map-append p done (a ∷ [])) ∙ ap (flat_map p) (sym more) in
      let groups : map done_group done ++ done_group a ∷ [] ≡ map done_group now = sym (map-append done_group done (a ∷ [])) ∙ ap (map done_group) (sym more) in
      let all : map f done ++ f a ∷ [] ≡ map f now = sym (map-append f done (a ∷ [])) ∙ ap (map f) (sym more) in
      record {
        says = pushed ∙ ap (λ (l : List Recovered). l ++ one ∷ []) so.says ∙ ap (λ (r : Recovered). map (recovery_of ended lines) done ++ r ∷ []) says
            ∙ sym (map-append (recovery_of ended lines) done (a ∷ [])) ∙ ap (map (recovery_of ended lines)) (sym more);
        finishes = subst (λ (x : List RowPut × List (List LogLine)). Finishes g {A = Unit {0}} {E = Failed} x.0 x.1 ⊥ (Ok (tt {0})) log site new after) (λ i. (puts i, groups i)) both;
        turns = subst (λ (l : List Finish). FinishesInTurn g {A = Unit {0}} {E = Failed} l (Ok (tt {0})) site after) all
            (turn-on g (map f done) (f a ∷ []) (tt {0}) one (tt {0}) site between after (lacks-shown g (flat_map p done) site between (λ told. (so.finishes.shown told).rows)) so.turns turn);
      }

  -- the next one failed
  pub one-failed : {A B : Type 0} (items : List ℕ) (i : ℕ) (told : List Recovered) (e d : FinishError) (log mid : EntriesView) (site between after : S) → i < length items → FinishedSoFar g c ended lines (take i items) told log site mid between
      → FinishesInTurn g {A = B} (f (get_or items i 0) ∷ []) (Err e) between after → FinishesInTurn g {A = A} (map f items) (Err d) site after
  one-failed {A} {B} items i told e d log mid site between after inside so turn =
      let p : ℕ → List RowPut = λ x. phase_puts c lines x (is_committed x ended) in
      let done = take i items in
      let rest = drop (i + 1) items in
      let split : items ≡ done ++ get_or items i 0 ∷ rest = sym (take-append-drop i items) ∙ ap (λ (l : List ℕ). done ++ l) (drop_more items i 0 inside) in
      let all : map f done ++ (f (get_or items i 0) ∷ [] ++ map f rest) ≡ map f items = sym (map-append f done (get_or items i 0 ∷ rest)) ∙ ap (map f) (sym split) in
      subst (λ (l : List Finish). FinishesInTurn g {A = A} l (Err d) site after) all
      (turn-failed g {C = A} (map f done) (f (get_or items i 0) ∷ []) (map f rest) (tt {0}) e d site between after (lacks-shown g (flat_map p done) site between (λ told. (so.finishes.shown told).rows)) so.turns turn)
