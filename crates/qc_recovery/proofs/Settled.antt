-- A site that is recovered, and the catalogue of its history.
use Rattle.std.proofs.Common.{◌≡◌, ◌∙◌, ℕ, List, [], ◌++◌, true, Some, Result, Ok, Err, refl, sym, ap, subst}
use Rattle.std.specs.List.{list_all}
use Rattle.std.proofs.lemmas.Grind.{flat_map-append}
use Rattle.qc_base.specs.Rows.{OutsideRows}
use Rattle.qc_base.specs.declared.fact.Fact.{Fact}
use Rattle.qc_base.specs.declared.log_line.LogLine.{LogLine}
use Rattle.qc_base.specs.LogLines.{unfinished}
use Rattle.qc_catalogue.specs.Catalogue.{catalogue_of, IsCatalogueOf}
use Rattle.qc_catalogue.specs.Rows.{has_its_phases}
use Rattle.qc_catalogue.specs.declared.catalogue.Catalogue.{Catalogue}
use Rattle.qc_catalogue.specs.declared.error.CatalogueError.{CatalogueError}
use Rattle.qc_rows.specs.Outside.{outside_amount}
use Rattle.qc_site.specs.Image.{Image}
use Rattle.crm_log.specs.Log.{all_lines}
use Rattle.crm_recovery.specs.Settling.{done_groups}
use Rattle.qc_machine.specs.History.{History, by_text, history_of, if_ok}
use Rattle.qc_machine.specs.Sound.{settled_by_log, IsSound}
use Rattle.qc_machine.proofs.Histories.{holds-in-force}
use Rattle.qc_recovery.specs.Stands.{StandsFor, IsRecovered}
use Rattle.qc_recovery.specs.Calls.{GoesOnRecovered}
use Rattle.qc_recovery.proofs.Kept.{own-facts, own-sound}

-- each resource of the catalogue in force hears of the phases that it needs

is_read : (text : List ℕ) (c : Catalogue) (r : Result Catalogue CatalogueError) → catalogue_of text ≡ r → if_ok r ≡ Some c → IsCatalogueOf text c
is_read text c (Ok own) e is = let same : own ≡ c = cc in e ∙ ap Ok same
is_read text c (Err why) e is = absurd cc

by : (text : List ℕ) → by_text text ≡ if_ok (catalogue_of text)
unfolding by_text
by text = refl

pub catalogue-heard : ((text : List ℕ) (c : Catalogue) → IsCatalogueOf text c → list_all has_its_phases c.resources ≡ true) → (facts : List Fact) → list_all has_its_phases (history_of by_text facts).catalogue.resources ≡ true
catalogue-heard law facts =
    holds-in-force by_text (λ (c : Catalogue). list_all has_its_phases c.resources) refl (λ text c is. law text c (is_read text c (catalogue_of text) refl (sym (by text) ∙ is))) facts

-- where a site stood for a history
module _ (before now : Image) (facts : List Fact) (lines : List LogLine) (goes : GoesOnRecovered facts lines before now)
    (done : unfinished (lines ++ all_lines (done_groups lines)) ≡ [])
    (law : (h : History) (lines : List LogLine) (rows : OutsideRows) → IsSound h lines rows → IsSound h (lines ++ all_lines (done_groups lines)) (settled_by_log h lines rows))
    (settled : (h : History) (lines : List LogLine) (rows : OutsideRows) → IsSound h lines rows → unfinished lines ≡ [] → (resource key : List ℕ) → rows resource key ≡ outside_amount h.outside resource key) where
  abbrev h : History
  h = history_of by_text facts

  all : all_lines (goes.log ++ done_groups lines) ≡ lines ++ all_lines (done_groups lines)
  all = flat_map-append (λ (l : List LogLine). l) goes.log (done_groups lines) ∙ ap (λ (l : List LogLine). l ++ all_lines (done_groups lines)) (sym goes.is)

  none : unfinished (all_lines (goes.log ++ done_groups lines)) ≡ []
  none = ap unfinished all ∙ done

  of-read : IsSound h lines before.rows → IsRecovered now facts
  of-read sound =
      let after : IsSound h (all_lines (goes.log ++ done_groups lines)) now.rows
      = subst (λ (l : List LogLine). IsSound h l now.rows) (sym all) (subst (λ (rows : OutsideRows). IsSound h (lines ++ all_lines (done_groups lines)) rows) (sym goes.rows) (law h lines before.rows sound)) in
      record {
        stands = record { log = goes.log ++ done_groups lines; spells = goes.spells_done; sound = after };
        finished = none;
        settled = settled h (all_lines (goes.log ++ done_groups lines)) now.rows after none;
      }

  pub of-history : (own : List Fact) → StandsFor by_text before own → IsRecovered now own
  of-history own stands =
      subst (λ (fs : List Fact). IsRecovered now fs) (sym (own-facts before facts own goes.log goes.spells stands))
      (of-read (subst (λ (l : List LogLine). IsSound h l before.rows) (sym goes.is) (own-sound before facts own goes.log goes.spells stands)))
