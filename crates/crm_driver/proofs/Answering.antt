-- What a compensator hears in a prepare phase, with its answers.
use Rattle.std.proofs.Common.{◌≡◌, ◌∙◌, List, [], ◌∷◌, ◌++◌, map, zip, Bool, refl, sym, ap}
use Rattle.qc_base.specs.declared.log_line.LogRecord.{LogRecord}
use Rattle.qc_base.specs.declared.log_line.Heard.{Heard}
use Rattle.qc_base.specs.declared.log_line.Heard.TheVariants.{BeginPrepare, PrepareRecord, EndPrepare}
use Rattle.qc_base.specs.LogLines.{prepare_heard}
use Rattle.crm_driver.specs.Compensators.{CompensatorState, hears, hears_end}
use Rattle.crm_driver.proofs.Telling.{so_far, hears-hears}

-- of a record
abbrev pub asked : (LogRecord → Bool) → LogRecord → Heard
asked forgets r = PrepareRecord r.seq (forgets r)

each-asked : (forgets : LogRecord → Bool) (rs : List LogRecord) → map (λ (p : LogRecord × Bool). PrepareRecord p.0.seq p.1) (zip rs (map forgets rs)) ≡ map (asked forgets) rs
each-asked forgets [] = refl
each-asked forgets (r ∷ rs) = ap (λ (l : List Heard). asked forgets r ∷ l) (each-asked forgets rs)

pub prepared : (forgets : LogRecord → Bool) (records : List LogRecord) (ready : Bool) (old mid new : CompensatorState) → mid ≡ so_far BeginPrepare (asked forgets) records old → new ≡ hears_end (EndPrepare ready) mid
    → new ≡ hears (prepare_heard (map forgets records) ready records) records old
prepared forgets records ready old mid new state told =
    told ∙ ap (λ (s : CompensatorState). hears_end (EndPrepare ready) s) state
    ∙ hears-hears (BeginPrepare ∷ map (asked forgets) records) (EndPrepare ready ∷ []) records records old
    ∙ ap (λ (l : List Heard). hears (BeginPrepare ∷ (l ++ EndPrepare ready ∷ [])) records old) (sym (each-asked forgets records))
