-- The resource of an effect, and an effect that does nothing.
use Rattle.std.proofs.Common.{◌≡◌, ◌∙◌, ℕ, List, [], ◌∷◌, Bool, true, false, cond, Option, Some, None, Ok, is_some, refl, sym, ap, subst, arith, append-nil}
use Rattle.std.specs.Prelude.{◌-◌}
use Rattle.std.specs.List.{list_all}
use Rattle.std.specs.Str.{bytes_eq}
use Rattle.std.proofs.lemmas.Bool.{and_parts, false≢true}
use Rattle.qc_base.specs.declared.log_line.LogLine.{LogLine}
use Rattle.qc_base.specs.declared.log_line.LogRecord.{LogRecord}
use Rattle.qc_site.specs.declared.site.Site.{Ghosts}
use Rattle.qc_site.specs.Image.{Image}
use Rattle.qc_frame.specs.Calls.{LogStands}
use Rattle.qc_entries.specs.Entries.{EntriesView}
use Rattle.qc_catalogue.specs.declared.catalogue.Resource.{Resource}
use Rattle.qc_catalogue.specs.Lookup.{resource_named}
use Rattle.qc_play.specs.declared.effect.Effect.{Effect}
use Rattle.qc_play.specs.declared.effect.Effect.TheVariants.{Change, Retract}
use Rattle.crm_log.specs.Log.{LinesWait}
use Rattle.crm_log.specs.Parts.{are_phases}
use Rattle.crm_clerk.specs.Calls.{HasStaged}
use Rattle.crm_clerk.specs.Clerk.{ClerkView, forgot_lines, last_kept}
use Rattle.crm_clerk.proofs.Rooms.{takes-none}
use Rattle.crm_driver.proofs.Putting.{none_made}
use Rattle.qc_worker.specs.Calls.{Carries, PutsThenWrites}
use Rattle.qc_worker.specs.Effects.{can_carry, puts_back}
use Rattle.qc_worker.proofs.Logged.{written-behind}

pub found-phases : (name : List ℕ) (rs : List Resource) (r : Resource) → resource_named name rs ≡ Some r → list_all (λ (r : Resource). are_phases r.phases) rs ≡ true → are_phases r.phases ≡ true
found-phases name [] r found all = absurd (none found)
  where
    none : None ≡ Some r → ⊥
    none e = cc
found-phases name (x ∷ rs) r found all =
    let both = and_parts (are_phases x.phases) (list_all (λ (r : Resource). are_phases r.phases) rs) all in
    by (bytes_eq x.name name) found both.0 (λ e. found-phases name rs r e both.1)
  where
    by : (b : Bool) → cond b (Some x) (resource_named name rs) ≡ Some r → are_phases x.phases ≡ true → (resource_named name rs ≡ Some r → are_phases r.phases ≡ true) → are_phases r.phases ≡ true
    by true e fit on = let same : x ≡ r = cc in ap (λ (y : Resource). are_phases y.phases) (sym same) ∙ fit
    by false e fit on = on e

staged-none : (clerk : ClerkView) (log : EntriesView) → HasStaged [] 0 clerk log clerk log
staged-none clerk log =
    let room : clerk.room ≡ clerk.room - 0 = omega arith in
    record {
      clerk = λ i. record clerk { lines = sym (append-nil clerk.lines) i; room = room i };
      log = refl;
      room = takes-none log;
      waits = λ before waits. subst (λ (l : List LogLine). LinesWait log l) (sym (append-nil before)) waits;
    }

-- a retract where nothing is to be taken back
module _ {S : Type 0} (g : Ghosts S) where
  nothing-put : (r : Resource) (clerk : ClerkView) (log : EntriesView) (site : S) → (g.told → (c : Image) → g.left_since site (g.moment site) c → g.may_leave site c) → LogStands g log.log site
      → (last : Option LogRecord) → is_some last ≡ false → PutsThenWrites g {A = Unit {0}} (puts_back r last) (forgot_lines clerk r.name last) 0 (Ok (tt {0})) clerk log site clerk log site
  nothing-put r clerk log site only_now stood None none = written-behind g (tt {0}) [] [] 0 clerk clerk log log site site (none_made g (tt {0}) site only_now) (staged-none clerk log) stood
  nothing-put r clerk log site only_now stood (Some last) none = absurd (false≢true (sym none))

  pub nothing-back : (r : Resource) (e : Effect) (clerk : ClerkView) (log : EntriesView) (site : S) → (g.told → (c : Image) → g.left_since site (g.moment site) c → g.may_leave site c) → LogStands g log.log site
      → can_carry clerk r e ≡ false → Carries g r e (Ok (tt {0})) clerk log site clerk log site
  nothing-back r (Change resource key old new) clerk log site only_now stood none = absurd (false≢true (sym none))
  nothing-back r (Retract resource) clerk log site only_now stood none = nothing-put r clerk log site only_now stood (last_kept clerk.lines clerk.attempt r.name) none
