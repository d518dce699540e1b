-- Amounts stay in their range through a call, and a forced attempt stays forced.
use Rattle.std.proofs.Common.{◌≡◌, ◌∙◌, ℕ, List, [], ◌∷◌, ◌++◌, Bool, true, false, cond, ◌&&◌, ◌==◌, find, refl, sym, ap, subst, Option, Some, None, option_and_then, option_map}
use Rattle.std.specs.List.{list_all}
use Rattle.std.proofs.lemmas.Bool.{and_parts, and_from}
use Rattle.std.proofs.lemmas.List.Folds.{list_all-append}
use Rattle.qc_base.specs.Rows.{row_eq}
use Rattle.qc_base.specs.declared.log_line.LogRecord.{LogRecord}
use Rattle.qc_base.specs.declared.recording.Arg.{Arg}
use Rattle.qc_base.specs.declared.recording.Row.{Row}
use Rattle.qc_script.specs.declared.step.Step.{Step}
use Rattle.qc_play.specs.declared.effect.Effect.TheVariants.{Change, Retract}
use Rattle.qc_play.specs.declared.record.PlayRecord.{PlayRecord}
use Rattle.qc_play.specs.Play.{Seen, Play, outside_row, amount_of, with_amount, fits, is_of, last_of, kept_last, forget, new_record, without_last, ran, run_call}
use Rattle.qc_play.specs.Limits.{seen_fits, view_fits, record_fits, records_fit, effect_fits, effects_fit}
use Rattle.qc_play.proofs.OuterLaws.{kept-is}
use Rattle.qc_play.proofs.Playing.{OnPlay, OnRan, IsLaw, call-on, call-keeps}

found-fits : (row : Row) (n : ℕ) (view : List Seen) → view_fits view ≡ true → amount_of row view ≡ Some n → fits n ≡ true
found-fits row n [] all e = absurd (none e)
  where
    none : None ≡ Some n → ⊥
    none e = cc
found-fits row n (s ∷ view) all e = let parts = and_parts (seen_fits s.1) _ all in by (row_eq s.0 row) parts.0 e (found-fits row n view parts.1)
  where
    by : (b : Bool) → seen_fits s.1 ≡ true → option_and_then (λ (s : Seen). s.1) (cond b (Some s) (find (λ (s : Seen). row_eq s.0 row) view)) ≡ Some n → (amount_of row view ≡ Some n → fits n ≡ true) → fits n ≡ true
    by true h e on = ap seen_fits (sym e) ∙ h
    by false h e on = on e

set-fits : (row : Row) (n : ℕ) (view : List Seen) → fits n ≡ true → view_fits view ≡ true → view_fits (with_amount row n view) ≡ true
set-fits row n [] most all = refl
set-fits row n (s ∷ view) most all = let parts = and_parts (seen_fits s.1) _ all in by (row_eq s.0 row) parts.0 (set-fits row n view most parts.1)
  where
    by : (b : Bool) → seen_fits s.1 ≡ true → view_fits (with_amount row n view) ≡ true → view_fits (cond b ((s.0, Some n)) s ∷ with_amount row n view) ≡ true
    by true h rest = and_from (fits n) _ most rest
    by false h rest = and_from (seen_fits s.1) _ h rest

last-fits : (resource : List ℕ) (rs : List PlayRecord) (p : PlayRecord) → records_fit rs ≡ true → last_of resource rs ≡ Some p → record_fits p ≡ true
last-fits resource [] p all e = absurd (none e)
  where
    none : None ≡ Some p → ⊥
    none e = cc
last-fits resource (r ∷ rs) p all e = let parts = and_parts (record_fits r) _ all in by (last_of resource rs) refl (is_of resource r) e parts.0 (last-fits resource rs p parts.1)
  where
    by : (o : Option PlayRecord) → last_of resource rs ≡ o → (b : Bool) → (elim o as (λ x. Option PlayRecord) [ Some s ↦ Some s | None ↦ cond b (Some r) None ]) ≡ Some p
        → record_fits r ≡ true → (last_of resource rs ≡ Some p → record_fits p ≡ true) → record_fits p ≡ true
    by (Some s) f b e h on = on (f ∙ e)
    by None f true e h on = let same : r ≡ p = cc in ap record_fits (sym same) ∙ h
    by None f false e h on = absurd (none e)
      where
        none : None ≡ Some p → ⊥
        none e = cc

kept-fits : (resource : List ℕ) (rs : List PlayRecord) (r : LogRecord) → records_fit rs ≡ true → kept_last resource rs ≡ Some r → fits r.old ≡ true
kept-fits resource rs r all e =
    let kept = kept-is resource rs r e in
    ap (λ (x : LogRecord). fits x.old) (sym kept.3) ∙ (and_parts (fits kept.0.entry.old) _ (last-fits resource rs kept.0 all kept.1)).0

forget-fits : (resource : List ℕ) (seq : ℕ) (rs : List PlayRecord) → records_fit rs ≡ true → records_fit (forget resource seq rs) ≡ true
forget-fits resource seq [] all = refl
forget-fits resource seq (r ∷ rs) all = let parts = and_parts (record_fits r) _ all in by (is_of resource r && (r.entry.seq == seq)) parts.0 (forget-fits resource seq rs parts.1)
  where
    by : (b : Bool) → record_fits r ≡ true → records_fit (forget resource seq rs) ≡ true → records_fit (cond b (record r { forgotten = true }) r ∷ forget resource seq rs) ≡ true
    by true h rest = and_from (record_fits r) _ h rest
    by false h rest = and_from (record_fits r) _ h rest

push-fits : {A : Type 0} (f : A → Bool) (xs : List A) (x : A) → list_all f xs ≡ true → f x ≡ true → list_all f (xs ++ x ∷ []) ≡ true
push-fits f xs x all h = list_all-append f xs (x ∷ []) ∙ and_from (list_all f xs) _ all (and_from (f x) _ h refl)

pub record Fits (play : Play) : Type 0 where
  pub view : view_fits play.view ≡ true
  pub records : records_fit play.records ≡ true
  pub effects : effects_fit play.effects ≡ true

fits-law : IsLaw Fits
fits-law = record {
  change = λ row n play inside most p. record { view = set-fits row n play.view most p.view; records = p.records; effects = p.effects };
  outside = λ row old new play outside e most p.
      let both : (fits old && fits new) ≡ true = and_from (fits old) _ (found-fits row old play.view p.view e) most in
      record {
        view = set-fits row new play.view most p.view;
        records = push-fits record_fits play.records (new_record row old new play.records) p.records both;
        effects = push-fits effect_fits play.effects (Change row.name row.key old new) p.effects both;
      };
  retract = λ resource r play e p. subst (λ o. OnPlay o Fits) (sym (ap (option_map (λ (r : LogRecord). without_last resource r play)) e)) (record {
    view = set-fits (outside_row resource r.key) r.old play.view (kept-fits resource play.records r p.records e) p.view;
    records = forget-fits resource r.seq play.records p.records;
    effects = push-fits effect_fits play.effects (Retract resource) p.effects refl;
  });
  force = λ play p. record { view = p.view; records = p.records; effects = p.effects };
}

pub call-fits : (script : List Step) (args : List Arg) (play next : Play) → view_fits play.view ≡ true → records_fit play.records ≡ true → run_call script args play ≡ ran next → Fits next
call-fits script args play next view records e =
    subst (λ r. OnRan r Fits) e (call-on Fits fits-law script args play (record { view = view; records = records; effects = refl }))

-- an attempt that is forced

abbrev IsForced : Play → Type 0
IsForced play = play.forced ≡ true

forced-law : IsLaw IsForced
forced-law = record {
  change = λ row n play inside most p. p;
  outside = λ row old new play outside e most p. p;
  retract = λ resource r play e p. subst (λ o. OnPlay o IsForced) (sym (ap (option_map (λ (r : LogRecord). without_last resource r play)) e)) p;
  force = λ play p. refl;
}

pub call-forced : (script : List Step) (args : List Arg) (play next : Play) → play.forced ≡ true → run_call script args play ≡ ran next → next.forced ≡ true
call-forced script args play next p e = subst (λ r. OnRan r IsForced) e (call-keeps IsForced forced-law (λ play p. p) script args play p)
