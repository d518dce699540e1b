-- What the clients' recorders hold.
use Rattle.std.proofs.Common.{◌≡◌, ◌∙◌, ◌⊎◌, inl, inr, ⊎_elim, ℕ, ◌-◌, ◌≤◌, zero, suc, List, [], ◌∷◌, true, length, refl, sym, ap, slice_get, slice_set, replicate, arith, Option, Some, None, Ok, Err}
use Rattle.std.specs.declared.result.Result.{Result}
use Rattle.qc_base.specs.declared.recording.Recording.{Recording}
use Rattle.qc_protocol.specs.declared.reply.Refusal.{Refusal}
use Rattle.qc_catalogue.specs.declared.catalogue.Catalogue.{Catalogue}
use Rattle.qc_catalogue.specs.Orderly.{is_orderly}
use Rattle.qc_catalogue.specs.Catalogue.{catalogue_of}
use Rattle.qc_catalogue.specs.declared.error.CatalogueError.{CatalogueError}
use Rattle.qc_catalogue.proofs.Orderly.{orderly}
use Rattle.qc_recorder.specs.Recording.{IsHeld}
use Rattle.qc_machine.specs.History.{by_text, if_ok}
use Rattle.qc_machine.specs.Laws.{AreRecorded, ReadsOrderly}
use Rattle.qc_machine.specs.Recorded.{if_called, if_recorded}
use Rattle.qc_machine.specs.Sites.{no_clients}
use Rattle.qc_machine.specs.State.{in_slot, set_slot}

-- the reader of texts

pub reads-orderly : ReadsOrderly by_text
unfolding by_text
reads-orderly text c is = by_read (catalogue_of text) refl is
  where
    by_read : (r : Result Catalogue CatalogueError) → catalogue_of text ≡ r → if_ok r ≡ Some c → is_orderly c ≡ true
    by_read (Ok d) e is = let same : d ≡ c = cc in orderly text c (e ∙ ap (λ (x : Catalogue). Ok x) same)
    by_read (Err error) e is = cc

-- slots

-- what stands in a slot after one was set
pub got-set : {A : Type 0} (xs : List A) (i j : ℕ) (v x : A) → slice_get (slice_set xs i v) j ≡ Some x → (x ≡ v) ⊎ (slice_get xs j ≡ Some x)
got-set [] i j v x e = inr e
got-set (y ∷ ys) zero zero v x e = inl (let same : v ≡ x = cc in sym same)
got-set (y ∷ ys) zero (suc j) v x e = inr e
got-set (y ∷ ys) (suc i) zero v x e = inr e
got-set (y ∷ ys) (suc i) (suc j) v x e = got-set ys i j v x e

-- a slot's content, by the list
pub in-list : {A : Type 0} (slots : List (Option A)) (n : ℕ) (a : A) → in_slot n slots ≡ Some a → slice_get slots (n - 1) ≡ Some (Some a)
in-list {A = A} slots n a e = by (slice_get slots (n - 1)) refl e
  where
    by : (o : Option (Option A)) → slice_get slots (n - 1) ≡ o → (elim o [ Some x ↦ x | None ↦ None ]) ≡ Some a → slice_get slots (n - 1) ≡ Some (Some a)
    by None f e = cc
    by (Some None) f e = cc
    by (Some (Some b)) f e = f ∙ ap (λ (o : Option A). Some o) e

pub in-slot : {A : Type 0} (slots : List (Option A)) (n : ℕ) (a : A) → slice_get slots (n - 1) ≡ Some (Some a) → in_slot n slots ≡ Some a
in-slot {A = A} slots n a e = ap (λ (o : Option (Option A)). elim o as (λ x. Option A) [ Some x ↦ x | None ↦ None ]) e

-- a slot that is set twice, and one that is set to what stood there

set-twice : {A : Type 0} (xs : List A) (i : ℕ) (u v : A) → slice_set (slice_set xs i u) i v ≡ slice_set xs i v
set-twice [] i u v = refl
set-twice (x ∷ xs) zero u v = refl
set-twice {A = A} (x ∷ xs) (suc i) u v = ap (λ (l : List A). x ∷ l) (set-twice xs i u v)

set-same : {A : Type 0} (xs : List A) (i : ℕ) (v : A) → slice_get xs i ≡ Some v → slice_set xs i v ≡ xs
set-same [] i v e = refl
set-same {A = A} (x ∷ xs) zero v e = let same : x ≡ v = cc in ap (λ (y : A). y ∷ xs) (sym same)
set-same {A = A} (x ∷ xs) (suc i) v e = ap (λ (l : List A). x ∷ l) (set-same xs i v e)

pub put-anew : (clients : List (Option Recording)) (n : ℕ) (o : Option Recording) → set_slot n o (set_slot n None clients) ≡ set_slot n o clients
put-anew clients n o = set-twice clients (n - 1) None o

pub put-back : (clients : List (Option Recording)) (n : ℕ) (r : Recording) → in_slot n clients ≡ Some r → set_slot n (Some r) (set_slot n None clients) ≡ clients
put-back clients n r e = put-anew clients n (Some r) ∙ set-same clients (n - 1) (Some r) (in-list clients n r e)

pub set-recorded : (c : Catalogue) (clients : List (Option Recording)) (n : ℕ) (o : Option Recording) → AreRecorded c clients → ((r : Recording) → o ≡ Some r → IsHeld c r) → AreRecorded c (set_slot n o clients)
set-recorded c clients n o all one m r is =
    ⊎_elim (λ (e : Some r ≡ o). one r (sym e)) (λ e. all m r (in-slot clients m r e)) (got-set clients (n - 1) (m - 1) o (Some r) (in-list (set_slot n o clients) m r is))

no-recorder : (k : ℕ) (i : ℕ) (r : Recording) → slice_get (replicate k None) i ≡ Some (Some r) → ⊥
no-recorder zero i r e = cc
no-recorder (suc k) zero r e = let same : None ≡ Some r = cc in cc
no-recorder (suc k) (suc i) r e = no-recorder k i r e

pub none-recorded : (c : Catalogue) → AreRecorded c no_clients
none-recorded c n r is = absurd (no-recorder 16 (n - 1) r (in-list no_clients n r is))

-- what is sent has calls

pub some-calls : (r s : Recording) → if_called r ≡ Some s → (r ≡ s) × (1 ≤ length s.calls)
some-calls r s e = by r.calls refl e
  where
    by : (calls : List _) → r.calls ≡ calls → (elim calls [ [] ↦ None | call ∷ more ↦ Some r ]) ≡ Some s → (r ≡ s) × (1 ≤ length s.calls)
    by [] f e = cc
    by (call ∷ more) f e = let same : r ≡ s = cc in (same, omega (arith, ap length f, ap (λ (x : Recording). length x.calls) same))

pub recorded-calls : (answer : Result Recording Refusal) (s : Recording) → if_recorded answer ≡ Some s → (answer ≡ Ok s) × (1 ≤ length s.calls)
recorded-calls (Ok r) s e = let some = some-calls r s e in (ap (λ (x : Recording). Ok x) some.0, some.1)
recorded-calls (Err refusal) s e = cc
