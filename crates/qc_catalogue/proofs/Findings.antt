-- The first of some findings, and walks over several.
use Rattle.std.proofs.Common.{◌≡◌, List, ℕ, [], ◌∷◌, ◌++◌, Bool, true, false, cond, Some, Ok, Err, ap, arith, ◌∙◌}
use Rattle.std.specs.Prelude.{Result}
use Rattle.std.proofs.lemmas.Option.{same_Some, none-some}
use Rattle.std.specs.List.{list_any}
use Rattle.std.specs.Str.{bytes_eq}
use Rattle.qc_catalogue.specs.declared.error.CatalogueError.{CatalogueError}
use Rattle.qc_catalogue.specs.declared.error.CatalogueError.TheVariants.{BadField}
use Rattle.qc_catalogue.specs.Findings.{Finding, broken, named, first_found, walked, with_id}

-- what is found first stays first, whatever comes behind
pub first_append : (xs ys : List Finding) (f : Finding) → first_found xs ≡ Some f → first_found (xs ++ ys) ≡ Some f
first_append [] ys f h = absurd (none-some f h)
first_append (x ∷ xs) ys f h = h

-- a walk over findings goes on behind them, or stops among them

abbrev pub Met : Type 0
Met = List (List ℕ)

abbrev pub Walk : Type 0
Walk = Result Met CatalogueError

abbrev pub the_walk : Met → Walk
the_walk m = Ok m

not_both : (m : Met) (e : CatalogueError) → the_walk m ≡ Err e → ⊥
not_both m e h = grind arith

goes_on : (b : Bool) (e : CatalogueError) (r q w : Walk) (after : Met) → (r ≡ Ok after → q ≡ w) → cond b (Err e) r ≡ Ok after → cond b (Err e) q ≡ w
goes_on true e r q w after go h = grind arith
goes_on false e r q w after go h = go h

same_met : (met after : Met) → the_walk met ≡ the_walk after → met ≡ after
same_met met after h = grind arith

pub walked_on : (met after : Met) (xs ys : List Finding) → walked met xs ≡ Ok after → walked met (xs ++ ys) ≡ walked after ys
walked_on met after [] ys h = rw (same_met met after h)
walked_on met after (broken e ∷ xs) ys h = grind arith
walked_on met after (named path id ∷ xs) ys h =
    goes_on (list_any (bytes_eq id) met) (BadField path) (walked (with_id id met) xs) (walked (with_id id met) (xs ++ ys)) (walked after ys) after
    (walked_on (with_id id met) after xs ys) h

stops : (b : Bool) (f e : CatalogueError) (r q : Walk) → (r ≡ Err e → q ≡ Err e) → cond b (Err f) r ≡ Err e → cond b (Err f) q ≡ Err e
stops true f e r q go h = h
stops false f e r q go h = go h

pub walked_stopped : (met : Met) (e : CatalogueError) (xs ys : List Finding) → walked met xs ≡ Err e → walked met (xs ++ ys) ≡ Err e
walked_stopped met e [] ys h = absurd (not_both met e h)
walked_stopped met e (broken f ∷ xs) ys h = h
walked_stopped met e (named path id ∷ xs) ys h =
    stops (list_any (bytes_eq id) met) (BadField path) e (walked (with_id id met) xs) (walked (with_id id met) (xs ++ ys))
    (walked_stopped (with_id id met) e xs ys) h

-- a walk stops at a broken rule that is found first
pub walked_first : (met : Met) (e : CatalogueError) (xs : List Finding) → first_found xs ≡ Some (broken e) → walked met xs ≡ Err e
walked_first met e [] h = absurd (none-some (broken e) h)
walked_first met e (x ∷ xs) h = rw (same_Some x (broken e) h)

-- behind rules that hold, the first one found is the first of all
pub first_behind : (xs ys : List Finding) (f : Finding) → xs ≡ [] → first_found ys ≡ Some f → first_found (xs ++ ys) ≡ Some f
first_behind xs ys f clean first = ap (λ zs. first_found (zs ++ ys)) clean ∙ first

-- a walk passes rules that hold
pub walked_past : (met : Met) (xs ys : List Finding) → xs ≡ [] → walked met (xs ++ ys) ≡ walked met ys
walked_past met xs ys clean = ap (λ zs. walked met (zs ++ ys)) clean
