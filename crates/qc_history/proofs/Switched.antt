-- Which applications are off.
use Rattle.std.proofs.Common.{◌≡◌, ◌∙◌, ℕ, List, [], ◌∷◌, ◌++◌, Bool, true, false, not, ◌||◌, refl, sym, ap, subst, Option, Some, None, unwrap_or, if◌then◌else◌}
use Rattle.std.specs.Str.{bytes_eq}
use Rattle.std.proofs.lemmas.List.Folds.{list_any-append}
use Rattle.qc_base.specs.declared.fact.Fact.{Fact}
use Rattle.qc_base.specs.declared.fact.Fact.TheVariants.{Switched}
use Rattle.qc_machine.specs.History.{History, is_on, on_after, switch_of}
use Rattle.qc_play.proofs.OuterLaws.{bytes-flip, bytes-same}
use Rattle.qc_history.specs.Switches.{all_but, is_among, switched}

-- one fact more
pub on-push : (name : List ℕ) (on : Bool) (facts : List Fact) (fact : Fact) → on_after name on (facts ++ fact ∷ []) ≡ unwrap_or (switch_of name fact) (on_after name on facts)
on-push name on [] fact = refl
on-push name on (f ∷ facts) fact = on-push name (unwrap_or (switch_of name f) on) facts fact

-- a fact that switches nothing
pub off-same : (h : History) (fact : Fact) (names : List (List ℕ)) → ((name : List ℕ) → switch_of name fact ≡ None) → ((name : List ℕ) → is_among name names ≡ not (is_on name h)) → (name : List ℕ) → is_among name names ≡ not (on_after name true (h.facts ++ fact ∷ []))
off-same h fact names none off name = off name ∙ ap not (sym (on-push name true h.facts fact ∙ ap (λ (o : Option Bool). unwrap_or o (is_on name h)) (none name)))

-- a switch

among-itself : (app : List ℕ) (names : List (List ℕ)) → is_among app (all_but app names) ≡ false
among-itself app [] = refl
among-itself app (n ∷ names) = by (bytes_eq n app) refl (among-itself app names)
  where
    by : (b : Bool) → bytes_eq n app ≡ b → is_among app (all_but app names) ≡ false → is_among app (if not b then n ∷ all_but app names else all_but app names) ≡ false
    by true e rest = rest
    by false e rest = ap (λ (b : Bool). b || is_among app (all_but app names)) (bytes-flip n app false e) ∙ rest

among-others : (name app : List ℕ) (names : List (List ℕ)) → bytes_eq name app ≡ false → is_among name (all_but app names) ≡ is_among name names
among-others name app [] other = refl
among-others name app (n ∷ names) other = by (bytes_eq n app) refl (among-others name app names other)
  where
    by : (b : Bool) → bytes_eq n app ≡ b → is_among name (all_but app names) ≡ is_among name names
        → is_among name (if not b then n ∷ all_but app names else all_but app names) ≡ (bytes_eq name n || is_among name names)
    by true e rest = rest ∙ sym (ap (λ (b : Bool). b || is_among name names) (subst (λ (x : List ℕ). bytes_eq name x ≡ false) (sym (bytes-same n app e)) other))
    by false e rest = ap (λ (b : Bool). bytes_eq name n || b) rest

or-false : (b : Bool) → (b || false) ≡ b
or-false true = refl
or-false false = refl

one-among : (name app : List ℕ) → is_among name (app ∷ []) ≡ bytes_eq name app
one-among name app = or-false (bytes_eq name app)

pub switched-among : (name app : List ℕ) (on : Bool) (names : List (List ℕ)) → is_among name (switched app on names) ≡ (if bytes_eq app name then not on else is_among name names)
switched-among name app on names = by (bytes_eq app name) refl on
  where
    ends : is_among name (all_but app names ++ app ∷ []) ≡ (is_among name (all_but app names) || bytes_eq name app)
    ends = list_any-append (bytes_eq name) (all_but app names) (app ∷ []) ∙ ap (λ (b : Bool). is_among name (all_but app names) || b) (one-among name app)

    by : (b : Bool) → bytes_eq app name ≡ b → (on : Bool) → is_among name (switched app on names) ≡ (if b then not on else is_among name names)
    by true e true = subst (λ (x : List ℕ). is_among x (all_but app names) ≡ false) (bytes-same app name e) (among-itself app names)
    by true e false =
        ends ∙ ap (λ (b : Bool). b || bytes_eq name app) (subst (λ (x : List ℕ). is_among x (all_but app names) ≡ false) (bytes-same app name e) (among-itself app names)) ∙ bytes-flip app name true e
    by false e true = among-others name app names (bytes-flip app name false e)
    by false e false =
        ends ∙ ap (λ (b : Bool). is_among name (all_but app names) || b) (bytes-flip app name false e) ∙ or-false (is_among name (all_but app names)) ∙ among-others name app names (bytes-flip app name false e)

pub off-switched : (h : History) (app : List ℕ) (on : Bool) (at : ℕ) (names : List (List ℕ)) → ((name : List ℕ) → is_among name names ≡ not (is_on name h)) → (name : List ℕ)
    → is_among name (switched app on names) ≡ not (on_after name true (h.facts ++ Switched app on at ∷ []))
off-switched h app on at names off name =
    switched-among name app on names ∙ by (bytes_eq app name) (off name) ∙ ap not (sym (on-push name true h.facts (Switched app on at)))
  where
    by : (b : Bool) → is_among name names ≡ not (is_on name h) → (if b then not on else is_among name names) ≡ not (unwrap_or (if b then Some on else None) (is_on name h))
    by true e = refl
    by false e = e
