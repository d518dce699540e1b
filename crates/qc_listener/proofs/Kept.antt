-- What an index keeps of a message, after a change.
use Rattle.std.proofs.Common.{◌≡◌, ◌∙◌, ℕ, ◌==◌, List, [], ◌∷◌, Bool, true, false, cond, not, Option, Some, None, refl, sym, ap, eqb-true, eq-eqb}
use Rattle.std.proofs.lemmas.Bool.{ne_eqb, eqb-false}
use Rattle.std.proofs.lemmas.List.Folds.{find-append}
use Rattle.std.specs.Option.{option_or}
use Rattle.qc_base.specs.declared.fact.Kind.{Kind}
use Rattle.qc_base.specs.declared.fact.Kind.TheVariants.{Normal, Final}
use Rattle.qc_base.specs.declared.recording.Recording.{Recording}
use Rattle.qc_catalogue.specs.declared.catalogue.Catalogue.{Catalogue}
use Rattle.qc_listener.specs.Index.{MessageRows, entry_of, rows_by, rows_for, with_entry, without}
use Rattle.qc_txn.specs.Parts.{rows_of_attempt}

-- what is kept of a message is the rows of the attempts on it
pub rows_of_kind : (c : Catalogue) (id : ℕ) (r : Recording) (kind : Kind) → rows_by kind (rows_for c id r) ≡ rows_of_attempt c r kind
rows_of_kind c id r Normal = refl
rows_of_kind c id r Final = refl

pub none_removed : (id : ℕ) (index : List MessageRows) → entry_of id (without id index) ≡ None
none_removed id [] = refl
none_removed id (m ∷ index) = by (m.id == id) refl (none_removed id index)
  where
    by : (b : Bool) → (m.id == id) ≡ b → entry_of id (without id index) ≡ None → entry_of id (cond (not b) (m ∷ without id index) (without id index)) ≡ None
    by true e rest = rest
    by false e rest = ap (λ (b : Bool). cond b (Some m) (entry_of id (without id index))) e ∙ rest

pub others_removed : (gone id : ℕ) (index : List MessageRows) → (id == gone) ≡ false → entry_of id (without gone index) ≡ entry_of id index
others_removed gone id [] n = refl
others_removed gone id (m ∷ index) n = by (m.id == gone) refl (others_removed gone id index n)
  where
    by : (b : Bool) → (m.id == gone) ≡ b → entry_of id (without gone index) ≡ entry_of id index → entry_of id (cond (not b) (m ∷ without gone index) (without gone index)) ≡ cond (m.id == id) (Some m) (entry_of id index)
    by true e rest =
        let other : (m.id == id) ≡ false = ne_eqb m.id id (λ same. eqb-false id gone n (sym same ∙ eqb-true m.id gone e)) in
        rest ∙ sym (ap (λ (b : Bool). cond b (Some m) (entry_of id index)) other)
    by false e rest = ap (cond (m.id == id) (Some m)) rest

or_none : (o : Option MessageRows) → option_or o None ≡ o
or_none None = refl
or_none (Some m) = refl

pub told_set : (entry : MessageRows) (index : List MessageRows) → entry_of entry.id (with_entry entry index) ≡ Some entry
told_set entry index =
    let here : entry_of entry.id (entry ∷ []) ≡ Some entry = ap (λ (b : Bool). cond b (Some entry) None) (eq-eqb entry.id entry.id refl) in
    find-append (λ (m : MessageRows). m.id == entry.id) (without entry.id index) (entry ∷ [])
    ∙ ap (λ (o : Option MessageRows). option_or o (entry_of entry.id (entry ∷ []))) (none_removed entry.id index) ∙ here

pub others_set : (entry : MessageRows) (id : ℕ) (index : List MessageRows) → (id == entry.id) ≡ false → entry_of id (with_entry entry index) ≡ entry_of id index
others_set entry id index n =
    let other : (entry.id == id) ≡ false = ne_eqb entry.id id (λ same. eqb-false id entry.id n (sym same)) in
    let none : entry_of id (entry ∷ []) ≡ None = ap (λ (b : Bool). cond b (Some entry) None) other in
    find-append (λ (m : MessageRows). m.id == id) (without entry.id index) (entry ∷ [])
    ∙ ap (option_or (entry_of id (without entry.id index))) none ∙ or_none (entry_of id (without entry.id index)) ∙ others_removed entry.id id index n
