-- Groups read one after the other.
use Rattle.std.proofs.Common.{◌≡◌, ℕ, ◌≤◌, List, [], ◌∷◌, ◌++◌, length, map, sym, ◌∙◌, ap, subst, append_assoc, All}
use Rattle.std.specs.List.{flat_map}
use Rattle.std.proofs.lemmas.List.{map-append}
use Rattle.std.proofs.lemmas.List.Elements.{All-push}
use Rattle.qc_frame.specs.Frame.{entry, groups_at}
use Rattle.qc_frame.specs.declared.entries.Entry.{Entry}
use Rattle.qc_frame.specs.Log.{LogView, NextGroup, ReadTo}

all_push : (lists : List (List (List ℕ))) (e : List (List ℕ)) → All (λ entries. All (λ e. 1 ≤ length e) entries) lists → All (λ e. 1 ≤ length e) e → All (λ entries. All (λ e. 1 ≤ length e) entries) (lists ++ e ∷ [])
all_push lists e all here = All-push (λ entries. All (λ e. 1 ≤ length e) entries) lists e all here

pub read_on : (file : List ℕ) (from at : ℕ) (old new : LogView) (lists now : List (List (List ℕ))) (entries : List Entry) → ReadTo file from old.place lists → NextGroup file old new at entries → now ≡ lists ++ map (λ e. e.bytes) entries ∷ [] → ReadTo file from new.place now
read_on file from at old new lists now given so_far next is =
    let entries : List (List ℕ) = map (λ e. e.bytes) given in
    subst (λ (l : List (List (List ℕ))). ReadTo file from new.place l) (sym is) (record {
      payloads = so_far.payloads ++ next.payload ∷ [];
      spelled = (
        ap (λ (l : List (List ℕ)). l ++ next.payload ∷ []) so_far.spelled.0 ∙ ap (λ (p : List ℕ). map (λ e. flat_map entry e) lists ++ p ∷ []) next.spelled.spelled.0 ∙ sym (map-append (λ (e : List (List ℕ)). flat_map entry e) lists (entries ∷ [])),
        all_push lists entries so_far.spelled.1 next.spelled.spelled.1,
      );
      led = so_far.led ∙ ap (λ (l : List (List ℕ)). so_far.payloads ++ l) next.next ∙ sym (append_assoc so_far.payloads (next.payload ∷ []) (groups_at file new.place));
    })
