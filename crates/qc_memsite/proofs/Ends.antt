-- Where the bytes of the calls end.
use Rattle.std.proofs.Common.{◌≡◌, ◌≤◌, List, [], ◌∷◌, ◌++◌, sym, subst, true, false, cond, Bool, All}
use Rattle.std.proofs.lemmas.List.Elements.{All-push}
use Rattle.qc_memsite.specs.Bounds.{end_of}
use Rattle.qc_memsite.specs.Call.{Call}

-- one call more
pub ends_pushed : (calls now : List Call) (x : Call) → now ≡ calls ++ x ∷ [] → All (λ c. end_of c ≤ 4611686018427387904) calls → end_of x ≤ 4611686018427387904 → All (λ c. end_of c ≤ 4611686018427387904) now
ends_pushed calls now x is all end = subst (λ (l : List Call). All (λ c. end_of c ≤ 4611686018427387904) l) (sym is) (All-push (λ (c : Call). end_of c ≤ 4611686018427387904) calls x all end)

-- whether it was kept or not
pub ends_kept : (calls now : List Call) (x : Call) (b : Bool) → now ≡ cond b (calls ++ x ∷ []) calls → All (λ c. end_of c ≤ 4611686018427387904) calls → end_of x ≤ 4611686018427387904 → All (λ c. end_of c ≤ 4611686018427387904) now
ends_kept calls now x true is all end = ends_pushed calls now x is all end
ends_kept calls now x false is all end = subst (λ (l : List Call). All (λ c. end_of c ≤ 4611686018427387904) l) (sym is) all
