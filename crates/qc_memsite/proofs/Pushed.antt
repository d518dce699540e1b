-- One more call joins those that a site has had.
use Rattle.std.proofs.Common.{◌≡◌, inl, inr, ◌⊎◌, ⊎_elim, ℕ, ◌≤◌, ◌<◌, List, [], ◌∷◌, ◌++◌, length, take, refl, sym, ◌∙◌, ap, subst, arith, true, false, cond, MatchBool, Bool}
use Rattle.std.proofs.lemmas.Bool.Decides.{nat_tests}
use Rattle.std.proofs.lemmas.Bool.{cases_lt}
use Rattle.std.proofs.lemmas.List.{take_all, take-append-le, length_push}
use Rattle.qc_site.specs.Image.{Image, bytes_of, with_bytes, with_row}
use Rattle.qc_site.specs.Disk.{FileStep, Torn, OneStep, Elapses, Follows, RowStep, written}
use Rattle.qc_site.specs.declared.site.SiteFile.{SiteFile}
use Rattle.qc_memsite.specs.Call.{Call, Wrote, Put}
use Rattle.qc_memsite.specs.Calls.{after, shown_after, Leaves, ImageOf, SinceOf, is_single}
use Rattle.qc_memsite.proofs.Steps.{shown_push, image_push, torn_whole, one_torn, file_same}

module _ (first : Image) where
  -- what is shown after a call, of the calls that are now
  pub shown_to : (calls now : List Call) (x : Call) → now ≡ calls ++ x ∷ [] → shown_after now first ≡ after x (shown_after calls first)
  shown_to calls now x is = ap (λ (l : List Call). shown_after l first) is ∙ shown_push calls x first

  pub image_to : (calls now : List Call) (x : Call) → now ≡ calls ++ x ∷ [] → (c : Image) → ImageOf first now c → (d : Image) × ImageOf first calls d × Leaves x (shown_after calls first) d c
  image_to calls now x is c h = image_push calls x first (λ d. d ≡ first) c (subst (λ (l : List Call). ImageOf first l c) is h)

  pub elapses_same : (calls : List Call) → Elapses (length calls) (length calls) (SinceOf first calls) (SinceOf first calls) (ImageOf first calls)
  elapses_same calls = record { later = omega arith; nothing_else = λ t c le left. inl left; keeps = λ t c le left. left }

  elapses_push : (calls : List Call) (x : Call) → Elapses (length calls) (length (calls ++ x ∷ [])) (SinceOf first calls) (SinceOf first (calls ++ x ∷ [])) (ImageOf first (calls ++ x ∷ []))
  elapses_push calls x = record {
    later = omega (arith, length_push calls x);
    nothing_else = λ t c le since. earlier t c since.0 since.1 since.2 since.3 (cases since.0 since.2);
    keeps = λ t c le since. (since.0, since.1, omega (arith, since.2, length_push calls x), subst (λ (l : List Call). ImageOf first l c) (sym (take-append-le since.0 calls (x ∷ []) since.2)) since.3);
  }
    where
      cases : (k : ℕ) → k ≤ length (calls ++ x ∷ []) → (k ≤ length calls) ⊎ (length (calls ++ x ∷ []) ≤ k)
      cases k le = ⊎_elim (λ (h : length calls < k). inr (omega (arith, h, length_push calls x))) (λ (h : k ≤ length calls). inl h) (cases_lt (length calls) k)

      earlier : (t : ℕ) (c : Image) (k : ℕ) → t ≤ k → k ≤ length (calls ++ x ∷ []) → ImageOf first (take k (calls ++ x ∷ [])) c → (k ≤ length calls) ⊎ (length (calls ++ x ∷ []) ≤ k) → SinceOf first calls t c ⊎ ImageOf first (calls ++ x ∷ []) c
      earlier t c k tk kl img (inl le) = inl (k, tk, le, subst (λ (l : List Call). ImageOf first l c) (take-append-le k calls (x ∷ []) le) img)
      earlier t c k tk kl img (inr ge) = inr (subst (λ (l : List Call). ImageOf first l c) (take_all k (calls ++ x ∷ []) ge) img)

  pub elapses_to : (calls now : List Call) (x : Call) → now ≡ calls ++ x ∷ [] → Elapses (length calls) (length now) (SinceOf first calls) (SinceOf first now) (ImageOf first now)
  elapses_to calls now x is = subst (λ (l : List Call). Elapses (length calls) (length l) (SinceOf first calls) (SinceOf first l) (ImageOf first l)) (sym is) (elapses_push calls x)

  -- what is shown goes on by a call
  pub grown : (calls now : List Call) (x : Call) (shown next : Image) → now ≡ calls ++ x ∷ [] → shown ≡ shown_after calls first → next ≡ after x shown → next ≡ shown_after now first
  grown calls now x shown next is was done = done ∙ ap (λ (i : Image). after x i) was ∙ sym (shown_to calls now x is)

  -- a part of what is shown that the call leaves, whether it was kept or not
  pub kept : {A : Type 0} (f : Image → A) (calls now : List Call) (x : Call) (b : Bool) → now ≡ cond b (calls ++ x ∷ []) calls
      → f (after x (shown_after calls first)) ≡ f (shown_after calls first) → f (shown_after calls first) ≡ f (shown_after now first)
  kept f calls now x true is same = sym (ap f (shown_to calls now x is) ∙ same)
  kept f calls now x false is same = sym (ap (λ (l : List Call). f (shown_after l first)) is)

  -- what a crash after a write may leave
  pub wrote_torn : (calls now : List Call) (file : SiteFile) (at : ℕ) (v : List ℕ) → now ≡ calls ++ Wrote file at v ∷ [] → at ≤ length (bytes_of file (shown_after calls first))
      → Follows (FileStep file (Torn at (length v))) (ImageOf first calls) (ImageOf first now)
  wrote_torn calls now file at v is le c image =
      let from = image_to calls now (Wrote file at v) is c image in
      (from.0, from.1, step from.0 from.2)
    where
      whole : (d : Image) → bytes_of file d ≡ bytes_of file (shown_after calls first) → c ≡ with_bytes file (written (bytes_of file (shown_after calls first)) at v) d → FileStep file (Torn at (length v)) d c
      whole d here there = record { bytes = written (bytes_of file (shown_after calls first)) at v; is = there; by = subst (λ (l : List ℕ). Torn at (length v) l (written (bytes_of file (shown_after calls first)) at v)) (sym here) (torn_whole at v (bytes_of file (shown_after calls first)) le) }

      step : (d : Image) → Leaves (Wrote file at v) (shown_after calls first) d c → FileStep file (Torn at (length v)) d c
      step d (inl done) = whole d done.0 done.1
      step d (inr part) = elim (is_single (bytes_of file (shown_after calls first)) at v) as (λ b. MatchBool b (FileStep file (OneStep at v) d c) (FileStep file (Torn at (length v)) d c) → FileStep file (Torn at (length v)) d c) [
        | true ↦ λ one. record { bytes = one.bytes; is = one.is; by = one_torn at v (bytes_of file d) one.bytes one.by }
        | false ↦ λ torn. torn
      ] part

  pub wrote_one : (calls now : List Call) (file : SiteFile) (at : ℕ) (v : List ℕ) → now ≡ calls ++ Wrote file at v ∷ [] → length v ≡ 1 → at < length (bytes_of file (shown_after calls first))
      → Follows (FileStep file (OneStep at v)) (ImageOf first calls) (ImageOf first now)
  wrote_one calls now file at v is one lt c image =
      let from = image_to calls now (Wrote file at v) is c image in
      (from.0, from.1, step from.0 from.2)
    where
      single : is_single (bytes_of file (shown_after calls first)) at v ≡ true
      single = grind (arith, nat_tests)

      step : (d : Image) → Leaves (Wrote file at v) (shown_after calls first) d c → FileStep file (OneStep at v) d c
      step d (inl done) = record { bytes = written (bytes_of file (shown_after calls first)) at v; is = done.1; by = subst (λ (l : List ℕ). OneStep at v l (written (bytes_of file (shown_after calls first)) at v)) (sym done.0) (inr (lt, refl)) }
      step d (inr part) = subst (λ b. MatchBool b (FileStep file (OneStep at v) d c) (FileStep file (Torn at (length v)) d c)) single part

  -- a call that did nothing
  pub nothing_done : (file : SiteFile) (step : List ℕ → List ℕ → Type 0) → ((bytes : List ℕ) → step bytes bytes) → (calls now : List Call) → now ≡ calls → Follows (FileStep file step) (ImageOf first calls) (ImageOf first now)
  nothing_done file step stays calls now same c image = (c, subst (λ (l : List Call). ImageOf first l c) same image, record { bytes = bytes_of file c; is = file_same file c; by = stays (bytes_of file c) })

  -- what a crash may leave after a row was put
  pub put_done : (calls now : List Call) (resource key : List ℕ) (amount : ℕ) → now ≡ calls ++ Put resource key amount ∷ [] → Follows (λ d c. c ≡ with_row resource key amount d) (ImageOf first calls) (ImageOf first now)
  put_done calls now resource key amount is c image = image_to calls now (Put resource key amount) is c image

  pub put_step : (calls now : List Call) (resource key : List ℕ) (amount : ℕ) → now ≡ calls ++ Put resource key amount ∷ [] → Follows (RowStep resource key amount) (ImageOf first calls) (ImageOf first now)
  put_step calls now resource key amount is c image =
      let from = put_done calls now resource key amount is c image in
      (from.0, from.1, inr from.2)
