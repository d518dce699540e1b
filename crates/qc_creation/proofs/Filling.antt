-- A journal without facts, and one with a fact.
use Rattle.std.proofs.Common.{◌≡◌, ◌⊎◌, inl, inr, ℕ, ◌≤◌, List, [], ◌∷◌, ◌++◌, length, take, refl, sym, ◌∙◌, ap, subst, arith, true, ◌&&◌}
use Rattle.std.proofs.lemmas.List.{take-take, length-take}
use Rattle.qc_base.specs.Spelling.{is_fact}
use Rattle.qc_base.specs.declared.fact.Fact.{Fact}
use Rattle.qc_site.specs.declared.site.SiteFile.{SiteFile}
use Rattle.qc_site.specs.Image.{Image, bytes_of, with_bytes}
use Rattle.qc_site.specs.declared.site.SiteFile.TheVariants.{Journal}
use Rattle.qc_site.specs.declared.site.Site.{Ghosts}
use Rattle.qc_site.specs.Disk.{FileStep, Certain, Images, LeavesOnly, NoMore}
use Rattle.qc_site.proofs.Moments.{weaker, joined}
use Rattle.qc_frame.proofs.Same.{same_log}
use Rattle.qc_site.proofs.Images.{bytes_of-with_bytes, with_bytes-with_bytes}
use Rattle.qc_frame.specs.Frame.{IsBegun, groups, groups_at}
use Rattle.qc_frame.specs.Gate.{After}
use Rattle.qc_frame.specs.Log.{BeingMade, SameLog, WholeFrom, WholeOrNotFrom}
use Rattle.qc_frame.proofs.Groups.{groups_past-drop}
use Rattle.qc_frame.proofs.Fronts.{groups_front, groups_short}
use Rattle.qc_journal.specs.History.{journal_header, fact_payload}
use Rattle.qc_frame.specs.Calls.{ChangesFile}
use Rattle.qc_frame.specs.declared.error.LogError.{LogError}
use Rattle.qc_frame.specs.declared.error.LogError.TheVariants.{SiteFault as log_fault, NotMade, Damaged, NoMemory as log_memory}
use Rattle.qc_catalogue.specs.declared.error.CatalogueError.{CatalogueError}
use Rattle.qc_creation.specs.declared.error.CreateError.TheVariants.{SiteFault, AlreadyMade, BadCatalogue}
use Rattle.qc_creation.specs.Parts.{IsEmpty, HasOnly, Begins, unread}

header_long : length journal_header ≡ 16
header_long = refl

unbegun_front : (n : ℕ) (file : List ℕ) → ¬ IsBegun journal_header file → ¬ IsBegun journal_header (take n file)
unbegun_front n file unbegun begun =
    let size : length (take 16 (take n file)) ≡ 16 = ap length begun.0 ∙ header_long in
    let le : 16 ≤ n = omega (arith, size, length-take 16 (take n file), length-take n file) in
    let none_more : groups file ≡ [] → groups (take n file) ≡ [] = λ none. sym (groups_past-drop 16 (take n file)) ∙ groups_front 16 n file (groups_past-drop 16 file ∙ none) in
    unbegun (sym (take-take 16 n file le) ∙ begun.0, λ none. begun.1 (none_more none))

unbegun_short : (file : List ℕ) → length file ≤ 17 → ¬ IsBegun journal_header file
unbegun_short file short begun = begun.1 (groups_short file (omega (arith, short)))

-- while it is made it isn't begun
pub making : (old new : List ℕ) → BeingMade old new → ¬ IsBegun journal_header old → ¬ IsBegun journal_header new
making old new (inl (n, is)) unbegun = subst (λ (f : List ℕ). ¬ IsBegun journal_header f) (sym is) (unbegun_front n old unbegun)
making old new (inr short) unbegun = unbegun_short new short

pub empty_unbegun : (file : List ℕ) → IsEmpty file → ¬ IsBegun journal_header file
empty_unbegun file empty begun = begun.1 empty.1

pub new_empty : IsEmpty (journal_header ++ 0 ∷ [])
new_empty = (refl, groups_short (journal_header ++ 0 ∷ []) (omega arith))

pub still_empty : (old new : List ℕ) → SameLog old new → IsEmpty old → IsEmpty new
still_empty old new same empty = (same.front ∙ empty.0, same.same ∙ empty.1)

pub only_one : (fact : Fact) (old new : List ℕ) → is_fact fact ≡ true → take 16 new ≡ take 16 old → groups_at new 16 ≡ groups_at old 16 ++ fact_payload fact ∷ [] → IsEmpty old → HasOnly fact new
only_one fact old new limits front more empty = record {
  header = front ∙ empty.0;
  spelled = record { groups = more ∙ ap (λ (l : List (List ℕ)). l ++ fact_payload fact ∷ []) empty.1; limits = ap (λ b. b && true) limits };
}

pub empty_or_only : (fact : Fact) (old new : List ℕ) → is_fact fact ≡ true → WholeOrNotFrom 16 (fact_payload fact) old new → IsEmpty old → IsEmpty new ⊎ HasOnly fact new
empty_or_only fact old new limits step empty = by_case step.either
  where
    by_case : (groups_at new 16 ≡ groups_at old 16) ⊎ (groups_at new 16 ≡ groups_at old 16 ++ fact_payload fact ∷ []) → IsEmpty new ⊎ HasOnly fact new
    by_case (inl same) = inl (step.front ∙ empty.0, same ∙ empty.1)
    by_case (inr more) = inr (only_one fact old new limits step.front more empty)

pub begins_by : (fact : Fact) (old new : List ℕ) → IsEmpty new ⊎ HasOnly fact new → Begins fact old new
begins_by fact old new (inl empty) = inl (λ unbegun. empty_unbegun new empty)
begins_by fact old new (inr only) = inr only

-- one step of a file after another
pub step_step : (file : SiteFile) (s1 s2 s3 : List ℕ → List ℕ → Type 0) → ((x y z : List ℕ) → s1 x y → s2 y z → s3 x z) → (a b c : Image) → FileStep file s1 a b → FileStep file s2 b c → FileStep file s3 a c
step_step file s1 s2 s3 compose a b c first second = record {
  bytes = second.bytes;
  is = second.is ∙ ap (λ (i : Image). with_bytes file second.bytes i) first.is ∙ with_bytes-with_bytes file second.bytes first.bytes a;
  by = compose (bytes_of file a) first.bytes second.bytes first.by (subst (λ (l : List ℕ). s2 l second.bytes) (ap (λ (i : Image). bytes_of file i) first.is ∙ bytes_of-with_bytes file first.bytes a) second.by);
}

pub after_after : (file : SiteFile) (s1 s2 s3 : List ℕ → List ℕ → Type 0) → ((x y z : List ℕ) → s1 x y → s2 y z → s3 x z) → (before mid : Images) → ((c : Image) → mid c → After file s1 before c) → (c : Image) → After file s2 mid c → After file s3 before c
after_after file s1 s2 s3 compose before mid each c here =
    let first = each here.0 here.1 in
    (first.0, first.1, step_step file s1 s2 s3 compose first.0 here.0 c first.2 here.2)

-- a step said more weakly, and a step of which the bytes are known
pub step_less : (file : SiteFile) (s1 s2 : List ℕ → List ℕ → Type 0) → ((x y : List ℕ) → s1 x y → s2 x y) → (a b : Image) → FileStep file s1 a b → FileStep file s2 a b
step_less file s1 s2 less a b step = record { bytes = step.bytes; is = step.is; by = less (bytes_of file a) step.bytes step.by }

pub after_less : (file : SiteFile) (s1 s2 : List ℕ → List ℕ → Type 0) → ((x y : List ℕ) → s1 x y → s2 x y) → (before : Images) (c : Image) → After file s1 before c → After file s2 before c
after_less file s1 s2 less before c here = (here.0, here.1, step_less file s1 s2 less here.0 c here.2)

pub after_known : (file : SiteFile) (s1 s2 : List ℕ → List ℕ → Type 0) (bytes : List ℕ) → ((x : List ℕ) → s2 x bytes) → (before : Images) (c : Image) → bytes_of file c ≡ bytes → After file s1 before c → After file s2 before c
after_known file s1 s2 bytes known before c is here =
    let there : here.2.bytes ≡ bytes = sym (ap (λ (i : Image). bytes_of file i) here.2.is ∙ bytes_of-with_bytes file here.2.bytes here.0) ∙ is in
    (here.0, here.1, record { bytes = here.2.bytes; is = here.2.is; by = subst (λ (l : List ℕ). s2 (bytes_of file here.0) l) (sym there) (known (bytes_of file here.0)) })

pub own_step : (file : SiteFile) (step : List ℕ → List ℕ → Type 0) (bytes : List ℕ) (a b : Image) → b ≡ with_bytes file bytes a → step (bytes_of file a) (bytes_of file b) → FileStep file step a b
own_step file step bytes a b is by = record { bytes = bytes; is = is; by = subst (λ (l : List ℕ). step (bytes_of file a) l) (ap (λ (i : Image). bytes_of file i) is ∙ bytes_of-with_bytes file bytes a) by }

-- what an answer tells of the error that it stands for

pub unread_fault : (e : LogError) → unread e ≡ SiteFault → e ≡ log_fault
unread_fault log_fault is = refl
unread_fault NotMade is = cc
unread_fault (Damaged at) is = cc
unread_fault log_memory is = cc

pub unread_made : (e : LogError) → unread e ≡ AlreadyMade → (e ≡ NotMade) ⊎ ((at : ℕ) × (e ≡ Damaged at))
unread_made log_fault is = cc
unread_made NotMade is = inl refl
unread_made (Damaged at) is = inr (at, refl)
unread_made log_memory is = cc

pub unread_bad : (e : LogError) (bad : CatalogueError) → unread e ≡ BadCatalogue bad → ⊥
unread_bad log_fault bad is = cc
unread_bad NotMade bad is = cc
unread_bad (Damaged at) bad is = cc
unread_bad log_memory bad is = cc

-- a journal with a group isn't empty
pub has_some : (file payload : List ℕ) (rest : List (List ℕ)) (place : ℕ) → place ≡ 16 → groups_at file place ≡ payload ∷ rest → ¬ IsEmpty file
has_some file payload rest place start next empty = not_nil payload rest (sym (ap (λ n. groups_at file n) (sym start) ∙ next) ∙ empty.1)
  where
    not_nil : (p : List ℕ) (more : List (List ℕ)) → p ∷ more ≡ [] → ⊥
    not_nil p more e = cc

-- the new file is like this, whatever the old one
abbrev pub Now : (List ℕ → Type 0) → List ℕ → List ℕ → Type 0
Now P old new = P new

module _ {S : Type 0} (g : Ghosts S) where
  abbrev pub Moment : (Image → Image → Type 0) → S → S → S → Type 0
  Moment step start old new = LeavesOnly g.moment g.left_since old new (λ c. (d : Image) × g.may_leave start d × step d c)

  abbrev pub Each : (Image → Image → Type 0) → S → S → Type 0
  Each step start now = (c : Image) → g.may_leave now c → (d : Image) × g.may_leave start d × step d c

  -- a call that only reads, and one that keeps the groups behind it
  pub reads : (a b : S) → LeavesOnly g.moment g.left_since a b (g.may_leave a) → Moment (FileStep Journal SameLog) a a b
  reads a b all = weaker g.moment g.left_since a b (g.may_leave a) (After Journal SameLog (g.may_leave a)) (λ c here. same_log Journal 16 (g.may_leave a) c here) all

  pub reads_on : (a b c : S) → LeavesOnly g.moment g.left_since a b (g.may_leave a) → NoMore (g.may_leave a) (g.may_leave b) → Moment (FileStep Journal SameLog) b b c → Moment (FileStep Journal SameLog) a a c
  reads_on a b c first less next =
      joined g.moment g.left_since a b c (After Journal SameLog (g.may_leave a)) (reads a b first)
      (weaker g.moment g.left_since b c (After Journal SameLog (g.may_leave b)) (After Journal SameLog (g.may_leave a)) (λ i here. (here.0, less here.0 here.1, here.2)) next)

  pub opens_on : (a b c : S) (inner failed : Type 0) → (inner → failed) → (failed → inner) → (g.told → g.shown b ≡ g.shown a) → (g.told → LeavesOnly g.moment g.left_since a b (g.may_leave a)) → (g.told → NoMore (g.may_leave a) (g.may_leave b)) → g.faults a ≤ g.faults b
      → ChangesFile g Journal SameLog inner b c → ChangesFile g Journal SameLog failed a c
  opens_on a b c inner failed forth back same first less count next = record {
    shown = λ told fine. subst (λ (i : Image). FileStep Journal SameLog i (g.shown c)) (same told) (next.shown told (λ f. fine (forth f)));
    any_moment = λ told. reads_on a b c (first told) (less told) (next.any_moment told);
    cause = record { no_fewer = omega (arith, count, next.cause.no_fewer); cause = λ f. omega (arith, count, next.cause.cause (back f)) };
  }

  -- the journal is made, read and begun, moment by moment
  module _ (fact : Fact) (limits : is_fact fact ≡ true) where
    pub moment_made : (a b : S) → Moment (FileStep Journal BeingMade) a a b → Moment (FileStep Journal (Begins fact)) a a b
    moment_made a b all = weaker g.moment g.left_since a b (After Journal BeingMade (g.may_leave a)) (After Journal (Begins fact) (g.may_leave a)) (after_less Journal BeingMade (Begins fact) (λ x y m. inl (making x y m)) (g.may_leave a)) all

    pub each_made : (a b : S) → Certain Journal (journal_header ++ 0 ∷ []) (g.may_leave b) → Each (FileStep Journal BeingMade) a b → Each (FileStep Journal (Now IsEmpty)) a b
    each_made a b certain each c here = after_known Journal BeingMade (Now IsEmpty) (journal_header ++ 0 ∷ []) (λ x. new_empty) (g.may_leave a) c (certain c here) (each c here)

    pub moment_kept : (a b c : S) → Each (FileStep Journal (Now IsEmpty)) a b → Moment (FileStep Journal SameLog) b b c → Moment (FileStep Journal (Begins fact)) a b c
    moment_kept a b c each all =
        weaker g.moment g.left_since b c (After Journal SameLog (g.may_leave b)) (After Journal (Begins fact) (g.may_leave a))
        (after_after Journal (Now IsEmpty) SameLog (Begins fact) (λ x y z empty same. inl (λ unbegun. empty_unbegun z (still_empty y z same empty))) (g.may_leave a) (g.may_leave b) each) all

    pub each_kept : (a b c : S) → Each (FileStep Journal (Now IsEmpty)) a b → Each (FileStep Journal SameLog) b c → Each (FileStep Journal (Now IsEmpty)) a c
    each_kept a b c first next i here = after_after Journal (Now IsEmpty) SameLog (Now IsEmpty) (λ x y z empty same. still_empty y z same empty) (g.may_leave a) (g.may_leave b) first i (next i here)

    pub moment_added : (a b c : S) → Each (FileStep Journal (Now IsEmpty)) a b → Moment (FileStep Journal (WholeOrNotFrom 16 (fact_payload fact))) b b c → Moment (FileStep Journal (Begins fact)) a b c
    moment_added a b c each all =
        weaker g.moment g.left_since b c (After Journal (WholeOrNotFrom 16 (fact_payload fact)) (g.may_leave b)) (After Journal (Begins fact) (g.may_leave a))
        (after_after Journal (Now IsEmpty) (WholeOrNotFrom 16 (fact_payload fact)) (Begins fact) (λ x y z empty step. begins_by fact x z (empty_or_only fact y z limits step empty)) (g.may_leave a) (g.may_leave b) each) all

    pub joined_begins : (a b c : S) → Moment (FileStep Journal (Begins fact)) a a b → Moment (FileStep Journal (Begins fact)) a b c → Moment (FileStep Journal (Begins fact)) a a c
    joined_begins a b c first next = joined g.moment g.left_since a b c (After Journal (Begins fact) (g.may_leave a)) first next

    pub each_begun : (a c : S) (file : List ℕ) → HasOnly fact file → Certain Journal file (g.may_leave c) → Each (FileStep Journal (Begins fact)) a c → Each (FileStep Journal (Now (HasOnly fact))) a c
    each_begun a c file only certain each i here = after_known Journal (Begins fact) (Now (HasOnly fact)) file (λ x. only) (g.may_leave a) i (certain i here) (each i here)

    -- and as it is shown
    pub step_kept : (a b c : Image) → FileStep Journal (Now IsEmpty) a b → FileStep Journal SameLog b c → FileStep Journal (Now IsEmpty) a c
    step_kept a b c first next = step_step Journal (Now IsEmpty) SameLog (Now IsEmpty) (λ x y z empty same. still_empty y z same empty) a b c first next

    pub step_added : (a b c : Image) → FileStep Journal (Now IsEmpty) a b → FileStep Journal (WholeFrom 16 (fact_payload fact)) b c → FileStep Journal (Now (HasOnly fact)) a c
    step_added a b c first next = step_step Journal (Now IsEmpty) (WholeFrom 16 (fact_payload fact)) (Now (HasOnly fact)) (λ x y z empty whole. only_one fact y z limits whole.front whole.more empty) a b c first next
