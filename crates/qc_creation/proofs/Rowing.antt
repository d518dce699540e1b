-- Rows made one after the other.
use Rattle.std.proofs.Common.{◌≡◌, ◌≤◌, ◌+◌, ℕ, List, [], ◌∷◌, ◌++◌, inl, inr, map, take, drop, refl, sym, ◌∙◌, ap, arith, append_assoc, append-nil, take-append-drop}
use Rattle.std.specs.List.{flat_map}
use Rattle.std.proofs.lemmas.List.{map-append}
use Rattle.std.proofs.lemmas.Grind.{flat_map-append}
use Rattle.qc_site.specs.declared.site.Site.{Ghosts}
use Rattle.qc_site.specs.Image.{Image, with_row}
use Rattle.qc_base.specs.Rows.{set_row}
use Rattle.qc_site.specs.Disk.{Follows, Images, LeavesOnly, RowStep}
use Rattle.qc_site.proofs.Moments.{started, weaker, joined}
use Rattle.qc_creation.specs.Rows.{OpeningRow, with_rows, LeavesFront}

pub with_rows-append : (xs ys : List OpeningRow) (image : Image) → with_rows (xs ++ ys) image ≡ with_rows ys (with_rows xs image)
with_rows-append [] ys image = refl
with_rows-append (x ∷ xs) ys image = with_rows-append xs ys (with_row x.resource x.key x.amount image)

-- what rows don't touch
pub with_rows-journal : (rows : List OpeningRow) (image : Image) → (with_rows rows image).journal ≡ image.journal
with_rows-journal [] image = refl
with_rows-journal (x ∷ rows) image = with_rows-journal rows (with_row x.resource x.key x.amount image)

pub with_rows-log : (rows : List OpeningRow) (image : Image) → (with_rows rows image).crm_log ≡ image.crm_log
with_rows-log [] image = refl
with_rows-log (x ∷ rows) image = with_rows-log rows (with_row x.resource x.key x.amount image)

pub with_rows-snap : (rows : List OpeningRow) (image : Image) → (with_rows rows image).snap ≡ image.snap
with_rows-snap [] image = refl
with_rows-snap (x ∷ rows) image = with_rows-snap rows (with_row x.resource x.key x.amount image)

-- and the rows depend on rows alone
pub with_rows-rows : (rows : List OpeningRow) (a b : Image) → a.rows ≡ b.rows → (with_rows rows a).rows ≡ (with_rows rows b).rows
with_rows-rows [] a b same = same
with_rows-rows (x ∷ rows) a b same = with_rows-rows rows (with_row x.resource x.key x.amount a) (with_row x.resource x.key x.amount b) (ap (λ r. set_row x.resource x.key x.amount r) same)

-- a front of a part is a front of the whole
front_on : (all done rows rest : List OpeningRow) (before mid : Images) → all ≡ done ++ (rows ++ rest) → Follows (λ d c. c ≡ with_rows done d) before mid → (c : Image) → LeavesFront rows mid c → LeavesFront all before c
front_on all done rows rest before mid split follows c here =
    let from = follows here.was here.there in
    record {
      was = from.0;
      there = from.1;
      done = done ++ here.done;
      left = here.left ++ rest;
      split = split ∙ ap (λ (l : List OpeningRow). done ++ (l ++ rest)) here.split ∙ ap (λ (l : List OpeningRow). done ++ l) (append_assoc here.done here.left rest) ∙ sym (append_assoc done here.done (here.left ++ rest));
      is = here.is ∙ ap (λ (i : Image). with_rows here.done i) from.2 ∙ sym (with_rows-append done here.done from.0);
    }

pub none_yet : (all : List OpeningRow) (before : Images) (c : Image) → before c → LeavesFront all before c
none_yet all before c here = record { was = c; there = here; done = []; left = all; split = refl; is = refl }

module _ {S : Type 0} (g : Ghosts S) where
  -- how far rows were made
  pub record RowsDone (all done : List OpeningRow) (site now : S) : Type 0 where
    pub shown : g.told → g.shown now ≡ with_rows done (g.shown site)
    pub follows : g.told → Follows (λ d c. c ≡ with_rows done d) (g.may_leave site) (g.may_leave now)
    pub any_moment : g.told → LeavesOnly g.moment g.left_since site now (LeavesFront all (g.may_leave site))
    pub count : g.faults site ≤ g.faults now

  pub none_done : (all : List OpeningRow) (site : S) → (g.told → (c : Image) → g.left_since site (g.moment site) c → g.may_leave site c) → RowsDone all [] site site
  none_done all site only_now = record {
    shown = λ told. refl;
    follows = λ told c here. (c, here, refl);
    any_moment = λ told. started g.moment g.left_since site (LeavesFront all (g.may_leave site)) (λ c left. none_yet all (g.may_leave site) c (only_now told c left));
    count = omega arith;
  }

  pub moment_on : (all done rows rest : List OpeningRow) (site mid now : S) → all ≡ done ++ (rows ++ rest) → RowsDone all done site mid → g.told → LeavesOnly g.moment g.left_since mid now (LeavesFront rows (g.may_leave mid)) → LeavesOnly g.moment g.left_since site now (LeavesFront all (g.may_leave site))
  moment_on all done rows rest site mid now split so_far told next =
      joined g.moment g.left_since site mid now (LeavesFront all (g.may_leave site)) (so_far.any_moment told)
      (weaker g.moment g.left_since mid now (LeavesFront rows (g.may_leave mid)) (LeavesFront all (g.may_leave site)) (front_on all done rows rest (g.may_leave site) (g.may_leave mid) split (so_far.follows told)) next)

  pub done_on : (all done rows rest : List OpeningRow) (site mid now : S) → all ≡ done ++ (rows ++ rest) → RowsDone all done site mid
      → (g.told → g.shown now ≡ with_rows rows (g.shown mid)) → (g.told → Follows (λ d c. c ≡ with_rows rows d) (g.may_leave mid) (g.may_leave now))
      → (g.told → LeavesOnly g.moment g.left_since mid now (LeavesFront rows (g.may_leave mid))) → g.faults mid ≤ g.faults now → RowsDone all (done ++ rows) site now
  done_on all done rows rest site mid now split so_far shown follows next count = record {
    shown = λ told. shown told ∙ ap (λ (i : Image). with_rows rows i) (so_far.shown told) ∙ sym (with_rows-append done rows (g.shown site));
    follows = λ told c here.
        let last = follows told c here in
        let first = so_far.follows told last.0 last.1 in
        (first.0, first.1, last.2 ∙ ap (λ (i : Image). with_rows rows i) first.2 ∙ sym (with_rows-append done rows first.0));
    any_moment = λ told. moment_on all done rows rest site mid now split so_far told (next told);
    count = omega (arith, so_far.count, count);
  }

pub one_row : (row : OpeningRow) (before images : Images) → Follows (RowStep row.resource row.key row.amount) before images → (c : Image) → images c → LeavesFront (row ∷ []) before c
one_row row before images follows c here =
    let from = follows c here in
    by_case from.0 from.1 from.2
  where
    by_case : (d : Image) → before d → RowStep row.resource row.key row.amount d c → LeavesFront (row ∷ []) before c
    by_case d there (inl same) = record { was = d; there = there; done = []; left = row ∷ []; split = refl; is = same }
    by_case d there (inr set) = record { was = d; there = there; done = row ∷ []; left = []; split = refl; is = set }

-- one turn of a loop over rows, and over resources

pub map_on : {A : Type 0} (f : A → OpeningRow) (xs : List A) (i : ℕ) (x : A) → take (i + 1) xs ≡ take i xs ++ x ∷ [] → map f (take (i + 1) xs) ≡ map f (take i xs) ++ f x ∷ []
map_on {A = A} f xs i x front = ap (λ (l : List A). map f l) front ∙ map-append f (take i xs) (x ∷ [])

pub map_split : {A : Type 0} (f : A → OpeningRow) (xs : List A) (i : ℕ) (x : A) → take (i + 1) xs ≡ take i xs ++ x ∷ [] → map f xs ≡ map f (take i xs) ++ (f x ∷ [] ++ map f (drop (i + 1) xs))
map_split {A = A} f xs i x front =
    ap (λ (l : List A). map f l) (sym (take-append-drop (i + 1) xs)) ∙ map-append f (take (i + 1) xs) (drop (i + 1) xs)
    ∙ ap (λ (l : List OpeningRow). l ++ map f (drop (i + 1) xs)) (map_on f xs i x front) ∙ append_assoc (map f (take i xs)) (f x ∷ []) (map f (drop (i + 1) xs))

pub flat_on : {A : Type 0} (f : A → List OpeningRow) (xs : List A) (i : ℕ) (x : A) → take (i + 1) xs ≡ take i xs ++ x ∷ [] → flat_map f (take (i + 1) xs) ≡ flat_map f (take i xs) ++ f x
flat_on {A = A} f xs i x front = ap (λ (l : List A). flat_map f l) front ∙ flat_map-append f (take i xs) (x ∷ []) ∙ ap (λ (l : List OpeningRow). flat_map f (take i xs) ++ l) (append-nil (f x))

pub flat_split : {A : Type 0} (f : A → List OpeningRow) (xs : List A) (i : ℕ) (x : A) → take (i + 1) xs ≡ take i xs ++ x ∷ [] → flat_map f xs ≡ flat_map f (take i xs) ++ (f x ++ flat_map f (drop (i + 1) xs))
flat_split {A = A} f xs i x front =
    ap (λ (l : List A). flat_map f l) (sym (take-append-drop (i + 1) xs)) ∙ flat_map-append f (take (i + 1) xs) (drop (i + 1) xs)
    ∙ ap (λ (l : List OpeningRow). l ++ flat_map f (drop (i + 1) xs)) (flat_on f xs i x front) ∙ append_assoc (flat_map f (take i xs)) (f x) (flat_map f (drop (i + 1) xs))
