-- Laws of puts, on images alone.
use Rattle.std.proofs.Common.{◌≡◌, ◌∙◌, ℕ, List, [], ◌∷◌, ◌++◌, inl, inr, Bool, true, false, cond, Option, None, Some, is_some, ◌&&◌, refl, sym, ap, subst, append_assoc, All}
use Rattle.std.specs.Str.{bytes_eq}
use Rattle.std.proofs.lemmas.List.Elements.{All-head, All-tail}
use Rattle.std.proofs.lemmas.Slice.Eq.{bytes_eq-Decides}
use Rattle.qc_base.specs.Rows.{OutsideRows, set_row, put_row}
use Rattle.qc_site.specs.Image.{Image, with_row}
use Rattle.qc_site.specs.Disk.{Images, Follows, PutStep}
use Rattle.crm_driver.specs.Puts.{RowPut, after_put, after_puts, GoesByPut, GoesByPuts, LeavesFront}

pub after_puts-append : (xs ys : List RowPut) (image : Image) → after_puts (xs ++ ys) image ≡ after_puts ys (after_puts xs image)
after_puts-append [] ys image = refl
after_puts-append (x ∷ xs) ys image = after_puts-append xs ys (after_put x image)

pub goes_by-append : (rows : OutsideRows) (xs ys : List RowPut) (a b c : Image) → GoesByPuts rows xs a b → GoesByPuts rows ys b c → GoesByPuts rows (xs ++ ys) a c
goes_by-append rows [] ys a b c none then = subst (λ (i : Image). GoesByPuts rows ys i c) none then
goes_by-append rows (x ∷ xs) ys a b c first then = (first.0, first.1, goes_by-append rows xs ys first.0 b c first.2 then)

-- a put adds no row

set_there : (resource key r k : List ℕ) (amount : ℕ) (b : Bool) (rows : OutsideRows) → cond b (Some amount) (rows r k) ≡ None → rows r k ≡ None
set_there resource key r k amount false rows none = none
set_there resource key r k amount true rows none = search

lacks_set : (b : Bool) (resource key r k : List ℕ) (amount : ℕ) (rows : OutsideRows) → (cond b (set_row resource key amount rows) rows) r k ≡ None → rows r k ≡ None
lacks_set true resource key r k amount rows none = set_there resource key r k amount (bytes_eq r resource && bytes_eq k key) rows none
lacks_set false resource key r k amount rows none = none

pub lacks_put : (p : RowPut) (image : Image) (r k : List ℕ) → (after_put p image).rows r k ≡ None → image.rows r k ≡ None
lacks_put p image r k none = lacks_set (is_some (image.rows p.resource p.key)) p.resource p.key r k p.amount image.rows none

pub lacks_puts : (puts : List RowPut) (image : Image) (r k : List ℕ) → (after_puts puts image).rows r k ≡ None → image.rows r k ≡ None
lacks_puts [] image r k none = none
lacks_puts (p ∷ puts) image r k none = lacks_put p image r k (lacks_puts puts (after_put p image) r k none)

-- fewer rows, more that may be passed over

abbrev pub Lacks : OutsideRows → OutsideRows → Type 0
Lacks fewer rows = (r k : List ℕ) → fewer r k ≡ None → rows r k ≡ None

more_over : (fewer rows : OutsideRows) (p : RowPut) (a b : Image) → Lacks fewer rows → GoesByPut fewer p a b → GoesByPut rows p a b
more_over fewer rows p a b lacks (inl put) = inl put
more_over fewer rows p a b lacks (inr over) = inr (lacks p.resource p.key over.0, over.1)

pub passed_over : (fewer rows : OutsideRows) (puts : List RowPut) (a b : Image) → Lacks fewer rows → GoesByPuts fewer puts a b → GoesByPuts rows puts a b
passed_over fewer rows [] a b lacks none = none
passed_over fewer rows (p ∷ puts) a b lacks by = (by.0, more_over fewer rows p a by.0 lacks by.1, passed_over fewer rows puts by.0 b lacks by.2)

-- where all rows are there, no put is passed over

one_there : (rows : OutsideRows) (p : RowPut) (a b : Image) → ¬ (rows p.resource p.key ≡ None) → GoesByPut rows p a b → b ≡ after_put p a
one_there rows p a b there (inl put) = put
one_there rows p a b there (inr over) = absurd (there over.0)

pub all_there : (rows : OutsideRows) (puts : List RowPut) (a b : Image) → All (λ (p : RowPut). ¬ (rows p.resource p.key ≡ None)) puts → GoesByPuts rows puts a b → b ≡ after_puts puts a
all_there rows [] a b there none = none
all_there rows (p ∷ puts) a b there by =
    all_there rows puts by.0 b (All-tail (λ (p : RowPut). ¬ (rows p.resource p.key ≡ None)) p puts there) by.2
    ∙ ap (λ (i : Image). after_puts puts i) (one_there rows p a by.0 (All-head (λ (p : RowPut). ¬ (rows p.resource p.key ≡ None)) p puts there) by.1)

-- what puts don't touch

pub after_puts-journal : (puts : List RowPut) (image : Image) → (after_puts puts image).journal ≡ image.journal
after_puts-journal [] image = refl
after_puts-journal (p ∷ puts) image = after_puts-journal puts (after_put p image)

pub after_puts-log : (puts : List RowPut) (image : Image) → (after_puts puts image).crm_log ≡ image.crm_log
after_puts-log [] image = refl
after_puts-log (p ∷ puts) image = after_puts-log puts (after_put p image)

pub after_puts-snap : (puts : List RowPut) (image : Image) → (after_puts puts image).snap ≡ image.snap
after_puts-snap [] image = refl
after_puts-snap (p ∷ puts) image = after_puts-snap puts (after_put p image)

-- and the rows depend on rows alone
pub after_puts-rows : (puts : List RowPut) (a b : Image) → a.rows ≡ b.rows → (after_puts puts a).rows ≡ (after_puts puts b).rows
after_puts-rows [] a b same = same
after_puts-rows (p ∷ puts) a b same = after_puts-rows puts (after_put p a) (after_put p b) (ap (λ (rows : OutsideRows). put_row p.resource p.key p.amount rows) same)

-- fronts

pub none_yet : (rows : OutsideRows) (all : List RowPut) (before : Images) (c : Image) → before c → LeavesFront rows all before c
none_yet rows all before c here = record { was = c; there = here; done = []; left = all; split = refl; by = refl }

pub front_longer : (rows : OutsideRows) (done more : List RowPut) (before : Images) (c : Image) → LeavesFront rows done before c → LeavesFront rows (done ++ more) before c
front_longer rows done more before c here = record {
  was = here.was;
  there = here.there;
  done = here.done;
  left = here.left ++ more;
  split = ap (λ (l : List RowPut). l ++ more) here.split ∙ append_assoc here.done here.left more;
  by = here.by;
}

pub front_on : (fewer rows : OutsideRows) (done more : List RowPut) (before mid : Images) → Lacks fewer rows → Follows (GoesByPuts rows done) before mid → (c : Image) → LeavesFront fewer more mid c → LeavesFront rows (done ++ more) before c
front_on fewer rows done more before mid lacks follows c here =
    let from = follows here.was here.there in
    record {
      was = from.0;
      there = from.1;
      done = done ++ here.done;
      left = here.left;
      split = ap (λ (l : List RowPut). done ++ l) here.split ∙ sym (append_assoc done here.done here.left);
      by = goes_by-append rows done here.done from.0 here.was c from.2 (passed_over fewer rows here.done here.was c lacks here.by);
    }

-- one put

bytes-itself : (a : List ℕ) → bytes_eq a a ≡ true
bytes-itself a = (bytes_eq-Decides a a).1 refl

-- the row that was set, set again
twice : (b : Bool) (amount : ℕ) (x : Option ℕ) → cond b (Some amount) (cond b (Some amount) x) ≡ cond b (Some amount) x
twice true amount x = refl
twice false amount x = refl

set-twice : (resource key : List ℕ) (amount : ℕ) (rows : OutsideRows) → set_row resource key amount (set_row resource key amount rows) ≡ set_row resource key amount rows
set-twice resource key amount rows = λ i r k. twice (bytes_eq r resource && bytes_eq k key) amount (rows r k) i

set-there : (resource key : List ℕ) (amount : ℕ) (rows : OutsideRows) → set_row resource key amount rows resource key ≡ Some amount
set-there resource key amount rows = ap (λ (b : Bool). cond b (Some amount) (rows resource key)) (ap (λ (b : Bool). b && bytes_eq key key) (bytes-itself resource) ∙ bytes-itself key)

-- a put on a row that is there sets it
pub put_there : (p : RowPut) (n : ℕ) (image : Image) → image.rows p.resource p.key ≡ Some n → after_put p image ≡ with_row p.resource p.key p.amount image
put_there p n image there = ap (λ (o : Option ℕ). record image { rows = cond (is_some o) (set_row p.resource p.key p.amount image.rows) image.rows }) there

pub put_absent : (p : RowPut) (image : Image) → image.rows p.resource p.key ≡ None → after_put p image ≡ image
put_absent p image absent = ap (λ (o : Option ℕ). record image { rows = cond (is_some o) (set_row p.resource p.key p.amount image.rows) image.rows }) absent

put_again : (p : RowPut) (d : Image) → after_put p (with_row p.resource p.key p.amount d) ≡ with_row p.resource p.key p.amount d
put_again p d = put_there p p.amount (with_row p.resource p.key p.amount d) (set-there p.resource p.key p.amount d.rows) ∙ ap (λ (rows : OutsideRows). record d { rows = rows }) (set-twice p.resource p.key p.amount d.rows)

pub certain_put : (p : RowPut) (rows : OutsideRows) (before images : Images) → Follows (PutStep p.resource p.key p.amount) before images → Follows (λ d c. c ≡ with_row p.resource p.key p.amount d) before images → Follows (GoesByPuts rows (p ∷ [])) before images
certain_put p rows before images step set c here =
    let from = step c here in
    let whole = set c here in
    by_case from.0 whole.0 from.1 from.2 whole.2
  where
    by_case : (d e : Image) → before d → PutStep p.resource p.key p.amount d c → c ≡ with_row p.resource p.key p.amount e → (d : Image) × before d × GoesByPuts rows (p ∷ []) d c
    by_case d e there (inl same) is = (d, there, (c, inl (is ∙ sym (put_again p e) ∙ ap (λ (i : Image). after_put p i) (sym is ∙ same)), refl))
    by_case d e there (inr put) is = (d, there, (c, inl put, refl))

pub certain_over : (p : RowPut) (rows : OutsideRows) (before images : Images) → rows p.resource p.key ≡ None → ((c : Image) → images c → before c) → Follows (GoesByPuts rows (p ∷ [])) before images
certain_over p rows before images absent no_more c here = (c, no_more c here, (c, inr (absent, refl), refl))

pub front_put : (p : RowPut) (rows : OutsideRows) (before images : Images) → Follows (PutStep p.resource p.key p.amount) before images → (c : Image) → images c → LeavesFront rows (p ∷ []) before c
front_put p rows before images step c here =
    let from = step c here in
    by_case from.0 from.1 from.2
  where
    by_case : (d : Image) → before d → PutStep p.resource p.key p.amount d c → LeavesFront rows (p ∷ []) before c
    by_case d there (inl same) = record { was = d; there = there; done = []; left = p ∷ []; split = refl; by = same }
    by_case d there (inr put) = record { was = d; there = there; done = p ∷ []; left = []; split = refl; by = (c, inl put, refl) }
