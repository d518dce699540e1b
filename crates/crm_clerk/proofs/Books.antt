-- Where the account of a resource stands, and what a change of its records is.
use Rattle.std.proofs.Common.{◌≡◌, ◌∙◌, ℕ, suc, ◌+◌, ◌-◌, ◌<◌, ◌≤◌, List, [], ◌∷◌, ◌++◌, length, get_or, set, take, drop, map, sum_by, Bool, true, false, cond, bytes_eq, Some, None, refl, sym, ap, subst, arith, append_assoc, zero-add, ◌==◌, take-append-drop, length-append, All}
use Rattle.std.proofs.lemmas.List.{drop-drop, take-take, take-append-le, drop-append-le, take_at, drop_at, length-take-le, length-drop}
use Rattle.std.proofs.lemmas.List.Elements.{All-set}
use Rattle.std.proofs.lemmas.List.Sums.{sum_by-cons, sum_by-set}
use Rattle.std.proofs.Math.Seq.{take-add}
use Rattle.qc_base.specs.declared.log_line.LogRecord.{LogRecord}
use Rattle.crm_clerk.specs.declared.book.Counts.{Counts}
use Rattle.crm_clerk.specs.declared.book.Place.{Place}
use Rattle.crm_clerk.specs.Accounts.{Account, account_of, with_account, written_to, without_seq, without}
use Rattle.crm_clerk.specs.Books.{account_in, accounts_in, IsWithin}
use Rattle.crm_clerk.specs.Places.{kept_of, place_from, seq_from}

-- an account with other records
abbrev pub as_now : Counts → List LogRecord → Account → Account
as_now c mine a = record a { written = c.written; records = mine }

-- the place of a resource, where the first of these has this index and its records begin here
pub record IsFound (index start : ℕ) (resource : List ℕ) (regs : List (List ℕ × ℕ)) (all : List Counts) (p : Place) : Type 0 where
  -- how many resources, and how many records, stand before
  pub nth : ℕ
  pub offset : ℕ
  pub name : List ℕ × ℕ
  pub here : p.index ≡ index + nth
  pub begins : p.start ≡ start + offset
  pub inside : nth < length all
  pub own : (d : Counts) → get_or all nth d ≡ p.counts
  pub fits : offset + p.counts.kept ≤ sum_by kept_of all
  pub account : (records : List LogRecord) → account_of resource (accounts_in regs all records) ≡ Some (account_in name p.counts (take p.counts.kept (drop offset records)))
  pub changed : (records mine : List LogRecord) (c : Counts) → length records ≡ sum_by kept_of all → length mine ≡ c.kept
      → accounts_in regs (set all nth c) (take offset records ++ (mine ++ drop (offset + p.counts.kept) records)) ≡ with_account resource (as_now c mine) (accounts_in regs all records)

found_here : (index start : ℕ) (resource : List ℕ) (r : List ℕ × ℕ) (rs : List (List ℕ × ℕ)) (c : Counts) (cs : List Counts) → bytes_eq r.0 resource ≡ true
    → IsFound index start resource (r ∷ rs) (c ∷ cs) (record { index = index; start = start; counts = c })
found_here index start resource r rs c cs is = record {
  nth = 0;
  offset = 0;
  name = r;
  here = omega arith;
  begins = omega arith;
  inside = omega arith;
  own = λ d. refl;
  fits = omega (arith, sum_by-cons kept_of c cs);
  account = λ records. ap (λ (b : Bool). cond b (Some (account_in r c (take c.kept records))) (account_of resource (accounts_in rs cs (drop c.kept records)))) is;
  changed = λ records mine d long fits. head records mine d fits;
}
  where
    head : (records mine : List LogRecord) (d : Counts) → length mine ≡ d.kept
        → accounts_in (r ∷ rs) (d ∷ cs) (mine ++ drop (0 + c.kept) records) ≡ with_account resource (as_now d mine) (accounts_in (r ∷ rs) (c ∷ cs) records)
    head records mine d fits =
        ap (λ (n : ℕ). accounts_in (r ∷ rs) (d ∷ cs) (mine ++ drop n records)) (zero-add c.kept)
        ∙ (λ i. account_in r d (take_at mine (drop c.kept records) d.kept fits i) ∷ accounts_in rs cs (drop_at mine (drop c.kept records) d.kept fits i))
        ∙ sym (ap (λ (b : Bool). cond b (account_in r d mine ∷ accounts_in rs cs (drop c.kept records)) (account_in r c (take c.kept records) ∷ with_account resource (as_now d mine) (accounts_in rs cs (drop c.kept records)))) is)

-- records behind a front that stays
front-take : (n m : ℕ) (records more : List LogRecord) → n + m ≤ length records → take n (take (n + m) records ++ more) ≡ take n records
front-take n m records more le = take-append-le n (take (n + m) records) more (omega (arith, length-take-le (n + m) records le)) ∙ take-take n (n + m) records (omega arith)

front-drop : (n m : ℕ) (records more : List LogRecord) → n + m ≤ length records → drop n (take (n + m) records ++ more) ≡ take m (drop n records) ++ more
front-drop n m records more le =
    ap (λ (l : List LogRecord). drop n (l ++ more)) (take-add n m records)
    ∙ ap (λ (l : List LogRecord). drop n l) (append_assoc (take n records) (take m (drop n records)) more)
    ∙ drop_at (take n records) (take m (drop n records) ++ more) n (length-take-le n records (omega (arith, le)))

found_behind : (index start : ℕ) (resource : List ℕ) (r : List ℕ × ℕ) (rs : List (List ℕ × ℕ)) (c : Counts) (cs : List Counts) (p : Place) → bytes_eq r.0 resource ≡ false
    → IsFound (index + 1) (start + c.kept) resource rs cs p → IsFound index start resource (r ∷ rs) (c ∷ cs) p
found_behind index start resource r rs c cs p is f = record {
  nth = suc f.nth;
  offset = c.kept + f.offset;
  name = f.name;
  here = omega (arith, f.here);
  begins = omega (arith, f.begins);
  inside = omega (arith, f.inside);
  own = λ d. f.own d;
  fits = omega (arith, f.fits, sum_by-cons kept_of c cs);
  account = λ records.
      ap (λ (b : Bool). cond b (Some (account_in r c (take c.kept records))) (account_of resource (accounts_in rs cs (drop c.kept records)))) is
      ∙ f.account (drop c.kept records)
      ∙ ap (λ (l : List LogRecord). Some (account_in f.name p.counts (take p.counts.kept l))) (drop-drop f.offset c.kept records);
  changed = λ records mine d long fits. tail records mine d long fits;
}
  where
    tail : (records mine : List LogRecord) (d : Counts) → length records ≡ sum_by kept_of (c ∷ cs) → length mine ≡ d.kept
        → accounts_in (r ∷ rs) (c ∷ set cs f.nth d) (take (c.kept + f.offset) records ++ (mine ++ drop (c.kept + f.offset + p.counts.kept) records)) ≡ with_account resource (as_now d mine) (accounts_in (r ∷ rs) (c ∷ cs) records)
    tail records mine d long fits =
        let more : List LogRecord = mine ++ drop (c.kept + f.offset + p.counts.kept) records in
        let left : List LogRecord = drop c.kept records in
        let within : c.kept + f.offset ≤ length records = omega (arith, long, f.fits, sum_by-cons kept_of c cs) in
        let size : length left ≡ sum_by kept_of cs = omega (arith, length-drop c.kept records, long, sum_by-cons kept_of c cs) in
        let behind : drop (c.kept + f.offset + p.counts.kept) records ≡ drop (f.offset + p.counts.kept) left =
        ap (λ (n : ℕ). drop n records) (omega arith) ∙ sym (drop-drop (f.offset + p.counts.kept) c.kept records) in
        let rest : drop c.kept (take (c.kept + f.offset) records ++ more) ≡ take f.offset left ++ (mine ++ drop (f.offset + p.counts.kept) left) =
        front-drop c.kept f.offset records more within ∙ ap (λ (l : List LogRecord). take f.offset left ++ (mine ++ l)) behind in
        (λ i. account_in r c (front-take c.kept f.offset records more within i) ∷ accounts_in rs (set cs f.nth d) (rest i))
        ∙ ap (λ (l : List Account). account_in r c (take c.kept records) ∷ l) (f.changed left mine d size fits)
        ∙ sym (ap (λ (b : Bool). cond b (account_in r d mine ∷ accounts_in rs cs left) (account_in r c (take c.kept records) ∷ with_account resource (as_now d mine) (accounts_in rs cs left))) is)

pub found : (index start : ℕ) (resource : List ℕ) (regs : List (List ℕ × ℕ)) (all : List Counts) (p : Place) → place_from index start resource regs all ≡ Some p → IsFound index start resource regs all p
found index start resource [] all p e = absurd cc
found index start resource (r ∷ rs) [] p e = absurd cc
found index start resource (r ∷ rs) (c ∷ cs) p e = by (bytes_eq r.0 resource) refl e (found (index + 1) (start + c.kept) resource rs cs p)
  where
    by : (b : Bool) → bytes_eq r.0 resource ≡ b → cond b (Some (record { index = index; start = start; counts = c })) (place_from (index + 1) (start + c.kept) resource rs cs) ≡ Some p
        → (place_from (index + 1) (start + c.kept) resource rs cs ≡ Some p → IsFound (index + 1) (start + c.kept) resource rs cs p) → IsFound index start resource (r ∷ rs) (c ∷ cs) p
    by true is h on =
        let here : Place = record { index = index; start = start; counts = c } in
        let same : here ≡ p = cc in
        subst (λ (q : Place). IsFound index start resource (r ∷ rs) (c ∷ cs) q) same (found_here index start resource r rs c cs is)
    by false is h on = found_behind index start resource r rs c cs p is (on h)

pub found_none : (index start : ℕ) (resource : List ℕ) (regs : List (List ℕ × ℕ)) (all : List Counts) (records : List LogRecord) → place_from index start resource regs all ≡ None → account_of resource (accounts_in regs all records) ≡ None
found_none index start resource [] all records e = refl
found_none index start resource (r ∷ rs) [] records e = refl
found_none index start resource (r ∷ rs) (c ∷ cs) records e = by (bytes_eq r.0 resource) refl e (found_none (index + 1) (start + c.kept) resource rs cs (drop c.kept records))
  where
    by : (b : Bool) → bytes_eq r.0 resource ≡ b → cond b (Some (record { index = index; start = start; counts = c })) (place_from (index + 1) (start + c.kept) resource rs cs) ≡ None
        → (place_from (index + 1) (start + c.kept) resource rs cs ≡ None → account_of resource (accounts_in rs cs (drop c.kept records)) ≡ None)
        → cond (bytes_eq r.0 resource) (Some (account_in r c (take c.kept records))) (account_of resource (accounts_in rs cs (drop c.kept records))) ≡ None
    by true is h on = absurd cc
    by false is h on = ap (λ (b : Bool). cond b (Some (account_in r c (take c.kept records))) (account_of resource (accounts_in rs cs (drop c.kept records)))) is ∙ on h

-- nothing changes where the resource isn't there
pub with_none : (resource : List ℕ) (change : Account → Account) (accounts : List Account) → account_of resource accounts ≡ None → with_account resource change accounts ≡ accounts
with_none resource change [] e = refl
with_none resource change (a ∷ accounts) e = by (bytes_eq a.resource resource) refl e (with_none resource change accounts)
  where
    by : (b : Bool) → bytes_eq a.resource resource ≡ b → cond b (Some a) (account_of resource accounts) ≡ None → (account_of resource accounts ≡ None → with_account resource change accounts ≡ accounts)
        → cond (bytes_eq a.resource resource) (change a ∷ accounts) (a ∷ with_account resource change accounts) ≡ a ∷ accounts
    by true is h on = absurd cc
    by false is h on = ap (λ (b : Bool). cond b (change a ∷ accounts) (a ∷ with_account resource change accounts)) is ∙ ap (λ (l : List Account). a ∷ l) (on h)

-- two changes that do the same with the account of a resource
pub with_same : (resource : List ℕ) (f g : Account → Account) (accounts : List Account) (found : Account) → account_of resource accounts ≡ Some found → f found ≡ g found → with_account resource f accounts ≡ with_account resource g accounts
with_same resource f g [] found e same = refl
with_same resource f g (a ∷ accounts) found e same = by (bytes_eq a.resource resource) refl e (λ h. with_same resource f g accounts found h same)
  where
    by : (b : Bool) → bytes_eq a.resource resource ≡ b → cond b (Some a) (account_of resource accounts) ≡ Some found → (account_of resource accounts ≡ Some found → with_account resource f accounts ≡ with_account resource g accounts)
        → cond (bytes_eq a.resource resource) (f a ∷ accounts) (a ∷ with_account resource f accounts) ≡ cond (bytes_eq a.resource resource) (g a ∷ accounts) (a ∷ with_account resource g accounts)
    by true is h on =
        let is_found : a ≡ found = cc in
        let one : f a ≡ g a = ap f is_found ∙ same ∙ sym (ap g is_found) in
        ap (λ (b : Bool). cond b (f a ∷ accounts) (a ∷ with_account resource f accounts)) is
        ∙ ap (λ (x : Account). x ∷ accounts) one
        ∙ sym (ap (λ (b : Bool). cond b (g a ∷ accounts) (a ∷ with_account resource g accounts)) is)
    by false is h on =
        ap (λ (b : Bool). cond b (f a ∷ accounts) (a ∷ with_account resource f accounts)) is
        ∙ ap (λ (l : List Account). a ∷ l) (on h)
        ∙ sym (ap (λ (b : Bool). cond b (g a ∷ accounts) (a ∷ with_account resource g accounts)) is)

-- a change that does nothing with it
pub with_kept : (resource : List ℕ) (f : Account → Account) (accounts : List Account) (found : Account) → account_of resource accounts ≡ Some found → f found ≡ found → with_account resource f accounts ≡ accounts
with_kept resource f [] found e same = refl
with_kept resource f (a ∷ accounts) found e same = by (bytes_eq a.resource resource) refl e (λ h. with_kept resource f accounts found h same)
  where
    by : (b : Bool) → bytes_eq a.resource resource ≡ b → cond b (Some a) (account_of resource accounts) ≡ Some found → (account_of resource accounts ≡ Some found → with_account resource f accounts ≡ accounts)
        → cond (bytes_eq a.resource resource) (f a ∷ accounts) (a ∷ with_account resource f accounts) ≡ a ∷ accounts
    by true is h on =
        let is_found : a ≡ found = cc in
        ap (λ (b : Bool). cond b (f a ∷ accounts) (a ∷ with_account resource f accounts)) is ∙ ap (λ (x : Account). x ∷ accounts) (ap f is_found ∙ same ∙ sym is_found)
    by false is h on = ap (λ (b : Bool). cond b (f a ∷ accounts) (a ∷ with_account resource f accounts)) is ∙ ap (λ (l : List Account). a ∷ l) (on h)

-- an account more
pub one_more : (regs : List (List ℕ × ℕ)) (all : List Counts) (records : List LogRecord) (r : List ℕ × ℕ) (c : Counts) → length all ≡ length regs → c.kept ≡ 0 → accounts_in (regs ++ r ∷ []) (all ++ c ∷ []) records ≡ accounts_in regs all records ++ account_in r c [] ∷ []
one_more [] [] records r c long none = ap (λ (n : ℕ). account_in r c (take n records) ∷ []) none
one_more [] (d ∷ ds) records r c long none = absurd (omega (arith, long))
one_more (s ∷ regs) [] records r c long none = absurd (omega (arith, long))
one_more (s ∷ regs) (d ∷ ds) records r c long none = ap (λ (l : List Account). account_in s d (take d.kept records) ∷ l) (one_more regs ds (drop d.kept records) r c (omega (arith, long)) none)

-- the resources with their phases
pub pairs : (regs : List (List ℕ × ℕ)) (all : List Counts) (records : List LogRecord) → length all ≡ length regs → regs ≡ map (λ (a : Account). (a.resource, a.phases)) (accounts_in regs all records)
pairs [] all records long = refl
pairs (r ∷ regs) [] records long = absurd (omega (arith, long))
pairs (r ∷ regs) (c ∷ cs) records long = ap (λ (l : List (List ℕ × ℕ)). r ∷ l) (pairs regs cs (drop c.kept records) (omega (arith, long)))

-- a record behind the others of its resource
pub put_behind : (n m : ℕ) (records : List LogRecord) (e : LogRecord) → take (n + m) records ++ e ∷ drop (n + m) records ≡ take n records ++ ((take m (drop n records) ++ e ∷ []) ++ drop (n + m) records)
put_behind n m records e =
    let own : List LogRecord = take m (drop n records) in
    let behind : List LogRecord = drop (n + m) records in
    ap (λ (l : List LogRecord). l ++ e ∷ behind) (take-add n m records)
    ∙ append_assoc (take n records) own (e ∷ behind)
    ∙ ap (λ (l : List LogRecord). take n records ++ l) (sym (append_assoc own (e ∷ []) behind))

-- a record taken out among those of its resource
pub take_out : (n m j : ℕ) (records : List LogRecord) → j < m → n + m ≤ length records
    → take (n + j) records ++ drop (suc (n + j)) records ≡ take n records ++ ((take j (take m (drop n records)) ++ drop (suc j) (take m (drop n records))) ++ drop (n + m) records)
take_out n m j records lt le =
    let left : List LogRecord = drop n records in
    let own : List LogRecord = take m left in
    let long : length own ≡ m = length-take-le m left (omega (arith, length-drop n records, le)) in
    let front : take (n + j) records ≡ take n records ++ take j own = take-add n j records ∙ ap (λ (l : List LogRecord). take n records ++ l) (sym (take-take j m left (omega (arith, lt)))) in
    let split : left ≡ own ++ drop (n + m) records = sym (take-append-drop m left) ∙ ap (λ (l : List LogRecord). own ++ l) (drop-drop m n records) in
    let step : suc (n + j) ≡ n + suc j = omega arith in
    let back : drop (suc (n + j)) records ≡ drop (suc j) own ++ drop (n + m) records =
    ap (λ (k : ℕ). drop k records) step ∙ sym (drop-drop (suc j) n records) ∙ ap (λ (l : List LogRecord). drop (suc j) l) split
    ∙ drop-append-le (suc j) own (drop (n + m) records) (omega (arith, long, lt)) in
    (λ i. front i ++ back i) ∙ append_assoc (take n records) (take j own) (drop (suc j) own ++ drop (n + m) records)
    ∙ ap (λ (l : List LogRecord). take n records ++ l) (sym (append_assoc (take j own) (drop (suc j) own) (drop (n + m) records)))

-- where a number stands
pub record IsSeqAt (at seq : ℕ) (records : List LogRecord) (found : ℕ) : Type 0 where
  pub nth : ℕ
  pub here : found ≡ at + nth
  pub inside : nth < length records
  pub without : take nth records ++ drop (suc nth) records ≡ without_seq seq records

pub seq_found : (at seq : ℕ) (records : List LogRecord) (found : ℕ) → seq_from at seq records ≡ Some found → IsSeqAt at seq records found
seq_found at seq [] found e = absurd cc
seq_found at seq (r ∷ records) found e = by (seq == r.seq) refl e (seq_found (at + 1) seq records found)
  where
    by : (b : Bool) → (seq == r.seq) ≡ b → cond b (Some at) (seq_from (at + 1) seq records) ≡ Some found → (seq_from (at + 1) seq records ≡ Some found → IsSeqAt (at + 1) seq records found) → IsSeqAt at seq (r ∷ records) found
    by true is h on =
        let same : at ≡ found = cc in
        record { nth = 0; here = omega (arith, same); inside = omega arith; without = sym (ap (λ (b : Bool). cond b records (r ∷ without_seq seq records)) is) }
    by false is h on =
        let f = on h in
        record {
          nth = suc f.nth;
          here = omega (arith, f.here);
          inside = omega (arith, f.inside);
          without = ap (λ (l : List LogRecord). r ∷ l) f.without ∙ sym (ap (λ (b : Bool). cond b records (r ∷ without_seq seq records)) is);
        }

pub seq_none : (at seq : ℕ) (records : List LogRecord) → seq_from at seq records ≡ None → without_seq seq records ≡ records
seq_none at seq [] e = refl
seq_none at seq (r ∷ records) e = by (seq == r.seq) refl e (seq_none (at + 1) seq records)
  where
    by : (b : Bool) → (seq == r.seq) ≡ b → cond b (Some at) (seq_from (at + 1) seq records) ≡ None → (seq_from (at + 1) seq records ≡ None → without_seq seq records ≡ records)
        → cond (seq == r.seq) records (r ∷ without_seq seq records) ≡ r ∷ records
    by true is h on = absurd cc
    by false is h on = ap (λ (b : Bool). cond b records (r ∷ without_seq seq records)) is ∙ ap (λ (l : List LogRecord). r ∷ l) (on h)

-- what a book has of a resource at a place
pub record IsOwn (regs : List (List ℕ × ℕ)) (all : List Counts) (records : List LogRecord) (accounts : List Account) (room : ℕ) (resource : List ℕ) (p : Place) : Type 0 where
  pub name : List ℕ × ℕ
  pub inside : p.index < length all
  pub own : (d : Counts) → get_or all p.index d ≡ p.counts
  pub bound : p.counts.written + room ≤ 4294967295
  pub fits : p.start + p.counts.kept ≤ length records
  pub account : account_of resource accounts ≡ Some (account_in name p.counts (take p.counts.kept (drop p.start records)))
  pub changed : (mine now : List LogRecord) (c : Counts) → length mine ≡ c.kept → now ≡ take p.start records ++ (mine ++ drop (p.start + p.counts.kept) records)
      → accounts_in regs (set all p.index c) now ≡ with_account resource (as_now c mine) accounts

pub own_place : (regs : List (List ℕ × ℕ)) (all : List Counts) (records : List LogRecord) (accounts : List Account) (room : ℕ) (resource : List ℕ) (p : Place)
    → length records ≡ sum_by kept_of all → All (IsWithin room) all → accounts_in regs all records ≡ accounts → place_from 0 0 resource regs all ≡ Some p → IsOwn regs all records accounts room resource p
own_place regs all records accounts room resource p long every is e =
    let f = found 0 0 resource regs all p e in
    let index : f.nth ≡ p.index = omega (arith, f.here) in
    let start : f.offset ≡ p.start = omega (arith, f.begins) in
    record {
      name = f.name;
      inside = omega (arith, f.inside, index);
      own = λ d. ap (λ (n : ℕ). get_or all n d) (sym index) ∙ f.own d;
      bound = subst (λ (d : Counts). IsWithin room d) (f.own p.counts) (every f.nth p.counts f.inside);
      fits = omega (arith, f.fits, start, long);
      account = ap (account_of resource) (sym is) ∙ f.account records ∙ ap (λ (n : ℕ). Some (account_in f.name p.counts (take p.counts.kept (drop n records)))) start;
      changed = λ mine now c fits at.
          (λ i. accounts_in regs (set all (sym index i) c) ((at ∙ ap (λ (n : ℕ). take n records ++ (mine ++ drop (n + p.counts.kept) records)) (sym start)) i))
          ∙ f.changed records mine c long fits
          ∙ ap (with_account resource (as_now c mine)) is;
    }

pub seq_inside : (seq at : ℕ) (mine : List LogRecord) → seq_from 0 seq mine ≡ Some at → at < length mine
seq_inside seq at mine e =
    let f = seq_found 0 seq mine at e in
    omega (arith, f.here, f.inside)

without-length : (seq nth : ℕ) (mine : List LogRecord) → nth < length mine → take nth mine ++ drop (suc nth) mine ≡ without_seq seq mine → length (without_seq seq mine) + 1 ≡ length mine
without-length seq nth mine lt is =
    omega (arith, ap length is, length-append (take nth mine) (drop (suc nth) mine), length-take-le nth mine (omega (arith, lt)), length-drop (suc nth) mine, lt)

-- a record is gone
pub forgot_one : (regs : List (List ℕ × ℕ)) (all : List Counts) (records : List LogRecord) (accounts : List Account) (room : ℕ) (resource : List ℕ) (p : Place) → IsOwn regs all records accounts room resource p
    → (seq at : ℕ) → seq_from 0 seq (take p.counts.kept (drop p.start records)) ≡ Some at → (c : Counts) → c.written ≡ p.counts.written → c.kept + 1 ≡ p.counts.kept
    → (now : List LogRecord) → now ≡ take (p.start + at) records ++ drop (suc (p.start + at)) records → accounts_in regs (set all p.index c) now ≡ with_account resource (without seq) accounts
forgot_one regs all records accounts room resource p own seq at e c written kept now is =
    let mine : List LogRecord = take p.counts.kept (drop p.start records) in
    let f = seq_found 0 seq mine at e in
    let here : at ≡ f.nth = omega (arith, f.here) in
    let long : length mine ≡ p.counts.kept = length-take-le p.counts.kept (drop p.start records) (omega (arith, length-drop p.start records, own.fits)) in
    let size : length (without_seq seq mine) ≡ c.kept = omega (arith, without-length seq f.nth mine f.inside f.without, long, kept) in
    let placed : now ≡ take p.start records ++ (without_seq seq mine ++ drop (p.start + p.counts.kept) records) =
    is ∙ ap (λ (n : ℕ). take (p.start + n) records ++ drop (suc (p.start + n)) records) here
    ∙ take_out p.start p.counts.kept f.nth records (omega (arith, f.inside, long)) own.fits
    ∙ ap (λ (l : List LogRecord). take p.start records ++ (l ++ drop (p.start + p.counts.kept) records)) f.without in
    own.changed (without_seq seq mine) now c size placed
    ∙ with_same resource (as_now c (without_seq seq mine)) (without seq) accounts (account_in own.name p.counts mine) own.account (ap (λ (n : ℕ). record (account_in own.name p.counts mine) { written = n; records = without_seq seq mine }) written)

-- a record is there more
pub wrote_one : (regs : List (List ℕ × ℕ)) (all : List Counts) (records : List LogRecord) (accounts : List Account) (room : ℕ) (resource : List ℕ) (p : Place) → IsOwn regs all records accounts room resource p
    → (key : List ℕ) (old new : ℕ) (now : List LogRecord) → now ≡ take (p.start + p.counts.kept) records ++ (record { seq = p.counts.written + 1; flags = 0; key = key; old = old; new = new }) ∷ drop (p.start + p.counts.kept) records
    → accounts_in regs (set all p.index (record { written = p.counts.written + 1; kept = p.counts.kept + 1 })) now ≡ with_account resource (written_to key old new) accounts
wrote_one regs all records accounts room resource p own key old new now is =
    let mine : List LogRecord = take p.counts.kept (drop p.start records) in
    let e : LogRecord = record { seq = p.counts.written + 1; flags = 0; key = key; old = old; new = new } in
    let c : Counts = record { written = p.counts.written + 1; kept = p.counts.kept + 1 } in
    let long : length mine ≡ p.counts.kept = length-take-le p.counts.kept (drop p.start records) (omega (arith, length-drop p.start records, own.fits)) in
    let size : length (mine ++ e ∷ []) ≡ p.counts.kept + 1 = omega (arith, length-append mine (e ∷ []), long) in
    own.changed (mine ++ e ∷ []) now c size (is ∙ put_behind p.start p.counts.kept records e)
    ∙ with_same resource (as_now c (mine ++ e ∷ [])) (written_to key old new) accounts (account_in own.name p.counts mine) own.account refl

-- all records are those of the resources, with one more, and with one less
pub count_set : (all : List Counts) (index written kept : ℕ) (c : Counts) → index < length all → ((d : Counts) → get_or all index d ≡ c) → sum_by kept_of (set all index (record { written = written; kept = kept })) + c.kept ≡ sum_by kept_of all + kept
count_set all index written kept c inside own = ap (λ (d : Counts). sum_by kept_of (set all index (record { written = written; kept = kept })) + d.kept) (sym (own c)) ∙ sum_by-set kept_of all index (record { written = written; kept = kept }) c inside

-- with one record more a number of four bytes still counts
pub within_set : (room : ℕ) (all : List Counts) (index : ℕ) (c : Counts) → IsWithin (room - 1) c → All (IsWithin room) all → All (IsWithin (room - 1)) (set all index c)
within_set room all index c one every = All-set (IsWithin (room - 1)) all index c one (λ k d lt. omega (arith, every k d lt))
