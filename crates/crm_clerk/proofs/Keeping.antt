-- What a clerk keeps says what its lines say, before a line and behind it.
use Rattle.std.proofs.Common.{◌≡◌, ◌∙◌, ℕ, suc, ◌+◌, ◌<◌, ◌≤◌, ◌==◌, List, [], ◌∷◌, ◌++◌, length, map, filter, filter_map, Bool, true, false, not, cond, ◌&&◌, ◌||◌, bytes_eq, Option, Some, None, option_map, is_some, refl, sym, ap, subst, arith, true≢false, ne_eqb, append-nil}
use Rattle.std.specs.List.{list_any}
use Rattle.std.specs.Option.{option_map_or}
use Rattle.std.proofs.Math.Bool.{or-false, or-true}
use Rattle.std.proofs.lemmas.Bool.{and_parts, and_from, or_parts, not_from_false, not-true, false_from_ne_true}
use Rattle.std.proofs.lemmas.List.{map-append, length_push}
use Rattle.std.proofs.lemmas.List.Elements.{filter-append, filter_map-append}
use Rattle.std.proofs.lemmas.List.Folds.{list_any-append}
use Rattle.qc_base.specs.declared.log_line.LogRecord.{LogRecord}
use Rattle.qc_base.specs.declared.log_line.LogLine.{LogLine}
use Rattle.qc_base.specs.declared.log_line.LogLine.TheVariants.{Opened, Registered, Written, Forgot, Done}
use Rattle.qc_base.specs.LogLines.{Entry, Registration, opened_by, is_opened, is_done, is_unfinished, is_registered, registrations, of_resource, unforgotten}
use Rattle.crm_clerk.specs.Accounts.{Account, account_of, with_account, new_account, next_entry, written_to, without_seq, without}
use Rattle.crm_clerk.specs.Clerk.{records_in, unless, opening_lines}
use Rattle.crm_clerk.specs.Keeps.{account_by, are_numbered, are_distinct, is_begun, Keeps}
use Rattle.crm_clerk.proofs.Names.{bytes-same, bytes-flip}
use Rattle.crm_clerk.proofs.Numbered.{those, same-number, numbered-more, others-without, those-less}
use Rattle.crm_clerk.proofs.Said.{is_named, unforgotten-those, not-done, SaysMore, says-opened, says-registered, says-on, written-registered, written-opened, written-records, written-named, forgot-registered, forgot-opened, forgot-records, forgot-named}

-- whether one of these has the name
abbrev pub has_name : List ℕ → List Registration → Bool
has_name resource rs = list_any (λ (r : Registration). bytes_eq r.resource resource) rs

-- an account is there exactly where the resource is registered

pub account-there : (lines : List LogLine) (attempt : ℕ) (resource : List ℕ) (rs : List Registration) → is_some (account_of resource (map (account_by lines attempt) rs)) ≡ has_name resource rs
account-there lines attempt resource [] = refl
account-there lines attempt resource (r ∷ rs) = by (bytes_eq r.resource resource) refl (account-there lines attempt resource rs)
  where
    by : (b : Bool) → bytes_eq r.resource resource ≡ b → is_some (account_of resource (map (account_by lines attempt) rs)) ≡ has_name resource rs
        → is_some (cond (bytes_eq r.resource resource) (Some (account_by lines attempt r)) (account_of resource (map (account_by lines attempt) rs))) ≡ (bytes_eq r.resource resource || has_name resource rs)
    by true is rest =
        ap (λ (b : Bool). is_some (cond b (Some (account_by lines attempt r)) (account_of resource (map (account_by lines attempt) rs)))) is ∙ sym (ap (λ (b : Bool). b || has_name resource rs) is)
    by false is rest =
        ap (λ (b : Bool). is_some (cond b (Some (account_by lines attempt r)) (account_of resource (map (account_by lines attempt) rs)))) is ∙ rest ∙ sym (ap (λ (b : Bool). b || has_name resource rs) is)

-- what it says
pub record IsAccount (lines : List LogLine) (attempt : ℕ) (resource : List ℕ) (a : Account) : Type 0 where
  pub counted : a.written ≡ length (records_in lines attempt resource)
  pub left : a.records ≡ unforgotten lines attempt resource

pub account-found : (lines : List LogLine) (attempt : ℕ) (resource : List ℕ) (rs : List Registration) (a : Account) → account_of resource (map (account_by lines attempt) rs) ≡ Some a → IsAccount lines attempt resource a
account-found lines attempt resource [] a e = absurd cc
account-found lines attempt resource (r ∷ rs) a e = by (bytes_eq r.resource resource) refl e (account-found lines attempt resource rs a)
  where
    by : (b : Bool) → bytes_eq r.resource resource ≡ b → cond b (Some (account_by lines attempt r)) (account_of resource (map (account_by lines attempt) rs)) ≡ Some a
        → (account_of resource (map (account_by lines attempt) rs) ≡ Some a → IsAccount lines attempt resource a) → IsAccount lines attempt resource a
    by true is h on =
        let same : account_by lines attempt r ≡ a = cc in
        let name = bytes-same r.resource resource is in
        record {
          counted = ap (λ (x : Account). x.written) (sym same) ∙ ap (λ (n : List ℕ). length (records_in lines attempt n)) name;
          left = ap (λ (x : Account). x.records) (sym same) ∙ ap (λ (n : List ℕ). unforgotten lines attempt n) name;
        }
    by false is h on = on h

-- what a clerk tells of a resource

pub is-registered : (attempt : ℕ) (lines : List LogLine) (accounts : List Account) (resource : List ℕ) → Keeps attempt lines accounts → is_some (account_of resource accounts) ≡ is_registered lines attempt resource
is-registered attempt lines accounts resource k = ap (λ (l : List Account). is_some (account_of resource l)) k.kept ∙ account-there lines attempt resource (registrations lines attempt)

pub is-account : (attempt : ℕ) (lines : List LogLine) (accounts : List Account) (resource : List ℕ) (a : Account) → Keeps attempt lines accounts → account_of resource accounts ≡ Some a → IsAccount lines attempt resource a
is-account attempt lines accounts resource a k e = account-found lines attempt resource (registrations lines attempt) a (ap (account_of resource) (sym k.kept) ∙ e)

pub records-told : (attempt : ℕ) (lines : List LogLine) (accounts : List Account) (resource : List ℕ) → Keeps attempt lines accounts → option_map_or (λ (a : Account). a.records) (account_of resource accounts) [] ≡ unforgotten lines attempt resource
records-told attempt lines accounts resource k = by (account_of resource accounts) refl
  where
    by : (o : Option Account) → account_of resource accounts ≡ o → option_map_or (λ (a : Account). a.records) o [] ≡ unforgotten lines attempt resource
    by (Some a) e = (is-account attempt lines accounts resource a k e).left
    by None e =
        let stranger : is_registered lines attempt resource ≡ false = sym (is-registered attempt lines accounts resource k) ∙ ap (λ (o : Option Account). is_some o) e in
        sym (unforgotten-those lines attempt resource ∙ ap (those (is_named lines attempt resource)) (k.known resource stranger))

pub pairs-told : (lines : List LogLine) (attempt : ℕ) (rs : List Registration) → map {B = List ℕ × ℕ} (λ (a : Account). (a.resource, a.phases)) (map (account_by lines attempt) rs) ≡ map {B = List ℕ × ℕ} (λ (r : Registration). (r.resource, r.phases)) rs
pairs-told lines attempt [] = refl
pairs-told lines attempt (r ∷ rs) = ap (λ (l : List (List ℕ × ℕ)). (r.resource, r.phases) ∷ l) (pairs-told lines attempt rs)

-- where nothing is said of a resource, its account stays

pub unforgotten-same : (attempt : ℕ) (lines now : List LogLine) (resource : List ℕ) → records_in now attempt resource ≡ records_in lines attempt resource
    → ((seq : ℕ) → is_named now attempt resource seq ≡ is_named lines attempt resource seq) → unforgotten now attempt resource ≡ unforgotten lines attempt resource
unforgotten-same attempt lines now resource records named =
    unforgotten-those now attempt resource ∙ (λ i. filter (λ (r : LogRecord). not (named r.seq i)) (records i)) ∙ sym (unforgotten-those lines attempt resource)

account-same : (attempt : ℕ) (lines now : List LogLine) (r : Registration) → records_in now attempt r.resource ≡ records_in lines attempt r.resource
    → ((seq : ℕ) → is_named now attempt r.resource seq ≡ is_named lines attempt r.resource seq) → account_by lines attempt r ≡ account_by now attempt r
account-same attempt lines now r records named = λ i. record { resource = r.resource; phases = r.phases; written = length (sym records i); records = sym (unforgotten-same attempt lines now r.resource records named) i }

-- where only one resource changes, only its account does

map-others : (attempt : ℕ) (lines now : List LogLine) (resource : List ℕ) (rs : List Registration) → has_name resource rs ≡ false
    → ((r : Registration) → bytes_eq r.resource resource ≡ false → account_by lines attempt r ≡ account_by now attempt r) → map (account_by lines attempt) rs ≡ map (account_by now attempt) rs
map-others attempt lines now resource [] none other = refl
map-others attempt lines now resource (r ∷ rs) none other =
    let both = or_parts (bytes_eq r.resource resource) (has_name resource rs) none in
    λ i. other r both.0 i ∷ map-others attempt lines now resource rs both.1 other i

pub map-changed : (attempt : ℕ) (lines now : List LogLine) (resource : List ℕ) (change : Account → Account) (rs : List Registration) → are_distinct rs ≡ true
    → ((r : Registration) → bytes_eq r.resource resource ≡ true → change (account_by lines attempt r) ≡ account_by now attempt r)
    → ((r : Registration) → bytes_eq r.resource resource ≡ false → account_by lines attempt r ≡ account_by now attempt r)
    → with_account resource change (map (account_by lines attempt) rs) ≡ map (account_by now attempt) rs
map-changed attempt lines now resource change [] distinct own other = refl
map-changed attempt lines now resource change (r ∷ rs) distinct own other =
    let both = and_parts (not (has_name r.resource rs)) (are_distinct rs) distinct in
    by (bytes_eq r.resource resource) refl (not-true (has_name r.resource rs) both.0) (map-changed attempt lines now resource change rs both.1 own other)
  where
    by : (b : Bool) → bytes_eq r.resource resource ≡ b → has_name r.resource rs ≡ false → with_account resource change (map (account_by lines attempt) rs) ≡ map (account_by now attempt) rs
        → cond (bytes_eq r.resource resource) (change (account_by lines attempt r) ∷ map (account_by lines attempt) rs) (account_by lines attempt r ∷ with_account resource change (map (account_by lines attempt) rs)) ≡ account_by now attempt r ∷ map (account_by now attempt) rs
    by true is alone rest =
        let none : has_name resource rs ≡ false = ap (λ (n : List ℕ). has_name n rs) (sym (bytes-same r.resource resource is)) ∙ alone in
        ap (λ (b : Bool). cond b (change (account_by lines attempt r) ∷ map (account_by lines attempt) rs) (account_by lines attempt r ∷ with_account resource change (map (account_by lines attempt) rs))) is
        ∙ (λ i. own r is i ∷ map-others attempt lines now resource rs none other i)
    by false is alone rest =
        ap (λ (b : Bool). cond b (change (account_by lines attempt r) ∷ map (account_by lines attempt) rs) (account_by lines attempt r ∷ with_account resource change (map (account_by lines attempt) rs))) is
        ∙ (λ i. other r is i ∷ rest i)

-- a registration more

begun-more : (rs : List Registration) (r : Registration) → is_begun (rs ++ r ∷ []) ≡ true
begun-more [] r = refl
begun-more (s ∷ rs) r = refl

distinct-more : (rs : List Registration) (r : Registration) → are_distinct rs ≡ true → has_name r.resource rs ≡ false → are_distinct (rs ++ r ∷ []) ≡ true
distinct-more [] r distinct new = refl
distinct-more (s ∷ rs) r distinct new =
    let both = and_parts (not (has_name s.resource rs)) (are_distinct rs) distinct in
    let parts = or_parts (bytes_eq s.resource r.resource) (has_name r.resource rs) new in
    let alone : has_name s.resource (rs ++ r ∷ []) ≡ false =
    list_any-append (λ (x : Registration). bytes_eq x.resource s.resource) rs (r ∷ [])
    ∙ (λ i. not-true (has_name s.resource rs) both.0 i || (bytes-flip s.resource r.resource false parts.0 i || false)) in
    and_from (not (has_name s.resource (rs ++ r ∷ []))) (are_distinct (rs ++ r ∷ [])) (not_from_false (has_name s.resource (rs ++ r ∷ [])) alone) (distinct-more rs r both.1 parts.1)

pub keeps-registered : (attempt : ℕ) (lines now : List LogLine) (accounts : List Account) (r : Registration) → Keeps attempt lines accounts → is_registered lines attempt r.resource ≡ false
    → SaysMore attempt lines now (r ∷ []) → is_opened now attempt ≡ true → Keeps attempt now (accounts ++ new_account r.resource r.phases ∷ [])
keeps-registered attempt lines now accounts r k new says opened =
    let before : List Registration = registrations lines attempt in
    let none : records_in now attempt r.resource ≡ [] = says.records r.resource ∙ k.known r.resource new in
    let none_left : unforgotten now attempt r.resource ≡ [] = unforgotten-those now attempt r.resource ∙ ap (those (is_named now attempt r.resource)) none in
    let own : account_by now attempt r ≡ new_account r.resource r.phases = λ i. record { resource = r.resource; phases = r.phases; written = length (none i); records = none_left i } in
    let same : map (account_by now attempt) before ≡ accounts = (λ i. map (λ (s : Registration). sym (account-same attempt lines now s (says.records s.resource) (says.named s.resource)) i) before) ∙ sym k.kept in
    record {
      number = k.number;
      kept = sym (ap (map (account_by now attempt)) says.registered ∙ map-append (account_by now attempt) before (r ∷ []) ∙ (λ i. same i ++ own i ∷ []));
      opened = opened ∙ sym (ap is_begun says.registered ∙ begun-more before r);
      going = says.done ∙ k.going;
      distinct = ap are_distinct says.registered ∙ distinct-more before r k.distinct new;
      known = λ resource stranger.
          let told : (has_name resource before || has_name resource (r ∷ [])) ≡ false = sym (ap (has_name resource) says.registered ∙ list_any-append (λ (x : Registration). bytes_eq x.resource resource) before (r ∷ [])) ∙ stranger in
          says.records resource ∙ k.known resource (or_parts (has_name resource before) (has_name resource (r ∷ [])) told).0;
      numbered = λ resource. ap (are_numbered 1) (says.records resource) ∙ k.numbered resource;
      forgot = λ resource seq lt. says.named resource seq ∙ k.forgot resource seq (subst (λ (l : List LogRecord). length l < seq) (says.records resource) lt);
    }

-- a record more

own-record : (resource other : List ℕ) (r : LogRecord) (b : Bool) → bytes_eq resource other ≡ b → of_resource other ((record { resource = resource; entry = r }) ∷ []) ≡ cond b (r ∷ []) []
own-record resource other r true is = ap (λ (b : Bool). map (λ (e : Entry). e.entry) (cond b ((record { resource = resource; entry = r }) ∷ []) [])) is
own-record resource other r false is = ap (λ (b : Bool). map (λ (e : Entry). e.entry) (cond b ((record { resource = resource; entry = r }) ∷ []) [])) is

module _ (attempt : ℕ) (resource : List ℕ) (e : LogRecord) (lines : List LogLine) where
  abbrev pub behind_written : List LogLine
  behind_written = lines ++ Written attempt resource e ∷ []

  records-own : (other : List ℕ) → bytes_eq resource other ≡ true → records_in behind_written attempt other ≡ records_in lines attempt other ++ e ∷ []
  records-own other is = written-records attempt resource other e lines ∙ ap (λ (l : List LogRecord). records_in lines attempt other ++ l) (own-record resource other e true is)

  records-other : (other : List ℕ) → bytes_eq resource other ≡ false → records_in behind_written attempt other ≡ records_in lines attempt other
  records-other other is = written-records attempt resource other e lines ∙ ap (λ (l : List LogRecord). records_in lines attempt other ++ l) (own-record resource other e false is) ∙ append-nil (records_in lines attempt other)

  -- the new record isn't forgotten
  pub unforgotten-own : (other : List ℕ) → bytes_eq resource other ≡ true → is_named lines attempt other e.seq ≡ false → unforgotten behind_written attempt other ≡ unforgotten lines attempt other ++ e ∷ []
  unforgotten-own other is new =
      unforgotten-those behind_written attempt other
      ∙ (λ i. filter (λ (r : LogRecord). not (written-named attempt resource other r.seq e lines i)) (records-own other is i))
      ∙ filter-append (λ (r : LogRecord). not (is_named lines attempt other r.seq)) (records_in lines attempt other) (e ∷ [])
      ∙ ap (λ (b : Bool). those (is_named lines attempt other) (records_in lines attempt other) ++ cond (not b) (e ∷ []) []) new
      ∙ ap (λ (l : List LogRecord). l ++ e ∷ []) (sym (unforgotten-those lines attempt other))

pub keeps-written : (attempt : ℕ) (lines : List LogLine) (accounts : List Account) (resource key : List ℕ) (old new : ℕ) (e : LogRecord) → Keeps attempt lines accounts → is_registered lines attempt resource ≡ true
    → e ≡ record { seq = length (records_in lines attempt resource) + 1; flags = 0; key = key; old = old; new = new }
    → Keeps attempt (lines ++ Written attempt resource e ∷ []) (with_account resource (written_to key old new) accounts)
keeps-written attempt lines accounts resource key old new e k there is =
    let now : List LogLine = lines ++ Written attempt resource e ∷ [] in
    let regs : List Registration = registrations lines attempt in
    let seq : e.seq ≡ length (records_in lines attempt resource) + 1 = ap (λ (r : LogRecord). r.seq) is in
    let own : (r : Registration) → bytes_eq r.resource resource ≡ true → written_to key old new (account_by lines attempt r) ≡ account_by now attempt r =
    λ r named.
    let name = bytes-same r.resource resource named in
    let flip = bytes-flip r.resource resource true named in
    let counted : length (records_in now attempt r.resource) ≡ length (records_in lines attempt r.resource) + 1 = ap length (records-own attempt resource e lines r.resource flip) ∙ length_push (records_in lines attempt r.resource) e in
    let not_forgot : is_named lines attempt r.resource e.seq ≡ false = k.forgot r.resource e.seq (omega (arith, seq, ap (λ (n : List ℕ). length (records_in lines attempt n)) name)) in
    let next : next_entry key old new (account_by lines attempt r) ≡ e = ap (λ (n : List ℕ). next_entry key old new (record { resource = n; phases = r.phases; written = length (records_in lines attempt n); records = unforgotten lines attempt n })) name ∙ sym is in
    let left : unforgotten lines attempt r.resource ++ next_entry key old new (account_by lines attempt r) ∷ [] ≡ unforgotten now attempt r.resource =
    ap (λ (x : LogRecord). unforgotten lines attempt r.resource ++ x ∷ []) next ∙ sym (unforgotten-own attempt resource e lines r.resource flip not_forgot) in
    (λ i. record { resource = r.resource; phases = r.phases; written = sym counted i; records = left i }) in
    let other : (r : Registration) → bytes_eq r.resource resource ≡ false → account_by lines attempt r ≡ account_by now attempt r =
    λ r named. account-same attempt lines now r (records-other attempt resource e lines r.resource (bytes-flip r.resource resource false named)) (λ s. written-named attempt resource r.resource s e lines) in
    record {
      number = k.number;
      kept = ap (with_account resource (written_to key old new)) k.kept ∙ map-changed attempt lines now resource (written_to key old new) regs k.distinct own other
          ∙ sym (ap (map (account_by now attempt)) (written-registered attempt resource e lines));
      opened = written-opened attempt resource e lines ∙ k.opened ∙ sym (ap is_begun (written-registered attempt resource e lines));
      going = not-done attempt lines (Written attempt resource e) refl ∙ k.going;
      distinct = ap are_distinct (written-registered attempt resource e lines) ∙ k.distinct;
      known = λ r stranger.
          let before : is_registered lines attempt r ≡ false = sym (ap (has_name r) (written-registered attempt resource e lines)) ∙ stranger in
          let apart : bytes_eq resource r ≡ false = false_from_ne_true (bytes_eq resource r) (λ (t : bytes_eq resource r ≡ true). true≢false (sym there ∙ ap (λ (n : List ℕ). is_registered lines attempt n) (bytes-same resource r t) ∙ before)) in
          records-other attempt resource e lines r apart ∙ k.known r before;
      numbered = λ r. numbered-on r (bytes_eq resource r) refl;
      forgot = λ r s lt. written-named attempt resource r s e lines ∙ k.forgot r s (fewer r s (bytes_eq resource r) refl lt);
    }
  where
    numbered-on : (r : List ℕ) (b : Bool) → bytes_eq resource r ≡ b → are_numbered 1 (records_in (lines ++ Written attempt resource e ∷ []) attempt r) ≡ true
    numbered-on r true own =
        ap (are_numbered 1) (records-own attempt resource e lines r own)
        ∙ numbered-more 1 (records_in lines attempt r) e (k.numbered r) (omega (arith, ap (λ (x : LogRecord). x.seq) is, ap (λ (n : List ℕ). length (records_in lines attempt n)) (bytes-same resource r own)))
    numbered-on r false other = ap (are_numbered 1) (records-other attempt resource e lines r other) ∙ k.numbered r

    fewer : (r : List ℕ) (s : ℕ) (b : Bool) → bytes_eq resource r ≡ b → length (records_in (lines ++ Written attempt resource e ∷ []) attempt r) < s → length (records_in lines attempt r) < s
    fewer r s true own lt = omega (arith, lt, ap length (records-own attempt resource e lines r own), length_push (records_in lines attempt r) e)
    fewer r s false other lt = omega (arith, lt, ap length (records-other attempt resource e lines r other))

-- a record forgotten

pub keeps-forgot : (attempt : ℕ) (lines : List LogLine) (accounts : List Account) (resource : List ℕ) (n : ℕ) → Keeps attempt lines accounts → n ≤ length (records_in lines attempt resource)
    → Keeps attempt (lines ++ Forgot attempt resource n ∷ []) (with_account resource (without n) accounts)
keeps-forgot attempt lines accounts resource n k le =
    let now : List LogLine = lines ++ Forgot attempt resource n ∷ [] in
    let regs : List Registration = registrations lines attempt in
    let records : (r : List ℕ) → records_in now attempt r ≡ records_in lines attempt r = λ r. forgot-records attempt resource r n lines in
    let own : (r : Registration) → bytes_eq r.resource resource ≡ true → without n (account_by lines attempt r) ≡ account_by now attempt r =
    λ r named. λ i. record { resource = r.resource; phases = r.phases; written = length (sym (records r.resource) i); records = less r.resource (bytes-flip r.resource resource true named) i } in
    let other : (r : Registration) → bytes_eq r.resource resource ≡ false → account_by lines attempt r ≡ account_by now attempt r =
    λ r named. account-same attempt lines now r (records r.resource) (λ s. as-before r.resource s (bytes-flip r.resource resource false named)) in
    record {
      number = k.number;
      kept = ap (with_account resource (without n)) k.kept ∙ map-changed attempt lines now resource (without n) regs k.distinct own other ∙ sym (ap (map (account_by now attempt)) (forgot-registered attempt resource n lines));
      opened = forgot-opened attempt resource n lines ∙ k.opened ∙ sym (ap is_begun (forgot-registered attempt resource n lines));
      going = not-done attempt lines (Forgot attempt resource n) refl ∙ k.going;
      distinct = ap are_distinct (forgot-registered attempt resource n lines) ∙ k.distinct;
      known = λ r stranger. records r ∙ k.known r (sym (ap (has_name r) (forgot-registered attempt resource n lines)) ∙ stranger);
      numbered = λ r. ap (are_numbered 1) (records r) ∙ k.numbered r;
      forgot = λ r s lt. beyond r s (bytes_eq resource r) refl (subst (λ (l : List LogRecord). length l < s) (records r) lt);
    }
  where
    as-before : (r : List ℕ) (s : ℕ) → bytes_eq resource r ≡ false → is_named (lines ++ Forgot attempt resource n ∷ []) attempt r s ≡ is_named lines attempt r s
    as-before r s other = forgot-named attempt resource r n s lines ∙ ap (λ (b : Bool). is_named lines attempt r s || (b && (n == s))) other ∙ or-false (is_named lines attempt r s)

    less : (r : List ℕ) → bytes_eq resource r ≡ true → without_seq n (unforgotten lines attempt r) ≡ unforgotten (lines ++ Forgot attempt resource n ∷ []) attempt r
    less r own =
        let gone : ℕ → Bool = is_named lines attempt r in
        ap (without_seq n) (unforgotten-those lines attempt r)
        ∙ sym (others-without gone 1 n (records_in lines attempt r) (k.numbered r))
        ∙ sym (those-less gone n (records_in lines attempt r))
        ∙ sym (unforgotten-those (lines ++ Forgot attempt resource n ∷ []) attempt r
        ∙ (λ i. filter (λ (x : LogRecord). not ((forgot-named attempt resource r n x.seq lines ∙ ap (λ (b : Bool). gone x.seq || (b && (n == x.seq))) own) i)) (forgot-records attempt resource r n lines i)))

    beyond : (r : List ℕ) (s : ℕ) (b : Bool) → bytes_eq resource r ≡ b → length (records_in lines attempt r) < s → is_named (lines ++ Forgot attempt resource n ∷ []) attempt r s ≡ false
    beyond r s true own lt =
        let apart : (n == s) ≡ false = ne_eqb n s (λ (same : n ≡ s). absurd (omega (arith, same, le, lt, ap (λ (x : List ℕ). length (records_in lines attempt x)) (bytes-same resource r own)))) in
        forgot-named attempt resource r n s lines ∙ (λ i. k.forgot r s lt i || (own i && apart i))
    beyond r s false other lt = as-before r s other ∙ k.forgot r s lt

-- what the book's answers say

pub mapped-is : {B : Type 0} (f : Account → B) (o : Option Account) → is_some (option_map f o) ≡ is_some o
mapped-is f None = refl
mapped-is f (Some a) = refl

pub record IsMapped {B : Type 0} (f : Account → B) (o : Option Account) (b : B) : Type 0 where
  pub account : Account
  pub there : o ≡ Some account
  pub value : f account ≡ b

pub mapped-some : {B : Type 0} (f : Account → B) (o : Option Account) (b : B) → option_map f o ≡ Some b → IsMapped f o b
mapped-some f None b e = absurd cc
mapped-some f (Some a) b e = record { account = a; there = refl; value = cc }

-- the record that the book gives is the next
pub record IsNext (attempt : ℕ) (lines : List LogLine) (resource key : List ℕ) (old new : ℕ) (e : LogRecord) : Type 0 where
  pub there : is_registered lines attempt resource ≡ true
  pub next : e ≡ record { seq = length (records_in lines attempt resource) + 1; flags = 0; key = key; old = old; new = new }

pub is-next : (attempt : ℕ) (lines : List LogLine) (accounts : List Account) (resource key : List ℕ) (old new : ℕ) (e : LogRecord) → Keeps attempt lines accounts → option_map (next_entry key old new) (account_of resource accounts) ≡ Some e
    → IsNext attempt lines resource key old new e
is-next attempt lines accounts resource key old new e k is =
    let m = mapped-some (next_entry key old new) (account_of resource accounts) e is in
    record {
      there = sym (is-registered attempt lines accounts resource k) ∙ ap (λ (o : Option Account). is_some o) m.there;
      next = sym m.value ∙ ap (λ (n : ℕ). record { seq = n + 1; flags = 0; key = key; old = old; new = new }) (is-account attempt lines accounts resource m.account k m.there).counted;
    }

-- and so many were written
pub record IsCounted (attempt : ℕ) (lines : List LogLine) (resource : List ℕ) (n : ℕ) : Type 0 where
  pub there : is_registered lines attempt resource ≡ true
  pub count : n ≡ length (records_in lines attempt resource)

pub is-counted : (attempt : ℕ) (lines : List LogLine) (accounts : List Account) (resource : List ℕ) (n : ℕ) → Keeps attempt lines accounts → option_map (λ (a : Account). a.written) (account_of resource accounts) ≡ Some n → IsCounted attempt lines resource n
is-counted attempt lines accounts resource n k is =
    let m = mapped-some (λ (a : Account). a.written) (account_of resource accounts) n is in
    record {
      there = sym (is-registered attempt lines accounts resource k) ∙ ap (λ (o : Option Account). is_some o) m.there;
      count = sym m.value ∙ (is-account attempt lines accounts resource m.account k m.there).counted;
    }

-- whether Opened is there is told by the registrations
pub opened-told : (attempt : ℕ) (lines : List LogLine) (accounts : List Account) (pairs : List (List ℕ × ℕ)) → Keeps attempt lines accounts → pairs ≡ map {B = List ℕ × ℕ} (λ (a : Account). (a.resource, a.phases)) accounts
    → not (length pairs == 0) ≡ is_opened lines attempt
opened-told attempt lines accounts pairs k is =
    ap (λ (l : List (List ℕ × ℕ)). not (length l == 0)) (is ∙ ap (map {B = List ℕ × ℕ} (λ (a : Account). (a.resource, a.phases))) k.kept)
    ∙ by (registrations lines attempt) ∙ sym k.opened
  where
    by : (rs : List Registration) → not (length (map {B = List ℕ × ℕ} (λ (a : Account). (a.resource, a.phases)) (map (account_by lines attempt) rs)) == 0) ≡ is_begun rs
    by [] = refl
    by (r ∷ rs) =
        let pairs : List (List ℕ × ℕ) = map {B = List ℕ × ℕ} (λ (a : Account). (a.resource, a.phases)) (map (account_by lines attempt) rs) in
        ap not (ne_eqb (suc (length pairs)) 0 (λ (e : suc (length pairs) ≡ 0). absurd (omega (arith, e))))

-- the lines of a registration, Opened before it where it is the first
pub registered-on : (attempt id : ℕ) (lines : List LogLine) (accounts : List Account) (r : Registration) → Keeps attempt lines accounts → is_registered lines attempt r.resource ≡ false
    → Keeps attempt (lines ++ opening_lines lines attempt id ++ Registered attempt r.resource r.phases ∷ []) (accounts ++ new_account r.resource r.phases ∷ [])
registered-on attempt id lines accounts r k new = by (is_opened lines attempt) refl
  where
    line : LogLine
    line = Registered attempt r.resource r.phases

    still : is_opened lines attempt ≡ true → is_opened (lines ++ line ∷ []) attempt ≡ true
    still opened = ap (list_any (λ n. n == attempt)) (filter_map-append opened_by lines (line ∷ []) ∙ append-nil (filter_map opened_by lines)) ∙ opened

    begun : is_opened (lines ++ Opened attempt id ∷ [] ++ line ∷ []) attempt ≡ true
    begun =
        ap (list_any (λ n. n == attempt)) (filter_map-append opened_by (lines ++ Opened attempt id ∷ []) (line ∷ []) ∙ append-nil (filter_map opened_by (lines ++ Opened attempt id ∷ [])) ∙ filter_map-append opened_by lines (Opened attempt id ∷ []))
        ∙ list_any-append (λ n. n == attempt) (filter_map opened_by lines) (attempt ∷ [])
        ∙ ap (λ (b : Bool). is_opened lines attempt || (b || false)) (same-number attempt)
        ∙ or-true (is_opened lines attempt)

    by : (b : Bool) → is_opened lines attempt ≡ b → Keeps attempt (lines ++ unless (is_opened lines attempt) (Opened attempt id) ++ line ∷ []) (accounts ++ new_account r.resource r.phases ∷ [])
    by true opened =
        let kept = keeps-registered attempt lines (lines ++ line ∷ []) accounts r k new (says-registered attempt r.resource r.phases lines) (still opened) in
        let same : lines ++ unless (is_opened lines attempt) (Opened attempt id) ++ line ∷ [] ≡ lines ++ line ∷ [] =
        ap (λ (b : Bool). lines ++ unless b (Opened attempt id) ++ line ∷ []) opened ∙ ap (λ (l : List LogLine). l ++ line ∷ []) (append-nil lines) in
        subst (λ (l : List LogLine). Keeps attempt l (accounts ++ new_account r.resource r.phases ∷ [])) (sym same) kept
    by false opened =
        let says = says-on attempt lines (lines ++ Opened attempt id ∷ []) (lines ++ Opened attempt id ∷ [] ++ line ∷ []) (r ∷ []) (says-opened attempt id lines) (says-registered attempt r.resource r.phases (lines ++ Opened attempt id ∷ [])) in
        let kept = keeps-registered attempt lines (lines ++ Opened attempt id ∷ [] ++ line ∷ []) accounts r k new says begun in
        subst (λ (b : Bool). Keeps attempt (lines ++ unless b (Opened attempt id) ++ line ∷ []) (accounts ++ new_account r.resource r.phases ∷ [])) (sym opened) kept

-- whether Done follows is told by whether Opened is there
pub finishing : (attempt : ℕ) (lines : List LogLine) (accounts : List Account) (b : Bool) → Keeps attempt lines accounts → is_opened lines attempt ≡ b → cond (is_unfinished lines attempt) (Done attempt ∷ []) [] ≡ cond b (Done attempt ∷ []) []
finishing attempt lines accounts true k opened = λ i. cond (opened i && not (k.going i)) (Done attempt ∷ []) []
finishing attempt lines accounts false k opened = λ i. cond (opened i && not (is_done lines attempt)) (Done attempt ∷ []) []
