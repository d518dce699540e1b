-- The resources of a history keep the rows that its catalogue names, and an attempt changes none that it doesn't see.
use Rattle.std.proofs.Common.{◌≡◌, ◌∙◌, ℕ, List, [], ◌∷◌, map, find, Bool, true, false, cond, ◌&&◌, ◌||◌, refl, sym, ap, Option, Some, None, is_some, option_map}
use Rattle.std.specs.List.{list_any}
use Rattle.std.specs.Option.{option_map_or}
use Rattle.std.specs.Str.{bytes_eq}
use Rattle.std.proofs.lemmas.Bool.{or_parts}
use Rattle.std.proofs.lemmas.Slice.Eq.{bytes_eq-Decides}
use Rattle.qc_base.specs.declared.fact.Fact.{Fact}
use Rattle.qc_base.specs.declared.fact.Fact.TheVariants.{Catalogue as InForce, Sent, Played, Failed, Moved, Switched}
use Rattle.qc_base.specs.declared.fact.Kind.{Kind}
use Rattle.qc_base.specs.declared.message.Message.{Message}
use Rattle.qc_base.specs.declared.recording.Row.{Row}
use Rattle.qc_base.specs.declared.recording.Space.{Space}
use Rattle.qc_base.specs.declared.recording.Space.TheVariants.{Inside, Outside}
use Rattle.qc_base.specs.Messages.{message_of}
use Rattle.qc_base.specs.Rows.{row_eq, space_eq}
use Rattle.qc_play.specs.Play.{Seen, rows_in}
use Rattle.qc_play.proofs.RowNames.{row-flip}
use Rattle.qc_rows.specs.Outside.{amount_there, opened_resources, outside_amount, outside_by, outside_one}
use Rattle.qc_rows.specs.Places.{Places, places_of, written, written_row}
use Rattle.qc_rows.specs.Settling.{is_inside}
use Rattle.qc_rows.specs.Tables.{TableRows, rows_shown}
use Rattle.qc_rows.proofs.Places.{view-places}
use Rattle.qc_txn.specs.Outcome.{Outcome, commits, fails}
use Rattle.qc_machine.specs.History.{Reader, History, no_facts, after_fact, after_facts, committed_outside, history_of, outcome_on, rows_after}
use Rattle.qc_machine.specs.Holding.{has_row}

-- the places of rows stay

row-places : (row : Row) (amount : ℕ) (rows : List TableRows)
    → map places_of (written_row row amount rows) ≡ map places_of rows
row-places row amount rows = view-places ((record row { space = Inside }, Some amount) ∷ []) rows

one-places : (s : Seen) (rows : List TableRows) → map places_of (outside_one s rows) ≡ map places_of rows
one-places s rows = by (is_inside s.0) s.1
  where
    by : (b : Bool) (o : Option ℕ)
        → map places_of (cond b rows (option_map_or (λ amount. written_row s.0 amount rows) o rows)) ≡ map places_of rows
    by true o = refl
    by false None = refl
    by false (Some amount) = row-places s.0 amount rows

pub outside-places : (view : List Seen) (rows : List TableRows) → map places_of (outside_by view rows) ≡ map places_of rows
outside-places [] rows = refl
outside-places (s ∷ view) rows = outside-places view (outside_one s rows) ∙ one-places s rows

committed-places : (h : History) (kind : Kind) (id : ℕ) → map places_of (committed_outside h kind id) ≡ map places_of h.outside
committed-places h kind id = by (message_of id h.messages)
  where
    after : (o : Outcome) → map places_of (rows_after outside_by o h.outside) ≡ map places_of h.outside
    after (commits play) = outside-places play.view h.outside
    after (fails why) = refl

    by : (o : Option Message)
        → map places_of (option_map_or (λ (m : Message). rows_after outside_by (outcome_on h kind m) h.outside) o h.outside)
        ≡ map places_of h.outside
    by None = refl
    by (Some m) = after (outcome_on h kind m)

abbrev AreNamed : History → Type 0
AreNamed h = map places_of h.outside ≡ map places_of (opened_resources h.catalogue)

after-named : (read : Reader) (h : History) (facts : List Fact) → AreNamed h → AreNamed (after_facts read h facts)
after-named read h [] was = was
after-named read h (InForce text ∷ facts) was = after-named read (after_fact read h (InForce text)) facts refl
after-named read h (Sent id at r ∷ facts) was = after-named read (after_fact read h (Sent id at r)) facts was
after-named read h (Played id attempt kind at ∷ facts) was =
    after-named read (after_fact read h (Played id attempt kind at)) facts (committed-places h kind id ∙ was)
after-named read h (Failed id attempt at ∷ facts) was = after-named read (after_fact read h (Failed id attempt at)) facts was
after-named read h (Moved app queue at ids ∷ facts) was = after-named read (after_fact read h (Moved app queue at ids)) facts was
after-named read h (Switched app on at ∷ facts) was = after-named read (after_fact read h (Switched app on at)) facts was

pub rows-named : (read : Reader) (facts : List Fact) → AreNamed (history_of read facts)
rows-named read facts = after-named read no_facts facts refl

-- a row has an amount where it has a place

abbrev keys_named : List ℕ → List Places → List (List ℕ)
keys_named name places = option_map_or (λ (p : Places). p.keys) (find (λ (p : Places). bytes_eq p.name name) places) []

abbrev is_among : List ℕ → List (List ℕ) → Bool
is_among key keys = list_any (λ (k : List ℕ). bytes_eq k key) keys

abbrev keys_of : List (List ℕ × ℕ) → List (List ℕ)
keys_of rows = map (λ (r : List ℕ × ℕ). r.0) rows

abbrev is_named : List ℕ → List ℕ → List Places → Bool
is_named name key places = is_among key (keys_named name places)

-- the amount of a key, by whether the first row has it
abbrev amount_or : Bool → List ℕ × ℕ → List ℕ → List (List ℕ × ℕ) → Option ℕ
amount_or b r key rows =
    option_map (λ (r : List ℕ × ℕ). r.1) (cond b (Some r) (find (λ (r : List ℕ × ℕ). bytes_eq r.0 key) rows))

-- the rows of a resource, by whether it's the first one
abbrev rows_or : Bool → TableRows → List ℕ → List TableRows → List (List ℕ × ℕ)
rows_or b t name rows =
    option_map_or (λ (t : TableRows). t.rows) (cond b (Some t) (find (λ (t : TableRows). bytes_eq t.name name) rows)) []

key-there : (key : List ℕ) (rows : List (List ℕ × ℕ)) → is_some (amount_there key rows) ≡ is_among key (keys_of rows)
key-there key [] = refl
key-there key (r ∷ rows) = by (bytes_eq r.0 key) (key-there key rows)
  where
    by : (b : Bool) → is_some (amount_there key rows) ≡ is_among key (keys_of rows)
        → is_some (amount_or b r key rows) ≡ (b || is_among key (keys_of rows))
    by true rest = refl
    by false rest = rest

keys-shown : (name : List ℕ) (rows : List TableRows) → keys_of (rows_shown name rows) ≡ keys_named name (map places_of rows)
keys-shown name [] = refl
keys-shown name (t ∷ rows) = by (bytes_eq t.name name) (keys-shown name rows)
  where
    by : (b : Bool) → keys_of (rows_shown name rows) ≡ keys_named name (map places_of rows)
        → keys_of (rows_or b t name rows)
        ≡ option_map_or (λ (p : Places). p.keys)
        (cond b (Some (places_of t)) (find (λ (p : Places). bytes_eq p.name name) (map places_of rows))) []
    by true rest = refl
    by false rest = rest

pub amount-named : (name key : List ℕ) (rows : List TableRows)
    → is_some (outside_amount rows name key) ≡ is_named name key (map places_of rows)
amount-named name key rows = key-there key (rows_shown name rows) ∙ ap (is_among key) (keys-shown name rows)

pub amounts-named : (read : Reader) (facts : List Fact) (name key : List ℕ)
    → is_some (outside_amount (history_of read facts).outside name key)
    ≡ is_some (outside_amount (opened_resources (history_of read facts).catalogue) name key)
amounts-named read facts name key =
    amount-named name key (history_of read facts).outside ∙ ap (is_named name key) (rows-named read facts)
    ∙ sym (amount-named name key (opened_resources (history_of read facts).catalogue))

-- what is written of a row leaves the amounts of others

written-other : (own key : List ℕ) (amount : ℕ) (rows : List (List ℕ × ℕ)) → bytes_eq own key ≡ false
    → amount_there key (written own amount rows) ≡ amount_there key rows
written-other own key amount [] other = refl
written-other own key amount (r ∷ rows) other = by (bytes_eq r.0 own) refl (written-other own key amount rows other)
  where
    more : List (List ℕ × ℕ)
    more = written own amount rows

    passed : (d : Bool) → amount_there key more ≡ amount_there key rows → amount_or d r key more ≡ amount_or d r key rows
    passed true rest = refl
    passed false rest = rest

    by : (b : Bool) → bytes_eq r.0 own ≡ b → amount_there key more ≡ amount_there key rows
        → amount_or (bytes_eq (cond b ((r.0, amount)) r).0 key) (cond b ((r.0, amount)) r) key more
        ≡ amount_or (bytes_eq r.0 key) r key rows
    by true e rest =
        let same : r.0 ≡ own = (bytes_eq-Decides r.0 own).0 e in
        let apart : bytes_eq r.0 key ≡ false = ap (λ (k : List ℕ). bytes_eq k key) same ∙ other in
        ap (λ d. amount_or d ((r.0, amount)) key more) apart ∙ rest ∙ sym (ap (λ d. amount_or d r key rows) apart)
    by false e rest = passed (bytes_eq r.0 key) rest

module _ (row : Row) (amount : ℕ) (name key : List ℕ) where
  abbrev one : Bool → TableRows → TableRows
  one b t = cond b (record t { rows = written row.key amount t.rows }) t

  row-other : (rows : List TableRows) → (bytes_eq row.name name && bytes_eq row.key key) ≡ false
      → outside_amount (written_row row amount rows) name key ≡ outside_amount rows name key
  row-other [] other = refl
  row-other (t ∷ rows) other = by (bytes_eq t.name row.name) refl (row-other rows other)
    where
      more : List TableRows
      more = written_row row amount rows

      passed : (d : Bool) → outside_amount more name key ≡ outside_amount rows name key
          → amount_there key (rows_or d t name more) ≡ amount_there key (rows_or d t name rows)
      passed true rest = refl
      passed false rest = rest

      wrote : (d : Bool) → bytes_eq row.name name ≡ d → outside_amount more name key ≡ outside_amount rows name key
          → amount_there key (rows_or d (one true t) name more) ≡ amount_there key (rows_or d t name rows)
      wrote true e rest =
          written-other row.key key amount t.rows (ap (λ b. b && bytes_eq row.key key) (sym e) ∙ other)
      wrote false e rest = rest

      by : (b : Bool) → bytes_eq t.name row.name ≡ b → outside_amount more name key ≡ outside_amount rows name key
          → amount_there key (rows_or (bytes_eq (one b t).name name) (one b t) name more)
          ≡ amount_there key (rows_or (bytes_eq t.name name) t name rows)
      by true e rest =
          let same : t.name ≡ row.name = (bytes_eq-Decides t.name row.name).0 e in
          wrote (bytes_eq t.name name) (ap (λ (n : List ℕ). bytes_eq n name) (sym same)) rest
      by false e rest = passed (bytes_eq t.name name) rest

one-other : (s : Seen) (rows : List TableRows) (r : Row) → r.space ≡ Outside → row_eq s.0 r ≡ false
    → outside_amount (outside_one s rows) r.name r.key ≡ outside_amount rows r.name r.key
one-other s rows r out differ = by s.0.space refl s.1
  where
    by : (space : Space) → s.0.space ≡ space → (o : Option ℕ)
        → outside_amount (cond (space_eq space Inside) rows (option_map_or (λ amount. written_row s.0 amount rows) o rows)) r.name r.key
        ≡ outside_amount rows r.name r.key
    by Inside e o = refl
    by Outside e None = refl
    by Outside e (Some amount) =
        let spaces : space_eq s.0.space r.space ≡ true = λ i. space_eq (e i) (out i) in
        row-other s.0 amount r.name r.key rows
        (ap (λ b. b && (bytes_eq s.0.name r.name && bytes_eq s.0.key r.key)) (sym spaces) ∙ differ)

-- amounts change on the rows of a view alone
pub outside-other : (view : List Seen) (rows : List TableRows) (r : Row) → r.space ≡ Outside
    → has_row (rows_in view) r ≡ false → outside_amount (outside_by view rows) r.name r.key ≡ outside_amount rows r.name r.key
outside-other [] rows r out other = refl
outside-other (s ∷ view) rows r out other =
    let parts = or_parts (row_eq r s.0) _ other in
    outside-other view (outside_one s rows) r out parts.1 ∙ one-other s rows r out (row-flip r s.0 false parts.0)
