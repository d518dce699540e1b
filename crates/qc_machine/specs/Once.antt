-- In a history each message stands in one place, and totals are changed by committed attempts alone.
use Rattle.std.specs.Prelude.{◌≡◌, ℕ, ◌+◌, ◌≤◌, ℤ, pos, ◌+ℤ◌, ◌-ℤ◌, List, [], ◌∷◌, ◌++◌, length, take, map, filter, flat_map, count_by, Bool, true, false, ◌==◌}
use Rattle.std.specs.List.{enumerate_from}
use Rattle.qc_base.specs.declared.fact.Fact.{Fact}
use Rattle.qc_base.specs.declared.fact.Fact.TheVariants.{Sent, Played}
use Rattle.qc_base.specs.declared.queue.Waiting.{Waiting}
use Rattle.qc_base.specs.Messages.{listing, consumed_ids}
use Rattle.qc_catalogue.specs.declared.catalogue.App.{App}
use Rattle.qc_rows.specs.Tables.{TableRows, total_in}
use Rattle.qc_machine.specs.History.{Reader, History, history_of}

-- the ids that stand in an application's queues 0 to 5 and its dead queue, and those that it consumed
abbrev pub listed_in : History → List ℕ → List ℕ
listed_in h app =
    flat_map (λ q. map (λ (w : Waiting). w.id) (listing app q h.messages)) (0 ∷ 1 ∷ 2 ∷ 3 ∷ 4 ∷ 5 ∷ 6 ∷ []) ++ consumed_ids app h.messages

-- the same of all applications
abbrev pub listed : History → List ℕ
listed h = flat_map (λ (a : App). listed_in h a.name) h.catalogue.apps

abbrev pub is_send : Fact → Bool
is_send (Sent id at r) = true
is_send _ = false

abbrev pub is_played : ℕ → Fact → Bool
is_played id (Played i attempt kind at) = i == id
is_played id _ = false

-- There are as many messages as were sent. Each is listed once, and nothing else is. A message that is consumed was
-- played once.
pub record EachOnce (read : Reader) (facts : List Fact) : Type 0 where
  pub all_sent : length (history_of read facts).messages ≡ count_by is_send facts
  pub once : (id : ℕ) → 1 ≤ id → id ≤ length (history_of read facts).messages → count_by (λ n. n == id) (listed (history_of read facts)) ≡ 1
  pub none_else : length (listed (history_of read facts)) ≡ length (history_of read facts).messages
  pub played_once : (app : List ℕ) (id : ℕ) → 1 ≤ count_by (λ n. n == id) (consumed_ids app (history_of read facts).messages) → count_by (is_played id) facts ≡ 1

-- the total of a table, or of a resource, after the first facts, so many
abbrev pub total_at : Reader → (History → List TableRows) → List ℕ → List Fact → ℕ → ℕ
total_at read rows name facts n = total_in name (rows (history_of read (take n facts)))

-- what the fact at a place changes of it
abbrev pub change_at : Reader → (History → List TableRows) → List ℕ → List Fact → ℕ → ℤ
change_at read rows name facts place = pos (total_at read rows name facts (place + 1)) -ℤ pos (total_at read rows name facts place)

abbrev pub is_play : Fact → Bool
is_play (Played id attempt kind at) = true
is_play _ = false

abbrev pub played_places : List Fact → List (ℕ × Fact)
played_places facts = filter (λ (p : ℕ × Fact). is_play p.1) (enumerate_from 0 facts)

abbrev pub changes : Reader → (History → List TableRows) → List ℕ → List Fact → List (ℕ × Fact) → ℤ
changes read rows name facts [] = pos 0
changes read rows name facts (p ∷ places) = change_at read rows name facts p.0 +ℤ changes read rows name facts places

-- each total is its opening total and the changes of the committed attempts
abbrev pub AreTotalsSettled : Reader → (History → List TableRows) → List Fact → Type 0
AreTotalsSettled read rows facts = (name : List ℕ) →
    pos (total_in name (rows (history_of read facts))) ≡ pos (total_at read rows name facts 1) +ℤ changes read rows name facts (played_places facts)

-- so is that of each table and of each resource
pub record TotalsSettled (read : Reader) (facts : List Fact) : Type 0 where
  pub tables : AreTotalsSettled read (λ (h : History). h.tables) facts
  pub resources : AreTotalsSettled read (λ (h : History). h.outside) facts
