-- Room in the logs, by what the state says.
use Rattle.std.proofs.Common.{◌≡◌, ◌∙◌, ◌≤◌, ◌<◌, ℕ, ◌+◌, ◌*◌, ◌&&◌, leb, max, List, length, Bool, true, false, not, refl, ap, sym, arith, cond, ◌∷◌, length-append, Option, Some, None, le-leb}
use Rattle.std.proofs.lemmas.Bool.{lt-leb}
use Rattle.qc_base.specs.declared.fact.Fact.TheVariants.{Sent as FactSent, Switched as FactSwitched}
use Rattle.qc_base.specs.declared.recording.Recording.{Recording}
use Rattle.qc_base.specs.Spelling.{is_attempt, flag_byte, spelled_fact, spelled_recording, two_bytes, eight_bytes}
use Rattle.qc_catalogue.specs.declared.catalogue.Catalogue.{Catalogue}
use Rattle.qc_protocol.specs.declared.reply.Refusal.TheVariants.{Full}
use Rattle.qc_history.specs.Stands.{attempts_in}
use Rattle.qc_machine.specs.declared.limits.Limits.{Limits}
use Rattle.qc_machine.specs.Attempts.{greatest, journal_aside, log_aside, next_attempt, parts_held}
use Rattle.qc_machine.specs.Refuse.{refuse_if}
use Rattle.qc_machine.specs.Rooms.{journal_full, log_full}
use Rattle.qc_machine.specs.Sending.{fact_sent}
use Rattle.qc_machine.specs.State.{State, FileEnd, HeldAttempt}
use Rattle.qc_machine.proofs.Bools.{and-both}
use Rattle.qc_machine.proofs.PlayerSlots.{greatest-append}
use Rattle.qc_players.specs.Players.{count_without_fact, held_in, numbers_of, players_of}
use Rattle.qc_players.proofs.Quiet.{all-aside}
use Rattle.std.specs.List.{sum_by}
use Rattle.qc_txn.specs.Parts.{log_room}
use Rattle.qc_hub.specs.declared.hub.Hub.{Hub}
use Rattle.qc_hub.specs.Rooms.{attempt_number}
use Rattle.qc_hub.specs.Stands.{IsHubOf}

-- the spellings of facts

pub sent-size : (id at : ℕ) (r : Recording) → length (spelled_fact (FactSent id at r)) ≡ 19 + length (spelled_recording r)
unfolding eight_bytes two_bytes
sent-size id at r = omega arith

pub switched-size : (app : List ℕ) (on : Bool) (at : ℕ) → length (spelled_fact (FactSwitched app on at)) ≡ 11 + length app
unfolding eight_bytes
switched-size app on at = omega (arith, length-append app (flag_byte on ∷ eight_bytes at))

-- what a file has no room for

full-is : (size length limit more aside other : ℕ) → size ≡ length → aside ≡ other → (most : ℕ) → limit ≡ most → (fits : Bool) → fits ≡ leb (length + other + more) limit → refuse_if (not fits) (Full length) ≡ refuse_if (not (leb (size + aside + more) most)) (Full size)
full-is size length limit more aside other a b most l fits e =
    ap (λ (x : Bool). refuse_if (not x) (Full length)) e ∙ (λ i. refuse_if (not (leb ((sym a) i + (sym b) i + more) (l i))) (Full ((sym a) i)))

module _ (hub : Hub) (s : State) (h : IsHubOf hub s) (more : ℕ) where
  limit : hub.limits.log_bytes ≡ s.limits.log_bytes
  limit = ap (λ (x : Limits). x.log_bytes) h.limits

  pub journal-full-is : (count : ℕ) → count ≡ count_without_fact (players_of hub.players) → (fits : Bool) → fits ≡ leb (hub.journal.length + 35 * count + more) hub.limits.log_bytes
      → refuse_if (not fits) (Full hub.journal.length) ≡ journal_full s more
  journal-full-is count is fits e =
      let counted : count ≡ count_without_fact s.players = is ∙ ap count_without_fact h.players in
      let aside : journal_aside s ≡ 35 * count = ap (λ (n : ℕ). 35 * n) (sym counted) in
      full-is s.journal.size hub.journal.length hub.limits.log_bytes more (journal_aside s) (35 * count) (ap (λ (x : FileEnd). x.size) h.journal) aside s.limits.log_bytes limit fits e

  -- no file has room for more bytes than a number says
  pub journal-always-full : hub.limits.log_bytes < more → Some (Full hub.journal.length) ≡ journal_full s more
  journal-always-full few =
      let count : ℕ = count_without_fact (players_of hub.players) in
      journal-full-is count refl false (sym (lt-leb (hub.journal.length + 35 * count + more) hub.limits.log_bytes (omega (arith, few))))

  pub log-full-is : (count : ℕ) → count ≡ length (held_in (players_of hub.players)) → (fits : Bool) → fits ≡ leb (hub.log.length + 512 * count + more) hub.limits.log_bytes
      → refuse_if (not fits) (Full hub.log.length) ≡ log_full s more
  log-full-is count is fits e =
      let held : sum_by (λ (a : HeldAttempt). log_room (parts_held hub.history.catalogue a)) (held_in (players_of hub.players)) ≡ 512 * length (held_in (players_of hub.players)) = all-aside hub.history.catalogue hub.players h.fit.played in
      let aside : log_aside s ≡ 512 * count =
      ap (λ (p : List (Option HeldAttempt)). sum_by (λ (a : HeldAttempt). log_room (parts_held s.history.catalogue a)) (held_in p)) (sym h.players)
      ∙ ap (λ (c : Catalogue). sum_by (λ (a : HeldAttempt). log_room (parts_held c a)) (held_in (players_of hub.players))) (sym h.history.catalogue)
      ∙ held ∙ ap (λ (n : ℕ). 512 * n) (sym is) in
      full-is s.log.size hub.log.length hub.limits.log_bytes more (log_aside s) (512 * count) (ap (λ (x : FileEnd). x.size) h.log) aside s.limits.log_bytes limit fits e

-- the number of the next attempt

pub next-is : (hub : Hub) (s : State) → IsHubOf hub s → next_attempt s ≡ 1 + max hub.history.attempt (greatest (numbers_of (players_of hub.players)))
next-is hub s h =
    let held : greatest (numbers_of s.players) ≡ greatest (numbers_of (players_of hub.players)) = ap (λ (p : List (Option HeldAttempt)). greatest (numbers_of p)) (sym h.players) in
    omega (arith, greatest-append (attempts_in s.history) (numbers_of s.players), h.history.attempt, held)

pub number-is : (hub : Hub) (s : State) → IsHubOf hub s → (most : ℕ) → most ≡ max hub.history.attempt (greatest (numbers_of (players_of hub.players))) → attempt_number s ≡ cond (is_attempt (most + 1)) (Some (most + 1)) None
number-is hub s h most is =
    let same : next_attempt s ≡ most + 1 = omega (arith, next-is hub s h, is) in
    ap (λ (n : ℕ). cond (is_attempt n) (Some n) None) same

-- whether it is one

within-last : (n : ℕ) → 1 ≤ n → n ≤ 9223372036854775807 → is_attempt n ≡ true
within-last n some le = and-both (leb 1 n) _ (le-leb 1 n some) (le-leb n 9223372036854775807 le)

past-last : (n : ℕ) → 9223372036854775807 < n → is_attempt n ≡ false
past-last n lt = by (leb 1 n) (lt-leb n 9223372036854775807 lt)
  where
    by : (b : Bool) → leb n 9223372036854775807 ≡ false → (b && leb n 9223372036854775807) ≡ false
    by true e = e
    by false e = refl

pub has-next : (hub : Hub) (s : State) → IsHubOf hub s → (most : ℕ) → most ≡ max hub.history.attempt (greatest (numbers_of (players_of hub.players))) → most < 9223372036854775807 → Some (most + 1) ≡ attempt_number s
has-next hub s h most is lt =
    sym (number-is hub s h most is ∙ ap (λ (b : Bool). cond b (Some (most + 1)) None) (within-last (most + 1) (omega arith) (omega (arith, lt))))

pub has-no-next : (hub : Hub) (s : State) → IsHubOf hub s → (most : ℕ) → most ≡ max hub.history.attempt (greatest (numbers_of (players_of hub.players))) → 9223372036854775807 ≤ most → None ≡ attempt_number s
has-no-next hub s h most is le =
    sym (number-is hub s h most is ∙ ap (λ (b : Bool). cond b (Some (most + 1)) None) (past-last (most + 1) (omega (arith, le))))

-- the fact of the next message, as a hub makes it
pub same-fact : (hub : Hub) (s : State) (n : ℕ) (r : Recording) → IsHubOf hub s → n ≡ length hub.history.store.messages → FactSent (n + 1) hub.last r ≡ fact_sent s r
same-fact hub s n r h count = λ i. FactSent ((count ∙ ap length h.history.messages) i + 1) (h.last i) r
