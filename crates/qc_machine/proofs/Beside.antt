-- Held attempts behind facts that aren't theirs.
use Rattle.std.proofs.Common.{◌≡◌, ◌∙◌, ℕ, ◌≤◌, ◌==◌, List, [], ◌∷◌, ◌++◌, Bool, true, false, not, cond, ◌||◌, length, map, take, filter_map, refl, sym, ap, arith, Option, Some, None, leb-true, le-leb}
use Rattle.std.specs.List.{list_any, list_all, cons_option}
use Rattle.std.specs.Option.{option_map_or, option_or}
use Rattle.std.proofs.lemmas.Bool.{and_from, or_left, or_right, cond-true, cond-false}
use Rattle.std.proofs.lemmas.List.Folds.{find-append, list_any-append, list_all-append}
use Rattle.std.proofs.lemmas.List.Elements.{filter_map-append}
use Rattle.qc_base.specs.declared.message.Message.{Message}
use Rattle.qc_base.specs.declared.fact.Fact.{Fact}
use Rattle.qc_base.specs.declared.fact.Fact.TheVariants.{Catalogue as InForce, Sent, Played, Failed, Moved, Switched}
use Rattle.qc_base.specs.declared.fact.Place.{Place}
use Rattle.qc_base.specs.declared.fact.Place.TheVariants.{Queue, Dead, Consumed}
use Rattle.qc_base.specs.declared.log_line.Stage.{Stage}
use Rattle.qc_base.specs.declared.log_line.Stage.TheVariants.{Calls, Ready, Failing, Commit, Abort}
use Rattle.qc_base.specs.declared.recording.Row.{Row}
use Rattle.qc_base.specs.Messages.{message_of}
use Rattle.qc_base.specs.Rows.{row_eq}
use Rattle.qc_catalogue.specs.declared.catalogue.Catalogue.{Catalogue}
use Rattle.qc_play.proofs.RowNames.{row-itself}
use Rattle.qc_txn.specs.Outcome.{play_all, new_play, view_of}
use Rattle.qc_txn.specs.Parts.{parts_of, rows_of_attempt}
use Rattle.qc_listener.specs.Choice.{is_due}
use Rattle.qc_machine.specs.Attempts.{parts_held}
use Rattle.qc_machine.specs.History.{History, with_fact, settled_amount, attempt_of, is_new_attempt, plays_inside}
use Rattle.qc_machine.specs.Holding.{has_row, first_play, is_about, IsOpen, HasFact, HasCome, IsHeldIn}
use Rattle.qc_machine.specs.State.{HeldAttempt}

-- views over amounts that agree on their rows
pub view-same : (v w : Row → Option ℕ) (rows : List Row) → ((r : Row) → has_row rows r ≡ true → w r ≡ v r) → view_of w rows ≡ view_of v rows
view-same v w [] h = refl
view-same v w (r ∷ rows) h = λ i. (r, h r (or_left (row_eq r r) _ (row-itself r)) i) ∷ view-same v w rows (λ x t. h x (or_right (row_eq x r) _ t)) i

due-later : (p : Place) (last later : ℕ) → last ≤ later → is_due last p ≡ true → is_due later p ≡ true
due-later (Queue q tries due) last later le e = le-leb due later (omega (arith, leb-true due last e, le))
due-later Dead last later le e = e
due-later (Consumed a) last later le e = e

abbrev pub rows_held : History → HeldAttempt → List Row
rows_held h a = rows_of_attempt h.catalogue a.recording a.kind

-- a history that goes on beside an attempt
pub record IsAside (h now : History) (a : HeldAttempt) : Type 0 where
  pub catalogue : now.catalogue ≡ h.catalogue
  pub message : (m : Message) → message_of a.id h.messages ≡ Some m → message_of a.id now.messages ≡ Some m
  pub amounts : (r : Row) → has_row (rows_held h a) r ≡ true → settled_amount now.tables now.outside r ≡ settled_amount h.tables h.outside r
  pub new : is_new_attempt a.attempt now ≡ is_new_attempt a.attempt h
  pub about : list_all (is_about a.attempt a.id) h.facts ≡ true → list_all (is_about a.attempt a.id) now.facts ≡ true

module _ (h now : History) (a : HeldAttempt) (aside : IsAside h now a) where
  parts-aside : parts_held now.catalogue a ≡ parts_held h.catalogue a
  parts-aside = ap (λ (c : Catalogue). parts_of c a.recording a.kind) aside.catalogue

  rows-aside : rows_held now a ≡ rows_held h a
  rows-aside = ap (λ (c : Catalogue). rows_of_attempt c a.recording a.kind) aside.catalogue

  play-aside : first_play now a ≡ first_play h a
  play-aside =
      ap (λ rows. new_play (view_of (settled_amount now.tables now.outside) rows)) rows-aside
      ∙ ap (λ v. new_play v) (view-same (settled_amount h.tables h.outside) (settled_amount now.tables now.outside) (rows_held h a) aside.amounts)

  pub held-aside : (last later : ℕ) → last ≤ later → IsHeldIn h last a → IsHeldIn now later a
  held-aside last later le is = record {
    message = is.message;
    found = aside.message is.message is.found;
    recording = is.recording;
    rows = is.rows ∙ sym rows-aside;
    inside = ap (λ (c : Catalogue). plays_inside c a.recording a.kind) aside.catalogue ∙ is.inside;
    records = is.records;
    attempt = is.attempt;
    come = by a.stage is.come;
  }
    where
      opens : IsOpen h last a is.message → IsOpen now later a is.message
      opens o = record { due = due-later is.message.place last later le o.due; kind = o.kind; new = aside.new ∙ o.new }

      same : (n : ℕ) → play_all (take n (parts_held now.catalogue a)) (first_play now a) ≡ play_all (take n (parts_held h.catalogue a)) (first_play h a)
      same n = λ i. play_all (take n (parts-aside i)) (play-aside i)

      all : play_all (parts_held now.catalogue a) (first_play now a) ≡ play_all (parts_held h.catalogue a) (first_play h a)
      all = λ i. play_all (parts-aside i) (play-aside i)

      fact : HasFact h a → HasFact now a
      fact f = record { about = aside.about f.about; there = aside.new ∙ f.there }

      by : (stage : Stage) → HasCome h last a is.message stage → HasCome now later a is.message stage
      by Calls c = record { is_open = opens c.is_open; left = omega (arith, c.left, ap length parts-aside); played = same a.calls ∙ c.played; why = c.why }
      by Ready c = record { is_open = opens c.is_open; all = c.all ∙ ap length (sym parts-aside); played = all ∙ c.played; why = c.why }
      by Failing c = record { is_open = opens c.is_open; call = c.call; step = c.step; why = c.why; played = all ∙ c.played }
      by Commit c = fact c
      by Abort c = fact c

pub aside-same : (h : History) (a : HeldAttempt) → IsAside h h a
aside-same h a = record { catalogue = refl; message = λ m e. e; amounts = λ r t. refl; new = refl; about = λ e. e }

-- what one fact more says of an attempt

abbrev pub is_of_attempt : ℕ → Fact → Bool
is_of_attempt attempt fact = option_map_or (λ n. n == attempt) (attempt_of fact) false

or-false : (b : Bool) → (b || false) ≡ b
or-false true = refl
or-false false = refl

none-cons : (attempt : ℕ) (f : Fact) → list_any (λ n. n == attempt) (cons_option (attempt_of f) []) ≡ is_of_attempt attempt f
none-cons attempt f = by (attempt_of f)
  where
    by : (o : Option ℕ) → list_any (λ n. n == attempt) (cons_option o []) ≡ option_map_or (λ n. n == attempt) o false
    by None = refl
    by (Some n) = or-false (n == attempt)

pub new-push : (attempt : ℕ) (h : History) (f : Fact) → is_new_attempt attempt (with_fact f h) ≡ not (list_any (λ n. n == attempt) (filter_map attempt_of h.facts) || is_of_attempt attempt f)
new-push attempt h f =
    ap not (ap (λ l. list_any (λ n. n == attempt) l) (filter_map-append attempt_of h.facts (f ∷ []))
    ∙ list_any-append (λ n. n == attempt) (filter_map attempt_of h.facts) (cons_option (attempt_of f) [])
    ∙ ap (λ b. list_any (λ n. n == attempt) (filter_map attempt_of h.facts) || b) (none-cons attempt f))

pub new-after : (attempt : ℕ) (h : History) (f : Fact) → is_of_attempt attempt f ≡ false → is_new_attempt attempt (with_fact f h) ≡ is_new_attempt attempt h
new-after attempt h f other =
    new-push attempt h f
    ∙ ap (λ b. not (list_any (λ n. n == attempt) (filter_map attempt_of h.facts) || b)) other
    ∙ ap not (or-false (list_any (λ n. n == attempt) (filter_map attempt_of h.facts)))

pub other-about : (attempt id : ℕ) (f : Fact) → is_of_attempt attempt f ≡ false → is_about attempt id f ≡ true
other-about attempt id (Played i n kind at) e = ap (λ b. not b || (i == id)) e
other-about attempt id (Failed i n at) e = ap (λ b. not b || (i == id)) e
other-about attempt id (InForce text) e = refl
other-about attempt id (Sent i at r) e = refl
other-about attempt id (Moved app queue at ids) e = refl
other-about attempt id (Switched app on at) e = refl

pub about-after : (attempt id : ℕ) (h : History) (f : Fact) → is_about attempt id f ≡ true → list_all (is_about attempt id) h.facts ≡ true → list_all (is_about attempt id) (with_fact f h).facts ≡ true
about-after attempt id h f e all =
    list_all-append (is_about attempt id) h.facts (f ∷ [])
    ∙ and_from (list_all (is_about attempt id) h.facts) _ all (and_from (is_about attempt id f) true e refl)

-- messages that a change leaves as they are

pub found-append : (id : ℕ) (ms more : List Message) (m : Message) → message_of id ms ≡ Some m → message_of id (ms ++ more) ≡ Some m
found-append id ms more m e = find-append (λ (m : Message). m.id == id) ms more ∙ ap (λ o. option_or o (message_of id more)) e

pub found-map : (id : ℕ) (f : Message → Message) (ms : List Message) → ((m : Message) → (f m).id ≡ m.id) → ((m : Message) → (m.id == id) ≡ true → f m ≡ m) → message_of id (map f ms) ≡ message_of id ms
found-map id f [] h k = refl
found-map id f (m ∷ ms) h k = by (m.id == id) refl (found-map id f ms h k)
  where
    by : (b : Bool) → (m.id == id) ≡ b → message_of id (map f ms) ≡ message_of id ms → cond ((f m).id == id) (Some (f m)) (message_of id (map f ms)) ≡ cond (m.id == id) (Some m) (message_of id ms)
    by true e rest =
        cond-true ((f m).id == id) (Some (f m)) (message_of id (map f ms)) (ap (λ n. n == id) (h m) ∙ e) ∙ ap Some (k m e)
        ∙ sym (cond-true (m.id == id) (Some m) (message_of id ms) e)
    by false e rest =
        cond-false ((f m).id == id) (Some (f m)) (message_of id (map f ms)) (ap (λ n. n == id) (h m) ∙ e) ∙ rest
        ∙ sym (cond-false (m.id == id) (Some m) (message_of id ms) e)

-- a fact of no attempt that leaves the attempt's message and the amounts of its rows as they are
pub fact-aside : (h : History) (f : Fact) (a : HeldAttempt) → is_of_attempt a.attempt f ≡ false → (with_fact f h).catalogue ≡ h.catalogue
    → ((m : Message) → message_of a.id h.messages ≡ Some m → message_of a.id (with_fact f h).messages ≡ Some m)
    → ((r : Row) → has_row (rows_held h a) r ≡ true → settled_amount (with_fact f h).tables (with_fact f h).outside r ≡ settled_amount h.tables h.outside r) → IsAside h (with_fact f h) a
fact-aside h f a other same found amounts = record {
  catalogue = same;
  message = found;
  amounts = amounts;
  new = new-after a.attempt h f other;
  about = about-after a.attempt a.id h f (other-about a.attempt a.id f other);
}
