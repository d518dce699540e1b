-- Bytes behind a tag that begin with no fact.
use Rattle.std.proofs.Common.{◌≡◌, ◌≢◌, ◌<◌, ◌≤◌, ℕ, List, [], ◌∷◌, ◌++◌, get_or, length, take, drop, true, nat_le, sym, ◌∙◌, ap, arith, append_assoc, length-append, take-append-drop}
use Rattle.std.specs.List.{flat_map, list_all}
use Rattle.std.proofs.lemmas.List.{append-nil, length-drop}
use Rattle.std.proofs.lemmas.Bool.{and_parts, and_from, leb-true, le-leb}
use Rattle.qc_base.specs.Names.{is_name}
use Rattle.qc_base.specs.Spelling.{short_bytes, two_bytes, four_bytes, eight_bytes, kind_byte, fits_two, fits_four, is_id, is_moment, is_attempt, is_between, is_recorded, is_recording, spelled_recording, SpellsRecording, spelled_fact, is_fact, Begins, NoneBegins}
use Rattle.qc_base.specs.declared.recording.Recording.{Recording}
use Rattle.qc_base.specs.declared.fact.Fact.TheVariants.{Catalogue, Sent, Played, Failed, Moved, Switched}
use Rattle.qc_base.proofs.Bytes.{fronts_same}
use Rattle.qc_base.proofs.PrefixFree.{two_bytes-free, four_bytes-free, recording-free}
use Rattle.qc_base.proofs.Facts.{id-free}
use Rattle.qc_base.proofs.Gathered.{Gathered, gathered_stops}
use Rattle.qc_journal.specs.Parts.{is_any, is_queue, one_byte, spelled_kind, spelled_flag, is_text_of, spelled_text, spelled_sized, are_ids, spelled_ids}
use Rattle.qc_entries.proofs.Sequence.{both, pair}

pub catalogue_none : (old : List ℕ) → NoneBegins is_text_of spelled_text old → NoneBegins is_fact spelled_fact (1 ∷ old)
catalogue_none old none (Catalogue text) left limits e = none text left limits (ap (λ (l : List ℕ). drop 1 l) e)
catalogue_none old none value left limits e = absurd (omega (arith, ap (λ (l : List ℕ). get_or l 0 0) e))

pub sent_none : (old : List ℕ) → NoneBegins (both is_id (both is_moment is_recording)) (pair eight_bytes (pair eight_bytes spelled_sized)) old → NoneBegins is_fact spelled_fact (2 ∷ old)
sent_none old none (Sent id at r) left limits e =
    let size = two_bytes (length (spelled_recording r)) in
    none (id, (at, r)) left limits (ap (λ (l : List ℕ). drop 1 l) e ∙ ap (λ (l : List ℕ). l ++ left) (parts (eight_bytes id) (eight_bytes at) size (spelled_recording r)))
  where
    parts : (a b c d : List ℕ) → a ++ b ++ c ++ d ≡ a ++ (b ++ (c ++ d))
    parts a b c d = simp append_assoc
sent_none old none value left limits e = absurd (omega (arith, ap (λ (l : List ℕ). get_or l 0 0) e))

pub played_none : (old : List ℕ) → NoneBegins (both is_id (both is_attempt (both is_any is_moment))) (pair eight_bytes (pair eight_bytes (pair spelled_kind eight_bytes))) old → NoneBegins is_fact spelled_fact (3 ∷ old)
played_none old none (Played id attempt kind at) left limits e =
    none (id, (attempt, (kind, at))) left limits (ap (λ (l : List ℕ). drop 1 l) e ∙ ap (λ (l : List ℕ). l ++ left) (append_assoc (eight_bytes id) (eight_bytes attempt) (kind_byte kind ∷ eight_bytes at)))
played_none old none value left limits e = absurd (omega (arith, ap (λ (l : List ℕ). get_or l 0 0) e))

pub failed_none : (old : List ℕ) → NoneBegins (both is_id (both is_attempt is_moment)) (pair eight_bytes (pair eight_bytes eight_bytes)) old → NoneBegins is_fact spelled_fact (4 ∷ old)
failed_none old none (Failed id attempt at) left limits e =
    none (id, (attempt, at)) left limits (ap (λ (l : List ℕ). drop 1 l) e ∙ ap (λ (l : List ℕ). l ++ left) (append_assoc (eight_bytes id) (eight_bytes attempt) (eight_bytes at)))
failed_none old none value left limits e = absurd (omega (arith, ap (λ (l : List ℕ). get_or l 0 0) e))

pub moved_none : (old : List ℕ) → NoneBegins (both is_name (both is_queue (both is_moment are_ids))) (pair short_bytes (pair one_byte (pair eight_bytes spelled_ids))) old → NoneBegins is_fact spelled_fact (5 ∷ old)
moved_none old none (Moved app queue at ids) left limits e =
    none (app, (queue, (at, ids))) left limits (ap (λ (l : List ℕ). drop 1 l) e ∙ ap (λ (l : List ℕ). l ++ left) (parts (short_bytes app) (queue ∷ eight_bytes at) (two_bytes (length ids)) (flat_map eight_bytes ids)))
  where
    parts : (a b c d : List ℕ) → a ++ b ++ c ++ d ≡ a ++ (b ++ (c ++ d))
    parts a b c d = simp append_assoc
moved_none old none value left limits e = absurd (omega (arith, ap (λ (l : List ℕ). get_or l 0 0) e))

pub switched_none : (old : List ℕ) → NoneBegins (both is_name (both is_any is_moment)) (pair short_bytes (pair spelled_flag eight_bytes)) old → NoneBegins is_fact spelled_fact (6 ∷ old)
switched_none old none (Switched app on at) left limits e =
    none (app, (on, at)) left limits (ap (λ (l : List ℕ). drop 1 l) e)
switched_none old none value left limits e = absurd (omega (arith, ap (λ (l : List ℕ). get_or l 0 0) e))

recording_bound : (r : Recording) → is_recording r ≡ true → length (spelled_recording r) ≤ 16384
recording_bound r h = leb-true (length (spelled_recording r)) 16384 ((and_parts (is_recorded r) _ h).1)

-- a catalogue's text

pub text_long : (old mid : List ℕ) (size : ℕ) → Begins fits_four four_bytes old size mid → 1048576 < size → NoneBegins is_text_of spelled_text old
text_long old mid size first over text left limits e =
    let few = leb-true (length text) 1048576 limits in
    let same = (four_bytes-free size (length text) mid (text ++ left) (omega (arith, leb-true size 4294967295 first.limits)) (omega (arith, few)) (sym first.is ∙ e ∙ append_assoc (four_bytes (length text)) text left)).0 in
    omega (arith, few, same, over)

pub text_short : (old mid : List ℕ) (size : ℕ) → Begins fits_four four_bytes old size mid → length mid < size → NoneBegins is_text_of spelled_text old
text_short old mid size first short text left limits e =
    let few = leb-true (length text) 1048576 limits in
    let same = four_bytes-free size (length text) mid (text ++ left) (omega (arith, leb-true size 4294967295 first.limits)) (omega (arith, few)) (sym first.is ∙ e ∙ append_assoc (four_bytes (length text)) text left) in
    omega (arith, same.0, ap length same.1, length-append text left, short)

-- a recording behind its length

module _ (old mid : List ℕ) (size : ℕ) (first : Begins fits_two two_bytes old size mid) where
  sized : (r : Recording) (left : List ℕ) → is_recording r ≡ true → old ≡ spelled_sized r ++ left → (size ≡ length (spelled_recording r)) × (mid ≡ spelled_recording r ++ left)
  sized r left limits e = two_bytes-free size (length (spelled_recording r)) mid (spelled_recording r ++ left) (omega (arith, leb-true size 65535 first.limits)) (omega (arith, recording_bound r limits))
      (sym first.is ∙ e ∙ append_assoc (two_bytes (length (spelled_recording r))) (spelled_recording r) left)

  pub recording_short : length mid < size → NoneBegins is_recording spelled_sized old
  recording_short short r left limits e =
      let same = sized r left limits e in
      omega (arith, same.0, ap length same.1, length-append (spelled_recording r) left, short)

  module _ (bytes new : List ℕ) (is : mid ≡ bytes ++ new) (long : length bytes ≡ size) where
    whole : (r : Recording) (left : List ℕ) → is_recording r ≡ true → old ≡ spelled_sized r ++ left → bytes ≡ spelled_recording r
    whole r left limits e =
        let same = sized r left limits e in
        (fronts_same bytes (spelled_recording r) new left (long ∙ same.0) (sym is ∙ same.1)).0

    pub recording_none : NoneBegins is_recording spelled_recording bytes → NoneBegins is_recording spelled_sized old
    recording_none none r left limits e = none r [] limits (whole r left limits e ∙ sym (append-nil (spelled_recording r)))

    pub recording_other : (read : ℕ) (q : Recording) → read ≤ length bytes → read ≢ length bytes → SpellsRecording (take read bytes) q → NoneBegins is_recording spelled_sized old
    recording_other read q within other spells r left limits e =
        let begins : spelled_recording q ++ drop read bytes ≡ spelled_recording r ++ [] = ap (λ (l : List ℕ). l ++ drop read bytes) (sym spells.is) ∙ take-append-drop read bytes ∙ whole r left limits e ∙ sym (append-nil (spelled_recording r)) in
        let left_over : drop read bytes ≡ [] = (recording-free q r (drop read bytes) [] spells.limits limits begins).1 in
        other (omega (arith, within, ap length left_over, length-drop read bytes))

-- ids behind their count

ids_parts : (ids : List ℕ) → are_ids ids ≡ true → (1 ≤ length ids) × (length ids ≤ 1000) × (list_all is_id ids ≡ true)
ids_parts ids h =
    let a = and_parts (is_between 1 1000 (length ids)) (list_all is_id ids) h in
    let b = and_parts (nat_le 1 (length ids)) (nat_le (length ids) 1000) a.0 in
    (leb-true 1 (length ids) b.0, leb-true (length ids) 1000 b.1, a.1)

module _ (old mid : List ℕ) (count : ℕ) (first : Begins fits_two two_bytes old count mid) where
  counted : (ids left : List ℕ) → are_ids ids ≡ true → old ≡ spelled_ids ids ++ left → (count ≡ length ids) × (mid ≡ flat_map eight_bytes ids ++ left)
  counted ids left limits e = two_bytes-free count (length ids) mid (flat_map eight_bytes ids ++ left) (omega (arith, leb-true count 65535 first.limits)) (omega (arith, (ids_parts ids limits).1))
      (sym first.is ∙ e ∙ append_assoc (two_bytes (length ids)) (flat_map eight_bytes ids) left)

  pub ids_none : count < 1 → NoneBegins are_ids spelled_ids old
  ids_none few ids left limits e = omega (arith, (counted ids left limits e).0, (ids_parts ids limits).0, few)

  pub ids_over : 1000 < count → NoneBegins are_ids spelled_ids old
  ids_over many ids left limits e = omega (arith, (counted ids left limits e).0, (ids_parts ids limits).1, many)

  pub ids_short : (now items : List ℕ) (read : ℕ) → Gathered is_id eight_bytes mid now items read → read < count → NoneBegins is_id eight_bytes now → NoneBegins are_ids spelled_ids old
  ids_short now items read so_far more none ids left limits e =
      let same = counted ids left limits e in
      gathered_stops is_id eight_bytes id-free mid now items ids left so_far.limits so_far.is none (ids_parts ids limits).2 (omega (arith, so_far.long, same.0, more)) same.1

  pub ids_read : (now items : List ℕ) → Gathered is_id eight_bytes mid now items count → 1 ≤ count → count ≤ 1000 → Begins are_ids spelled_ids old items now
  ids_read now items all some few = record {
    limits = and_from (is_between 1 1000 (length items)) (list_all is_id items) (and_from (nat_le 1 (length items)) (nat_le (length items) 1000) (le-leb 1 (length items) (omega (arith, all.long, some))) (le-leb (length items) 1000 (omega (arith, all.long, few)))) all.limits;
    is = first.is ∙ (λ i. two_bytes (sym all.long i) ++ all.is i) ∙ sym (append_assoc (two_bytes (length items)) (flat_map eight_bytes items) now);
  }
