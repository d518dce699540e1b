-- Bytes behind a tag that begin with no line.
use Rattle.std.proofs.Common.{◌≡◌, ◌≤◌, ℕ, List, [], ◌∷◌, ◌++◌, get_or, drop, true, nat_le, ◌∙◌, ap, arith, append_assoc}
use Rattle.std.proofs.lemmas.Bool.{and_parts, leb-true}
use Rattle.qc_base.specs.Names.{is_name, is_text}
use Rattle.qc_base.specs.Spelling.{short_bytes, four_bytes, eight_bytes, fits_four, is_id, is_amount, is_attempt, spelled_line, is_line, is_record, NoneBegins, IsPrefixFree}
use Rattle.qc_base.specs.declared.log_line.LogLine.TheVariants.{Opened, Registered, Written, Forgot, Done}
use Rattle.qc_base.proofs.PrefixFree.{four_bytes-free, short_bytes-free}
use Rattle.qc_entries.proofs.Sequence.{both, pair}
use Rattle.crm_log.specs.Parts.{is_seq, are_flags, are_phases, one_byte, spelled_record}

pub opened_none : (old : List ℕ) → NoneBegins (both is_attempt is_id) (pair eight_bytes eight_bytes) old → NoneBegins is_line spelled_line (1 ∷ old)
opened_none old none (Opened attempt id) left limits e = none (attempt, id) left limits (ap (λ (l : List ℕ). drop 1 l) e)
opened_none old none value left limits e = absurd (omega (arith, ap (λ (l : List ℕ). get_or l 0 0) e))

pub registered_none : (old : List ℕ) → NoneBegins (both is_attempt (both is_name are_phases)) (pair eight_bytes (pair short_bytes one_byte)) old → NoneBegins is_line spelled_line (2 ∷ old)
registered_none old none (Registered attempt resource phases) left limits e =
    none (attempt, (resource, phases)) left limits (ap (λ (l : List ℕ). drop 1 l) e ∙ ap (λ (l : List ℕ). l ++ left) (append_assoc (eight_bytes attempt) (short_bytes resource) (phases ∷ [])))
registered_none old none value left limits e = absurd (omega (arith, ap (λ (l : List ℕ). get_or l 0 0) e))

pub written_none : (old : List ℕ) → NoneBegins (both is_attempt (both is_name is_record)) (pair eight_bytes (pair short_bytes spelled_record)) old → NoneBegins is_line spelled_line (3 ∷ old)
written_none old none (Written attempt resource r) left limits e =
    none (attempt, (resource, r)) left limits (ap (λ (l : List ℕ). drop 1 l) e ∙ ap (λ (l : List ℕ). l ++ left) (parts (eight_bytes attempt) (short_bytes resource) (four_bytes r.seq) (r.flags ∷ short_bytes r.key) (eight_bytes r.old) (eight_bytes r.new)))
  where
    parts : (a b c d e f : List ℕ) → a ++ b ++ c ++ d ++ e ++ f ≡ a ++ (b ++ (c ++ d ++ e ++ f))
    parts a b c d e f = simp append_assoc
written_none old none value left limits e = absurd (omega (arith, ap (λ (l : List ℕ). get_or l 0 0) e))

pub forgot_none : (old : List ℕ) → NoneBegins (both is_attempt (both is_name fits_four)) (pair eight_bytes (pair short_bytes four_bytes)) old → NoneBegins is_line spelled_line (4 ∷ old)
forgot_none old none (Forgot attempt resource seq) left limits e =
    none (attempt, (resource, seq)) left limits (ap (λ (l : List ℕ). drop 1 l) e ∙ ap (λ (l : List ℕ). l ++ left) (append_assoc (eight_bytes attempt) (short_bytes resource) (four_bytes seq)))
forgot_none old none value left limits e = absurd (omega (arith, ap (λ (l : List ℕ). get_or l 0 0) e))

pub done_none : (old : List ℕ) → NoneBegins is_attempt eight_bytes old → NoneBegins is_line spelled_line (5 ∷ old)
done_none old none (Done attempt) left limits e = none attempt left limits (ap (λ (l : List ℕ). drop 1 l) e)
done_none old none value left limits e = absurd (omega (arith, ap (λ (l : List ℕ). get_or l 0 0) e))

-- a record

pub record_none : (old : List ℕ) → NoneBegins (both is_seq (both are_flags (both is_text (both is_amount is_amount)))) (pair four_bytes (pair one_byte (pair short_bytes (pair eight_bytes eight_bytes)))) old → NoneBegins is_record spelled_record old
record_none old none r left limits e =
    none (r.seq, (r.flags, (r.key, (r.old, r.new)))) left limits (e ∙ ap (λ (l : List ℕ). l ++ left) (parts (four_bytes r.seq) (short_bytes r.key) (eight_bytes r.old) (eight_bytes r.new) r.flags))
  where
    parts : (a b c d : List ℕ) (flags : ℕ) → a ++ (flags ∷ b) ++ c ++ d ≡ a ++ (flags ∷ (b ++ (c ++ d)))
    parts a b c d flags = simp append_assoc

-- its parts

pub flags_free : IsPrefixFree are_flags one_byte
flags_free a b x y v w e = (ap (λ (l : List ℕ). get_or l 0 0) e, ap (λ (l : List ℕ). drop 1 l) e)

pub text_free : IsPrefixFree is_text short_bytes
text_free a b x y v w e = short_bytes-free a b x y e

pub four_free : IsPrefixFree fits_four four_bytes
four_free a b x y v w e = four_bytes-free a b x y (omega (arith, leb-true a 4294967295 v)) (omega (arith, leb-true b 4294967295 w)) e

pub seq_fits : (n : ℕ) → is_seq n ≡ true → fits_four n ≡ true
seq_fits n h = (and_parts (nat_le 1 n) (nat_le n 4294967295) h).1

pub seq_some : (n : ℕ) → is_seq n ≡ true → 1 ≤ n
seq_some n h = leb-true 1 n (and_parts (nat_le 1 n) (nat_le n 4294967295) h).0

pub seq_free : IsPrefixFree is_seq four_bytes
seq_free a b x y v w e = four_free a b x y (seq_fits a v) (seq_fits b w) e
