-- Lines one after the other: what is written for them, and the states that a crash among them may leave.
use Rattle.std.proofs.Common.{◌≡◌, ℕ, List, [], ◌∷◌, ◌++◌, length, Bool, true, false, MatchBool, refl, sym, ap, ◌∙◌, subst, inl, append-nil, append_assoc, arith}
use Rattle.qc_protocol.specs.Texts.{is_blank}
use Rattle.qc_site.specs.Image.{Image}
use Rattle.qc_site.specs.Disk.{Images}
use Rattle.qc_machine.proofs.Images.{one-of}
use Rattle.qc_machine.specs.Sites.{LeavesOneOf}
use Rattle.qc_machine.specs.State.{State}
use Rattle.qc_machine.specs.Steps.{IsBetween}
use Rattle.qc_drill.specs.Crash.{IsAround, IsAtNext, IsAfterFront, LeavesFront, StandsAtNext, StopsBetween, next_out}
use Rattle.qc_drill.specs.Drill.{line_step, out_of_line, after_line, out_of_lines, after_lines}
use Rattle.qc_drill.specs.Fronts.{IsFrontOf, IsPartOf}

pub front-whole : {A : Type 0} (whole : List A) → IsFrontOf whole whole
front-whole whole = record { rest = []; is = sym (append-nil whole) }

pub front-none : {A : Type 0} (whole : List A) → IsFrontOf whole []
front-none whole = record { rest = whole; is = refl }

pub front-more : {A : Type 0} (a b front : List A) → IsFrontOf a front → IsFrontOf (a ++ b) front
front-more a b front f = record { rest = f.rest ++ b; is = ap (λ l. l ++ b) f.is ∙ append_assoc front f.rest b }

pub front-joined : {A : Type 0} (a b c : List A) → IsFrontOf a b → IsFrontOf b c → IsFrontOf a c
front-joined a b c f h = record { rest = h.rest ++ f.rest; is = f.is ∙ ap (λ l. l ++ f.rest) h.is ∙ append_assoc c h.rest f.rest }

pub front-behind : {A : Type 0} (a b front : List A) → IsFrontOf b front → IsFrontOf (a ++ b) (a ++ front)
front-behind a b front f = record { rest = f.rest; is = ap (λ l. a ++ l) f.is ∙ sym (append_assoc a front f.rest) }

pub out-append : (s : State) (a b : List (List ℕ)) → out_of_lines s (a ++ b) ≡ out_of_lines s a ++ out_of_lines (after_lines s a) b
out-append s [] b = refl
out-append s (l ∷ a) b = ap (λ (t : List ℕ). out_of_line s l ++ t) (out-append (after_line s l) a b) ∙ sym (append_assoc (out_of_line s l) (out_of_lines (after_line s l) a) (out_of_lines (after_lines (after_line s l) a) b))

pub after-append : (s : State) (a b : List (List ℕ)) → after_lines s (a ++ b) ≡ after_lines (after_lines s a) b
after-append s [] b = refl
after-append s (l ∷ a) b = after-append (after_line s l) a b

-- the states around a line

pub around-first : (s x : State) (line : List ℕ) → x ≡ s → IsAround s line x
around-first s x line e = by_blank (is_blank line)
  where
    by_blank : (b : Bool) → MatchBool b (x ≡ s) (IsBetween s (line_step s line) x)
    by_blank true = e
    by_blank false = inl e

pub at-first : (s x : State) (lines : List (List ℕ)) → x ≡ s → IsAtNext s lines x
at-first s x [] e = e
at-first s x (line ∷ lines) e = around-first s x line e

-- lines behind those that were read change nothing
pub at-more : (s x : State) (rest b : List (List ℕ)) → IsAtNext s rest x → IsAtNext s (rest ++ b) x
at-more s x [] b e = at-first s x b e
at-more s x (line ∷ rest) b is = is

pub after-more : (s x : State) (a b : List (List ℕ)) → IsAfterFront s a x → IsAfterFront s (a ++ b) x
after-more s x a b f = record {
  front = f.front;
  rest = f.rest ++ b;
  is = ap (λ (l : List (List ℕ)). l ++ b) f.is ∙ append_assoc f.front f.rest b;
  after = at-more (after_lines s f.front) x f.rest b f.after;
}

-- nor do lines that were answered before
pub after-behind : (s x : State) (a b : List (List ℕ)) → IsAfterFront (after_lines s a) b x → IsAfterFront s (a ++ b) x
after-behind s x a b f = record {
  front = a ++ f.front;
  rest = f.rest;
  is = ap (λ (l : List (List ℕ)). a ++ l) f.is ∙ sym (append_assoc a f.front f.rest);
  after = subst (λ (t : State). IsAtNext t f.rest x) (sym (after-append s a f.front)) f.after;
}

pub after-start : (s : State) (lines : List (List ℕ)) → IsAfterFront s lines s
after-start s lines = record { front = []; rest = lines; is = refl; after = at-first s s lines refl }

pub after-line : (s x : State) (line : List ℕ) → IsAround s line x → IsAfterFront s (line ∷ []) x
after-line s x line is = record { front = []; rest = line ∷ []; is = refl; after = is }

pub leaves-more : (images : Images) (s : State) (a b : List (List ℕ)) (c : Image) → LeavesFront images s a c → LeavesFront images s (a ++ b) c
leaves-more images s a b = one-of images (IsAfterFront s a) (IsAfterFront s (a ++ b)) (λ x f. (x, after-more s x a b f, refl))

pub leaves-line : (images : Images) (s : State) (line : List ℕ) (c : Image) → LeavesOneOf images (IsAround s line) c → LeavesFront images s (line ∷ []) c
leaves-line images s line = one-of images (IsAround s line) (IsAfterFront s (line ∷ [])) (λ x is. (x, after-line s x line is, refl))

-- what is acknowledged

next-more : (s : State) (rest b : List (List ℕ)) (part : List ℕ) → IsPartOf (next_out s rest) part → IsPartOf (next_out s (rest ++ b)) part
next-more s [] b part p = by_part part p.front
  where
    by_part : (t : List ℕ) → IsFrontOf [] t → IsPartOf (next_out s b) t
    by_part [] f = record { front = front-none (next_out s b); short = inl refl }
    by_part (x ∷ t) f = absurd (omega (arith, ap length f.is))
next-more s (line ∷ rest) b part p = p

pub stops-more : (s : State) (a b : List (List ℕ)) (text : List ℕ) (now : Images) → StopsBetween s a text now → StopsBetween s (a ++ b) text now
stops-more s a b text now p = record {
  answered = p.answered;
  rest = p.rest ++ b;
  are = ap (λ (l : List (List ℕ)). l ++ b) p.are ∙ append_assoc p.answered p.rest b;
  part = p.part;
  written = p.written;
  short = next-more (after_lines s p.answered) p.rest b p.part p.short;
  images = λ c here. let stands = p.images c here in record { state = stands.state; is = at-more (after_lines s p.answered) stands.state p.rest b stands.is; stands = stands.stands };
}

pub stops-behind : (s : State) (a b : List (List ℕ)) (text : List ℕ) (now : Images) → StopsBetween (after_lines s a) b text now → StopsBetween s (a ++ b) (out_of_lines s a ++ text) now
stops-behind s a b text now p =
    let same : after_lines (after_lines s a) p.answered ≡ after_lines s (a ++ p.answered) = sym (after-append s a p.answered) in
    record {
      answered = a ++ p.answered;
      rest = p.rest;
      are = ap (λ (l : List (List ℕ)). a ++ l) p.are ∙ sym (append_assoc a p.answered p.rest);
      part = p.part;
      written = ap (λ (t : List ℕ). out_of_lines s a ++ t) p.written ∙ sym (append_assoc (out_of_lines s a) (out_of_lines (after_lines s a) p.answered) p.part) ∙ ap (λ (t : List ℕ). t ++ p.part) (sym (out-append s a p.answered));
      short = subst (λ (t : State). IsPartOf (next_out t p.rest) p.part) same p.short;
      images = λ c here. subst (λ (t : State). StandsAtNext t p.rest c) same (p.images c here);
    }

-- what is written is a front of all replies
pub stops-front : (s : State) (lines : List (List ℕ)) (text : List ℕ) (now : Images) → StopsBetween s lines text now → IsFrontOf (out_of_lines s lines) text
stops-front s lines text now p =
    let all : out_of_lines s lines ≡ out_of_lines s p.answered ++ out_of_lines (after_lines s p.answered) p.rest = ap (out_of_lines s) p.are ∙ out-append s p.answered p.rest in
    let t : State = after_lines s p.answered in
    subst (λ (whole : List ℕ). IsFrontOf whole text) (sym all)
    (subst (IsFrontOf (out_of_lines s p.answered ++ out_of_lines t p.rest)) (sym p.written) (front-behind (out_of_lines s p.answered) (out_of_lines t p.rest) p.part (of_rest t p.rest p.short.front)))
  where
    of_rest : (t : State) (rest : List (List ℕ)) → IsFrontOf (next_out t rest) p.part → IsFrontOf (out_of_lines t rest) p.part
    of_rest t [] f = f
    of_rest t (line ∷ rest) f = front-more (out_of_line t line) (out_of_lines (after_line t line) rest) p.part f
