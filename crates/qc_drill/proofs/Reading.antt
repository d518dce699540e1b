-- A drill after one more read of its source.
use Rattle.std.proofs.Common.{◌≡◌, ◌↔◌, ℕ, zero, suc, ◌+◌, ◌-◌, ◌<◌, ◌≤◌, List, [], ◌∷◌, ◌++◌, length, take, drop, refl, ap, sym, ◌∙◌, subst, arith, append-nil, append_assoc, take-append-drop, length-append, length-take, true, false, Option, Some, IfSome, Ok, Err, IsOk}
use Rattle.std.proofs.lemmas.List.{take_all}
use Rattle.std.specs.declared.result.Result.{Result}
use Rattle.qc_protocol.specs.Texts.{Pieces, pieces_of, ended_lines, lines_of, unended_line}
use Rattle.qc_protocol.proofs.Lines.{Longer, pieces-append}
use Rattle.qc_site.specs.declared.site.Site.{Ghosts}
use Rattle.qc_site.specs.Image.{Image}
use Rattle.qc_site.specs.Streams.{Takes}
use Rattle.qc_hub.specs.declared.hub.Hub.{Hub}
use Rattle.qc_hub.specs.Calls.{IsReady}
use Rattle.qc_drill.specs.declared.piece.Piece.{Piece}
use Rattle.qc_drill.specs.declared.stop.Stop.{Stop}
use Rattle.qc_drill.specs.declared.stop.Stop.TheVariants.{SourceFault, SinkFault, SiteFault, InputLong, NoMemory}
use Rattle.qc_drill.specs.Calls.{AnswersLines, ReadsSome, ReadsAll}
use Rattle.qc_drill.specs.Fronts.{IsFrontOf, Took}
use Rattle.qc_drill.specs.Holds.{Holds, behind, is_empty}
use Rattle.qc_drill.specs.Reads.{HasRead, most_input, chunk}
use Rattle.qc_drill.specs.Stops.{AllAt, AnswersAll, status_of, ended_as}
use Rattle.qc_drill.proofs.Behind.{pieces-split}
use Rattle.qc_drill.proofs.Joined.{no-line, lines-behind}

-- the line behind the last newline

pub last-none : (line : List ℕ) → is_empty line ≡ true → unended_line line ≡ []
last-none [] e = refl
last-none (b ∷ line) e = cc

pub last-some : (line : List ℕ) → is_empty line ≡ false → unended_line line ≡ line ∷ []
last-some [] e = cc
last-some (b ∷ line) e = refl

-- what is taken

pub take-nil : (n : ℕ) → (let none : List ℕ = [] in take n none ≡ none)
take-nil zero = refl
take-nil (suc n) = refl

pub take-front : (k n : ℕ) (l : List ℕ) → k ≤ n → take k (take n l) ≡ take k l
take-front zero n l le = refl
take-front (suc k) zero l le = absurd (omega (arith, le))
take-front (suc k) (suc n) [] le = refl
take-front (suc k) (suc n) (x ∷ l) le = ap (λ (t : List ℕ). x ∷ t) (take-front k n l (omega (arith, le)))

take-past : (a b : List ℕ) (k n : ℕ) → length a + k ≡ n → take n (a ++ b) ≡ a ++ take k b
take-past [] b k n e = let same : n ≡ k = omega (arith, e) in ap (λ m. take m b) same
take-past (x ∷ a) b k zero e = absurd (omega (arith, e))
take-past (x ∷ a) b k (suc n) e = ap (λ (l : List ℕ). x ∷ l) (take-past a b k n (omega (arith, e)))

empty-length : (l : List ℕ) → length l ≡ 0 → l ≡ []
empty-length [] e = refl
empty-length (b ∷ l) e = absurd (omega (arith, e))

pub took-none : (left : Option (List ℕ)) → Took [] left left
took-none left = λ bytes is. record { rest = bytes; is = refl; left = is }

pub took-still : (left now : Option (List ℕ)) → now ≡ left → Took [] left now
took-still left now same = λ bytes is. record { rest = bytes; is = refl; left = same ∙ is }

pub took-read : (count : ℕ) (into : List ℕ) (left now : Option (List ℕ)) → IfSome left (Takes count into now) → Took (take count into) left now
took-read count into left now taken = λ bytes is.
    let t : Takes count into now bytes = subst (λ (o : Option (List ℕ)). IfSome o (Takes count into now)) is taken in
    record { rest = drop count bytes; is = sym (take-append-drop count bytes) ∙ ap (λ (l : List ℕ). l ++ drop count bytes) (sym t.given); left = t.rest }

-- what a read gave is nothing only at the end of the source
pub read-end : (n : ℕ) (into : List ℕ) (left : Option (List ℕ)) → n ≤ length into → take n into ≡ [] → IfSome left (λ bytes. (n ≡ 0) ↔ (bytes ≡ [])) → (bytes : List ℕ) → left ≡ Some bytes → bytes ≡ []
read-end n into left fits none end bytes is =
    let e : (n ≡ 0) ↔ (bytes ≡ []) = subst (λ (o : Option (List ℕ)). IfSome o (λ b. (n ≡ 0) ↔ (b ≡ []))) is end in
    e.0 (omega (arith, length-take n into, ap length none, fits))

-- a call that isn't stopped by the source's end or its bytes hasn't answered all
pub stop-whole : (stop : Stop) → (stop ≡ SourceFault → ⊥) → (stop ≡ InputLong → ⊥) → AllAt stop → ⊥
stop-whole SourceFault a b w = a refl
stop-whole InputLong a b w = b refl
stop-whole SinkFault a b w = w
stop-whole SiteFault a b w = w
stop-whole NoMemory a b w = w

-- a last line that was answered whole
pub finish-whole : (r : Result (Unit {0}) Stop) → (¬ (r ≡ Err SourceFault)) × (¬ (r ≡ Err InputLong)) → AnswersAll r → IsOk r
finish-whole (Ok u) k w = refl
finish-whole (Err stop) k w = absurd (stop-whole stop (λ e. k.0 (ap (λ (x : Stop). Err x) e)) (λ e. k.1 (ap (λ (x : Stop). Err x) e)) w)

pub took-joined : (a b : List ℕ) (first mid last : Option (List ℕ)) → Took a first mid → Took b mid last → Took (a ++ b) first last
took-joined a b first mid last x y = λ bytes is.
    let f = x bytes is in
    let h = y f.rest f.left in
    record { rest = h.rest; is = f.is ∙ ap (λ (l : List ℕ). a ++ l) h.is ∙ sym (append_assoc a b h.rest); left = h.left }

-- lines that end in a front of the bytes are the first of all

longer-front : (a b : List (List ℕ)) → Longer a b → IsFrontOf b a
longer-front a b l = record { rest = l.added; is = l.is }

pub ended-front : (front rest : List ℕ) → IsFrontOf (lines_of (front ++ rest)) (ended_lines front)
ended-front front rest =
    let l : Longer (ended_lines front) (ended_lines (front ++ rest)) = pieces-append front rest in
    record {
      rest = l.added ++ unended_line (pieces_of (front ++ rest)).rest;
      is = ap (λ (ls : List (List ℕ)). ls ++ unended_line (pieces_of (front ++ rest)).rest) l.is ∙ append_assoc (ended_lines front) l.added (unended_line (pieces_of (front ++ rest)).rest);
    }

ended-whole : (bytes : List ℕ) → IsFrontOf (lines_of bytes) (ended_lines bytes)
ended-whole bytes = record { rest = unended_line (pieces_of bytes).rest; is = refl }

lines-whole : (bytes : List ℕ) → IsFrontOf (lines_of bytes) (lines_of bytes)
lines-whole bytes = record { rest = []; is = sym (append-nil (lines_of bytes)) }

ended-split : (a b : List ℕ) → ended_lines (a ++ b) ≡ ended_lines a ++ (behind (pieces_of a).rest (pieces_of b)).ended
ended-split a b = ap (λ (p : Pieces). p.ended) (pieces-split a b)

module _ {S : Type 0} (g : Ghosts S) where
  -- How far a drill has come: these bytes were taken, of which so many more may be, the lines that end in them are
  -- answered, and the piece holds what stands behind them.
  pub record SoFar (taken : List ℕ) (more : ℕ) (hub : Hub) (site : S) (left contents : Option (List ℕ)) (new : Hub) (piece : Piece) (after : S) (left_now now : Option (List ℕ)) : Type 0 where
    pub took : Took taken left left_now
    pub few : length taken + more ≡ most_input
    pub holds : Holds piece (pieces_of taken).rest
    pub answers : AnswersLines g (ended_lines taken) (Unit {0}) hub site contents new after now

  pub so-far-none : (hub : Hub) (piece : Piece) (site : S) (left contents : Option (List ℕ)) → ((c : Image) → g.told → g.left_since site (g.moment site) c → g.may_leave site c) → IsReady g hub site → Holds piece [] → SoFar [] most_input hub site left contents hub piece site left contents
  so-far-none hub piece site left contents now ready holds = record { took = took-none left; few = refl; holds = holds; answers = no-line g (Unit {0}) hub hub site contents now ready (λ s h. h) }

  -- one read more
  pub so-far-on : (n : ℕ) (taken : List ℕ) (more : ℕ) (hub mid new : Hub) (piece next : Piece) (site between after : S) (left left_mid left_now contents half now : Option (List ℕ))
      → ((site : S) (t : ℕ) (c : Image) → g.told → t ≤ g.moment site → g.may_leave site c → g.left_since site t c) → n ≤ more → SoFar taken more hub site left contents mid piece between left_mid half
      → (r : ReadsSome g (pieces_of taken).rest more (Ok n) mid between left_mid half new next after left_now now) → SoFar (taken ++ r.given) (more - n) hub site left contents new next after left_now now
  so-far-on n taken more hub mid new piece next site between after left left_mid left_now contents half now counts le so r =
      let line : List ℕ = (pieces_of taken).rest in
      let all : take more r.given ≡ r.given = take_all more r.given (omega (arith, r.count, le)) in
      let answers : AnswersLines g (behind line (pieces_of r.given)).ended (Unit {0}) mid between half new after now = subst (λ (l : List ℕ). AnswersLines g (behind line (pieces_of l)).ended (Unit {0}) mid between half new after now) all r.answers in
      record {
        took = took-joined taken r.given left left_mid left_now so.took r.took;
        few = omega (arith, length-append taken r.given, r.count, le, so.few);
        holds = subst (Holds next) (sym (ap (λ (p : Pieces). p.rest) (pieces-split taken r.given))) r.holds;
        answers = subst (λ (ls : List (List ℕ)). AnswersLines g ls (Unit {0}) hub site contents new after now) (sym (ended-split taken r.given))
            (lines-behind g (ended_lines taken) (behind line (pieces_of r.given)).ended (Unit {0}) (Unit {0}) hub mid new site between after contents half now counts tt so.answers answers);
      }

  -- the source has no byte left
  pub at-end : (n : ℕ) (taken : List ℕ) (more : ℕ) (hub mid new : Hub) (piece next : Piece) (site between after : S) (left left_mid left_now contents half now : Option (List ℕ)) → SoFar taken more hub site left contents mid piece between left_mid half
      → n ≡ 0 → (r : ReadsSome g (pieces_of taken).rest more (Ok n) mid between left_mid half new next after left_now now) → (bytes : List ℕ) → left ≡ Some bytes → bytes ≡ taken ++ r.given
  at-end n taken more hub mid new piece next site between after left left_mid left_now contents half now so zero-read r bytes is =
      let f = so.took bytes is in
      let none : r.given ≡ [] = empty-length r.given (sym r.count ∙ zero-read) in
      f.is ∙ ap (λ (l : List ℕ). taken ++ l) (r.end none f.rest f.left ∙ sym none)

  -- and the last line is answered, or not
  pub ended : (result : Result (Unit {0}) Stop) (taken : List ℕ) (more : ℕ) (hub mid new : Hub) (piece : Piece) (site between after : S) (left left_now contents half now : Option (List ℕ))
      → ((site : S) (t : ℕ) (c : Image) → g.told → t ≤ g.moment site → g.may_leave site c → g.left_since site t c) → SoFar taken more hub site left contents mid piece between left_now half → ((bytes : List ℕ) → left ≡ Some bytes → bytes ≡ taken)
      → (¬ (result ≡ Err SourceFault)) × (¬ (result ≡ Err InputLong)) → AnswersLines g (unended_line (pieces_of taken).rest) (AnswersAll result) mid between half new after now → ReadsAll g result hub site left contents new after left_now now
  ended result taken more hub mid new piece site between after left left_now contents half now counts so end kinds last = record {
    taken = taken;
    lines = lines_of taken;
    read = by_result result kinds;
    answers = lines-behind g (ended_lines taken) (unended_line (pieces_of taken).rest) (Unit {0}) (AnswersAll result) hub mid new site between after contents half now counts tt so.answers last;
  }
    where
      few : length taken ≤ most_input
      few = omega (arith, so.few)

      most : length taken ≤ most_input + chunk
      most = omega (arith, so.few)

      all-lines : IsFrontOf (lines_of (take most_input taken)) (lines_of taken)
      all-lines = subst (λ (l : List ℕ). IsFrontOf (lines_of l) (lines_of taken)) (sym (take_all most_input taken few)) (lines-whole taken)

      first : (bytes : List ℕ) → left ≡ Some bytes → IsFrontOf (lines_of bytes) (lines_of taken)
      first bytes is = subst (λ (l : List ℕ). IsFrontOf (lines_of l) (lines_of taken)) (sym (end bytes is)) (lines-whole taken)

      by_stop : (x : Stop) → (¬ (x ≡ SourceFault)) × (¬ (x ≡ InputLong)) → HasRead (status_of x) left left_now taken (lines_of taken)
      by_stop SourceFault k = absurd (k.0 refl)
      by_stop InputLong k = absurd (k.1 refl)
      by_stop SinkFault k = record { source = so.took; most = most; read = all-lines; first = first; end = λ e. absurd cc }
      by_stop SiteFault k = record { source = so.took; most = most; read = all-lines; first = first; end = λ e. absurd cc }
      by_stop NoMemory k = record { source = so.took; most = most; read = all-lines; first = first; end = λ e. absurd cc }

      by_result : (r : Result (Unit {0}) Stop) → (¬ (r ≡ Err SourceFault)) × (¬ (r ≡ Err InputLong)) → HasRead (ended_as r) left left_now taken (lines_of taken)
      by_result (Ok u) k = record { source = so.took; most = most; read = (few, refl); first = first; end = λ e. end }
      by_result (Err x) k = by_stop x (λ e. k.0 (ap (λ (y : Stop). Err y) e), λ e. k.1 (ap (λ (y : Stop). Err y) e))

  -- a read that stopped
  pub stopped : (stop : Stop) (taken : List ℕ) (more : ℕ) (hub mid new : Hub) (piece next : Piece) (site between after : S) (left left_mid left_now contents half now : Option (List ℕ))
      → ((site : S) (t : ℕ) (c : Image) → g.told → t ≤ g.moment site → g.may_leave site c → g.left_since site t c) → SoFar taken more hub site left contents mid piece between left_mid half
      → ReadsSome g (pieces_of taken).rest more (Err stop) mid between left_mid half new next after left_now now → ReadsAll g (Err stop) hub site left contents new after left_now now
  stopped stop taken more hub mid new piece next site between after left left_mid left_now contents half now counts so r = record {
    taken = all;
    lines = ended_lines read;
    read = by_stop stop (λ e. r.fault (ap (λ (y : Stop). Err y) e)) (λ e. r.long (ap (λ (y : Stop). Err y) e));
    answers = subst (λ (ls : List (List ℕ)). AnswersLines g ls (AllAt stop) hub site contents new after now) (sym (ended-split taken (take more r.given)))
        (lines-behind g (ended_lines taken) (behind (pieces_of taken).rest (pieces_of (take more r.given))).ended (Unit {0}) (AllAt stop) hub mid new site between after contents half now counts tt so.answers r.answers);
  }
    where
      all : List ℕ
      all = taken ++ r.given

      read : List ℕ
      read = taken ++ take more r.given

      front : take most_input all ≡ read
      front = take-past taken r.given more most_input so.few

      took : Took all left left_now
      took = took-joined taken r.given left left_mid left_now so.took r.took

      most : length all ≤ most_input + chunk
      most = omega (arith, length-append taken r.given, r.few, so.few)

      first : (bytes : List ℕ) → left ≡ Some bytes → IsFrontOf (lines_of bytes) (ended_lines read)
      first bytes is =
          let t = took bytes is in
          let whole : bytes ≡ read ++ (drop more r.given ++ t.rest) = t.is ∙ ap (λ (l : List ℕ). (taken ++ l) ++ t.rest) (sym (take-append-drop more r.given)) ∙ ap (λ (l : List ℕ). l ++ t.rest) (sym (append_assoc taken (take more r.given) (drop more r.given))) ∙ append_assoc read (drop more r.given) t.rest in
          subst (λ (l : List ℕ). IsFrontOf (lines_of l) (ended_lines read)) (sym whole) (ended-front read (drop more r.given ++ t.rest))

      some : IsFrontOf (lines_of (take most_input all)) (ended_lines read)
      some = subst (λ (l : List ℕ). IsFrontOf (lines_of l) (ended_lines read)) (sym front) (ended-whole read)

      by_stop : (x : Stop) → (x ≡ SourceFault → r.given ≡ []) → (x ≡ InputLong → more < length r.given) → HasRead (status_of x) left left_now all (ended_lines read)
      by_stop SourceFault fault long =
          let none = fault refl in
          let same : read ≡ all = ap (λ (l : List ℕ). taken ++ l) (ap (take more) none ∙ take-nil more ∙ sym none) in
          record { source = took; most = most; read = (omega (arith, length-append taken r.given, ap length none, so.few), ap ended_lines same); first = first; end = λ e. absurd cc }
      by_stop InputLong fault long = record { source = took; most = most; read = (omega (arith, length-append taken r.given, long refl, so.few), ap ended_lines (sym front)); first = first; end = λ e. absurd cc }
      by_stop SinkFault fault long = record { source = took; most = most; read = some; first = first; end = λ e. absurd cc }
      by_stop SiteFault fault long = record { source = took; most = most; read = some; first = first; end = λ e. absurd cc }
      by_stop NoMemory fault long = record { source = took; most = most; read = some; first = first; end = λ e. absurd cc }
