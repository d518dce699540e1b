-- A drill that takes the lines of some bytes one after the other.
use Rattle.std.proofs.Common.{◌≡◌, ◌≤◌, ℕ, ◌+◌, List, [], ◌∷◌, ◌++◌, take, drop, Bool, true, false, eqb, slice_index, refl, sym, ap, ◌∙◌, subst, append-nil, arith, Option, Some, None}
use Rattle.memchr.specs.Find.{IsFirstByte, is_byte}
use Rattle.qc_protocol.specs.Texts.{Pieces, pieces_of}
use Rattle.qc_site.specs.declared.site.Site.{Ghosts}
use Rattle.qc_site.specs.Image.{Image}
use Rattle.qc_hub.specs.declared.hub.Hub.{Hub}
use Rattle.qc_hub.specs.Calls.{IsReady}
use Rattle.qc_drill.specs.declared.piece.Piece.{Piece}
use Rattle.qc_drill.specs.Calls.{AnswersLines}
use Rattle.qc_drill.specs.Holds.{Holds, behind}
use Rattle.qc_drill.proofs.Behind.{and_lines, behind-none, behind-first, lines-joined}
use Rattle.qc_drill.proofs.Joined.{no-line, lines-behind, lines-more, lines-other}

no_byte : (b : Bool) → (b ≡ true → ⊥) → b ≡ false
no_byte true never = absurd (never refl)
no_byte false never = refl

pub first-behind : (line rest : List ℕ) (k : ℕ) → IsFirstByte (is_byte 10) rest (Some k) → behind line (pieces_of rest) ≡ and_lines ((line ++ take k rest) ∷ []) (behind [] (pieces_of (drop (k + 1) rest)))
first-behind line rest k f = behind-first line rest k f.0.high (λ j lt. no_byte (eqb (slice_index rest j) 10) (f.0.before j (omega arith) lt)) f.1

pub none-behind : (line rest : List ℕ) → IsFirstByte (is_byte 10) rest None → behind line (pieces_of rest) ≡ record { ended = []; rest = line ++ rest }
none-behind line rest f = behind-none line rest (λ j lt. no_byte (eqb (slice_index rest j) 10) (f j (omega arith) lt))

module _ {S : Type 0} (g : Ghosts S) where
  -- The lines that ended so far are answered, and the piece holds the beginning of the next; these bytes are left.
  pub record CameTo (line bytes rest : List ℕ) (hub : Hub) (site : S) (contents : Option (List ℕ)) (new : Hub) (piece : Piece) (after : S) (now : Option (List ℕ)) : Type 0 where
    pub lines : List (List ℕ)
    pub held : List ℕ
    pub holds : Holds piece held
    pub are : behind line (pieces_of bytes) ≡ and_lines lines (behind held (pieces_of rest))
    pub answers : AnswersLines g lines (Unit {0}) hub site contents new after now

  pub came-start : (line bytes : List ℕ) (hub : Hub) (site : S) (contents : Option (List ℕ)) (piece : Piece) → ((c : Image) → g.told → g.left_since site (g.moment site) c → g.may_leave site c) → IsReady g hub site → Holds piece line → CameTo line bytes bytes hub site contents hub piece site contents
  came-start line bytes hub site contents piece now ready holds = record { lines = []; held = line; holds = holds; are = refl; answers = no-line g (Unit {0}) hub hub site contents now ready (λ s h. h) }

  pub came-on : (line bytes rest : List ℕ) (k : ℕ) (first : Type 0) (hub mid new : Hub) (piece next : Piece) (site between after : S) (contents half now : Option (List ℕ))
      → ((site : S) (t : ℕ) (c : Image) → g.told → t ≤ g.moment site → g.may_leave site c → g.left_since site t c) → IsFirstByte (is_byte 10) rest (Some k)
      → (came : CameTo line bytes rest hub site contents mid piece between half) → first → AnswersLines g ((came.held ++ take k rest) ∷ []) first mid between half new after now → Holds next [] → CameTo line bytes (drop (k + 1) rest) hub site contents new next after now
  came-on line bytes rest k first hub mid new piece next site between after contents half now counts f came all one holds =
      let l : List ℕ = came.held ++ take k rest in
      record {
        lines = came.lines ++ l ∷ [];
        held = [];
        holds = holds;
        are = came.are ∙ ap (and_lines came.lines) (first-behind came.held rest k f) ∙ lines-joined came.lines (l ∷ []) (behind [] (pieces_of (drop (k + 1) rest)));
        answers = lines-other g (came.lines ++ l ∷ []) first (Unit {0}) hub new new site after contents now (λ u. all) (λ s h. h) (lines-behind g came.lines (l ∷ []) (Unit {0}) first hub mid new site between after contents half now counts tt came.answers one);
      }

  -- the last bytes are held
  pub came-end : (line bytes rest : List ℕ) (other : Type 0) (hub new : Hub) (piece : Piece) (site after : S) (contents now : Option (List ℕ)) → IsFirstByte (is_byte 10) rest None → CameTo line bytes rest hub site contents new piece after now
      → AnswersLines g (behind line (pieces_of bytes)).ended other hub site contents new after now
  came-end line bytes rest other hub new piece site after contents now f came =
      let all : (behind line (pieces_of bytes)).ended ≡ came.lines = ap (λ (p : Pieces). p.ended) (came.are ∙ ap (and_lines came.lines) (none-behind came.held rest f)) ∙ append-nil came.lines in
      subst (λ (ls : List (List ℕ)). AnswersLines g ls other hub site contents new after now) (sym all) (lines-other g came.lines (Unit {0}) other hub new new site after contents now (λ w. tt) (λ s h. h) came.answers)

  pub came-holds : (line bytes rest : List ℕ) (hub new : Hub) (piece last : Piece) (site after : S) (contents now : Option (List ℕ)) → IsFirstByte (is_byte 10) rest None → (came : CameTo line bytes rest hub site contents new piece after now)
      → Holds last (came.held ++ rest) → Holds last (behind line (pieces_of bytes)).rest
  came-holds line bytes rest hub new piece last site after contents now f came holds =
      subst (Holds last) (sym (ap (λ (p : Pieces). p.rest) (came.are ∙ ap (and_lines came.lines) (none-behind came.held rest f)))) holds

  -- it stops at the next line
  pub came-stopped : (line bytes rest : List ℕ) (other : Type 0) (hub new : Hub) (piece : Piece) (site after : S) (contents now : Option (List ℕ)) → (other → ⊥) → CameTo line bytes rest hub site contents new piece after now
      → AnswersLines g (behind line (pieces_of bytes)).ended other hub site contents new after now
  came-stopped line bytes rest other hub new piece site after contents now never came =
      subst (λ (ls : List (List ℕ)). AnswersLines g ls other hub site contents new after now) (sym (ap (λ (p : Pieces). p.ended) came.are))
      (lines-more g came.lines (behind came.held (pieces_of rest)).ended (Unit {0}) other hub new site after contents now never came.answers)

  -- or within it
  pub came-within : (line bytes rest : List ℕ) (k : ℕ) (last other : Type 0) (hub mid new : Hub) (piece : Piece) (site between after : S) (contents half now : Option (List ℕ))
      → ((site : S) (t : ℕ) (c : Image) → g.told → t ≤ g.moment site → g.may_leave site c → g.left_since site t c) → IsFirstByte (is_byte 10) rest (Some k) → (other → ⊥)
      → (came : CameTo line bytes rest hub site contents mid piece between half) → AnswersLines g ((came.held ++ take k rest) ∷ []) last mid between half new after now → AnswersLines g (behind line (pieces_of bytes)).ended other hub site contents new after now
  came-within line bytes rest k last other hub mid new piece site between after contents half now counts f never came one =
      let l : List ℕ = came.held ++ take k rest in
      let p : Pieces = behind [] (pieces_of (drop (k + 1) rest)) in
      let are : behind line (pieces_of bytes) ≡ and_lines (came.lines ++ l ∷ []) p = came.are ∙ ap (and_lines came.lines) (first-behind came.held rest k f) ∙ lines-joined came.lines (l ∷ []) p in
      subst (λ (ls : List (List ℕ)). AnswersLines g ls other hub site contents new after now) (sym (ap (λ (p : Pieces). p.ended) are))
      (lines-more g (came.lines ++ l ∷ []) p.ended last other hub new site after contents now never (lines-behind g came.lines (l ∷ []) (Unit {0}) last hub mid new site between after contents half now counts tt came.answers one))
