-- Room for lines, and lines that are staged one after another.
use Rattle.std.proofs.Common.{◌≡◌, ◌∙◌, ℕ, ◌+◌, List, [], ◌∷◌, ◌++◌, true, refl, ap, arith, length-append}
use Rattle.qc_base.specs.Spelling.{is_line, spelled_line}
use Rattle.qc_base.specs.declared.log_line.LogLine.{LogLine}
use Rattle.qc_base.proofs.LogSpellings.{line-bounded}
use Rattle.qc_frame.specs.Frame.{entry}
use Rattle.qc_frame.proofs.Payload.{length-entry}
use Rattle.qc_entries.specs.Entries.{EntriesView}
use Rattle.crm_log.specs.Lines.{CanStageLine, staged_line}
use Rattle.crm_clerk.specs.Staging.{HasRoomFor, TakesRoom, staged_lines}

pub staged-append : (e : EntriesView) (xs ys : List LogLine) → staged_lines e (xs ++ ys) ≡ staged_lines (staged_lines e xs) ys
staged-append e [] ys = refl
staged-append e (x ∷ xs) ys = staged-append (staged_line e x) xs ys

-- a line fits where there is room for one
pub can-stage : (e : EntriesView) (line : LogLine) → is_line line ≡ true → HasRoomFor 1 e → CanStageLine e line
can-stage e line limits has =
    let bounds = line-bounded line limits in
    record {
      limits = limits;
      can = record { some = bounds.0; ended = has.ended; room = omega (arith, bounds.1, has.room); fits = omega (arith, bounds.1, has.fits) };
    }

pub takes-one : (e : EntriesView) (line : LogLine) → is_line line ≡ true → TakesRoom 1 e (staged_line e line)
takes-one e line limits =
    let bounds = line-bounded line limits in
    record {
      same = refl;
      room = omega (arith, bounds.1);
      fits = omega (arith, bounds.1, length-append e.log.payload (entry (spelled_line line)), length-entry (spelled_line line));
    }

pub takes-none : (e : EntriesView) → TakesRoom 0 e e
takes-none e = record { same = refl; room = omega arith; fits = omega arith }

-- and one behind others
pub takes-on : (n m : ℕ) (e mid now : EntriesView) → TakesRoom n e mid → TakesRoom m mid now → TakesRoom (n + m) e now
takes-on n m e mid now a b = record {
  same = b.same ∙ ap (λ (x : EntriesView). record x { log = record x.log { payload = now.log.payload; spare = now.log.spare } }) a.same;
  room = omega (arith, a.room, b.room);
  fits = omega (arith, a.fits, b.fits);
}

pub room-front : (n m : ℕ) (e : EntriesView) → HasRoomFor (n + m) e → HasRoomFor n e
room-front n m e has = record { ended = has.ended; room = omega (arith, has.room); fits = omega (arith, has.fits) }

pub room-behind : (n m : ℕ) (e now : EntriesView) → HasRoomFor (n + m) e → TakesRoom n e now → HasRoomFor m now
room-behind n m e now has takes = record {
  ended = ap (λ (x : EntriesView). x.log.ended) takes.same ∙ has.ended;
  room = omega (arith, has.room, takes.room);
  fits = omega (arith, has.fits, takes.fits);
}
