-- A line that was read, and what isn't one.
use Rattle.std.proofs.Common.{◌≡◌, ◌∙◌, ◌⊎◌, ⊎_elim, ℕ, ◌<◌, ◌≤◌, List, ◌∷◌, drop, length, sym, ap, subst, arith}
use Rattle.qc_base.specs.Spelling.{SpellsLine}
use Rattle.qc_base.specs.declared.log_line.LogLine.{LogLine}
use Rattle.qc_frame.specs.declared.entries.Entry.{Entry}
use Rattle.qc_entries.specs.Entries.{EntriesView, Filled, FirstAt, way_left}
use Rattle.crm_log.specs.Lines.{FirstSpells, NoneSpelled, NextLine, NotLine}

-- the first of the entries that are left is a line, and was passed
pub next_line : (file : List ℕ) (old mid new : EntriesView) (at : ℕ) (line : LogLine) → Filled file old mid → FirstAt mid at → new ≡ record mid { left = drop 1 mid.left } → FirstSpells mid.left line → NextLine file old new at line
next_line file old mid new at line filled first is spells =
    let rest : new.left ≡ first.rest = ap (λ (v : EntriesView). v.left) is ∙ ap (λ (l : List Entry). drop 1 l) first.is in
    let log = ap (λ (v : EntriesView). v.log) is in
    let left : mid.left ≡ first.entry ∷ new.left = first.is ∙ ap (λ (l : List Entry). first.entry ∷ l) (sym rest) in
    let whole : mid ≡ record new { left = first.entry ∷ new.left } = λ i. record { log = sym log i; left = left i } in
    let heads : spells.entry ∷ spells.rest ≡ first.entry ∷ first.rest = sym spells.is ∙ first.is in
    let same : spells.entry ≡ first.entry = cc in
    record {
      entry = first.entry;
      passed = record { filled = subst (λ (v : EntriesView). Filled file old v) whole filled; here = first.here };
      spelled = subst (λ (e : Entry). SpellsLine e.bytes line) same spells.spelled;
    }

-- or it is none
pub not_line : (file : List ℕ) (old mid : EntriesView) (at : ℕ) → Filled file old mid → FirstAt mid at → NoneSpelled mid.left → NotLine file old at
not_line file old mid at filled first none =
    let whole : mid ≡ record mid { left = first.entry ∷ first.rest } = λ i. record { log = mid.log; left = first.is i } in
    record {
      behind = record mid { left = first.rest };
      entry = first.entry;
      passed = record { filled = subst (λ (v : EntriesView). Filled file old v) whole filled; here = first.here };
      no_line = none first.entry first.rest first.is;
    }

-- with each line less is left to read
pub onward : (old mid new : EntriesView) (at : ℕ) → FirstAt mid at → new ≡ record mid { left = drop 1 mid.left }
    → (mid ≡ old) ⊎ ((old.log.place < mid.log.place) × (mid.log.place ≤ 4611686018427387904) × (length mid.left < 18446744073709551616)) → way_left new < way_left old
onward old mid new at first is further =
    let place = ap (λ (v : EntriesView). v.log.place) is in
    let rest = ap (λ (v : EntriesView). length v.left) is ∙ ap (λ (l : List Entry). length (drop 1 l)) first.is in
    let left = ap (λ (l : List Entry). length l) first.is in
    ⊎_elim
    (λ (same : mid ≡ old). omega (arith, place, rest, left, ap (λ (v : EntriesView). v.log.place) same, ap (λ (v : EntriesView). length v.left) same))
    (λ (on : (old.log.place < mid.log.place) × (mid.log.place ≤ 4611686018427387904) × (length mid.left < 18446744073709551616)). omega (arith, place, rest, left, on.0, on.1, on.2))
    further
