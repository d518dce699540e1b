use Rattle.std.proofs.Common.{◌≡◌, ◌≢◌, ◌⊎◌, ◌∙◌, ◌+◌, ◌<◌, ◌≤◌, ◌∷◌, [], ℕ, List, Err, map, sym, ap, subst, rules, true, length, arith}
use Rattle.std.specs.Option.{IfSome, IfNone}
use Rattle.qc_base.specs.Spelling.{spelled_fact, is_fact}
use Rattle.qc_base.specs.declared.fact.Fact.{Fact}
use Rattle.qc_site.specs.Image.{bytes_of}
use Rattle.qc_frame.specs.declared.error.LogError.TheVariants.{Damaged}
use Rattle.qc_frame.specs.declared.entries.Entry.{Entry}
use Rattle.qc_frame.specs.Log.{LogView, NextGroup, DamagedGroup}
use Rattle.qc_entries.specs.Entries.{EntriesView, Filled, FirstAt}
use Rattle.qc_journal.specs.Journal.{JournalView, DamagedFact, NextFact, journal_of}
use Rattle.qc_journal.proofs.Journals.{next_fact, damaged_group, no_fact, filled_next, first_at, further}
use Rattle.qc_journal.proofs.journal.Journal.next_fact.Goals as goal

pub returns-in_err-at-clause-reads : goal.returns-in_err-at-clause-reads
returns-in_err-at-clause-reads g c = record {
  stands = search rules;
  damaged = λ told at is.
      let old : EntriesView = c.self.inside.entries in
      let shown = g.S.Site.shown c.args.site.now in
      let same : c.in_err-at.field-0.0 ≡ Damaged at = search rules in
      let damage = c.in_err-at.ensures.reads.damaged told at (ap (λ e. Err e) same) in
      let here = subst (λ f. DamagedGroup (bytes_of f shown) old.log.place at) c.self.invariant.0 damage.group in
      damaged_group shown.journal old.log c.args.self.now at c.self.view_is here;
  not_made = search rules;
  unchanged = search rules;
  keeps = search rules;
}

pub returns-in_default-2-clause-reads : goal.returns-in_default-2-clause-reads
returns-in_default-2-clause-reads g c = record {
  stands = search rules;
  damaged = λ told at is.
      let old : EntriesView = c.self.inside.entries in
      let mid : EntriesView = c.fill.new.self in
      let shown = g.S.Site.shown c.args.site.now in
      let file = bytes_of old.log.file shown in
      let filled : Filled file old mid = subst (λ o. IfSome o (λ (x : ℕ). Filled file old mid)) c.in-Some.is (c.in_ok-at.ensures.fills.filled told) in
      let first : FirstAt mid c.in-Some.at = subst (λ o. IfSome o (λ (x : ℕ). FirstAt mid x)) c.in-Some.is c.in_ok-at.ensures.fills.first in
      let next = filled_next file old mid c.in-Some.at c.self.invariant.2 filled first in
      let here = subst (λ f. NextGroup (bytes_of f shown) old.log mid.log old.log.place mid.left) c.self.invariant.0 next.group in
      let read : (fact : Fact) → is_fact fact ≡ true → map (λ (e : Entry). e.bytes) c.left.result.now ≢ spelled_fact fact ∷ []
      = subst (λ o. IfNone o ((fact : Fact) → is_fact fact ≡ true → map (λ (e : Entry). e.bytes) c.left.result.now ≢ spelled_fact fact ∷ [])) c.in_default-2.is c.in_ok-fact.ensures.none in
      let none = subst (λ (l : List Entry). (fact : Fact) → is_fact fact ≡ true → map (λ (e : Entry). e.bytes) l ≢ spelled_fact fact ∷ []) c.left.ensures read in
      let damage : DamagedFact shown.journal c.args.self.now.place (old.log.place + 5) = no_fact shown.journal old.log mid.log c.args.self.now old.log.place mid.left c.self.view_is here none in
      let told_at : c.in-Some.at ≡ at = cc in
      subst (λ n. DamagedFact shown.journal c.args.self.now.place n) (first_at file old mid c.in-Some.at next first ∙ told_at) damage;
  not_made = search rules;
  unchanged = search rules;
  keeps = search rules;
}

pub returns-clause-finds : goal.returns-clause-finds
returns-clause-finds g c = record {
  fact = λ told.
      let old : EntriesView = c.self.inside.entries in
      let mid : EntriesView = c.fill.new.self in
      let new : EntriesView = c.pass.new.self in
      let fact = c.in-Some-2.fact in
      let shown = g.S.Site.shown c.args.site.now in
      let file = bytes_of old.log.file shown in
      let filled : Filled file old mid = subst (λ o. IfSome o (λ (x : ℕ). Filled file old mid)) c.in-Some.is (c.in_ok-at.ensures.fills.filled told) in
      let first : FirstAt mid c.in-Some.at = subst (λ o. IfSome o (λ (x : ℕ). FirstAt mid x)) c.in-Some.is c.in_ok-at.ensures.fills.first in
      let next = filled_next file old mid c.in-Some.at c.self.invariant.2 filled first in
      let here = subst (λ f. NextGroup (bytes_of f shown) old.log mid.log old.log.place mid.left) c.self.invariant.0 next.group in
      let read : (is_fact fact ≡ true) × (map (λ (e : Entry). e.bytes) c.left.result.now ≡ spelled_fact fact ∷ [])
      = subst (λ o. IfSome o (λ (x : Fact). (is_fact x ≡ true) × (map (λ (e : Entry). e.bytes) c.left.result.now ≡ spelled_fact x ∷ []))) c.in-Some-2.is c.in_ok-fact.ensures.some in
      let one = subst (λ (l : List Entry). map (λ (e : Entry). e.bytes) l ≡ spelled_fact fact ∷ []) c.left.ensures read.1 in
      let found = next_fact shown.journal old.log mid.log c.args.self.now old.log.place mid.left fact c.self.view_is here read.0 one in
      let log : mid.log ≡ new.log = sym (ap (λ (v : EntriesView). v.log) c.pass.ensures) in
      subst (λ (l : LogView). NextFact shown.journal c.args.self.now (journal_of l) c.in-Some.at fact) log (
      subst (λ n. NextFact shown.journal c.args.self.now (journal_of mid.log) n fact) (first_at file old mid c.in-Some.at next first) found);
  still = search rules;
  end = search rules;
  limits =
      let read = subst (λ o. IfSome o (λ (x : Fact). (is_fact x ≡ true) × (map (λ (e : Entry). e.bytes) c.left.result.now ≡ spelled_fact x ∷ []))) c.in-Some-2.is c.in_ok-fact.ensures.some in
      read.0;
  moved = search rules;
  onward =
      let old : EntriesView = c.self.inside.entries in
      let mid : EntriesView = c.fill.new.self in
      let new : EntriesView = c.pass.new.self in
      let first : FirstAt mid c.in-Some.at = subst (λ o. IfSome o (λ (x : ℕ). FirstAt mid x)) c.in-Some.is c.in_ok-at.ensures.fills.first in
      let on = subst (λ o. IfSome o (λ (x : ℕ). (mid ≡ old) ⊎ ((old.log.place < mid.log.place) × (mid.log.place ≤ 4611686018427387904) × (length mid.left < 18446744073709551616)))) c.in-Some.is c.in_ok-at.ensures.fills.onward in
      let parts = further old mid c.in-Some.at c.self.invariant.2 first on in
      let start = ap (λ (j : JournalView). j.place) c.self.view_is in
      let place = ap (λ (v : EntriesView). v.log.place) c.pass.ensures in
      (omega (arith, parts.0, start, place), omega (arith, parts.1, place));
  ended = search rules;
  failed = search rules;
}
