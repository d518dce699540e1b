use Rattle.std.proofs.Common.{◌≡◌, ◌≢◌, ◌≤◌, ℕ, get_or, length, take, sym, subst, rules}
use Rattle.std.specs.Option.{MatchOption}
use Rattle.qc_base.specs.Spelling.{spelled_fact, is_fact, NoneBegins, SpellsFact}
use Rattle.qc_base.specs.declared.fact.Fact.{Fact}
use Rattle.qc_journal.proofs.Journals.{not_begun, not_whole}
use Rattle.qc_journal.proofs.journal.fact_of.Goals as goal

pub returns-in-None-clause-none : goal.returns-in-None-clause-none
returns-in-None-clause-none c =
    let bytes = c.as_slice-bytes.result.now in
    let none : NoneBegins is_fact spelled_fact bytes
    = subst (λ o. MatchOption o (NoneBegins is_fact spelled_fact bytes) (λ (p : Fact × ℕ). (p.1 ≤ length bytes) × SpellsFact (take p.1 bytes) p.0)) c.in-None.is c.in_ok-fact.ensures in
    let entry : get_or c.args.entries.now 0 c.entry-item.result ≡ c.entry-item.result = search rules in
    λ fact limits is. not_begun c.args.entries.now c.entry-item.result bytes (sym entry) c.as_slice-bytes.ensures none fact limits is

pub returns-else-size-bytes-clause-none : goal.returns-else-size-bytes-clause-none
returns-else-size-bytes-clause-none c =
    let bytes = c.as_slice-bytes.result.now in
    let entry : get_or c.args.entries.now 0 c.entry-item.result ≡ c.entry-item.result = search rules in
    let size : c.in-Some.size ≢ length bytes = search rules in
    let read = subst (λ o. MatchOption o (NoneBegins is_fact spelled_fact bytes) (λ (p : Fact × ℕ). (p.1 ≤ length bytes) × SpellsFact (take p.1 bytes) p.0)) c.in-Some.is c.in_ok-fact.ensures in
    λ fact limits is. not_whole c.args.entries.now c.entry-item.result bytes c.in-Some.size c.in-Some.fact (sym entry) c.as_slice-bytes.ensures read.0 size read.1 fact limits is
