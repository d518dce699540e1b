use Rattle.std.proofs.Common.{◌≡◌, ℕ, List, inr, subst, rules}
use Rattle.std.specs.Option.{IfSome}
use Rattle.qc_site.specs.Image.{bytes_of}
use Rattle.qc_frame.specs.declared.entries.Entry.{Entry}
use Rattle.qc_entries.specs.Entries.{EntriesView, Filled, FirstAt}
use Rattle.crm_log.specs.Lines.{NoneSpelled, DamagedLine}
use Rattle.crm_log.proofs.Steps.{not_line}
use Rattle.crm_log.proofs.log.CrmLog.next_line.Goals as goal

pub returns-in_default-first_line-clause-reads : goal.returns-in_default-first_line-clause-reads
returns-in_default-first_line-clause-reads g c = record {
  stands = search rules;
  damaged = λ told at is.
      let old : EntriesView = c.self.inside.entries in
      let mid : EntriesView = c.fill.new.self in
      let shown = g.S.Site.shown c.args.site.now in
      let file = bytes_of old.log.file shown in
      let filled : Filled file old mid = subst (λ o. IfSome o (λ (x : ℕ). Filled file old mid)) c.in-Some.is (c.in_ok-at.ensures.fills.filled told) in
      let first : FirstAt mid c.in-Some.at = subst (λ o. IfSome o (λ (x : ℕ). FirstAt mid x)) c.in-Some.is c.in_ok-at.ensures.fills.first in
      let none : NoneSpelled mid.left = subst (λ (l : List Entry). NoneSpelled l) c.left.ensures c.in_default-first_line.ensures.none in
      let here : c.in-Some.at ≡ at = cc in
      let damage : DamagedLine file old c.in-Some.at = inr (not_line file old mid c.in-Some.at filled first none) in
      subst (λ n. DamagedLine (bytes_of c.args.self.now.log.file shown) c.args.self.now n) here (subst (λ (v : EntriesView). DamagedLine (bytes_of v.log.file shown) v c.in-Some.at) c.self.view_is damage);
  not_made = search rules;
  unchanged = search rules;
  keeps = search rules;
}
