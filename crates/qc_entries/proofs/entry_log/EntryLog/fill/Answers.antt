use Rattle.std.proofs.Common.{◌≡◌, length, subst, arith, rules}
use Rattle.std.specs.Option.{IfSome}
use Rattle.qc_site.specs.Image.{bytes_of}
use Rattle.qc_frame.specs.declared.log.Group.{Group}
use Rattle.qc_frame.specs.Log.{NextGroup}
use Rattle.qc_entries.proofs.Left.{group_some}
use Rattle.qc_entries.proofs.entry_log.EntryLog.fill.Goals as goal

pub returns-in_default-first-clause-reads : goal.returns-in_default-first-clause-reads
returns-in_default-first-clause-reads g c = record {
  stands = search rules;
  damaged = λ told at is.
      let log = c.self.inside.log in
      let shown = g.S.Site.shown c.args.site.now in
      let group = c.in-Some-2.group in
      let next : NextGroup (bytes_of log.file shown) log c.next_group.new.self group.at group.entries
      = subst (λ o. IfSome o (λ (x : Group). NextGroup (bytes_of log.file shown) log c.next_group.new.self x.at x.entries)) c.in-Some-2.is (c.in_ok-group.ensures.finds.group told) in
      let some = group_some (bytes_of log.file shown) log c.next_group.new.self group.at group.entries next in
      let none : length group.entries ≡ 0 = search rules in
      absurd (omega (arith, some, none));
  not_made = search rules;
  unchanged = search rules;
  keeps = search rules;
}
