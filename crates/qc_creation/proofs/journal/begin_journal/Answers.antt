use Rattle.std.proofs.Common.{◌++◌, ◌∷◌, [], subst, rules}
use Rattle.qc_site.specs.declared.site.SiteFile.TheVariants.{Journal as the_file}
use Rattle.qc_site.specs.Disk.{FileStep}
use Rattle.qc_frame.specs.Log.{WholeFrom, WholeOrNotFrom}
use Rattle.qc_frame.proofs.Same.{step_taken}
use Rattle.qc_journal.specs.History.{journal_header, fact_payload}
use Rattle.qc_creation.specs.Parts.{IsEmpty, HasOnly, Begins}
use Rattle.qc_creation.proofs.Filling.{Now, Moment, Each, new_empty, own_step, moment_made, each_made, moment_kept, each_kept, moment_added, joined_begins, each_begun, step_kept, step_added}
use Rattle.qc_creation.proofs.journal.begin_journal.Goals as goal

pub returns-in_err-make : goal.returns-in_err-make
returns-in_err-make g c = record {
  begun = search rules;
  certain = search rules;
  starved = search rules;
  not_bad = search rules;
  not_other = search rules;
  any_moment = λ told. moment_made g.S.Site c.args.fact.now c.requires c.args.site.now c.make.new.site (c.make.ensures.changes.any_moment told);
  cause = search rules;
}

pub returns-in_err-journal : goal.returns-in_err-journal
returns-in_err-journal g c =
    let site = g.S.Site in
    let fact = c.args.fact.now in
    let s0 = c.args.site.now in
    let s1 = c.make.new.site in
    let s2 = c.open_empty.new.site in
    let keeps = c.open_empty.ensures.keeps in
    let making = c.make.ensures.changes.any_moment in
    let each1 : site.told → Each site (FileStep the_file (Now IsEmpty)) s0 s1 = λ told. each_made site fact c.requires s0 s1 (c.in_ok-make.ensures.certain told) (λ i here. (making told).each i (g.met.S.Site.counts_now s1 (site.moment s0) i told (making told).later here)) in
    let made : site.told → FileStep the_file (Now IsEmpty) (site.shown s0) (site.shown s1) = λ told. record { bytes = journal_header ++ 0 ∷ []; is = c.in_ok-make.ensures.made told; by = new_empty } in
    record {
      begun = search rules;
      certain = search rules;
      starved = λ told is. step_kept site fact c.requires (site.shown s0) (site.shown s1) (site.shown s2) (made told) (keeps.shown told (search rules));
      not_bad = search rules;
      not_other = λ told is. c.open_empty.ensures.other told (search rules) (step_taken the_file (Now IsEmpty) (site.shown s0) (site.shown s1) (made told));
      any_moment = λ told. joined_begins site fact c.requires s0 s1 s2 (moment_made site fact c.requires s0 s1 (making told)) (moment_kept site fact c.requires s0 s1 s2 (each1 told) (keeps.any_moment told));
      cause = search rules;
    }

pub returns-in_err-append_forced : goal.returns-in_err-append_forced
returns-in_err-append_forced g c =
    let site = g.S.Site in
    let fact = c.args.fact.now in
    let s0 = c.args.site.now in
    let s1 = c.make.new.site in
    let s2 = c.open_empty.new.site in
    let s3 = c.append_forced.new.site in
    let keeps = c.open_empty.ensures.keeps in
    let making = c.make.ensures.changes.any_moment in
    record {
      begun = search rules;
      certain = search rules;
      starved = search rules;
      not_bad = search rules;
      not_other = search rules;
      any_moment = λ told.
          let each1 : Each site (FileStep the_file (Now IsEmpty)) s0 s1 = each_made site fact c.requires s0 s1 (c.in_ok-make.ensures.certain told) (λ i here. (making told).each i (g.met.S.Site.counts_now s1 (site.moment s0) i told (making told).later here)) in
          let each2 : Each site (FileStep the_file (Now IsEmpty)) s0 s2 = each_kept site fact c.requires s0 s1 s2 each1 (λ i here. (keeps.any_moment told).each i (g.met.S.Site.counts_now s2 (site.moment s1) i told (keeps.any_moment told).later here)) in
          let adds : Moment site (FileStep the_file (WholeOrNotFrom 16 (fact_payload fact))) s2 s2 s3 = subst (λ n. Moment site (FileStep the_file (WholeOrNotFrom n (fact_payload fact))) s2 s2 s3) c.in_ok-journal.ensures.whole (c.append_forced.ensures.makes.changes.any_moment told) in
          let first = joined_begins site fact c.requires s0 s1 s2 (moment_made site fact c.requires s0 s1 (making told)) (moment_kept site fact c.requires s0 s1 s2 each1 (keeps.any_moment told)) in
          joined_begins site fact c.requires s0 s2 s3 first (moment_added site fact c.requires s0 s2 s3 each2 adds);
      cause = search rules;
    }

pub returns : goal.returns
returns g c =
    let site = g.S.Site in
    let fact = c.args.fact.now in
    let s0 = c.args.site.now in
    let s1 = c.make.new.site in
    let s2 = c.open_empty.new.site in
    let s3 = c.append_forced.new.site in
    let keeps = c.open_empty.ensures.keeps in
    let making = c.make.ensures.changes.any_moment in
    let any : site.told → Moment site (FileStep the_file (Begins fact)) s0 s0 s3 = λ told.
    let each1 : Each site (FileStep the_file (Now IsEmpty)) s0 s1 = each_made site fact c.requires s0 s1 (c.in_ok-make.ensures.certain told) (λ i here. (making told).each i (g.met.S.Site.counts_now s1 (site.moment s0) i told (making told).later here)) in
    let each2 : Each site (FileStep the_file (Now IsEmpty)) s0 s2 = each_kept site fact c.requires s0 s1 s2 each1 (λ i here. (keeps.any_moment told).each i (g.met.S.Site.counts_now s2 (site.moment s1) i told (keeps.any_moment told).later here)) in
    let adds : Moment site (FileStep the_file (WholeOrNotFrom 16 (fact_payload fact))) s2 s2 s3 = subst (λ n. Moment site (FileStep the_file (WholeOrNotFrom n (fact_payload fact))) s2 s2 s3) c.in_ok-journal.ensures.whole (c.append_forced.ensures.makes.changes.any_moment told) in
    let first = joined_begins site fact c.requires s0 s1 s2 (moment_made site fact c.requires s0 s1 (making told)) (moment_kept site fact c.requires s0 s1 s2 each1 (keeps.any_moment told)) in
    joined_begins site fact c.requires s0 s2 s3 first (moment_added site fact c.requires s0 s2 s3 each2 adds) in
    let begun : site.told → FileStep the_file (Now (HasOnly fact)) (site.shown s0) (site.shown s3) = λ told.
    let made : FileStep the_file (Now IsEmpty) (site.shown s0) (site.shown s1) = record { bytes = journal_header ++ 0 ∷ []; is = c.in_ok-make.ensures.made told; by = new_empty } in
    let kept = step_kept site fact c.requires (site.shown s0) (site.shown s1) (site.shown s2) made (keeps.shown told (search rules)) in
    let has = c.in_ok-append_forced.ensures.made told in
    let whole : WholeFrom 16 (fact_payload fact) (site.shown s2).journal (site.shown s3).journal = subst (λ n. WholeFrom n (fact_payload fact) (site.shown s2).journal (site.shown s3).journal) c.in_ok-journal.ensures.whole has.whole in
    step_added site fact c.requires (site.shown s0) (site.shown s2) (site.shown s3) kept (own_step the_file (WholeFrom 16 (fact_payload fact)) _ (site.shown s2) (site.shown s3) has.shown whole) in
    record {
      begun = begun;
      certain = λ told. each_begun site fact c.requires s0 s3 (site.shown s3).journal (step_taken the_file (Now (HasOnly fact)) (site.shown s0) (site.shown s3) (begun told)) (c.in_ok-append_forced.ensures.makes.stands told).certain
          (λ i here. (any told).each i (g.met.S.Site.counts_now s3 (site.moment s0) i told (any told).later here));
      starved = search rules;
      not_bad = search rules;
      not_other = search rules;
      any_moment = any;
      cause = search rules;
    }
