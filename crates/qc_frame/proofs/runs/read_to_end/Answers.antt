use Rattle.std.proofs.Common.{◌≡◌, ◌∙◌, ◌∷◌, [], List, ℕ, map, refl, ap, subst, arith, rules, IsErrOf}
use Rattle.std.specs.Option.{IfSome}
use Rattle.std.proofs.lemmas.List.{map-append}
use Rattle.qc_site.specs.Image.{bytes_of}
use Rattle.qc_site.proofs.Moments.{started}
use Rattle.qc_frame.specs.Gate.{After}
use Rattle.qc_frame.specs.Log.{LogView, NextGroup, SameFrom}
use Rattle.qc_frame.specs.Calls.{KeepsGroups}
use Rattle.qc_frame.specs.declared.error.LogError.TheVariants.{SiteFault}
use Rattle.qc_frame.specs.declared.log.Group.{Group}
use Rattle.qc_frame.specs.declared.entries.Entry.{Entry}
use Rattle.qc_frame.proofs.ReadOn.{read_on}
use Rattle.qc_frame.proofs.Same.{same_log}
use Rattle.qc_frame.proofs.Chained.{chained, keeps_on}
use Rattle.qc_frame.proofs.runs.read_to_end.Goals as goal

pub loop-read-init : goal.loop-read-init
loop-read-init g c = record {
  kept = refl;
  faults = omega arith;
  still = λ told. refl;
  stands = c.requires.stands;
  so_far = search rules;
  moments = λ told.
      let site = g.S.Site in
      let file = c.args.log.now.file in
      let start = c.args.log.now.start in
      let before = site.may_leave c.args.site.now in
      started site.moment site.left_since c.args.site.now (After file (SameFrom start) before) (λ i left. same_log file start before i (g.met.S.Site.only_now c.args.site.now i told left));
}

pub loop-read-preserved : goal.loop-read-preserved
loop-read-preserved g c =
    let site = g.S.Site in
    let mid = c.loop-read.site in
    let old = c.loop-read.log in
    let new = c.next_group.new.self in
    let kept = c.loop-read.invariant.kept in
    let file : old.file ≡ c.args.log.now.file = ap (λ (l : LogView). l.file) kept in
    let moved : new ≡ record old { place = new.place } = subst (λ o. IfSome o (λ (group : Group). new ≡ record old { place = new.place })) c.in-Some.is c.in_ok-group.ensures.finds.moved in
    let still : site.told → site.shown c.next_group.new.site ≡ site.shown mid = λ told. subst (λ o. IfSome o (λ (group : Group). site.shown c.next_group.new.site ≡ site.shown mid)) c.in-Some.is (c.in_ok-group.ensures.finds.still told) in
    record {
      kept = moved ∙ ap (λ (l : LogView). record l { place = new.place }) kept;
      faults = omega (arith, c.loop-read.invariant.faults, c.next_group.ensures.reads.keeps.cause.no_fewer);
      still = λ told. still told ∙ c.loop-read.invariant.still told;
      stands = c.in_ok-group.ensures.reads.stands;
      so_far = λ told.
          let shown = site.shown mid in
          let next : NextGroup (bytes_of old.file shown) old new c.in-Some.group.at c.in-Some.group.entries
          = subst (λ o. IfSome o (λ (group : Group). NextGroup (bytes_of old.file shown) old new group.at group.entries)) c.in-Some.is (c.in_ok-group.ensures.finds.group told) in
          let whole : bytes_of old.file shown ≡ bytes_of c.args.log.now.file (site.shown c.args.site.now) = (λ i. bytes_of (file i) (c.loop-read.invariant.still told i)) in
          let here = subst (λ (l : List ℕ). NextGroup l old new c.in-Some.group.at c.in-Some.group.entries) whole next in
          let pushed = ap (λ (l : List Group). map (λ (group : Group). map (λ (e : Entry). e.bytes) group.entries) l) c.in-Ok.ensures.items ∙ map-append (λ (group : Group). map (λ (e : Entry). e.bytes) group.entries) c.loop-read.read.items (c.in-Some.group ∷ []) in
          read_on (bytes_of c.args.log.now.file (site.shown c.args.site.now)) c.args.log.now.place c.in-Some.group.at old new _ _ _ (c.loop-read.invariant.so_far told) here pushed;
      moments = λ told.
          let keeps = subst (λ (l : LogView). KeepsGroups site l (IsErrOf c.next_group.result SiteFault) mid c.next_group.new.site) kept c.next_group.ensures.reads.keeps in
          chained site.moment site.left_since site.may_leave c.args.log.now.file c.args.log.now.start c.args.site.now mid c.next_group.new.site (λ t i le here. g.met.S.Site.counts_now mid t i told le here) (c.loop-read.invariant.moments told) (keeps.any_moment told);
    }

pub returns-in_err-group-clause-reads : goal.returns-in_err-group-clause-reads
returns-in_err-group-clause-reads g c = record {
  stands = search rules;
  damaged = search rules;
  not_made = search rules;
  unchanged = search rules;
  keeps =
      let site = g.S.Site in
      let mid = c.loop-read.site in
      let so_far = c.loop-read.invariant in
      let then = IsErrOf c.next_group.result SiteFault in
      let last = subst (λ (l : LogView). KeepsGroups site l then mid c.next_group.new.site) so_far.kept c.next_group.ensures.reads.keeps in
      keeps_on site c.args.log.now _ then c.args.site.now mid c.next_group.new.site (λ e. search rules) (λ e. search rules) (λ t i told le here. g.met.S.Site.counts_now mid t i told le here) so_far.still so_far.faults so_far.moments last;
}

pub returns-in_default-push-clause-reads : goal.returns-in_default-push-clause-reads
returns-in_default-push-clause-reads g c = record {
  stands = search rules;
  damaged = search rules;
  not_made = search rules;
  unchanged = search rules;
  keeps =
      let site = g.S.Site in
      let mid = c.loop-read.site in
      let so_far = c.loop-read.invariant in
      let then = IsErrOf c.next_group.result SiteFault in
      let last = subst (λ (l : LogView). KeepsGroups site l then mid c.next_group.new.site) so_far.kept c.next_group.ensures.reads.keeps in
      keeps_on site c.args.log.now _ then c.args.site.now mid c.next_group.new.site (λ e. search rules) (λ e. search rules) (λ t i told le here. g.met.S.Site.counts_now mid t i told le here) so_far.still so_far.faults so_far.moments last;
}

pub returns-clause-reads : goal.returns-clause-reads
returns-clause-reads g c = record {
  stands = search rules;
  damaged = search rules;
  not_made = search rules;
  unchanged = search rules;
  keeps =
      let site = g.S.Site in
      let mid = c.loop-read.site in
      let so_far = c.loop-read.invariant in
      let then = IsErrOf c.next_group.result SiteFault in
      let last = subst (λ (l : LogView). KeepsGroups site l then mid c.next_group.new.site) so_far.kept c.next_group.ensures.reads.keeps in
      keeps_on site c.args.log.now _ then c.args.site.now mid c.next_group.new.site (λ e. search rules) (λ e. search rules) (λ t i told le here. g.met.S.Site.counts_now mid t i told le here) so_far.still so_far.faults so_far.moments last;
}
