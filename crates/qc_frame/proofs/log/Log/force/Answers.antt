use Rattle.std.proofs.Common.{◌≡◌, ◌∙◌, ◌+◌, ◌-◌, ◌++◌, ◌∷◌, [], List, ℕ, length, refl, sym, ap, subst, arith, rules, true}
use Rattle.std.proofs.lemmas.List.{length-drop}
use Rattle.qc_site.specs.Image.{bytes_of}
use Rattle.qc_site.specs.Disk.{LeavesOnly, FileStep}
use Rattle.qc_site.proofs.Images.{bytes_of-with_bytes}
use Rattle.qc_site.proofs.Moments.{started, weaker}
use Rattle.qc_frame.specs.Frame.{IsPayload, size_bytes}
use Rattle.qc_frame.specs.Gate.{ClosedOrWhole, After, opened}
use Rattle.qc_frame.specs.Log.{LogView, StandsOn, HasGroup, WholeOrNotFrom}
use Rattle.qc_frame.specs.contracts.log.Log.{the_view}
use Rattle.qc_frame.proofs.Stands.{each_image, has_group, step_whole, stands_after, untouched, untouched_step}
use Rattle.qc_frame.proofs.log.Log.force.Goals as goal

pub returns-then-size-eq0 : goal.returns-then-size-eq0
returns-then-size-eq0 g c = record {
  nothing = search rules;
  moved = search rules;
  failed = search rules;
  made = search rules;
  makes = record {
    stands = search rules;
    changes = record {
      shown = λ told fine. untouched_step _ _ _ _;
      any_moment = λ told.
          let site = g.S.Site in
          let log = c.args.self.now in
          started site.moment site.left_since c.args.site.now _ (λ i left. untouched log.file log.start log.payload (site.may_leave c.args.site.now) i (g.met.S.Site.only_now c.args.site.now i told left));
      cause = search rules;
    };
  };
}

pub returns-in_err-written : goal.returns-in_err-written
returns-in_err-written g c = record {
  nothing = search rules;
  moved = search rules;
  failed = search rules;
  made = search rules;
  makes = record {
    stands = search rules;
    changes = record {
      shown = search rules;
      any_moment = λ told.
          let site = g.S.Site in
          let log : LogView = the_view c.self.inside in
          let behind = c.deref.result.now in
          let st : StandsOn (bytes_of log.file (site.shown c.args.site.now)) (site.may_leave c.args.site.now) log = subst (λ (x : LogView). StandsOn (bytes_of x.file (site.shown c.args.site.now)) (site.may_leave c.args.site.now) x) (sym c.self.view_is) (c.requires.stands told) in
          let old = bytes_of log.file (site.shown c.args.site.now) in
          let fits : IsPayload log.payload = (omega (arith, length-drop 4 c.self.inside.staged.items), omega (arith, length-drop 4 c.self.inside.staged.items)) in
          let spelled : behind ≡ size_bytes (length log.payload) ++ log.payload ++ 0 ∷ [] = c.deref.ensures.value ∙ c.seal.ensures.items in
          let ended : log.ended ≡ true = c.self.invariant.5 (omega arith) in
          let each = weaker site.moment site.left_since c.args.site.now c.write_group-written.new.site (After log.file (ClosedOrWhole log.place behind) (site.may_leave c.args.site.now)) (After log.file (WholeOrNotFrom log.start log.payload) (site.may_leave c.args.site.now))
          (each_image old (site.may_leave c.args.site.now) log st ended log.payload behind fits spelled) (c.write_group-written.ensures.any_moment told) in
          subst (λ (x : LogView). LeavesOnly site.moment site.left_since c.args.site.now c.write_group-written.new.site (After x.file (WholeOrNotFrom x.start x.payload) (site.may_leave c.args.site.now))) c.self.view_is each;
      cause = search rules;
    };
  };
}

pub returns : goal.returns
returns g c = record {
  nothing = λ none. absurd (omega (arith, ap length none, ap (λ (l : LogView). length l.payload) c.self.view_is, length-drop 4 c.self.inside.staged.items));
  moved = search rules;
  failed = search rules;
  made = λ told some.
      let site = g.S.Site in
      let log : LogView = the_view c.self.inside in
      let behind = c.deref.result.now in
      let st : StandsOn (bytes_of log.file (site.shown c.args.site.now)) (site.may_leave c.args.site.now) log = subst (λ (x : LogView). StandsOn (bytes_of x.file (site.shown c.args.site.now)) (site.may_leave c.args.site.now) x) (sym c.self.view_is) (c.requires.stands told) in
      let old = bytes_of log.file (site.shown c.args.site.now) in
      let fits : IsPayload log.payload = (omega (arith, length-drop 4 c.self.inside.staged.items), omega (arith, length-drop 4 c.self.inside.staged.items)) in
      let spelled : behind ≡ size_bytes (length log.payload) ++ log.payload ++ 0 ∷ [] = c.deref.ensures.value ∙ c.seal.ensures.items in
      let ended : log.ended ≡ true = c.self.invariant.5 (omega arith) in
      let now = site.shown c.write_group-written.new.site in
      let here = has_group old (site.may_leave c.args.site.now) log st ended log.payload behind fits spelled (site.shown c.args.site.now) now refl (c.in_ok-written.ensures.written told) in
      subst (λ (x : LogView). HasGroup x.payload x (site.shown c.args.site.now) now) c.self.view_is here;
  makes = record {
    stands = λ told.
        let site = g.S.Site in
        let log : LogView = the_view c.self.inside in
        let behind = c.deref.result.now in
        let st : StandsOn (bytes_of log.file (site.shown c.args.site.now)) (site.may_leave c.args.site.now) log = subst (λ (x : LogView). StandsOn (bytes_of x.file (site.shown c.args.site.now)) (site.may_leave c.args.site.now) x) (sym c.self.view_is) (c.requires.stands told) in
        let old = bytes_of log.file (site.shown c.args.site.now) in
        let fits : IsPayload log.payload = (omega (arith, length-drop 4 c.self.inside.staged.items), omega (arith, length-drop 4 c.self.inside.staged.items)) in
        let spelled : behind ≡ size_bytes (length log.payload) ++ log.payload ++ 0 ∷ [] = c.deref.ensures.value ∙ c.seal.ensures.items in
        let ended : log.ended ≡ true = c.self.invariant.5 (omega arith) in
        let now : bytes_of log.file (site.shown c.write_group-written.new.site) ≡ opened old log.place behind = ap (λ i. bytes_of log.file i) (c.in_ok-written.ensures.written told) ∙ bytes_of-with_bytes log.file _ _ in
        let later = site.may_leave c.write_group-written.new.site in
        let new = the_view (record { file = log.file; start = log.start; place = log.place + (5 + (c.len-size.result - 4)); length = c.max-self-inside.result; ended = log.ended; staged = c.truncate.new.self; spare = log.spare + (c.len-size.result - 4) }) in
        let stands = stands_after old (site.may_leave c.args.site.now) log st ended log.payload behind fits spelled later new
        refl refl (omega (arith, length-drop 4 c.self.inside.staged.items)) (omega (arith, length-drop 4 c.self.inside.staged.items, c.max-self-inside.ensures)) (c.in_ok-written.ensures.certain told) in
        subst (λ (l : List ℕ). StandsOn l later new) (sym now) stands;
    changes = record {
      shown = λ told fine.
          let site = g.S.Site in
          let log : LogView = the_view c.self.inside in
          let behind = c.deref.result.now in
          let st : StandsOn (bytes_of log.file (site.shown c.args.site.now)) (site.may_leave c.args.site.now) log = subst (λ (x : LogView). StandsOn (bytes_of x.file (site.shown c.args.site.now)) (site.may_leave c.args.site.now) x) (sym c.self.view_is) (c.requires.stands told) in
          let old = bytes_of log.file (site.shown c.args.site.now) in
          let fits : IsPayload log.payload = (omega (arith, length-drop 4 c.self.inside.staged.items), omega (arith, length-drop 4 c.self.inside.staged.items)) in
          let spelled : behind ≡ size_bytes (length log.payload) ++ log.payload ++ 0 ∷ [] = c.deref.ensures.value ∙ c.seal.ensures.items in
          let ended : log.ended ≡ true = c.self.invariant.5 (omega arith) in
          let now = site.shown c.write_group-written.new.site in
          let here = step_whole old (site.may_leave c.args.site.now) log st ended log.payload behind fits spelled (site.shown c.args.site.now) now refl (c.in_ok-written.ensures.written told) in
          subst (λ (x : LogView). FileStep x.file (WholeOrNotFrom x.start x.payload) (site.shown c.args.site.now) now) c.self.view_is here;
      any_moment = λ told.
          let site = g.S.Site in
          let log : LogView = the_view c.self.inside in
          let behind = c.deref.result.now in
          let st : StandsOn (bytes_of log.file (site.shown c.args.site.now)) (site.may_leave c.args.site.now) log = subst (λ (x : LogView). StandsOn (bytes_of x.file (site.shown c.args.site.now)) (site.may_leave c.args.site.now) x) (sym c.self.view_is) (c.requires.stands told) in
          let old = bytes_of log.file (site.shown c.args.site.now) in
          let fits : IsPayload log.payload = (omega (arith, length-drop 4 c.self.inside.staged.items), omega (arith, length-drop 4 c.self.inside.staged.items)) in
          let spelled : behind ≡ size_bytes (length log.payload) ++ log.payload ++ 0 ∷ [] = c.deref.ensures.value ∙ c.seal.ensures.items in
          let ended : log.ended ≡ true = c.self.invariant.5 (omega arith) in
          let each = weaker site.moment site.left_since c.args.site.now c.write_group-written.new.site (After log.file (ClosedOrWhole log.place behind) (site.may_leave c.args.site.now)) (After log.file (WholeOrNotFrom log.start log.payload) (site.may_leave c.args.site.now))
          (each_image old (site.may_leave c.args.site.now) log st ended log.payload behind fits spelled) (c.write_group-written.ensures.any_moment told) in
          subst (λ (x : LogView). LeavesOnly site.moment site.left_since c.args.site.now c.write_group-written.new.site (After x.file (WholeOrNotFrom x.start x.payload) (site.may_leave c.args.site.now))) c.self.view_is each;
      cause = search rules;
    };
  };
}
