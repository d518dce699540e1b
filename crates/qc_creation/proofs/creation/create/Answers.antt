use Rattle.std.proofs.Common.{◌≡◌, ◌++◌, ◌∷◌, [], List, inl, inr, refl, sym, subst, arith, rules}
use Rattle.std.specs.List.{flat_map}
use Rattle.qc_base.specs.declared.fact.Fact.{Fact}
use Rattle.qc_base.specs.declared.fact.Fact.TheVariants.{Catalogue as InForce}
use Rattle.qc_site.specs.declared.site.SiteFile.TheVariants.{Journal as the_file, CrmLog}
use Rattle.qc_site.specs.Image.{Image, with_bytes}
use Rattle.qc_site.specs.Disk.{FileStep, LeavesOnly}
use Rattle.qc_site.proofs.Moments.{weaker, joined}
use Rattle.qc_frame.specs.Gate.{After}
use Rattle.qc_frame.specs.Log.{BeingMade}
use Rattle.qc_journal.specs.History.{IsMade}
use Rattle.qc_catalogue.specs.declared.catalogue.Catalogue.{Catalogue}
use Rattle.qc_catalogue.specs.declared.catalogue.Resource.{Resource}
use Rattle.qc_catalogue.specs.Catalogue.{IsCatalogueOf}
use Rattle.qc_machine.specs.Sites.{log_header}
use Rattle.qc_creation.specs.Rows.{opening_rows, rows_of, LeavesFront}
use Rattle.qc_creation.specs.Sites.{IsCreated, LeavesCreating}
use Rattle.qc_creation.specs.Parts.{MakesRows, BeginsJournal, HasOnly, Begins}
use Rattle.qc_creation.proofs.Filling.{Now, empty_unbegun}
use Rattle.qc_creation.proofs.Creating.{Stage, HasLog, AllFresh, AllStaged, on_ok, on_any, no_other, new_log, stage_none, stage_log, stage_rows, stage_journal, log_rows, all_done, created, each_fresh, leaves_log, each_log, leaves_rows, each_row, leaves_journal, each_created}
use Rattle.qc_creation.proofs.creation.create.Goals as goal

pub returns-in_err-make : goal.returns-in_err-make
returns-in_err-make g c =
    let site = g.S.Site in
    let s0 = c.args.site.now in
    let s1 = c.prepare.new.site in
    let s2 = c.make.new.site in
    let text = c.args.text.now in
    let cat = c.in_ok-catalogue.catalogue in
    let prepared = c.in_ok-catalogue.ensures in
    let read = prepared.read.0 in
    let before = site.may_leave s0 in
    let P = LeavesCreating text before in
    let making = c.make.ensures.changes.any_moment in
    let unmade : site.told → ¬ IsMade (site.shown s0) = λ told. prepared.not_made told (λ e. cc) (λ e. cc) in
    let fresh : site.told → AllFresh text cat read before (site.may_leave s1) = λ told. each_fresh text cat read before (site.may_leave s1) (site.shown s0).journal (prepared.writes.crash told) (prepared.certain told) (unmade told) in
    let to1 : site.told → LeavesOnly site.moment site.left_since s0 s1 P = λ told. weaker site.moment site.left_since s0 s1 before P (λ i here. (i, here, inl refl)) (prepared.writes.any_moment told) in
    let to2 : site.told → LeavesOnly site.moment site.left_since s0 s2 P = λ told. joined site.moment site.left_since s0 s1 s2 P (to1 told) (weaker site.moment site.left_since s1 s2 (After CrmLog BeingMade (site.may_leave s1)) P (leaves_log text cat read before (site.may_leave s1) (fresh told)) (making told)) in
    record {
      valid = search rules;
      created = search rules;
      certain = search rules;
      made = search rules;
      not_made = search rules;
      refused = search rules;
      unchanged = search rules;
      starved = search rules;
      any_moment = to2;
      cause = search rules;
    }

pub returns-in_err-make_all_rows : goal.returns-in_err-make_all_rows
returns-in_err-make_all_rows g c =
    let site = g.S.Site in
    let s0 = c.args.site.now in
    let s1 = c.prepare.new.site in
    let s2 = c.make.new.site in
    let text = c.args.text.now in
    let cat = c.in_ok-catalogue.catalogue in
    let prepared = c.in_ok-catalogue.ensures in
    let read = prepared.read.0 in
    let before = site.may_leave s0 in
    let P = LeavesCreating text before in
    let making = c.make.ensures.changes.any_moment in
    let unmade : site.told → ¬ IsMade (site.shown s0) = λ told. prepared.not_made told (λ e. cc) (λ e. cc) in
    let fresh : site.told → AllFresh text cat read before (site.may_leave s1) = λ told. each_fresh text cat read before (site.may_leave s1) (site.shown s0).journal (prepared.writes.crash told) (prepared.certain told) (unmade told) in
    let to1 : site.told → LeavesOnly site.moment site.left_since s0 s1 P = λ told. weaker site.moment site.left_since s0 s1 before P (λ i here. (i, here, inl refl)) (prepared.writes.any_moment told) in
    let to2 : site.told → LeavesOnly site.moment site.left_since s0 s2 P = λ told. joined site.moment site.left_since s0 s1 s2 P (to1 told) (weaker site.moment site.left_since s1 s2 (After CrmLog BeingMade (site.may_leave s1)) P (leaves_log text cat read before (site.may_leave s1) (fresh told)) (making told)) in
    let s3 = c.make_all_rows.new.site in
    let all = opening_rows cat in
    let rows : MakesRows site all c.make_all_rows.result s2 s3 = subst (λ (l : List Resource). MakesRows site (flat_map rows_of l) c.make_all_rows.result s2 s3) c.resources.ensures c.make_all_rows.ensures in
    let staged2 : site.told → AllStaged text cat read [] before (site.may_leave s2) = λ told. each_log text cat read before (site.may_leave s1) (site.may_leave s2) (fresh told) (λ i here. (making told).each i (g.met.S.Site.counts_now s2 (site.moment s1) i told (making told).later here)) (c.in_ok-make.ensures.certain told) in
    let to3 : site.told → LeavesOnly site.moment site.left_since s0 s3 P = λ told. joined site.moment site.left_since s0 s2 s3 P (to2 told) (weaker site.moment site.left_since s2 s3 (LeavesFront all (site.may_leave s2)) P (leaves_rows text cat read before (site.may_leave s2) (staged2 told)) (rows.any_moment told)) in
    record {
      valid = search rules;
      created = search rules;
      certain = search rules;
      made = search rules;
      not_made = search rules;
      refused = search rules;
      unchanged = search rules;
      starved = search rules;
      any_moment = to3;
      cause = search rules;
    }

pub returns : goal.returns
returns g c =
    let site = g.S.Site in
    let s0 = c.args.site.now in
    let s1 = c.prepare.new.site in
    let s2 = c.make.new.site in
    let text = c.args.text.now in
    let cat = c.in_ok-catalogue.catalogue in
    let prepared = c.in_ok-catalogue.ensures in
    let read = prepared.read.0 in
    let before = site.may_leave s0 in
    let P = LeavesCreating text before in
    let making = c.make.ensures.changes.any_moment in
    let unmade : site.told → ¬ IsMade (site.shown s0) = λ told. prepared.not_made told (λ e. cc) (λ e. cc) in
    let fresh : site.told → AllFresh text cat read before (site.may_leave s1) = λ told. each_fresh text cat read before (site.may_leave s1) (site.shown s0).journal (prepared.writes.crash told) (prepared.certain told) (unmade told) in
    let to1 : site.told → LeavesOnly site.moment site.left_since s0 s1 P = λ told. weaker site.moment site.left_since s0 s1 before P (λ i here. (i, here, inl refl)) (prepared.writes.any_moment told) in
    let to2 : site.told → LeavesOnly site.moment site.left_since s0 s2 P = λ told. joined site.moment site.left_since s0 s1 s2 P (to1 told) (weaker site.moment site.left_since s1 s2 (After CrmLog BeingMade (site.may_leave s1)) P (leaves_log text cat read before (site.may_leave s1) (fresh told)) (making told)) in
    let s3 = c.make_all_rows.new.site in
    let all = opening_rows cat in
    let rows : MakesRows site all c.make_all_rows.result s2 s3 = subst (λ (l : List Resource). MakesRows site (flat_map rows_of l) c.make_all_rows.result s2 s3) c.resources.ensures c.make_all_rows.ensures in
    let staged2 : site.told → AllStaged text cat read [] before (site.may_leave s2) = λ told. each_log text cat read before (site.may_leave s1) (site.may_leave s2) (fresh told) (λ i here. (making told).each i (g.met.S.Site.counts_now s2 (site.moment s1) i told (making told).later here)) (c.in_ok-make.ensures.certain told) in
    let to3 : site.told → LeavesOnly site.moment site.left_since s0 s3 P = λ told. joined site.moment site.left_since s0 s2 s3 P (to2 told) (weaker site.moment site.left_since s2 s3 (LeavesFront all (site.may_leave s2)) P (leaves_rows text cat read before (site.may_leave s2) (staged2 told)) (rows.any_moment told)) in
    let s4 = c.begin_journal.new.site in
    let done = subst (λ r. MakesRows site all r s2 s3) c.in_ok-make_all_rows.was rows in
    let begins : BeginsJournal site (InForce text) c.begin_journal.result s3 s4 = subst (λ (f : Fact). BeginsJournal site f c.begin_journal.result s3 s4) prepared.read.1 c.begin_journal.ensures in
    let staged3 : site.told → AllStaged text cat read all before (site.may_leave s3) = λ told. each_row text cat read before (site.may_leave s2) (site.may_leave s3) (staged2 told) (done.certain told) in
    let to4 : site.told → LeavesOnly site.moment site.left_since s0 s4 P = λ told. joined site.moment site.left_since s0 s3 s4 P (to3 told) (weaker site.moment site.left_since s3 s4 (After the_file (Begins (InForce text)) (site.may_leave s3)) P (leaves_journal text cat read before (site.may_leave s3) (staged3 told)) (begins.any_moment told)) in
    let stage1 : site.told → Stage [] (site.shown s0) (site.shown s1) = λ told. subst (λ (i : Image). Stage [] (site.shown s0) i) (sym (prepared.writes.same told (λ e. cc))) (stage_none (site.shown s0) (unmade told)) in
    let made2 : site.told → site.shown s2 ≡ with_bytes CrmLog (log_header ++ 0 ∷ []) (site.shown s1) = λ told. c.in_ok-make.ensures.made told in
    let log2 : site.told → HasLog (site.shown s2) = λ told. subst (λ (i : Image). HasLog i) (sym (made2 told)) (new_log (site.shown s1)) in
    let stage2 : site.told → Stage [] (site.shown s0) (site.shown s2) = λ told. stage_log [] (site.shown s0) (site.shown s1) (site.shown s2) (log_header ++ 0 ∷ []) (stage1 told) (made2 told) in
    let stage3 : site.told → Stage all (site.shown s0) (site.shown s3) = λ told. stage_rows all (site.shown s0) (site.shown s2) (site.shown s3) (stage2 told) (done.made told) in
    let log3 : site.told → HasLog (site.shown s3) = λ told. log_rows all (site.shown s2) (site.shown s3) (log2 told) (done.made told) in
    record {
      valid = on_any c.begin_journal.result ((k : Catalogue) × IsCatalogueOf text k) (cat, read);
      created = λ told. on_ok c.begin_journal.result (FileStep the_file (Now (HasOnly (InForce text))) (site.shown s3) (site.shown s4)) (IsCreated text (site.shown s0) (site.shown s4))
          (λ step. created text cat read (site.shown s0) (site.shown s3) (site.shown s4) step.bytes (stage3 told) (log3 told) step.by step.is) (begins.begun told);
      certain = λ told. on_ok c.begin_journal.result ((i : Image) → site.may_leave s4 i → After the_file (Now (HasOnly (InForce text))) (site.may_leave s3) i) ((i : Image) → site.may_leave s4 i → (was : Image) × before was × IsCreated text was i)
          (λ each. each_created text cat read before (site.may_leave s3) (site.may_leave s4) (staged3 told) each) (begins.certain told);
      made = λ told is. absurd (begins.not_other told is);
      not_made = λ told _ _. unmade told;
      refused = λ e is. absurd (begins.not_bad e is);
      unchanged = λ err fault memory.
          let never : site.told → ⊥ = λ told. no_other c.begin_journal.result err fault memory (begins.not_other told) begins.not_bad in
          record {
            same = λ told _. absurd (never told);
            crash = λ told. absurd (never told);
            any_moment = λ told. absurd (never told);
            cause = record { no_fewer = omega (arith, prepared.writes.cause.no_fewer, c.make.ensures.changes.cause.no_fewer, rows.cause.no_fewer, begins.cause.no_fewer); cause = λ f. absurd f };
          };
      starved = λ told is.
          let step = begins.starved told is in
          inr (all_done text cat read (site.shown s0) (site.shown s4) (stage_journal all (site.shown s0) (site.shown s3) (site.shown s4) step.bytes (stage3 told) (empty_unbegun step.bytes step.by) step.is));
      any_moment = to4;
      cause = record {
        no_fewer = omega (arith, prepared.writes.cause.no_fewer, c.make.ensures.changes.cause.no_fewer, rows.cause.no_fewer, begins.cause.no_fewer);
        cause = λ f. omega (arith, prepared.writes.cause.no_fewer, c.make.ensures.changes.cause.no_fewer, rows.cause.no_fewer, begins.cause.cause f);
      };
    }
