use Rattle.std.proofs.Common.{◌≡◌, ◌+◌, max, ℕ, Err, true, sym, ◌∙◌, ap, subst, arith, rules, ⊎_elim, IsErrOf}
use Rattle.qc_base.proofs.Facts.{fact-bounded}
use Rattle.qc_site.specs.declared.site.SiteFile.TheVariants.{Journal as the_file}
use Rattle.qc_frame.specs.Log.{LogView, SameFrom}
use Rattle.qc_frame.specs.Calls.{ChangesFile}
use Rattle.qc_frame.specs.declared.error.LogError.TheVariants.{SiteFault as log_fault, NotMade, Damaged}
use Rattle.qc_frame.proofs.Staged.{stands_reserved}
use Rattle.qc_journal.specs.Journal.{JournalView, log_of, NextFact, DamagedFact}
use Rattle.qc_creation.specs.declared.error.CreateError.TheVariants.{AlreadyMade}
use Rattle.qc_creation.specs.Parts.{unread, IsEmpty}
use Rattle.qc_creation.proofs.Filling.{opens_on, has_some, unread_made, unread_bad}
use Rattle.qc_creation.proofs.journal.open_empty.Goals as goal

pub returns-in-Ok-Some : goal.returns-in-Ok-Some
returns-in-Ok-Some g c =
    let site = g.S.Site in
    let opens = c.in-Ok.ensures.opens in
    let journal = c.in-Ok.journal in
    let start : journal.start ≡ 16 = ap (λ (l : LogView). l.start) opens.opened in
    let place : journal.place ≡ 16 = ap (λ (l : LogView). l.place) opens.opened in
    let same : site.told → site.shown c.open.new.site ≡ site.shown c.args.site.now = λ told. opens.writes.same told (search rules) in
    record {
      stands = search rules;
      whole = search rules;
      room = search rules;
      not_bad = search rules;
      other = λ told _ empty.
          let next : NextFact (site.shown c.open.new.site).journal journal c.next_fact.new.self c.in-Ok-Some.field-0-0.0 c.in-Ok-Some.field-0-0.1 = search rules in
          has_some (site.shown c.open.new.site).journal _ _ journal.place place next.next (subst (λ i. IsEmpty i.journal) (sym (same told)) empty);
      keeps =
          let next = subst (λ n. ChangesFile site the_file (SameFrom n) (IsErrOf c.next_fact.result log_fault) c.open.new.site c.next_fact.new.site) start c.next_fact.ensures.reads.keeps in
          opens_on site c.args.site.now c.open.new.site c.next_fact.new.site _ _ (search rules) (search rules) same opens.writes.any_moment opens.writes.crash opens.writes.cause.no_fewer next;
    }

pub returns-in-Err-next_fact : goal.returns-in-Err-next_fact
returns-in-Err-next_fact g c =
    let site = g.S.Site in
    let opens = c.in-Ok.ensures.opens in
    let journal = c.in-Ok.journal in
    let e = c.in-Err-next_fact.e in
    let start : journal.start ≡ 16 = ap (λ (l : LogView). l.start) opens.opened in
    let place : journal.place ≡ 16 = ap (λ (l : LogView). l.place) opens.opened in
    let same : site.told → site.shown c.open.new.site ≡ site.shown c.args.site.now = λ told. opens.writes.same told (search rules) in
    let told_as : c.unread-in-Err-next_fact.result ≡ unread e = search rules in
    record {
      stands = search rules;
      whole = search rules;
      room = search rules;
      not_bad = λ bad is. unread_bad e bad (search rules);
      other = λ told is empty.
          let made : unread e ≡ AlreadyMade = search rules in
          let still = subst (λ i. IsEmpty i.journal) (sym (same told)) empty in
          ⊎_elim
          (λ (not_made : e ≡ NotMade). c.in-Err-next_fact.ensures.reads.not_made (ap (λ x. Err x) not_made))
          (λ (damaged : (at : ℕ) × (e ≡ Damaged at)).
          let there : DamagedFact (site.shown c.open.new.site).journal journal.place damaged.0 = c.in-Err-next_fact.ensures.reads.damaged told damaged.0 (ap (λ x. Err x) damaged.1) in
          has_some (site.shown c.open.new.site).journal _ _ journal.place place there.next still)
          (unread_made e made);
      keeps =
          let next = subst (λ n. ChangesFile site the_file (SameFrom n) (IsErrOf c.next_fact.result log_fault) c.open.new.site c.next_fact.new.site) start c.next_fact.ensures.reads.keeps in
          opens_on site c.args.site.now c.open.new.site c.next_fact.new.site _ _ (search rules) (search rules) same opens.writes.any_moment opens.writes.crash opens.writes.cause.no_fewer next;
    }

pub overflow_add-size_of_fact : goal.overflow_add-size_of_fact
overflow_add-size_of_fact g c = omega (arith, c.size_of_fact.ensures, (fact-bounded c.args.fact.now c.requires).1)

pub returns-in_default : goal.returns-in_default
returns-in_default g c =
    let site = g.S.Site in
    let opens = c.in-Ok.ensures.opens in
    let start : c.in-Ok.journal.start ≡ 16 = ap (λ (l : LogView). l.start) opens.opened in
    let same : site.told → site.shown c.open.new.site ≡ site.shown c.args.site.now = λ told. opens.writes.same told (search rules) in
    record {
      stands = search rules;
      whole = search rules;
      room = search rules;
      not_bad = search rules;
      other = search rules;
      keeps =
          let next = subst (λ n. ChangesFile site the_file (SameFrom n) (IsErrOf c.next_fact.result log_fault) c.open.new.site c.next_fact.new.site) start c.next_fact.ensures.reads.keeps in
          opens_on site c.args.site.now c.open.new.site c.next_fact.new.site _ _ (search rules) (search rules) same opens.writes.any_moment opens.writes.crash opens.writes.cause.no_fewer next;
    }

pub returns : goal.returns
returns g c =
    let site = g.S.Site in
    let opens = c.in-Ok.ensures.opens in
    let journal = c.in-Ok.journal in
    let old = c.next_fact.new.self in
    let new = c.reserve.new.self in
    let start : journal.start ≡ 16 = ap (λ (l : LogView). l.start) opens.opened in
    let same : site.told → site.shown c.open.new.site ≡ site.shown c.args.site.now = λ told. opens.writes.same told (search rules) in
    let ended : old ≡ record journal { length = old.length; ended = true } = search rules in
    let kept : new ≡ record old { spare = max old.spare (c.size_of_fact.result + 4) } = c.in-Ok-reserve.ensures.ok in
    record {
      stands = stands_reserved site.told (site.shown c.next_fact.new.site) (site.may_leave c.next_fact.new.site) (log_of old) (log_of new) (max old.spare (c.size_of_fact.result + 4)) (ap (λ (j : JournalView). log_of j) kept) c.in-Ok-None.ensures.reads.stands;
      whole = ap (λ (j : JournalView). j.start) kept ∙ ap (λ (j : JournalView). j.start) ended ∙ start;
      room = record {
        limits = c.requires;
        ended = ap (λ (j : JournalView). j.ended) kept ∙ ap (λ (j : JournalView). j.ended) ended;
        room = omega (arith, ap (λ (j : JournalView). j.spare) kept, c.size_of_fact.ensures);
      };
      not_bad = search rules;
      other = search rules;
      keeps =
          let next = subst (λ n. ChangesFile site the_file (SameFrom n) (IsErrOf c.next_fact.result log_fault) c.open.new.site c.next_fact.new.site) start c.next_fact.ensures.reads.keeps in
          opens_on site c.args.site.now c.open.new.site c.next_fact.new.site _ _ (search rules) (search rules) same opens.writes.any_moment opens.writes.crash opens.writes.cause.no_fewer next;
    }
