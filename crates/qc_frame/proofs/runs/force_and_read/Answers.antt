use Rattle.std.proofs.Common.{◌≡◌, ◌<◌, ◌-◌, ◌++◌, List, ℕ, Err, length, take, ◌∙◌, sym, ap, subst, rules}
use Rattle.std.specs.List.{flat_map}
use Rattle.qc_site.specs.Image.{Image, bytes_of, with_bytes}
use Rattle.qc_frame.specs.Frame.{entry, groups_at}
use Rattle.qc_frame.specs.Log.{LogView, Whole, HasGroup, Spelled, SameFrom, SameLog, DamagedBehind}
use Rattle.qc_frame.specs.declared.error.LogError.TheVariants.{NotMade, Damaged}
use Rattle.qc_frame.specs.Calls.{entries_read}
use Rattle.qc_frame.proofs.Same.{step_taken, step_others, others_joined}
use Rattle.qc_frame.proofs.Staged.{stands_still}
use Rattle.qc_frame.proofs.ReadBack.{some_wait, made_whole, whole_still, read_back, never_damaged}
use Rattle.qc_frame.proofs.runs.force_and_read.Goals as goal

pub force-requires : goal.force-requires
force-requires g c =
    let site = g.S.Site in
    let all = flat_map entry c.args.entries.now in
    record { stands = stands_still site.told (site.shown c.args.site.now) (site.may_leave c.args.site.now) c.args.log.now c.stage_all.new.log (c.args.log.now.payload ++ all) (c.args.log.now.spare - length all) c.stage_all.ensures c.requires.stands }

pub returns-in_err-again : goal.returns-in_err-again
returns-in_err-again g c = record {
  read = search rules;
  whole = search rules;
  others = search rules;
  kept = search rules;
  stands = search rules;
  not_damaged = search rules;
  not_made = λ told is.
      let site = g.S.Site in
      let log = c.args.log.now in
      let entries = c.args.entries.now in
      let can = c.requires.can in
      let spare = log.spare - length (flat_map entry entries) in
      let old = site.shown c.args.site.now in
      let now = site.shown c.force.new.site in
      let staged = c.stage_all.ensures in
      let some : 0 < length c.stage_all.new.log.payload = some_wait log c.stage_all.new.log entries spare staged can.waits can.any in
      let made : HasGroup c.stage_all.new.log.payload c.stage_all.new.log old now = c.in_ok-force.ensures.made told some in
      let whole : Whole (flat_map entry entries) (bytes_of log.file old) (bytes_of log.file now) = made_whole log c.stage_all.new.log entries spare old now staged can.whole can.waits made.whole in
      let its_file : c.file.result ≡ log.file = c.file.ensures ∙ ap (λ (l : LogView). l.file) (c.in_ok-force.ensures.moved some) ∙ ap (λ (l : LogView). l.file) staged in
      let same : c.in_err-again.field-0.0 ≡ NotMade = search rules in
      let begins : take 16 (bytes_of c.file.result now) ≡ c.args.header.now = ap (λ f. take 16 (bytes_of f now)) its_file ∙ whole.front ∙ c.requires.header told in
      c.in_err-again.ensures.opens.not_made told (ap (λ e. Err e) same) begins;
  cause = search rules;
}

pub returns-in_err-groups : goal.returns-in_err-groups
returns-in_err-groups g c = record {
  read = search rules;
  whole = search rules;
  others = search rules;
  kept = search rules;
  stands = search rules;
  not_damaged = λ told before had at is.
      let site = g.S.Site in
      let log = c.args.log.now in
      let entries = c.args.entries.now in
      let can = c.requires.can in
      let spare = log.spare - length (flat_map entry entries) in
      let old = site.shown c.args.site.now in
      let now = site.shown c.force.new.site in
      let staged = c.stage_all.ensures in
      let some : 0 < length c.stage_all.new.log.payload = some_wait log c.stage_all.new.log entries spare staged can.waits can.any in
      let made : HasGroup c.stage_all.new.log.payload c.stage_all.new.log old now = c.in_ok-force.ensures.made told some in
      let whole : Whole (flat_map entry entries) (bytes_of log.file old) (bytes_of log.file now) = made_whole log c.stage_all.new.log entries spare old now staged can.whole can.waits made.whole in
      let its_file : c.file.result ≡ log.file = c.file.ensures ∙ ap (λ (l : LogView). l.file) (c.in_ok-force.ensures.moved some) ∙ ap (λ (l : LogView). l.file) staged in
      let again : LogView = c.in_ok-again.again in
      let there : again.file ≡ log.file = ap (λ (l : LogView). l.file) c.in_ok-again.ensures.opens.opened ∙ its_file in
      let place : again.place ≡ 16 = ap (λ (l : LogView). l.place) c.in_ok-again.ensures.opens.opened in
      let start : again.start ≡ 16 = ap (λ (l : LogView). l.start) c.in_ok-again.ensures.opens.opened in
      let still : site.shown c.open.new.site ≡ now = c.in_ok-again.ensures.opens.writes.same told (λ e. cc) in
      let opened : bytes_of again.file (site.shown c.open.new.site) ≡ bytes_of log.file now = (λ i. bytes_of (there i) (still i)) in
      let same : c.in_err-groups.field-0.0 ≡ Damaged at = search rules in
      let found : DamagedBehind (bytes_of again.file (site.shown c.open.new.site)) again.place at = c.in_err-groups.ensures.reads.damaged told at (ap (λ e. Err e) same) in
      let at_start : DamagedBehind (bytes_of log.file now) 16 at = subst (λ n. DamagedBehind (bytes_of log.file now) n at) place (subst (λ (l : List ℕ). DamagedBehind l again.place at) opened found) in
      never_damaged (bytes_of log.file old) (bytes_of log.file now) entries before at whole can.some had at_start;
  not_made = search rules;
  cause = search rules;
}

pub returns : goal.returns
returns g c = record {
  read = λ told before had.
      let site = g.S.Site in
      let log = c.args.log.now in
      let entries = c.args.entries.now in
      let can = c.requires.can in
      let spare = log.spare - length (flat_map entry entries) in
      let old = site.shown c.args.site.now in
      let now = site.shown c.force.new.site in
      let staged = c.stage_all.ensures in
      let some : 0 < length c.stage_all.new.log.payload = some_wait log c.stage_all.new.log entries spare staged can.waits can.any in
      let made : HasGroup c.stage_all.new.log.payload c.stage_all.new.log old now = c.in_ok-force.ensures.made told some in
      let whole : Whole (flat_map entry entries) (bytes_of log.file old) (bytes_of log.file now) = made_whole log c.stage_all.new.log entries spare old now staged can.whole can.waits made.whole in
      let its_file : c.file.result ≡ log.file = c.file.ensures ∙ ap (λ (l : LogView). l.file) (c.in_ok-force.ensures.moved some) ∙ ap (λ (l : LogView). l.file) staged in
      let again : LogView = c.in_ok-again.again in
      let there : again.file ≡ log.file = ap (λ (l : LogView). l.file) c.in_ok-again.ensures.opens.opened ∙ its_file in
      let place : again.place ≡ 16 = ap (λ (l : LogView). l.place) c.in_ok-again.ensures.opens.opened in
      let start : again.start ≡ 16 = ap (λ (l : LogView). l.start) c.in_ok-again.ensures.opens.opened in
      let still : site.shown c.open.new.site ≡ now = c.in_ok-again.ensures.opens.writes.same told (λ e. cc) in
      let opened : bytes_of again.file (site.shown c.open.new.site) ≡ bytes_of log.file now = (λ i. bytes_of (there i) (still i)) in
      let lists = entries_read c.in_ok-groups.groups.items in
      let read : Spelled (groups_at (bytes_of again.file (site.shown c.open.new.site)) again.place) lists = c.in_ok-groups.ensures.all.read told in
      let at_start : Spelled (groups_at (bytes_of log.file now) 16) lists = subst (λ n. Spelled (groups_at (bytes_of log.file now) n) lists) place (subst (λ (l : List ℕ). Spelled (groups_at l again.place) lists) opened read) in
      read_back (bytes_of log.file old) (bytes_of log.file now) entries before lists whole can.some had at_start;
  whole = λ told.
      let site = g.S.Site in
      let log = c.args.log.now in
      let entries = c.args.entries.now in
      let can = c.requires.can in
      let spare = log.spare - length (flat_map entry entries) in
      let old = site.shown c.args.site.now in
      let now = site.shown c.force.new.site in
      let staged = c.stage_all.ensures in
      let some : 0 < length c.stage_all.new.log.payload = some_wait log c.stage_all.new.log entries spare staged can.waits can.any in
      let made : HasGroup c.stage_all.new.log.payload c.stage_all.new.log old now = c.in_ok-force.ensures.made told some in
      let whole : Whole (flat_map entry entries) (bytes_of log.file old) (bytes_of log.file now) = made_whole log c.stage_all.new.log entries spare old now staged can.whole can.waits made.whole in
      let its_file : c.file.result ≡ log.file = c.file.ensures ∙ ap (λ (l : LogView). l.file) (c.in_ok-force.ensures.moved some) ∙ ap (λ (l : LogView). l.file) staged in
      let again : LogView = c.in_ok-again.again in
      let there : again.file ≡ log.file = ap (λ (l : LogView). l.file) c.in_ok-again.ensures.opens.opened ∙ its_file in
      let place : again.place ≡ 16 = ap (λ (l : LogView). l.place) c.in_ok-again.ensures.opens.opened in
      let start : again.start ≡ 16 = ap (λ (l : LogView). l.start) c.in_ok-again.ensures.opens.opened in
      let still : site.shown c.open.new.site ≡ now = c.in_ok-again.ensures.opens.writes.same told (λ e. cc) in
      let opened : bytes_of again.file (site.shown c.open.new.site) ≡ bytes_of log.file now = (λ i. bytes_of (there i) (still i)) in
      let new = site.shown c.read_to_end.new.site in
      let same : SameFrom again.start (bytes_of again.file (site.shown c.open.new.site)) (bytes_of again.file new) = step_taken again.file (SameFrom again.start) _ _ (c.in_ok-groups.ensures.reads.keeps.shown told (λ e. cc)) in
      let kept : SameLog (bytes_of log.file now) (bytes_of log.file new) = subst (λ n. SameFrom n (bytes_of log.file now) (bytes_of log.file new)) start (subst (λ f. SameFrom again.start (bytes_of log.file now) (bytes_of f new)) there (subst (λ (l : List ℕ). SameFrom again.start l (bytes_of again.file new)) opened same)) in
      whole_still (flat_map entry entries) (bytes_of log.file old) (bytes_of log.file now) (bytes_of log.file new) whole kept;
  others = λ told.
      let site = g.S.Site in
      let log = c.args.log.now in
      let entries = c.args.entries.now in
      let can = c.requires.can in
      let spare = log.spare - length (flat_map entry entries) in
      let old = site.shown c.args.site.now in
      let now = site.shown c.force.new.site in
      let staged = c.stage_all.ensures in
      let some : 0 < length c.stage_all.new.log.payload = some_wait log c.stage_all.new.log entries spare staged can.waits can.any in
      let made : HasGroup c.stage_all.new.log.payload c.stage_all.new.log old now = c.in_ok-force.ensures.made told some in
      let whole : Whole (flat_map entry entries) (bytes_of log.file old) (bytes_of log.file now) = made_whole log c.stage_all.new.log entries spare old now staged can.whole can.waits made.whole in
      let its_file : c.file.result ≡ log.file = c.file.ensures ∙ ap (λ (l : LogView). l.file) (c.in_ok-force.ensures.moved some) ∙ ap (λ (l : LogView). l.file) staged in
      let again : LogView = c.in_ok-again.again in
      let there : again.file ≡ log.file = ap (λ (l : LogView). l.file) c.in_ok-again.ensures.opens.opened ∙ its_file in
      let place : again.place ≡ 16 = ap (λ (l : LogView). l.place) c.in_ok-again.ensures.opens.opened in
      let start : again.start ≡ 16 = ap (λ (l : LogView). l.start) c.in_ok-again.ensures.opens.opened in
      let still : site.shown c.open.new.site ≡ now = c.in_ok-again.ensures.opens.writes.same told (λ e. cc) in
      let opened : bytes_of again.file (site.shown c.open.new.site) ≡ bytes_of log.file now = (λ i. bytes_of (there i) (still i)) in
      let new = site.shown c.read_to_end.new.site in
      let made_file : c.stage_all.new.log.file ≡ log.file = ap (λ (l : LogView). l.file) staged in
      let first : now ≡ with_bytes log.file (bytes_of log.file now) old = subst (λ f. now ≡ with_bytes f (bytes_of f now) old) made_file (step_others c.stage_all.new.log.file _ _ _ (c.in_ok-force.ensures.makes.changes.shown told (λ e. cc))) in
      let last : new ≡ with_bytes again.file (bytes_of again.file new) (site.shown c.open.new.site) = step_others again.file _ _ _ (c.in_ok-groups.ensures.reads.keeps.shown told (λ e. cc)) in
      others_joined log.file old now new first (subst (λ (x : Image). new ≡ with_bytes log.file (bytes_of log.file new) x) still (subst (λ f. new ≡ with_bytes f (bytes_of f new) (site.shown c.open.new.site)) there last));
  kept =
      let log = c.args.log.now in
      let entries = c.args.entries.now in
      let can = c.requires.can in
      let spare = log.spare - length (flat_map entry entries) in
      let staged = c.stage_all.ensures in
      let some : 0 < length c.stage_all.new.log.payload = some_wait log c.stage_all.new.log entries spare staged can.waits can.any in
      let its_file : c.file.result ≡ log.file = c.file.ensures ∙ ap (λ (l : LogView). l.file) (c.in_ok-force.ensures.moved some) ∙ ap (λ (l : LogView). l.file) staged in
      let again : LogView = c.in_ok-again.again in
      let opened = c.in_ok-again.ensures.opens.opened in
      let new : LogView = c.read_to_end.new.log in
      let file : again.file ≡ log.file = ap (λ (l : LogView). l.file) opened ∙ its_file in
      let start : again.start ≡ log.start = ap (λ (l : LogView). l.start) opened ∙ sym can.whole in
      let payload : again.payload ≡ log.payload = ap (λ (l : LogView). l.payload) opened ∙ sym can.waits in
      let room : again.spare ≡ 0 = ap (λ (l : LogView). l.spare) opened in
      c.in_ok-groups.ensures.all.ended ∙ (λ i. record { file = file i; start = start i; place = new.place; length = new.length; ended = sym can.ended i; payload = payload i; spare = room i });
  stands = search rules;
  not_damaged = search rules;
  not_made = search rules;
  cause = search rules;
}
