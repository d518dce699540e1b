use Rattle.std.proofs.Common.{◌≡◌, ◌∙◌, ◌+◌, ◌≤◌, ◌∷◌, [], List, ℕ, Err, length, take, drop, max, zero, refl, sym, ap, subst, arith, rules, true}
use Rattle.qc_site.specs.Image.{Image, bytes_of, with_bytes}
use Rattle.qc_site.specs.Disk.{FileStep, LeavesOnly, Certain, written}
use Rattle.qc_site.proofs.Moments.{started, goes_on, weaker, joined}
use Rattle.qc_site.proofs.Images.{bytes_of-with_bytes}
use Rattle.qc_frame.specs.Frame.{EntriesOf, StopsBefore, groups_past}
use Rattle.qc_frame.specs.Found.{Finds, OpenFor, NeitherOpenNorZero}
use Rattle.qc_frame.specs.Gate.{ShutAt, After}
use Rattle.qc_frame.specs.Log.{LogView, StandsOn, SameFrom, NextGroup, NoGroup, DamagedGroup}
use Rattle.qc_frame.specs.contracts.log.Log.{the_view}
use Rattle.qc_frame.specs.declared.error.LogError.TheVariants.{Damaged}
use Rattle.qc_frame.proofs.Same.{same_log, same_shown}
use Rattle.qc_frame.proofs.Next.{place_inside, inside, next_group, damaged, stands_next, stands_zero, no_group, no_group_zero, shut_step, stands_shut, each_closing}
use Rattle.qc_frame.proofs.log.Log.next_group.Goals as goal

pub returns-in_err-size-clause-reads : goal.returns-in_err-size-clause-reads
returns-in_err-size-clause-reads g c = record {
  stands = search rules;
  damaged = search rules;
  not_made = search rules;
  unchanged = search rules;
  keeps = record {
    shown = search rules;
    any_moment = λ told.
        let site = g.S.Site in
        let file = c.args.self.now.file in
        let before = site.may_leave c.args.site.now in
        let P = After file (SameFrom c.args.self.now.start) before in
        let m = site.moment in
        let since = site.left_since in
        let start = started m since c.args.site.now P (λ i left. same_log file c.args.self.now.start before i (g.met.S.Site.only_now c.args.site.now i told left)) in
        let in_gate : (i : Image) → site.may_leave c.read_gate.new.site i → P i = λ i here. same_log file c.args.self.now.start before i (c.read_gate.ensures.crash told i here) in
        let gate = goes_on m since c.args.site.now c.args.site.now c.read_gate.new.site P _ start (c.read_gate.ensures.time told) in_gate in
        gate;
    cause = search rules;
  };
}

pub returns-in_err-entries-in-Open-clause-reads : goal.returns-in_err-entries-in-Open-clause-reads
returns-in_err-entries-in-Open-clause-reads g c = record {
  stands = search rules;
  damaged = λ told at is.
      let site = g.S.Site in
      let log : LogView = the_view c.self.inside in
      let old = bytes_of log.file (site.shown c.args.site.now) in
      let before = site.may_leave c.args.site.now in
      let st : StandsOn old before log = subst (λ (x : LogView). StandsOn (bytes_of x.file (site.shown c.args.site.now)) before x) (sym c.self.view_is) (c.requires.stands told) in
      let le : log.place ≤ log.length = omega (arith, place_inside old before log st, st.size) in
      let size = c.in-Open.size in
      let found : OpenFor c.in-Open.size (drop log.place old) = subst (λ x. Finds (drop log.place old) x) c.in-Open.is (c.in_ok-size.ensures.gate told st.size le) in
      let shown1 : bytes_of log.file (site.shown c.read_gate.new.site) ≡ old = ap (λ i. bytes_of log.file i) (c.in_ok-size.ensures.same told) in
      let fits : log.place + 5 + size ≤ length (bytes_of log.file (site.shown c.read_gate.new.site)) = omega (arith, inside old before log st size found, ap length shown1) in
      let same : c.in_err-entries-in-Open.field-0.0 ≡ Damaged at = search rules in
      let stops = c.in_err-entries-in-Open.ensures.damaged told fits at (ap (λ e. Err e) same) in
      let here = damaged old before log st size found at (subst (λ (l : List ℕ). StopsBefore (log.place + 5) at (take size (drop (log.place + 5) l))) shown1 stops) in
      subst (λ (x : LogView). DamagedGroup (bytes_of x.file (site.shown c.args.site.now)) x.place at) c.self.view_is here;
  not_made = search rules;
  unchanged = search rules;
  keeps = record {
    shown = λ told fine. same_shown _ _ _ _ (c.in_err-entries-in-Open.ensures.same told (search rules) ∙ c.in_ok-size.ensures.same told);
    any_moment = λ told.
        let site = g.S.Site in
        let file = c.args.self.now.file in
        let before = site.may_leave c.args.site.now in
        let P = After file (SameFrom c.args.self.now.start) before in
        let m = site.moment in
        let since = site.left_since in
        let start = started m since c.args.site.now P (λ i left. same_log file c.args.self.now.start before i (g.met.S.Site.only_now c.args.site.now i told left)) in
        let in_gate : (i : Image) → site.may_leave c.read_gate.new.site i → P i = λ i here. same_log file c.args.self.now.start before i (c.read_gate.ensures.crash told i here) in
        let gate = goes_on m since c.args.site.now c.args.site.now c.read_gate.new.site P _ start (c.read_gate.ensures.time told) in_gate in
        let in_payload : (i : Image) → site.may_leave c.read_payload.new.site i → P i = λ i here. in_gate i (c.read_payload.ensures.crash told i here) in
        goes_on m since c.args.site.now c.read_gate.new.site c.read_payload.new.site P _ gate (c.read_payload.ensures.time told) in_payload;
    cause = search rules;
  };
}

pub returns-in_err-close_gate-in-NotZero-clause-reads : goal.returns-in_err-close_gate-in-NotZero-clause-reads
returns-in_err-close_gate-in-NotZero-clause-reads g c = record {
  stands = search rules;
  damaged = search rules;
  not_made = search rules;
  unchanged = search rules;
  keeps = record {
    shown = search rules;
    any_moment = λ told.
        let site = g.S.Site in
        let log : LogView = the_view c.self.inside in
        let old = bytes_of log.file (site.shown c.args.site.now) in
        let before = site.may_leave c.args.site.now in
        let st : StandsOn old before log = subst (λ (x : LogView). StandsOn (bytes_of x.file (site.shown c.args.site.now)) before x) (sym c.self.view_is) (c.requires.stands told) in
        let le : log.place ≤ log.length = omega (arith, place_inside old before log st, st.size) in
        let shown1 : bytes_of log.file (site.shown c.read_gate.new.site) ≡ old = ap (λ i. bytes_of log.file i) (c.in_ok-size.ensures.same told) in
        let neither : NeitherOpenNorZero (drop log.place old) = subst (λ x. Finds (drop log.place old) x) c.in-NotZero.is (c.in_ok-size.ensures.gate told st.size le) in
        let none : groups_past zero (drop log.place old) ≡ [] = neither.none in
        let certain1 : Certain log.file old (site.may_leave c.read_gate.new.site) = λ i here. st.certain i (c.read_gate.ensures.crash told i here) in
        let P = After log.file (SameFrom log.start) before in
        let m = site.moment in
        let since = site.left_since in
        let start = started m since c.args.site.now P (λ i left. same_log log.file log.start before i (g.met.S.Site.only_now c.args.site.now i told left)) in
        let in_gate : (i : Image) → site.may_leave c.read_gate.new.site i → P i = λ i here. same_log log.file log.start before i (c.read_gate.ensures.crash told i here) in
        let gate = goes_on m since c.args.site.now c.args.site.now c.read_gate.new.site P _ start (c.read_gate.ensures.time told) in_gate in
        let closes = weaker m since c.read_gate.new.site c.close_gate.new.site (After log.file (ShutAt log.place) (site.may_leave c.read_gate.new.site)) P
        (each_closing old before log st before (site.may_leave c.read_gate.new.site) (λ i here. c.read_gate.ensures.crash told i here) certain1 none) (c.close_gate.ensures.any_moment told) in
        let all = joined m since c.args.site.now c.read_gate.new.site c.close_gate.new.site P gate closes in
        subst (λ (x : LogView). LeavesOnly m since c.args.site.now c.close_gate.new.site (After x.file (SameFrom x.start) before)) c.self.view_is all;
    cause = search rules;
  };
}

pub returns-in_ok-entries-in-Open-clause-finds : goal.returns-in_ok-entries-in-Open-clause-finds
returns-in_ok-entries-in-Open-clause-finds g c = record {
  group = λ told.
      let site = g.S.Site in
      let log : LogView = the_view c.self.inside in
      let old = bytes_of log.file (site.shown c.args.site.now) in
      let before = site.may_leave c.args.site.now in
      let st : StandsOn old before log = subst (λ (x : LogView). StandsOn (bytes_of x.file (site.shown c.args.site.now)) before x) (sym c.self.view_is) (c.requires.stands told) in
      let le : log.place ≤ log.length = omega (arith, place_inside old before log st, st.size) in
      let size = c.in-Open.size in
      let found : OpenFor c.in-Open.size (drop log.place old) = subst (λ x. Finds (drop log.place old) x) c.in-Open.is (c.in_ok-size.ensures.gate told st.size le) in
      let shown1 : bytes_of log.file (site.shown c.read_gate.new.site) ≡ old = ap (λ i. bytes_of log.file i) (c.in_ok-size.ensures.same told) in
      let fits : log.place + 5 + size ≤ length (bytes_of log.file (site.shown c.read_gate.new.site)) = omega (arith, inside old before log st size found, ap length shown1) in
      let new : LogView = the_view (record { file = c.self.inside.file; start = c.self.inside.start; place = c.self.inside.place + 5 + c.from.result; length = c.self.inside.length; ended = c.self.inside.ended; staged = c.self.inside.staged; spare = c.self.inside.spare }) in
      let moved : new ≡ record log { place = log.place + 5 + size } = ap (λ n. record log { place = log.place + 5 + n }) c.from.ensures in
      let spelled = c.in_ok-entries-in-Open.ensures.entries told fits in
      let here = next_group old before log st size found new _ moved (subst (λ (l : List ℕ). EntriesOf (log.place + 5) c.in_ok-entries-in-Open.entries (take size (drop (log.place + 5) l))) shown1 spelled) in
      subst (λ (x : LogView). NextGroup (bytes_of x.file (site.shown c.args.site.now)) x new log.place c.in_ok-entries-in-Open.entries) c.self.view_is here;
  still = search rules;
  end = search rules;
  here = search rules;
  moved = search rules;
  onward = search rules;
  ended = search rules;
  failed = search rules;
}

pub returns-in_ok-entries-in-Open-clause-reads : goal.returns-in_ok-entries-in-Open-clause-reads
returns-in_ok-entries-in-Open-clause-reads g c = record {
  stands = λ told.
      let site = g.S.Site in
      let log : LogView = the_view c.self.inside in
      let old = bytes_of log.file (site.shown c.args.site.now) in
      let before = site.may_leave c.args.site.now in
      let st : StandsOn old before log = subst (λ (x : LogView). StandsOn (bytes_of x.file (site.shown c.args.site.now)) before x) (sym c.self.view_is) (c.requires.stands told) in
      let le : log.place ≤ log.length = omega (arith, place_inside old before log st, st.size) in
      let size = c.in-Open.size in
      let found : OpenFor c.in-Open.size (drop log.place old) = subst (λ x. Finds (drop log.place old) x) c.in-Open.is (c.in_ok-size.ensures.gate told st.size le) in
      let shown1 : bytes_of log.file (site.shown c.read_gate.new.site) ≡ old = ap (λ i. bytes_of log.file i) (c.in_ok-size.ensures.same told) in
      let fits : log.place + 5 + size ≤ length (bytes_of log.file (site.shown c.read_gate.new.site)) = omega (arith, inside old before log st size found, ap length shown1) in
      let new : LogView = the_view (record { file = c.self.inside.file; start = c.self.inside.start; place = c.self.inside.place + 5 + c.from.result; length = c.self.inside.length; ended = c.self.inside.ended; staged = c.self.inside.staged; spare = c.self.inside.spare }) in
      let moved : new ≡ record log { place = log.place + 5 + size } = ap (λ n. record log { place = log.place + 5 + n }) c.from.ensures in
      let shown2 : bytes_of log.file (site.shown c.read_payload.new.site) ≡ old = ap (λ i. bytes_of log.file i) (c.in_ok-entries-in-Open.ensures.same told (search rules)) ∙ shown1 in
      let later = site.may_leave c.read_payload.new.site in
      let here = stands_next old before log st size found later new moved (λ i here. st.certain i (c.read_gate.ensures.crash told i (c.read_payload.ensures.crash told i here))) in
      subst (λ (l : List ℕ). StandsOn l later new) (sym shown2) here;
  damaged = search rules;
  not_made = search rules;
  unchanged = search rules;
  keeps = record {
    shown = λ told fine. same_shown _ _ _ _ (c.in_ok-entries-in-Open.ensures.same told (search rules) ∙ c.in_ok-size.ensures.same told);
    any_moment = λ told.
        let site = g.S.Site in
        let file = c.args.self.now.file in
        let before = site.may_leave c.args.site.now in
        let P = After file (SameFrom c.args.self.now.start) before in
        let m = site.moment in
        let since = site.left_since in
        let start = started m since c.args.site.now P (λ i left. same_log file c.args.self.now.start before i (g.met.S.Site.only_now c.args.site.now i told left)) in
        let in_gate : (i : Image) → site.may_leave c.read_gate.new.site i → P i = λ i here. same_log file c.args.self.now.start before i (c.read_gate.ensures.crash told i here) in
        let gate = goes_on m since c.args.site.now c.args.site.now c.read_gate.new.site P _ start (c.read_gate.ensures.time told) in_gate in
        let in_payload : (i : Image) → site.may_leave c.read_payload.new.site i → P i = λ i here. in_gate i (c.read_payload.ensures.crash told i here) in
        goes_on m since c.args.site.now c.read_gate.new.site c.read_payload.new.site P _ gate (c.read_payload.ensures.time told) in_payload;
    cause = search rules;
  };
}

pub returns-in-Zero-clause-finds : goal.returns-in-Zero-clause-finds
returns-in-Zero-clause-finds g c = record {
  group = search rules;
  still = search rules;
  end = λ told.
      let site = g.S.Site in
      let log : LogView = the_view c.self.inside in
      let old = bytes_of log.file (site.shown c.args.site.now) in
      let before = site.may_leave c.args.site.now in
      let st : StandsOn old before log = subst (λ (x : LogView). StandsOn (bytes_of x.file (site.shown c.args.site.now)) before x) (sym c.self.view_is) (c.requires.stands told) in
      let le : log.place ≤ log.length = omega (arith, place_inside old before log st, st.size) in
      let shown1 : bytes_of log.file (site.shown c.read_gate.new.site) ≡ old = ap (λ i. bytes_of log.file i) (c.in_ok-size.ensures.same told) in
      let zero_there = subst (λ x. Finds (drop log.place old) x) c.in-Zero.is (c.in_ok-size.ensures.gate told st.size le) in
      let new : LogView = the_view (record { file = c.self.inside.file; start = c.self.inside.start; place = c.self.inside.place; length = c.self.inside.length; ended = true; staged = c.self.inside.staged; spare = c.self.inside.spare }) in
      let here = subst (λ (l : List ℕ). NoGroup old l log new) (sym shown1) (no_group_zero old before log st new zero_there.0 refl zero_there.1) in
      subst (λ (x : LogView). NoGroup (bytes_of x.file (site.shown c.args.site.now)) (bytes_of x.file (site.shown c.read_gate.new.site)) x new) c.self.view_is here;
  here = search rules;
  moved = search rules;
  onward = search rules;
  ended = search rules;
  failed = search rules;
}

pub returns-in-Zero-clause-reads : goal.returns-in-Zero-clause-reads
returns-in-Zero-clause-reads g c = record {
  stands = λ told.
      let site = g.S.Site in
      let log : LogView = the_view c.self.inside in
      let old = bytes_of log.file (site.shown c.args.site.now) in
      let before = site.may_leave c.args.site.now in
      let st : StandsOn old before log = subst (λ (x : LogView). StandsOn (bytes_of x.file (site.shown c.args.site.now)) before x) (sym c.self.view_is) (c.requires.stands told) in
      let le : log.place ≤ log.length = omega (arith, place_inside old before log st, st.size) in
      let found : (more : List ℕ) × (drop log.place old ≡ 0 ∷ more) = subst (λ x. Finds (drop log.place old) x) c.in-Zero.is (c.in_ok-size.ensures.gate told st.size le) in
      let shown1 : bytes_of log.file (site.shown c.read_gate.new.site) ≡ old = ap (λ i. bytes_of log.file i) (c.in_ok-size.ensures.same told) in
      let later = site.may_leave c.read_gate.new.site in
      let new : LogView = the_view (record { file = c.self.inside.file; start = c.self.inside.start; place = c.self.inside.place; length = c.self.inside.length; ended = true; staged = c.self.inside.staged; spare = c.self.inside.spare }) in
      let here = stands_zero old before log st later new found.0 refl found.1 (λ i here. st.certain i (c.read_gate.ensures.crash told i here)) in
      subst (λ (l : List ℕ). StandsOn l later new) (sym shown1) here;
  damaged = search rules;
  not_made = search rules;
  unchanged = search rules;
  keeps = record {
    shown = λ told fine. same_shown _ _ _ _ (c.in_ok-size.ensures.same told);
    any_moment = λ told.
        let site = g.S.Site in
        let file = c.args.self.now.file in
        let before = site.may_leave c.args.site.now in
        let P = After file (SameFrom c.args.self.now.start) before in
        let m = site.moment in
        let since = site.left_since in
        let start = started m since c.args.site.now P (λ i left. same_log file c.args.self.now.start before i (g.met.S.Site.only_now c.args.site.now i told left)) in
        let in_gate : (i : Image) → site.may_leave c.read_gate.new.site i → P i = λ i here. same_log file c.args.self.now.start before i (c.read_gate.ensures.crash told i here) in
        let gate = goes_on m since c.args.site.now c.args.site.now c.read_gate.new.site P _ start (c.read_gate.ensures.time told) in_gate in
        gate;
    cause = search rules;
  };
}

pub returns-in_ok-close_gate-in-NotZero-clause-finds : goal.returns-in_ok-close_gate-in-NotZero-clause-finds
returns-in_ok-close_gate-in-NotZero-clause-finds g c = record {
  group = search rules;
  still = search rules;
  end = λ told.
      let site = g.S.Site in
      let log : LogView = the_view c.self.inside in
      let old = bytes_of log.file (site.shown c.args.site.now) in
      let before = site.may_leave c.args.site.now in
      let st : StandsOn old before log = subst (λ (x : LogView). StandsOn (bytes_of x.file (site.shown c.args.site.now)) before x) (sym c.self.view_is) (c.requires.stands told) in
      let le : log.place ≤ log.length = omega (arith, place_inside old before log st, st.size) in
      let shown1 : bytes_of log.file (site.shown c.read_gate.new.site) ≡ old = ap (λ i. bytes_of log.file i) (c.in_ok-size.ensures.same told) in
      let neither : NeitherOpenNorZero (drop log.place old) = subst (λ x. Finds (drop log.place old) x) c.in-NotZero.is (c.in_ok-size.ensures.gate told st.size le) in
      let none : groups_past zero (drop log.place old) ≡ [] = neither.none in
      let certain1 : Certain log.file old (site.may_leave c.read_gate.new.site) = λ i here. st.certain i (c.read_gate.ensures.crash told i here) in
      let made : bytes_of log.file (site.shown c.close_gate.new.site) ≡ written old log.place (0 ∷ []) = ap (λ i. bytes_of log.file i) (c.in_ok-close_gate-in-NotZero.ensures.written told) ∙ bytes_of-with_bytes log.file _ _ ∙ ap (λ (l : List ℕ). written l log.place (0 ∷ [])) shown1 in
      let new : LogView = the_view (record { file = c.self.inside.file; start = c.self.inside.start; place = c.self.inside.place; length = c.max-self-inside.result; ended = true; staged = c.self.inside.staged; spare = c.self.inside.spare }) in
      let long : new ≡ record log { length = max log.length (log.place + 1); ended = true } = ap (λ n. record log { length = n; ended = true }) c.max-self-inside.ensures in
      let here = subst (λ (l : List ℕ). NoGroup old l log new) (sym made) (no_group old before log st new long none) in
      subst (λ (x : LogView). NoGroup (bytes_of x.file (site.shown c.args.site.now)) (bytes_of x.file (site.shown c.close_gate.new.site)) x new) c.self.view_is here;
  here = search rules;
  moved = search rules;
  onward = search rules;
  ended = search rules;
  failed = search rules;
}

pub returns-in_ok-close_gate-in-NotZero-clause-reads : goal.returns-in_ok-close_gate-in-NotZero-clause-reads
returns-in_ok-close_gate-in-NotZero-clause-reads g c = record {
  stands = λ told.
      let site = g.S.Site in
      let log : LogView = the_view c.self.inside in
      let old = bytes_of log.file (site.shown c.args.site.now) in
      let before = site.may_leave c.args.site.now in
      let st : StandsOn old before log = subst (λ (x : LogView). StandsOn (bytes_of x.file (site.shown c.args.site.now)) before x) (sym c.self.view_is) (c.requires.stands told) in
      let le : log.place ≤ log.length = omega (arith, place_inside old before log st, st.size) in
      let shown1 : bytes_of log.file (site.shown c.read_gate.new.site) ≡ old = ap (λ i. bytes_of log.file i) (c.in_ok-size.ensures.same told) in
      let neither : NeitherOpenNorZero (drop log.place old) = subst (λ x. Finds (drop log.place old) x) c.in-NotZero.is (c.in_ok-size.ensures.gate told st.size le) in
      let none : groups_past zero (drop log.place old) ≡ [] = neither.none in
      let certain1 : Certain log.file old (site.may_leave c.read_gate.new.site) = λ i here. st.certain i (c.read_gate.ensures.crash told i here) in
      let made : bytes_of log.file (site.shown c.close_gate.new.site) ≡ written old log.place (0 ∷ []) = ap (λ i. bytes_of log.file i) (c.in_ok-close_gate-in-NotZero.ensures.written told) ∙ bytes_of-with_bytes log.file _ _ ∙ ap (λ (l : List ℕ). written l log.place (0 ∷ [])) shown1 in
      let new : LogView = the_view (record { file = c.self.inside.file; start = c.self.inside.start; place = c.self.inside.place; length = c.max-self-inside.result; ended = true; staged = c.self.inside.staged; spare = c.self.inside.spare }) in
      let long : new ≡ record log { length = max log.length (log.place + 1); ended = true } = ap (λ n. record log { length = n; ended = true }) c.max-self-inside.ensures in
      let later = site.may_leave c.close_gate.new.site in
      let certain = subst (λ (l : List ℕ). Certain log.file (written l log.place (0 ∷ [])) later) shown1 (c.in_ok-close_gate-in-NotZero.ensures.certain told) in
      subst (λ (l : List ℕ). StandsOn l later new) (sym made) (stands_shut old before log st later new long certain);
  damaged = search rules;
  not_made = search rules;
  unchanged = search rules;
  keeps = record {
    shown = λ told fine.
        let site = g.S.Site in
        let log : LogView = the_view c.self.inside in
        let old = bytes_of log.file (site.shown c.args.site.now) in
        let before = site.may_leave c.args.site.now in
        let st : StandsOn old before log = subst (λ (x : LogView). StandsOn (bytes_of x.file (site.shown c.args.site.now)) before x) (sym c.self.view_is) (c.requires.stands told) in
        let le : log.place ≤ log.length = omega (arith, place_inside old before log st, st.size) in
        let neither : NeitherOpenNorZero (drop log.place old) = subst (λ x. Finds (drop log.place old) x) c.in-NotZero.is (c.in_ok-size.ensures.gate told st.size le) in
        let is = c.in_ok-close_gate-in-NotZero.ensures.written told ∙ ap (λ i. with_bytes log.file (written (bytes_of log.file i) log.place (0 ∷ [])) i) (c.in_ok-size.ensures.same told) in
        let step = shut_step old before log st (site.shown c.args.site.now) (site.shown c.close_gate.new.site) neither.none refl is in
        subst (λ (x : LogView). FileStep x.file (SameFrom x.start) (site.shown c.args.site.now) (site.shown c.close_gate.new.site)) c.self.view_is step;
    any_moment = λ told.
        let site = g.S.Site in
        let log : LogView = the_view c.self.inside in
        let old = bytes_of log.file (site.shown c.args.site.now) in
        let before = site.may_leave c.args.site.now in
        let st : StandsOn old before log = subst (λ (x : LogView). StandsOn (bytes_of x.file (site.shown c.args.site.now)) before x) (sym c.self.view_is) (c.requires.stands told) in
        let le : log.place ≤ log.length = omega (arith, place_inside old before log st, st.size) in
        let shown1 : bytes_of log.file (site.shown c.read_gate.new.site) ≡ old = ap (λ i. bytes_of log.file i) (c.in_ok-size.ensures.same told) in
        let neither : NeitherOpenNorZero (drop log.place old) = subst (λ x. Finds (drop log.place old) x) c.in-NotZero.is (c.in_ok-size.ensures.gate told st.size le) in
        let none : groups_past zero (drop log.place old) ≡ [] = neither.none in
        let certain1 : Certain log.file old (site.may_leave c.read_gate.new.site) = λ i here. st.certain i (c.read_gate.ensures.crash told i here) in
        let P = After log.file (SameFrom log.start) before in
        let m = site.moment in
        let since = site.left_since in
        let start = started m since c.args.site.now P (λ i left. same_log log.file log.start before i (g.met.S.Site.only_now c.args.site.now i told left)) in
        let in_gate : (i : Image) → site.may_leave c.read_gate.new.site i → P i = λ i here. same_log log.file log.start before i (c.read_gate.ensures.crash told i here) in
        let gate = goes_on m since c.args.site.now c.args.site.now c.read_gate.new.site P _ start (c.read_gate.ensures.time told) in_gate in
        let closes = weaker m since c.read_gate.new.site c.close_gate.new.site (After log.file (ShutAt log.place) (site.may_leave c.read_gate.new.site)) P
        (each_closing old before log st before (site.may_leave c.read_gate.new.site) (λ i here. c.read_gate.ensures.crash told i here) certain1 none) (c.close_gate.ensures.any_moment told) in
        let all = joined m since c.args.site.now c.read_gate.new.site c.close_gate.new.site P gate closes in
        subst (λ (x : LogView). LeavesOnly m since c.args.site.now c.close_gate.new.site (After x.file (SameFrom x.start) before)) c.self.view_is all;
    cause = search rules;
  };
}
