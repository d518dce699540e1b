-- A drill over a site that was opened, or wasn't.
use Rattle.std.proofs.Common.{◌≡◌, ◌⊎◌, ◌≤◌, ℕ, List, [], ◌++◌, take, drop, refl, sym, ap, ◌∙◌, subst, inl, inr, ⊎_elim, append-nil, take-append-drop, arith, true, Option, Some, None, IfSome, Ok, Err}
use Rattle.std.specs.declared.result.Result.{Result}
use Rattle.qc_protocol.specs.declared.status.Status.{Status}
use Rattle.qc_protocol.specs.declared.status.Status.TheVariants.{Done, SinkFault as SinkStatus, SiteFault as SiteStatus, NotMade as NotMadeStatus, NoCatalogue as NoCatalogueStatus, Damaged as DamagedStatus, NoMemory as MemoryStatus}
use Rattle.qc_protocol.specs.Texts.{lines_of}
use Rattle.qc_site.specs.declared.site.Site.{Ghosts}
use Rattle.qc_site.specs.declared.site.SiteFile.{SiteFile}
use Rattle.qc_site.specs.declared.site.SiteFile.TheVariants.{Journal, CrmLog, Snap}
use Rattle.qc_site.specs.Image.{Image}
use Rattle.qc_site.specs.Disk.{LeavesOnly}
use Rattle.qc_site.proofs.Moments.{weaker, joined}
use Rattle.qc_machine.proofs.Images.{stays-joined}
use Rattle.qc_frame.specs.declared.error.Damage.{Damage}
use Rattle.qc_machine.specs.declared.error.OpenError.TheVariants.{SiteFault as open_fault, NotMade as not_made, NoCatalogue as no_catalogue, Damaged as damaged, NoMemory as open_memory}
use Rattle.qc_machine.specs.Sites.{LeavesSame}
use Rattle.qc_machine.specs.State.{State}
use Rattle.qc_hub.specs.declared.hub.Hub.{Hub}
use Rattle.qc_hub.specs.Calls.{OpensSite, ReadsSite, LeavesDamaged, LeavesUnopened}
use Rattle.qc_drill.specs.declared.stop.Stop.{Stop}
use Rattle.qc_drill.specs.declared.stop.Stop.TheVariants.{SourceFault, SinkFault, SiteFault, InputLong, NoMemory}
use Rattle.qc_drill.specs.Calls.{ReadsAll, LinesFrom}
use Rattle.qc_drill.specs.Crash.{IsAnswered, StopsOpening, LeavesFront, LeavesOpened}
use Rattle.qc_drill.specs.Fronts.{IsFrontOf, Wrote}
use Rattle.qc_drill.specs.Headline.{programs_limits, is_of_drill, drill_out, WritesReplies, LeavesState, IsAcknowledged, RunsFrom, Drills}
use Rattle.qc_drill.specs.Reads.{HasRead, ReadsBy, most_input}
use Rattle.qc_drill.specs.Stops.{AnswersAll, ended_as}
use Rattle.qc_drill.specs.Unopened.{damage_line, HoldsLine, TellsDamage, LeavesUnread}
use Rattle.qc_drill.proofs.Joined.{wrote-none}
use Rattle.qc_drill.proofs.Lines.{front-none, stops-front}
use Rattle.qc_drill.proofs.Reading.{took-none}

-- nothing was read
unread : (status : Status) (left : Option (List ℕ)) → ReadsBy status [] [] → (status ≡ Done → ⊥) → HasRead status left left [] []
unread status left read never = record { source = took-none left; most = omega arith; read = read; first = λ bytes is. front-none (lines_of bytes); end = λ e. absurd (never e) }

-- the line on damage was told, or a front of it, or nothing

pub record Told (line : List ℕ) (status : Status) (before now : Option (List ℕ)) : Type 0 where
  pub text : List ℕ
  pub wrote : Wrote text before now
  pub by : ((status ≡ DamagedStatus) × (text ≡ line)) ⊎ (((status ≡ SinkStatus) × IsFrontOf line text) ⊎ ((status ≡ MemoryStatus) × (text ≡ [])))

pub held-all : (line : List ℕ) (before now : Option (List ℕ)) → IfSome before (λ held. now ≡ Some (held ++ line)) → Wrote line before now
held-all line before now told = λ held is. subst (λ (o : Option (List ℕ)). IfSome o (λ held. now ≡ Some (held ++ line))) is told

pub held-part : (line : List ℕ) (before now : Option (List ℕ)) → IfSome before (λ held. (n : ℕ) × (now ≡ Some (held ++ take n line))) → (n : ℕ) × Wrote (take n line) before now
held-part line None now told = (0, λ held is. cc)
held-part line (Some held) now told = (told.0, λ was is. let same : held ≡ was = cc in told.1 ∙ ap (λ (h : List ℕ). Some (h ++ take told.0 line)) same)

pub held-none : (before now : Option (List ℕ)) → IfSome before (λ held. now ≡ Some held) → Wrote [] before now
held-none before now told = λ held is. subst (λ (o : Option (List ℕ)). IfSome o (λ held. now ≡ Some held)) is told ∙ ap (λ (t : List ℕ). Some t) (sym (append-nil held))

pub line-told : (line : List ℕ) (status : Status) (before now : Option (List ℕ)) → IfSome before (λ held. HoldsLine held line status now) → (status ≡ DamagedStatus) ⊎ ((status ≡ SinkStatus) ⊎ (status ≡ MemoryStatus)) → Told line status before now
line-told line status before now told kinds = ⊎_elim all (⊎_elim part none) kinds
  where
    by : (s : Status) → status ≡ s → IfSome before (λ held. HoldsLine held line s now)
    by s e = subst (λ (x : Status). IfSome before (λ held. HoldsLine held line x now)) e told

    all : status ≡ DamagedStatus → Told line status before now
    all e = record { text = line; wrote = held-all line before now (by DamagedStatus e); by = inl (e, refl) }

    part : status ≡ SinkStatus → Told line status before now
    part e = let p = held-part line before now (by SinkStatus e) in record { text = take p.0 line; wrote = p.1; by = inr (inl (e, record { rest = drop p.0 line; is = sym (take-append-drop p.0 line) })) }

    none : status ≡ MemoryStatus → Told line status before now
    none e = record { text = []; wrote = held-none before now (by MemoryStatus e); by = inr (inr (e, refl)) }

damaged-left : (file : SiteFile) (before now : Image) → LeavesDamaged file before now → LeavesUnopened open_memory before now
damaged-left Journal before now same = inl same
damaged-left CrmLog before now same = inr (inl same)
damaged-left Snap before now same = absurd same

module _ {S : Type 0} (g : Ghosts S) where
  -- an opening that didn't end, and nothing was written

  fails : (s : State) (text : List ℕ) (status : Status) (site after : S) → ((site : S) (t : ℕ) (c : Image) → g.told → t ≤ g.moment site → g.may_leave site c → g.left_since site t c) → g.told → text ≡ []
      → LeavesOnly g.moment g.left_since site after (LeavesSame (g.may_leave site)) → StopsOpening s text (g.may_leave site) (g.may_leave after)
  fails s text status site after counts told none any = record {
    front = record { rest = []; is = sym (append-nil text ∙ none) };
    images = λ c here. any.each c (counts after (g.moment site) c told any.later here);
  }

  opening-moment : (s : State) (lines : List (List ℕ)) (site after : S) → LeavesOnly g.moment g.left_since site after (LeavesSame (g.may_leave site)) → LeavesOnly g.moment g.left_since site after (LeavesOpened (g.may_leave site) s lines)
  opening-moment s lines site after any = weaker g.moment g.left_since site after _ _ (λ c left. inl left) any

  pub fault-drills : (site after : S) (left contents : Option (List ℕ)) → ((site : S) (t : ℕ) (c : Image) → g.told → t ≤ g.moment site → g.may_leave site c → g.left_since site t c) → OpensSite g programs_limits (Err open_fault) site after
      → Drills g SiteStatus site left contents after left contents
  fault-drills site after left contents counts opens = record {
    kinds = refl;
    taken = [];
    lines = [];
    text = [];
    read = unread SiteStatus left (front-none (lines_of (take most_input []))) (λ e. cc);
    wrote = wrote-none contents;
    opened = λ told e. absurd cc;
    runs = λ told s reads. record {
      replies = front-none (drill_out s []);
      leaves = tt;
      acknowledged = inr (fails s [] SiteStatus site after counts told refl (opens.told told).any_moment);
      any_moment = opening-moment s [] site after (opens.told told).any_moment;
    };
    nowhere = λ told none. record { untaken = refl; leaves = refl; any_moment = (opens.told told).any_moment };
  }

  pub memory-drills : (site after : S) (left contents : Option (List ℕ)) → ((site : S) (t : ℕ) (c : Image) → g.told → t ≤ g.moment site → g.may_leave site c → g.left_since site t c) → OpensSite g programs_limits (Err open_memory) site after
      → Drills g MemoryStatus site left contents after left contents
  memory-drills site after left contents counts opens = record {
    kinds = refl;
    taken = [];
    lines = [];
    text = [];
    read = unread MemoryStatus left (front-none (lines_of (take most_input []))) (λ e. cc);
    wrote = wrote-none contents;
    opened = λ told e. absurd cc;
    runs = λ told s reads. record {
      replies = front-none (drill_out s []);
      leaves = tt;
      acknowledged = inr (fails s [] MemoryStatus site after counts told refl (opens.told told).any_moment);
      any_moment = opening-moment s [] site after (opens.told told).any_moment;
    };
    nowhere = λ told none. record { untaken = refl; leaves = (refl, (opens.told told).unopened); any_moment = (opens.told told).any_moment };
  }

  pub unmade-drills : (site after : S) (left contents : Option (List ℕ)) → OpensSite g programs_limits (Err not_made) site after → Drills g NotMadeStatus site left contents after left contents
  unmade-drills site after left contents opens = record {
    kinds = refl;
    taken = [];
    lines = [];
    text = [];
    read = unread NotMadeStatus left (refl, refl) (λ e. cc);
    wrote = wrote-none contents;
    opened = λ told e. absurd cc;
    runs = λ told s reads. absurd ((opens.told told).no_history refl (λ e. cc) (λ e. cc) s reads);
    nowhere = λ told none. let o = opens.told told in record { untaken = refl; leaves = (o.not_made refl, (refl, o.unopened)); any_moment = o.any_moment };
  }

  pub empty-drills : (site after : S) (left contents : Option (List ℕ)) → OpensSite g programs_limits (Err no_catalogue) site after → Drills g NoCatalogueStatus site left contents after left contents
  empty-drills site after left contents opens = record {
    kinds = refl;
    taken = [];
    lines = [];
    text = [];
    read = unread NoCatalogueStatus left (refl, refl) (λ e. cc);
    wrote = wrote-none contents;
    opened = λ told e. absurd cc;
    runs = λ told s reads. absurd ((opens.told told).no_history refl (λ e. cc) (λ e. cc) s reads);
    nowhere = λ told none. let o = opens.told told in let is = o.no_catalogue refl in record { untaken = refl; leaves = (record { headers = is.0; none = is.1 }, (refl, o.unopened)); any_moment = o.any_moment };
  }

  -- files that stand for no history, and the line on it

  tells : (d : Damage) (site after : S) (line : List ℕ) → line ≡ damage_line d → ReadsSite g programs_limits (Err (damaged d)) site after → TellsDamage (g.shown site) line (g.shown after)
  tells d site after line is o = let at = o.damaged d refl in record { damage = d; headers = at.0; place = at.1; is = is; leaves = o.unopened }

  pub damaged-drills : (d : Damage) (status : Status) (site after : S) (left contents now : Option (List ℕ)) → OpensSite g programs_limits (Err (damaged d)) site after → Told (damage_line d) status contents now → Drills g status site left contents after left now
  damaged-drills d status site after left contents now opens t = ⊎_elim (λ is. all is.0 is.1) (⊎_elim (λ is. part is.0 is.1) (λ is. none is.0 is.1)) t.by
    where
      by : (s : Status) → is_of_drill s ≡ true → status ≡ s → ReadsBy s [] [] → (s ≡ Done → ⊥) → (g.told → LeavesUnread (g.shown site) t.text s (g.shown after)) → Drills g status site left contents after left now
      by s kinds e read never leaves = subst (λ (x : Status). Drills g x site left contents after left now) (sym e) (record {
        kinds = kinds;
        taken = [];
        lines = [];
        text = t.text;
        read = unread s left read never;
        wrote = t.wrote;
        opened = λ told e. absurd (never e);
        runs = λ told s reads. absurd ((opens.told told).no_history refl (λ e. cc) (λ e. cc) s reads);
        nowhere = λ told none. record { untaken = refl; leaves = leaves told; any_moment = (opens.told told).any_moment };
      })

      all : status ≡ DamagedStatus → t.text ≡ damage_line d → Drills g status site left contents after left now
      all e is = by DamagedStatus refl e (refl, refl) (λ e. cc) (λ told. tells d site after t.text is (opens.told told))

      part : status ≡ SinkStatus → IsFrontOf (damage_line d) t.text → Drills g status site left contents after left now
      part e front = by SinkStatus refl e (front-none (lines_of (take most_input []))) (λ e. cc) (λ told. record { line = damage_line d; tells = tells d site after (damage_line d) refl (opens.told told); front = front })

      none : status ≡ MemoryStatus → t.text ≡ [] → Drills g status site left contents after left now
      none e is = by MemoryStatus refl e (front-none (lines_of (take most_input []))) (λ e. cc) (λ told. (is, damaged-left d.file (g.shown site) (g.shown after) (opens.told told).unopened))

  -- a drill that was opened

  front-opened : (s : State) (lines : List (List ℕ)) (site mid : S) → ((site : S) (t : ℕ) (c : Image) → g.told → t ≤ g.moment site → g.may_leave site c → g.left_since site t c) → g.told
      → LeavesOnly g.moment g.left_since site mid (LeavesSame (g.may_leave site)) → (c : Image) → LeavesFront (g.may_leave mid) s lines c → LeavesFront (g.may_leave site) s lines c
  front-opened s lines site mid counts told any c left =
      let d = any.each left.was (counts mid (g.moment site) left.was told any.later left.there) in
      record { was = d.was; there = d.there; others = stays-joined d.was left.was c d.same.others left.others; state = left.state; is = left.is; stands = left.stands }

  pub opened-drills : (result : Result (Unit {0}) Stop) (hub new : Hub) (site mid after : S) (left left_now contents now : Option (List ℕ)) → ((site : S) (t : ℕ) (c : Image) → g.told → t ≤ g.moment site → g.may_leave site c → g.left_since site t c)
      → OpensSite g programs_limits (Ok hub) site mid → ReadsAll g result hub mid left contents new after left_now now → Drills g (ended_as result) site left contents after left_now now
  opened-drills result hub new site mid after left left_now contents now counts opens r = record {
    kinds = kinds result;
    taken = r.taken;
    lines = r.lines;
    text = r.answers.text;
    read = r.read;
    wrote = r.answers.wrote;
    opened = λ told e. (opens.told told).reads;
    runs = λ told s reads.
        let o = opens.told told in
        let is = o.state s reads in
        from s o (r.answers.told told s is.0 is.1) told;
    nowhere = λ told none. let some = (opens.told told).reads in absurd (none some.0 some.1);
  }
    where
      kinds : (x : Result (Unit {0}) Stop) → is_of_drill (ended_as x) ≡ true
      kinds (Ok u) = refl
      kinds (Err SourceFault) = refl
      kinds (Err SinkFault) = refl
      kinds (Err SiteFault) = refl
      kinds (Err InputLong) = refl
      kinds (Err NoMemory) = refl

      replies : (x : Result (Unit {0}) Stop) (s : State) (lines : List (List ℕ)) (text : List ℕ) → LinesFrom g s lines text (AnswersAll x) mid new after → WritesReplies s lines text (ended_as x)
      replies (Ok u) s lines text l = (l.done tt).replies
      replies (Err SourceFault) s lines text l = (l.done tt).replies
      replies (Err InputLong) s lines text l = (l.done tt).replies
      replies (Err SinkFault) s lines text l = stops-front s lines text (g.may_leave after) l.stops
      replies (Err SiteFault) s lines text l = stops-front s lines text (g.may_leave after) l.stops
      replies (Err NoMemory) s lines text l = stops-front s lines text (g.may_leave after) l.stops

      state : (x : Result (Unit {0}) Stop) (s : State) (lines : List (List ℕ)) (text : List ℕ) → ReadsSite g programs_limits (Ok hub) site mid → LinesFrom g s lines text (AnswersAll x) mid new after → LeavesState s lines (g.shown site) (g.shown after) (ended_as x)
      state (Ok u) s lines text o l = record { others = stays-joined (g.shown site) (g.shown mid) (g.shown after) o.others.others (l.done tt).others; site = (l.done tt).on_site }
      state (Err SourceFault) s lines text o l = record { others = stays-joined (g.shown site) (g.shown mid) (g.shown after) o.others.others (l.done tt).others; site = (l.done tt).on_site }
      state (Err InputLong) s lines text o l = record { others = stays-joined (g.shown site) (g.shown mid) (g.shown after) o.others.others (l.done tt).others; site = (l.done tt).on_site }
      state (Err SinkFault) s lines text o l = tt
      state (Err SiteFault) s lines text o l = tt
      state (Err NoMemory) s lines text o l = tt

      acknowledged : (x : Result (Unit {0}) Stop) (s : State) (lines : List (List ℕ)) (text : List ℕ) → IsAnswered s lines text (g.may_leave after) → IsAcknowledged s lines text (g.may_leave site) (g.may_leave after) (ended_as x)
      acknowledged (Ok u) s lines text a = a
      acknowledged (Err SourceFault) s lines text a = a
      acknowledged (Err InputLong) s lines text a = a
      acknowledged (Err SinkFault) s lines text a = a
      acknowledged (Err SiteFault) s lines text a = inl a
      acknowledged (Err NoMemory) s lines text a = inl a

      from : (s : State) → ReadsSite g programs_limits (Ok hub) site mid → LinesFrom g s r.lines r.answers.text (AnswersAll result) mid new after → g.told → RunsFrom g s r.lines r.answers.text (ended_as result) site after
      from s o l told = record {
        replies = replies result s r.lines r.answers.text l;
        leaves = state result s r.lines r.answers.text o l;
        acknowledged = acknowledged result s r.lines r.answers.text (record { said = r.answers.text; is = refl; stands = l.stops });
        any_moment = joined g.moment g.left_since site mid after (LeavesOpened (g.may_leave site) s r.lines)
            (opening-moment s r.lines site mid o.any_moment)
            (weaker g.moment g.left_since mid after _ _ (λ c left. inr (front-opened s r.lines site mid counts told o.any_moment c left)) l.any_moment);
      }
