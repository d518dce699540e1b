-- What the statuses of a drill tell.
use Rattle.std.proofs.Common.{Bool, false, ◌≡◌, ◌<◌, ℕ, List, [], ◌∷◌, ◌++◌, length, map, true, refl, sym, ap, ◌∙◌, subst, inl, inr, ⊎_elim, arith, length-append, Option, Some, None, IfSome}
use Rattle.qc_protocol.specs.declared.status.Status.{Status}
use Rattle.qc_protocol.specs.declared.status.Status.TheVariants.{Done, BadWords, SourceFault, SinkFault, SiteFault, NotMade, NoCatalogue, AlreadyMade, BadCatalogue, Damaged, InputLong, NoMemory, DoorFault, SpawnFault}
use Rattle.qc_protocol.specs.Texts.{lines_of}
use Rattle.qc_base.specs.declared.fact.Fact.{Fact}
use Rattle.qc_site.specs.declared.site.Site.{Ghosts}
use Rattle.qc_site.specs.Image.{Image}
use Rattle.qc_site.specs.Disk.{LeavesOnly}
use Rattle.qc_site.proofs.Moments.{weaker}
use Rattle.qc_frame.specs.Frame.{groups, groups_at}
use Rattle.qc_journal.specs.History.{SpellsHistory, fact_payload}
use Rattle.qc_frame.specs.declared.error.Damage.{Damage}
use Rattle.qc_machine.specs.History.{by_text, is_legal}
use Rattle.qc_machine.specs.Opening.{DamagedAt, DamagedJournal}
use Rattle.qc_machine.specs.Sites.{HasHeaders, ReadsAs}
use Rattle.qc_machine.specs.State.{State}
use Rattle.qc_drill.specs.Crash.{LeavesOpened, LeavesFront}
use Rattle.qc_drill.specs.Fronts.{IsFrontOf}
use Rattle.std.specs.Prelude.{codes}
use Rattle.std.specs.Str.{bytes_eq}
use Rattle.std.proofs.lemmas.Slice.Eq.{bytes_eq-Decides}
use Rattle.qc_drill.specs.Words.{is_word}
use Rattle.qc_drill.specs.Inits.{is_of_init, LeavesInit, ReadsWhole, Inits}
use Rattle.qc_journal.specs.History.{IsMade}
use Rattle.qc_drill.specs.Headline.{programs_limits, is_of_drill, is_of_run, is_unfailed, is_unmade, is_empty_site, WritesReplies, Drills}
use Rattle.qc_drill.specs.Reads.{most_input, ReadsBy}
use Rattle.qc_drill.specs.Unopened.{HasNoGroup, LeavesUnread}
use Rattle.qc_drill.proofs.Lines.{leaves-more}

pub where-told : (left : Option (List ℕ)) (P : List ℕ → Type 0) → ((bytes : List ℕ) → left ≡ Some bytes → P bytes) → IfSome left P
where-told None P h = tt
where-told (Some bytes) P h = h bytes refl

pub of-run : (status : Status) → is_of_drill status ≡ true → is_of_run status ≡ true
of-run Done e = refl
of-run BadWords e = refl
of-run SourceFault e = refl
of-run SinkFault e = refl
of-run SiteFault e = refl
of-run NotMade e = refl
of-run NoCatalogue e = refl
of-run AlreadyMade e = refl
of-run BadCatalogue e = refl
of-run Damaged e = refl
of-run InputLong e = refl
of-run NoMemory e = refl
of-run DoorFault e = e
of-run SpawnFault e = e

pub of-run-init : (status : Status) → is_of_init status ≡ true → is_of_run status ≡ true
of-run-init Done e = refl
of-run-init BadWords e = refl
of-run-init SourceFault e = refl
of-run-init SinkFault e = refl
of-run-init SiteFault e = refl
of-run-init NotMade e = refl
of-run-init NoCatalogue e = refl
of-run-init AlreadyMade e = refl
of-run-init BadCatalogue e = refl
of-run-init Damaged e = refl
of-run-init InputLong e = refl
of-run-init NoMemory e = refl
of-run-init DoorFault e = e
of-run-init SpawnFault e = e

-- a status that isn't among these
pub not-among : (P : Status → Bool) (status x : Status) → P status ≡ true → P x ≡ false → status ≡ x → ⊥
not-among P status x is other e = let never : true ≡ false = sym (subst (λ (y : Status). P y ≡ true) e is) ∙ other in cc

-- no word is both
pub words-apart : (words : List (List ℕ)) → is_word (codes "drill") words ≡ true → is_word (codes "init") words ≡ true → ⊥
words-apart [] d i = cc
words-apart (word ∷ []) d i =
    let one : word ≡ codes "drill" = (bytes_eq-Decides word (codes "drill")).0 d in
    let never : bytes_eq (codes "drill") (codes "init") ≡ true = subst (λ (w : List ℕ). bytes_eq w (codes "init") ≡ true) one i in
    cc
words-apart (word ∷ next ∷ words) d i = cc

pub not-bad : (status : Status) → is_of_drill status ≡ true → status ≡ BadWords → ⊥
not-bad status kinds e = let no : is_of_drill BadWords ≡ true = subst (λ (x : Status). is_of_drill x ≡ true) e kinds in cc

empty : (l : List ℕ) → length l ≡ 0 → l ≡ []
empty [] z = refl
empty (b ∷ l) z = absurd (omega (arith, z))

-- a journal that stands for a history has a group, and so has one that is damaged

legal-some : (file : List ℕ) (facts : List Fact) → SpellsHistory file facts → is_legal by_text facts ≡ true → groups file ≡ [] → ⊥
legal-some file [] spelled legal none = cc
legal-some file (fact ∷ facts) spelled legal none = absurd (omega (arith, ap length (sym spelled.groups ∙ none)))

next-some : (all front rest : List (List ℕ)) (payload : List ℕ) (at : List (List ℕ)) → all ≡ front ++ at → at ≡ payload ∷ rest → all ≡ [] → ⊥
next-some all front rest payload at is next none = omega (arith, ap length (sym none ∙ is), length-append front at, ap length next)

damaged-some : (image : Image) (d : Damage) → DamagedAt image d → groups image.journal ≡ [] → ⊥
damaged-some image d at none = ⊎_elim (λ j. in_journal j.1) (λ l. legal-some image.journal l.1.facts l.1.spelled l.1.legal none) at
  where
    in_journal : DamagedJournal image.journal d.at → ⊥
    in_journal j = ⊎_elim (λ u. next-some (groups image.journal) (map fact_payload j.facts) _ u.payload (groups_at image.journal j.place) j.front.spelled u.next none)
        (λ u. next-some (groups image.journal) (map fact_payload j.facts) u.rest (fact_payload u.fact) (groups_at image.journal j.place) j.front.spelled u.next none) j.unfit

reads-some : (image : Image) (s : State) → HasNoGroup image → ReadsAs programs_limits image s → ⊥
reads-some image s none reads = legal-some image.journal reads.facts reads.stands.spelled reads.stands.legal none.none

-- the statuses that may come

unfailed-is : (s : State) (lines : List (List ℕ)) (text : List ℕ) (status : Status) → WritesReplies s lines text status → (status ≡ SourceFault → ⊥) → (status ≡ SinkFault → ⊥) → (status ≡ SiteFault → ⊥) → is_unfailed status ≡ true
unfailed-is s lines text Done w a b c = refl
unfailed-is s lines text BadWords w a b c = absurd w
unfailed-is s lines text SourceFault w a b c = absurd (a refl)
unfailed-is s lines text SinkFault w a b c = absurd (b refl)
unfailed-is s lines text SiteFault w a b c = absurd (c refl)
unfailed-is s lines text NotMade w a b c = absurd w
unfailed-is s lines text NoCatalogue w a b c = absurd w
unfailed-is s lines text AlreadyMade w a b c = absurd w
unfailed-is s lines text BadCatalogue w a b c = absurd w
unfailed-is s lines text Damaged w a b c = absurd w
unfailed-is s lines text InputLong w a b c = refl
unfailed-is s lines text NoMemory w a b c = refl
unfailed-is s lines text DoorFault w a b c = absurd w
unfailed-is s lines text SpawnFault w a b c = absurd w

unmade-is : (before now : Image) (text : List ℕ) (status : Status) → LeavesUnread before text status now → ¬ HasHeaders before → is_unmade status ≡ true
unmade-is before now text Done l differs = absurd l
unmade-is before now text BadWords l differs = absurd l
unmade-is before now text SourceFault l differs = absurd l
unmade-is before now text SinkFault l differs = absurd (differs l.tells.headers)
unmade-is before now text SiteFault l differs = refl
unmade-is before now text NotMade l differs = refl
unmade-is before now text NoCatalogue l differs = absurd (differs l.0.headers)
unmade-is before now text AlreadyMade l differs = absurd l
unmade-is before now text BadCatalogue l differs = absurd l
unmade-is before now text Damaged l differs = absurd (differs l.headers)
unmade-is before now text InputLong l differs = absurd l
unmade-is before now text NoMemory l differs = refl
unmade-is before now text DoorFault l differs = absurd l
unmade-is before now text SpawnFault l differs = absurd l

empty-is : (before now : Image) (text : List ℕ) (status : Status) → LeavesUnread before text status now → HasNoGroup before → is_empty_site status ≡ true
empty-is before now text Done l differs = absurd l
empty-is before now text BadWords l differs = absurd l
empty-is before now text SourceFault l differs = absurd l
empty-is before now text SinkFault l differs = absurd (damaged-some before l.tells.damage l.tells.place differs.none)
empty-is before now text SiteFault l differs = refl
empty-is before now text NotMade l differs = absurd (l.0 differs.headers)
empty-is before now text NoCatalogue l differs = refl
empty-is before now text AlreadyMade l differs = absurd l
empty-is before now text BadCatalogue l differs = absurd l
empty-is before now text Damaged l differs = absurd (damaged-some before l.damage l.place differs.none)
empty-is before now text InputLong l differs = absurd l
empty-is before now text NoMemory l differs = refl
empty-is before now text DoorFault l differs = absurd l
empty-is before now text SpawnFault l differs = absurd l

module _ {S : Type 0} (g : Ghosts S) (status : Status) (site after : S) (left left_now contents now : Option (List ℕ)) (d : Drills g status site left contents after left_now now) where
  pub done-end : status ≡ Done → IfSome left (λ bytes. left_now ≡ Some [])
  done-end e = where-told left (λ bytes. left_now ≡ Some []) (λ bytes is.
      let t = d.read.source bytes is in
      let none : t.rest ≡ [] = empty t.rest (omega (arith, ap length t.is, length-append d.taken t.rest, ap length (d.read.end e bytes is))) in
      t.left ∙ ap (λ (r : List ℕ). Some r) none)

  pub long-input : status ≡ InputLong → IfSome left (λ bytes. most_input < length bytes)
  long-input e = where-told left (λ bytes. most_input < length bytes) (λ bytes is.
      let t = d.read.source bytes is in
      let read : ReadsBy InputLong d.taken d.lines = subst (λ (x : Status). ReadsBy x d.taken d.lines) e d.read.read in
      omega (arith, read.0, ap length t.is, length-append d.taken t.rest))

  pub all-moments : g.told → (s : State) → ReadsAs programs_limits (g.shown site) s → IfSome left (λ bytes. LeavesOnly g.moment g.left_since site after (LeavesOpened (g.may_leave site) s (lines_of bytes)))
  all-moments told s reads = where-told left (λ bytes. LeavesOnly g.moment g.left_since site after (LeavesOpened (g.may_leave site) s (lines_of bytes))) (λ bytes is.
      weaker g.moment g.left_since site after _ _ (more bytes (d.read.first bytes is)) (d.runs told s reads).any_moment)
    where
      more : (bytes : List ℕ) → IsFrontOf (lines_of bytes) d.lines → (c : Image) → LeavesOpened (g.may_leave site) s d.lines c → LeavesOpened (g.may_leave site) s (lines_of bytes) c
      more bytes front c left =
          ⊎_elim (λ same. inl same) (λ l. inr (subst (λ (ls : List (List ℕ)). LeavesFront (g.may_leave site) s ls c) (sym front.is) (leaves-more (g.may_leave site) s d.lines front.rest c l))) left

  -- a status that no drill over a history has
  no-history : (x : Status) → status ≡ x → ((s : State) → WritesReplies s d.lines d.text x → ⊥) → g.told → (s : State) → ¬ ReadsAs programs_limits (g.shown site) s
  no-history x e never told s reads = never s (subst (λ (y : Status). WritesReplies s d.lines d.text y) e (d.runs told s reads).replies)

  pub not-made : g.told → status ≡ NotMade → ¬ HasHeaders (g.shown site)
  not-made told e =
      let leaves : LeavesUnread (g.shown site) d.text NotMade (g.shown after) = subst (λ (y : Status). LeavesUnread (g.shown site) d.text y (g.shown after)) e (d.nowhere told (no-history NotMade e (λ s w. w) told)).leaves in
      leaves.0

  pub no-group : g.told → status ≡ NoCatalogue → HasNoGroup (g.shown site)
  no-group told e =
      let leaves : LeavesUnread (g.shown site) d.text NoCatalogue (g.shown after) = subst (λ (y : Status). LeavesUnread (g.shown site) d.text y (g.shown after)) e (d.nowhere told (no-history NoCatalogue e (λ s w. w) told)).leaves in
      leaves.0

  pub damaged-none : g.told → status ≡ Damaged → (s : State) → ¬ ReadsAs programs_limits (g.shown site) s
  damaged-none told e = no-history Damaged e (λ s w. w) told

  pub is-unfailed : g.told → (s : State) → ReadsAs programs_limits (g.shown site) s → (status ≡ SourceFault → ⊥) → (status ≡ SinkFault → ⊥) → (status ≡ SiteFault → ⊥) → is_unfailed status ≡ true
  is-unfailed told s reads a b c = unfailed-is s d.lines d.text status (d.runs told s reads).replies a b c

  pub is-unmade : g.told → ¬ HasHeaders (g.shown site) → is_unmade status ≡ true
  is-unmade told differs = unmade-is (g.shown site) (g.shown after) d.text status (d.nowhere told (λ s reads. differs reads.stands.headers)).leaves differs

  pub is-empty : g.told → HasNoGroup (g.shown site) → is_empty_site status ≡ true
  is-empty told none = empty-is (g.shown site) (g.shown after) d.text status (d.nowhere told (λ s reads. reads-some (g.shown site) s none reads)).leaves none

pub was-made-before : {S : Type 0} (g : Ghosts S) (status : Status) (site after : S) (left left_now contents now : Option (List ℕ)) → Inits g status site left contents after left_now now → g.told → status ≡ AlreadyMade → IsMade (g.shown site)
was-made-before g status site after left left_now contents now d told e =
    let leaves : LeavesInit AlreadyMade d.text (g.shown site) (g.shown after) = subst (λ (x : Status). LeavesInit x d.text (g.shown site) (g.shown after)) e (d.leaves told) in
    leaves.0

pub init-end : {S : Type 0} (g : Ghosts S) (status : Status) (site after : S) (left left_now contents now : Option (List ℕ)) → Inits g status site left contents after left_now now → status ≡ Done → IfSome left (λ bytes. left_now ≡ Some [])
init-end g status site after left left_now contents now d e =
    let w : ReadsWhole Done d.text left = subst (λ (x : Status). ReadsWhole x d.text left) e d.whole in
    where-told left (λ bytes. left_now ≡ Some []) (λ bytes is.
    let t = d.source bytes is in
    let none : t.rest ≡ [] = empty t.rest (omega (arith, ap length t.is, length-append d.text t.rest, ap length (w.1 bytes is))) in
    t.left ∙ ap (λ (r : List ℕ). Some r) none)
