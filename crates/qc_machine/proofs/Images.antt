-- What images stand for.
use Rattle.std.proofs.Common.{◌≡◌, ◌≤◌, ℕ, zero, suc, ◌+◌, List, [], ◌∷◌, length, take, drop, Bool, true, false, if◌then◌else◌, refl, sym, ap, ◌∙◌, subst, arith}
use Rattle.std.proofs.lemmas.List.{length-map, length-drop}
use Rattle.qc_base.specs.declared.fact.Fact.{Fact}
use Rattle.qc_site.specs.Image.{Image, with_bytes}
use Rattle.qc_site.specs.Disk.{Images, Certain}
use Rattle.qc_site.specs.declared.site.SiteFile.TheVariants.{Journal, CrmLog}
use Rattle.qc_frame.specs.Frame.{groups, groups_past, is_open, size_at, HasHeader}
use Rattle.qc_frame.specs.Log.{SameLog}
use Rattle.qc_frame.proofs.Chained.{same_joined}
use Rattle.qc_journal.specs.History.{SpellsHistory, fact_payload, journal_header}
use Rattle.qc_machine.specs.History.{Reader, by_text}
use Rattle.qc_machine.specs.State.{State}
use Rattle.qc_machine.specs.Sites.{StandsFor, IsSiteOf, Stays, SameSite, LeavesOneOf, log_header}

-- the same bytes of both logs stand for the same history
pub stands-here : (read : Reader) (d c : Image) (facts : List Fact) → c.journal ≡ d.journal → c.crm_log ≡ d.crm_log → StandsFor read d facts → StandsFor read c facts
stands-here read d c facts journal log s = record {
  headers = record { journal = subst (λ (b : List ℕ). HasHeader journal_header b) (sym journal) s.headers.journal; log = subst (λ (b : List ℕ). HasHeader log_header b) (sym log) s.headers.log };
  spelled = subst (λ (b : List ℕ). SpellsHistory b facts) (sym journal) s.spelled;
  legal = s.legal;
  unused = ap groups log ∙ s.unused;
}

-- so do the same groups behind the same headers
pub stands-same : (read : Reader) (d c : Image) (facts : List Fact) → SameSite d c → StandsFor read d facts → StandsFor read c facts
stands-same read d c facts same s = record {
  headers = record { journal = same.journal.front ∙ s.headers.journal; log = same.others.log.front ∙ s.headers.log };
  spelled = record { groups = same.journal.same ∙ s.spelled.groups; limits = s.spelled.limits };
  legal = s.legal;
  unused = same.others.log.same ∙ s.unused;
}

pub same-log : (file : List ℕ) → SameLog file file
same-log file = record { front = refl; followed = λ l. l; same = refl }

pub stays-same : (c : Image) → Stays c c
stays-same c = record { rows = refl; snap = refl; log = same-log c.crm_log }

pub stays-joined : (a b c : Image) → Stays a b → Stays b c → Stays a c
stays-joined a b c first second = record { rows = second.rows ∙ first.rows; snap = second.snap ∙ first.snap; log = same_joined 16 a.crm_log b.crm_log c.crm_log first.log second.log }

pub same-site : (c : Image) → SameSite c c
same-site c = record { journal = same-log c.journal; others = stays-same c }

pub same-joined : (a b c : Image) → SameSite a b → SameSite b c → SameSite a c
same-joined a b c first second = record { journal = same_joined 16 a.journal b.journal c.journal first.journal second.journal; others = stays-joined a b c first.others second.others }

-- one log changed, and its groups stayed

pub stays-journal : (d c : Image) (bytes : List ℕ) → c ≡ with_bytes Journal bytes d → Stays d c
stays-journal d c bytes is = subst (λ (x : Image). Stays d x) (sym is) (record { rows = refl; snap = refl; log = same-log d.crm_log })

pub same-journal : (d c : Image) (bytes : List ℕ) → c ≡ with_bytes Journal bytes d → SameLog d.journal bytes → SameSite d c
same-journal d c bytes is same = subst (λ (x : Image). SameSite d x) (sym is) (record { journal = same; others = record { rows = refl; snap = refl; log = same-log d.crm_log } })

pub same-crm_log : (d c : Image) (bytes : List ℕ) → c ≡ with_bytes CrmLog bytes d → SameLog d.crm_log bytes → SameSite d c
same-crm_log d c bytes is same = subst (λ (x : Image). SameSite d x) (sym is) (record { journal = same-log d.journal; others = record { rows = refl; snap = refl; log = same } })

-- an image of a site in state s, both logs of which are certain, is one of this state
pub image-stays : (images : Images) (shown : Image) (s : State) (P : State → Type 0) → IsSiteOf shown s → Certain Journal shown.journal images → Certain CrmLog shown.crm_log images → P s → (c : Image) → images c → LeavesOneOf images P c
image-stays images shown s P site journal log is c here = record {
  was = c;
  there = here;
  others = stays-same c;
  state = s;
  is = is;
  stands = stands-here by_text shown c s.history.facts (journal c here) (log c here) site.stands;
}

-- what is left is of one of more states, or of others with the same facts
pub one-of : (images : Images) (P Q : State → Type 0) → ((x : State) → P x → (y : State) × Q y × (y.history.facts ≡ x.history.facts)) → (c : Image) → LeavesOneOf images P c → LeavesOneOf images Q c
one-of images P Q more c left =
    let y = more left.state left.is in
    record { was = left.was; there = left.there; others = left.others; state = y.0; is = y.1; stands = subst (StandsFor by_text c) (sym y.2) left.stands }

-- a file has a byte for each of its groups

few-by : (b : Bool) (payload : List ℕ) (more : List (List ℕ)) (n : ℕ) → length more ≤ n → length (if b then payload ∷ more else []) ≤ suc n
few-by true payload more n few = omega (arith, few)
few-by false payload more n few = omega arith

groups-few : (n : ℕ) (file : List ℕ) → length (groups_past n file) ≤ length file
groups-few n [] = omega arith
groups-few (suc n) (byte ∷ file) = omega (arith, groups-few n file)
groups-few zero (gate ∷ rest) = few-by (is_open gate rest) (take (size_at rest) (drop 4 rest)) (groups_past (size_at rest + 4) rest) (length rest) (groups-few (size_at rest + 4) rest)

pub facts-few : (file : List ℕ) (facts : List Fact) → SpellsHistory file facts → length facts ≤ length file
facts-few file facts spelled = omega (arith, ap length spelled.groups, length-map facts fact_payload, groups-few 0 (drop 16 file), length-drop 16 file)
