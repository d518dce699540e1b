-- A desk stays ready.
use Rattle.std.proofs.Common.{◌≡◌, ◌∙◌, ℕ, ◌+◌, ◌-◌, ◌*◌, ◌≤◌, List, [], ◌∷◌, ◌++◌, length, Bool, true, false, Option, Some, None, Result, Ok, Err, sym, ap, subst, arith}
use Rattle.std.proofs.lemmas.List.{length_push}
use Rattle.qc_base.specs.declared.log_line.LogRecord.{LogRecord}
use Rattle.qc_base.specs.declared.log_line.LogLine.{LogLine}
use Rattle.qc_base.specs.declared.log_line.LogLine.TheVariants.{Opened, Registered}
use Rattle.qc_base.specs.LogLines.{is_opened}
use Rattle.qc_site.specs.declared.site.Site.{Ghosts}
use Rattle.qc_frame.proofs.Staged.{stands_still}
use Rattle.qc_entries.specs.Entries.{EntriesView}
use Rattle.crm_clerk.specs.declared.error.ClerkError.{ClerkError}
use Rattle.crm_clerk.specs.Calls.{HasStaged, Stages}
use Rattle.crm_clerk.specs.Clerk.{ClerkView, unless, registering_lines, forgot_lines, forgetting_lines, last_kept}
use Rattle.crm_clerk.specs.Staging.{HasRoomFor}
use Rattle.crm_clerk_tests.specs.Desk.{IsReady}

-- how many lines a call stages

unless-length : (b : Bool) (line : LogLine) → length (unless b line) ≤ 1
unless-length true line = omega arith
unless-length false line = omega arith

pub registering-length : (c : ClerkView) (resource : List ℕ) (phases : ℕ) → length (registering_lines c resource phases) ≤ 2
registering-length c resource phases =
    omega (arith, unless-length (is_opened c.lines c.attempt) (Opened c.attempt c.id), length_push (unless (is_opened c.lines c.attempt) (Opened c.attempt c.id)) (Registered c.attempt resource phases))

forgot-length : (c : ClerkView) (resource : List ℕ) (o : Option LogRecord) → length (forgot_lines c resource o) ≤ 2
forgot-length c resource (Some r) = omega arith
forgot-length c resource None = omega arith

pub forgetting-length : (c : ClerkView) (resource : List ℕ) → length (forgetting_lines c resource) ≤ 2
forgetting-length c resource = forgot-length c resource (last_kept c.lines c.attempt resource)

pub room-for : (n m : ℕ) (log : EntriesView) → n ≤ m → HasRoomFor m log → HasRoomFor n log
room-for n m log le has = record { ended = has.ended; room = omega (arith, le, has.room); fits = omega (arith, le, has.fits) }

module _ {S : Type 0} (g : Ghosts S) where
  pub ready-staged : (lines : List LogLine) (taken : ℕ) (old new : ClerkView) (log after : EntriesView) (site : S) (calls : ℕ) → HasStaged lines taken old log new after → length lines ≤ 2 → taken ≤ 1 → IsReady g site log old (calls + 1) → IsReady g site after new calls
  ready-staged lines taken old new log after site calls s few one ready =
      let log_is = ap (λ (v : EntriesView). v.log) s.room.same in
      record {
        stands = stands_still g.told (g.shown site) (g.may_leave site) log.log after.log after.log.payload after.log.spare log_is ready.stands;
        clerk_room = omega (arith, ready.clerk_room, one, ap (λ (v : ClerkView). v.room) s.clerk);
        log_room = record {
          ended = ap (λ (v : EntriesView). v.log.ended) s.room.same ∙ ready.log_room.ended;
          room = omega (arith, ready.log_room.room, s.room.room, few);
          fits = omega (arith, ready.log_room.fits, s.room.fits, few);
        };
      }

  pub fewer : (clerk : ClerkView) (log : EntriesView) (site : S) (calls : ℕ) → IsReady g site log clerk (calls + 1) → IsReady g site log clerk calls
  fewer clerk log site calls ready = record { stands = ready.stands; clerk_room = omega (arith, ready.clerk_room); log_room = room-for (2 * calls) (2 * (calls + 1)) log (omega arith) ready.log_room }

  pub ready-after : {A : Type 0} (result : Result A ClerkError) (lines : List LogLine) (taken : ℕ) (old new : ClerkView) (log after : EntriesView) (site : S) (calls : ℕ) → Stages lines taken result old log new after → length lines ≤ 2 → taken ≤ 1
      → IsReady g site log old (calls + 1) → IsReady g site after new calls
  ready-after (Ok x) lines taken old new log after site calls s few one ready = ready-staged lines taken old new log after site calls s.staged few one ready
  ready-after (Err e) lines taken old new log after site calls s few one ready =
      subst (λ (v : ClerkView). IsReady g site after v calls) (sym s.unchanged.0) (subst (λ (v : EntriesView). IsReady g site v old calls) (sym s.unchanged.1) (fewer old log site calls ready))
