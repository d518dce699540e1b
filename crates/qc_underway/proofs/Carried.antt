-- Effects that were carried out, and one more. `g` has the members of the site's trait.
use Rattle.std.proofs.Common.{◌≡◌, ◌∙◌, inl, inr, ℕ, ◌+◌, ◌≤◌, List, [], ◌∷◌, ◌++◌, length, Result, Ok, Err, refl, sym, ap, subst, arith}
use Rattle.std.proofs.lemmas.Bool.{false≢true}
use Rattle.qc_site.specs.declared.site.Failed.{Failed}
use Rattle.qc_site.specs.declared.site.Site.{Ghosts}
use Rattle.qc_site.specs.Causes.{Rose}
use Rattle.qc_frame.specs.Calls.{LogStands}
use Rattle.qc_entries.specs.Entries.{EntriesView}
use Rattle.qc_catalogue.specs.declared.catalogue.Catalogue.{Catalogue}
use Rattle.qc_play.specs.declared.effect.Effect.{Effect}
use Rattle.crm_clerk.specs.Clerk.{ClerkView}
use Rattle.qc_machine.specs.Carrying.{carry_all, carry_out}
use Rattle.qc_machine.specs.LogAndRows.{LogAndRows}
use Rattle.qc_underway.specs.Calls.{CarriesAll, CarriesEach, CarriesOne}
use Rattle.qc_underway.specs.Standing.{HasRoom, HasRoomForAll, IsUnderway, LeavesRoom, clerk_by, lines_by, lines_by_all, room_by, room_by_all}
use Rattle.qc_underway.proofs.Effects.{Leaves, leaves-one, told-one}
use Rattle.qc_underway.proofs.Rooms.{attempt-all, clerk-push, id-all, lines-push, room-behind}

carry-push : (c : Catalogue) (attempt id : ℕ) (es : List Effect) (e : Effect) (o : LogAndRows) → carry_all c attempt id (es ++ e ∷ []) o ≡ carry_out c attempt id e (carry_all c attempt id es o)
carry-push c attempt id [] e o = refl
carry-push c attempt id (x ∷ es) e o = carry-push c attempt id es e (carry_out c attempt id x o)

room-more : (n m : ℕ) (log mid later : EntriesView) → LeavesRoom n log mid → LeavesRoom m mid later → LeavesRoom (n + m) log later
room-more n m log mid later a b = record { ended = b.ended ∙ a.ended; room = omega (arith, a.room, b.room); fits = omega (arith, a.fits, b.fits) }

rose : (old mid now : ℕ) → old ≤ mid → Rose mid now → Rose old now
rose old mid now le up = omega (arith, le, up)

module _ {S : Type 0} (g : Ghosts S) where
  -- before the first
  pub carried-none : (c : Catalogue) (clerk : ClerkView) (log : EntriesView) (site : S) → LogStands g log.log site → CarriesAll g c [] (Ok (tt {0})) clerk log site clerk log site
  carried-none c clerk log site stood = record {
    each = record { ok = refl; clerk = refl; lines = refl; still = refl };
    clerk = refl;
    room = record { ended = refl; room = omega arith; fits = omega arith };
    stands = stood;
    told = λ told o is. is;
    cause = record { no_fewer = omega arith; cause = λ failed. absurd (false≢true failed) };
  }

  each-on : (c : Catalogue) (es more : List Effect) (result : Result (Unit {0}) Failed) (old mid new : ClerkView) (log between later : EntriesView) (site then after : S) → CarriesEach g c es (Ok (tt {0})) old log site mid between then
      → CarriesEach g c more result mid between then new later after → CarriesEach g c (es ++ more) result old log site new later after
  each-on c [] more result old mid new log between later site then after p rest =
      let P : ClerkView → EntriesView → S → Type 0 = λ k l s. CarriesEach g c more result k l s new later after in
      subst (λ (s : S). P old log s) p.still (subst (λ (l : EntriesView). P old l then) p.lines (subst (λ (k : ClerkView). P k between then) p.clerk rest))
  each-on c (e ∷ es) more result old mid new log between later site then after (inl on) rest = inl (record {
    clerk = on.clerk;
    log = on.log;
    site = on.site;
    done = on.done;
    left = each-on c es more result on.clerk mid new on.log between later on.site then after on.left rest;
  })
  each-on c (e ∷ es) more result old mid new log between later site then after (inr stopped) rest = absurd (false≢true stopped.0)

  module _ (c : Catalogue) (done : List Effect) (e : Effect) (old mid new : ClerkView) (log between later : EntriesView) (site then after : S)
      (all : CarriesAll g c done (Ok (tt {0})) old log site mid between then) where
    -- one more was carried out
    pub carried-more : CarriesOne g c e (Ok (tt {0})) mid between then new later after → CarriesAll g c (done ++ e ∷ []) (Ok (tt {0})) old log site new later after
    carried-more one =
        let leaves : Leaves g (lines_by c mid e) (room_by c mid e) (Ok (tt {0})) mid between then new later after = leaves-one g c e (Ok (tt {0})) mid new between later then after all.stands one in
        let lines : lines_by_all c old done + length (lines_by c mid e) ≡ lines_by_all c old (done ++ e ∷ []) =
        ap (λ (k : ClerkView). lines_by_all c old done + length (lines_by c k e)) all.clerk ∙ sym (lines-push c old done e) in
        record {
          each = each-on c done (e ∷ []) (Ok (tt {0})) old mid new log between later site then after all.each
              (inl (record { clerk = new; log = later; site = after; done = one; left = record { ok = refl; clerk = refl; lines = refl; still = refl } }));
          clerk = leaves.clerk ∙ ap (λ (k : ClerkView). clerk_by c k e) all.clerk ∙ sym (clerk-push c old done e);
          room = subst (λ (n : ℕ). LeavesRoom n log later) lines (room-more (lines_by_all c old done) (length (lines_by c mid e)) log between later all.room leaves.room);
          stands = leaves.stands;
          told = λ told o is.
              let now : LogAndRows = carry_all c old.attempt old.id done o in
              let attempt : mid.attempt ≡ old.attempt = ap (λ (k : ClerkView). k.attempt) all.clerk ∙ attempt-all c old done in
              let id : mid.id ≡ old.id = ap (λ (k : ClerkView). k.id) all.clerk ∙ id-all c old done in
              subst (λ (m : LogAndRows). IsUnderway (g.shown after) later new m)
              ((λ i. carry_out c (attempt i) (id i) e now) ∙ sym (carry-push c old.attempt old.id done e o))
              (told-one g told mid new between later then after now (all.told told o is) c e one);
          cause = record { no_fewer = omega (arith, all.cause.no_fewer, leaves.cause.no_fewer); cause = λ failed. absurd (false≢true failed) };
        }

    -- the next one failed
    pub carried-up-to : (rest : List Effect) (failed : Failed) → CarriesOne g c e (Err failed) mid between then new later after → CarriesAll g c (done ++ e ∷ rest) (Err failed) old log site new later after
    carried-up-to rest failed one =
        let leaves : Leaves g (lines_by c mid e) (room_by c mid e) (Err failed) mid between then new later after = leaves-one g c e (Err failed) mid new between later then after all.stands one in
        record {
          each = each-on c done (e ∷ rest) (Err failed) old mid new log between later site then after all.each (inr (refl, one));
          clerk = tt;
          room = tt;
          stands = tt;
          told = λ told o is. tt;
          cause = record {
            no_fewer = omega (arith, all.cause.no_fewer, leaves.cause.no_fewer);
            cause = λ fails. rose (g.faults site) (g.faults then) (g.faults after) all.cause.no_fewer (leaves.cause.cause fails);
          };
        }

    -- and there is room for those behind it
    pub room-for-others : (rest : List Effect) → CarriesOne g c e (Ok (tt {0})) mid between then new later after → HasRoomForAll c (e ∷ rest) mid between → HasRoomForAll c rest new later
    room-for-others rest one has =
        let leaves : Leaves g (lines_by c mid e) (room_by c mid e) (Ok (tt {0})) mid between then new later after = leaves-one g c e (Ok (tt {0})) mid new between later then after all.stands one in
        subst (λ (k : ClerkView). HasRoom (room_by_all c k rest) (lines_by_all c k rest) k later) (sym leaves.clerk)
        (room-behind (room_by c mid e) (room_by_all c (clerk_by c mid e) rest) (length (lines_by c mid e)) (lines_by_all c (clerk_by c mid e) rest) mid (clerk_by c mid e) between later has refl leaves.room)
