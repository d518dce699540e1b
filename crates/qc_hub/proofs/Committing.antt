-- A client's recording that is sent: its recorder is taken away, room is taken, and then the message is added or the
-- recorder is put back.
use Rattle.std.proofs.Common.{◌≡◌, ◌∙◌, ◌≤◌, ℕ, max, List, [], ◌∷◌, length, true, refl, sym, ap, subst, Option, Some, None, IsErrOf, Ok, Err}
use Rattle.std.specs.declared.result.Result.{Result}
use Rattle.qc_base.specs.declared.recording.Recording.{Recording}
use Rattle.qc_protocol.specs.declared.reply.Refusal.{Refusal}
use Rattle.qc_protocol.specs.declared.reply.Reply.{Reply}
use Rattle.qc_protocol.specs.declared.reply.Reply.TheVariants.{Refused}
use Rattle.qc_recorder.specs.Fits.{recording_fits}
use Rattle.qc_site.specs.declared.site.Site.{Ghosts}
use Rattle.qc_site.specs.Image.{Image}
use Rattle.qc_machine.specs.Refuse.{first_some}
use Rattle.qc_machine.specs.Sending.{added, fact_sent}
use Rattle.qc_machine.specs.Slots.{idle, out_of_slots}
use Rattle.qc_machine.specs.State.{State, in_slot, set_slot}
use Rattle.qc_machine.specs.Step.{step}
use Rattle.qc_machine.proofs.Recorders.{put-back}
use Rattle.qc_hub.specs.declared.error.HubError.{HubError}
use Rattle.qc_hub.specs.declared.error.HubError.TheVariants.{NoMemory}
use Rattle.qc_hub.specs.declared.hub.Hub.{Hub}
use Rattle.qc_hub.specs.Calls.{CarriesOut, IsReady, KeepsSite, StepsBy, committing}
use Rattle.qc_hub.specs.Rooms.{SameBut, unsent}
use Rattle.qc_hub.specs.Stands.{IsHubOf}
use Rattle.qc_hub.proofs.Asked.{commit-not, commit-sent, gone-settled, held-fits}
use Rattle.qc_hub.proofs.Calling.{behind, handed_on, own-ready, replied, starved}
use Rattle.qc_hub.proofs.Fit.{same-catalogue}
use Rattle.qc_hub.proofs.Later.{Later, Since, later-in, later-room, later-set, later_state, moved-since, since-back, state-of}

-- The hub at the moment used, without what the client's recorder held, took room, where it may be.
module _ {S : Type 0} (g : Ghosts S) (hub : Hub) (site : S) (at n : ℕ) (held : Recording) (free : first_some (out_of_slots n ∷ idle hub.clients n ∷ []) ≡ None) (there : in_slot n hub.clients ≡ Some held) (some : 1 ≤ length held.calls)
    (last : ℕ) (is : last ≡ max at hub.last) (soon : last ≤ 1000000000000) (taken : List (Option Recording)) (gone : taken ≡ set_slot n None hub.clients) (ready : IsReady g hub site) where
  abbrev own : State → State
  own = later_state at (set_slot n None hub.clients)

  abbrev mid : Hub
  mid = record hub { clients = taken; last = last }

  le : max at hub.last ≤ 1000000000000
  le = subst (λ (m : ℕ). m ≤ 1000000000000) is soon

  in_mid : (s : State) → IsHubOf hub s → IsHubOf mid (own s)
  in_mid s h = later-in hub mid at s (set_slot n None hub.clients) (later-set hub at last taken is soon) gone (gone-settled hub s h at n le) h

  module _ (room : Hub) (kept : SameBut mid room) where
    later : Later hub room at
    later = later-room hub mid room at (later-set hub at last taken is soon) kept

    still : room.clients ≡ set_slot n None hub.clients
    still = ap (λ (x : Hub). x.clients) kept.others ∙ gone

    in_room : (s : State) → IsHubOf hub s → IsHubOf room (own s) × KeepsSite s (own s)
    in_room s h = (later-in hub room at s (set_slot n None hub.clients) later still (gone-settled hub s h at n le) h, record { history = refl; rows = refl; journal = refl; log = refl })

    pub commit-ready : IsReady g room site
    commit-ready = own-ready g at own hub room site later in_room ready

    pub commit-fits : (r : Recording) → r ≡ held → recording_fits room.history.catalogue r ≡ true
    commit-fits r same =
        let was = state-of g hub site ready in
        (λ i. recording_fits ((same-catalogue hub.history room.history later.history) i) (same i)) ∙ held-fits hub was.state was.is_in at n held free there

    -- the message was added
    pub commit-added : (found : Option Refusal) → ((s : State) → IsHubOf mid s → found ≡ unsent s held) → found ≡ None → (r : Recording) → r ≡ held → (result : Result Reply HubError) (new : Hub) (after : S) → ¬ IsErrOf result NoMemory
        → StepsBy g 0 (λ s. added (fact_sent s r) s) result room site new after → CarriesOut g (committing at n) result hub site new after
    commit-added found asked none r same result new after fed call =
        handed_on g at (λ s. step s (committing at n)) (λ s. added (fact_sent (own s) held) (own s)) result hub site new after (λ s h. commit-sent hub s h at n held free there some (sym (asked (own s) (in_mid s h)) ∙ none))
        (behind g at (λ s. added (fact_sent s held) s) own result hub room site new after later in_room fed (subst (λ (x : Recording). StepsBy g 0 (λ s. added (fact_sent s x) s) result room site new after) same call))

    -- the recorder was put back
    module _ (back : List (Option Recording)) (put : back ≡ set_slot n (Some held) room.clients) (now : (c : Image) → g.told → g.left_since site (g.moment site) c → g.may_leave site c) where
      abbrev again : Hub
      again = record room { clients = back }

      since : Since hub again at
      since = since-back hub room at last taken back is soon kept (put ∙ ap (set_slot n (Some held)) still ∙ put-back hub.clients n held there)

      pub commit-refused-again : (found : Option Refusal) → ((s : State) → IsHubOf mid s → found ≡ unsent s held) → (why : Refusal) → found ≡ Some why → CarriesOut g (committing at n) (Ok (Refused why)) hub site again site
      commit-refused-again found asked why full =
          replied g at (λ s. step s (committing at n)) (Refused why) hub again site now ready since (λ s h. commit-not hub s h at n held free there why some (sym (asked (own s) (in_mid s h)) ∙ full))

      pub commit-starved : (result : Result Reply HubError) → result ≡ Err NoMemory → CarriesOut g (committing at n) result hub site again site
      commit-starved result is_memory = starved g at (λ s. step s (committing at n)) result hub again site now ready (moved-since hub again at since) is_memory
