-- Orders that take a message: what is answered where no attempt is begun, and what goes on where one is.
use Rattle.std.proofs.Common.{◌≡◌, ◌∙◌, ◌≤◌, ℕ, max, List, Bool, true, false, cond, inr, refl, sym, ap, subst, arith, Ok, Err}
use Rattle.qc_protocol.specs.declared.order.Act.{Act}
use Rattle.qc_protocol.specs.declared.order.Act.TheVariants.{Play, Take}
use Rattle.qc_protocol.specs.declared.reply.Refusal.{Refusal}
use Rattle.qc_protocol.specs.declared.reply.Reply.TheVariants.{Refused as ReplyRefused}
use Rattle.qc_history.specs.Adding.{SetsAside}
use Rattle.qc_history.specs.View.{HistoryView}
use Rattle.qc_rows.specs.Places.{are_reserved, rows_seen}
use Rattle.qc_txn.specs.Attempt.{AttemptView}
use Rattle.qc_machine.specs.Playing.{play_in, play_step}
use Rattle.qc_machine.specs.Refuse.{is_of_line}
use Rattle.qc_machine.specs.State.{State, at_moment}
use Rattle.qc_machine.specs.Step.{refusal, step}
use Rattle.qc_machine.specs.Steps.{Step, stays}
use Rattle.qc_machine.proofs.Steps.{refusal-play, refusal-take, step-taken}
use Rattle.qc_players.specs.Players.{IsPlayedBy, held_of}
use Rattle.qc_hub.specs.declared.error.HubError.TheVariants.{NoMemory as out_of_memory}
use Rattle.qc_hub.specs.declared.hub.Hub.{Hub}
use Rattle.qc_hub.specs.declared.taking.NotBegun.{NotBegun}
use Rattle.qc_hub.specs.declared.taking.NotBegun.TheVariants.{Refused, NoMemory}
use Rattle.qc_hub.specs.Calls.{playing, StepsAlone, StepsInMemory}
use Rattle.qc_hub.specs.Stands.{IsFit, IsHubOf}
use Rattle.qc_hub.specs.Taking.{IsBegun, IsTaken, last_after, told_of, UnlessBegun}
use Rattle.qc_hub.proofs.Begun.{step-refused}
use Rattle.qc_hub.proofs.Later.{later-hub, room-in, since-set, took-history}
use Rattle.qc_hub.proofs.Taken.{room-was}

-- a play is refused as a take is
pub play-alike : (s : State) (n : ℕ) (app : List ℕ) → refusal s (Play n app) ≡ refusal s (Take n app)
play-alike s n app = refusal-play s n app ∙ sym (refusal-take s n app)

-- the hub at a later moment, whose history took room
module _ (hub : Hub) (at n last : ℕ) (app : List ℕ) (is : last ≡ max at hub.last) (soon : last ≤ 1000000000000) (history : HistoryView) (aside : SetsAside hub.history history) where
  abbrev mid : Hub
  mid = record hub { last = last }

  mid-in : (s : State) → IsHubOf hub s → IsHubOf mid (at_moment at s)
  mid-in s h = later-hub hub mid at s (since-set hub at last is soon) h

  -- there was no memory
  pub late-starved : (by : State → Step) → StepsInMemory at by (Err out_of_memory) hub (record hub { history = history; last = last })
  late-starved by = record {
    told = λ s h. tt;
    starved = (
      refl,
      inr (record {
        in_time = omega (arith, is, soon);
        same = record { history = aside; journal = refl; room = omega arith; others = λ i. record hub { history = history; last = is i } };
      }),
    );
    aside = aside;
    kept = refl;
  }

  module _ (act : Act) (alike : (s : State) → refusal s act ≡ refusal s (Take n app)) where
    abbrev by : State → Step
    by s = step s (record { at = at; act = act })

    lines : (r : Refusal) (b : Bool) → ((s : State) → IsHubOf hub s → by s ≡ stays (cond b s (at_moment at s)) (ReplyRefused r)) → StepsInMemory at by (Ok (ReplyRefused r)) hub (record hub { history = history; last = cond b hub.last last })
    lines r true steps = record {
      told = λ s h. subst (λ (t : Step). StepsAlone s t (record hub { history = history }) (ReplyRefused r)) (sym (steps s h)) (record {
        replies = refl;
        is_in = room-in hub (record hub { history = history }) s (took-history hub history aside) h;
        keeps = record { history = refl; rows = refl; journal = refl; log = refl };
      });
      starved = tt;
      aside = aside;
      kept = refl;
    }
    lines r false steps = record {
      told = λ s h. subst (λ (t : Step). StepsAlone s t (record mid { history = history }) (ReplyRefused r)) (sym (steps s h)) (record {
        replies = refl;
        is_in = room-in mid (record mid { history = history }) (at_moment at s) (took-history mid history aside) (mid-in s h);
        keeps = record { history = refl; rows = refl; journal = refl; log = refl };
      });
      starved = tt;
      aside = aside;
      kept = refl;
    }

    pub unbegun-in-memory : (why : NotBegun) → ((s : State) → IsHubOf mid s → UnlessBegun s n app why) → StepsInMemory at by (told_of why) hub (record hub { history = history; last = last_after why hub.last last })
    unbegun-in-memory (Refused r) others = lines r (is_of_line r) (λ s h. step-refused s at act r (alike (at_moment at s) ∙ others (at_moment at s) (mid-in s h)))
    unbegun-in-memory NoMemory others = late-starved by

  -- an attempt has begun
  module _ (a : AttemptView) (begun : (s : State) → IsHubOf mid s → IsTaken s n app (held_of a)) where
    pub begun-here : IsFit mid → IsPlayedBy history.catalogue a → are_reserved (rows_seen a.play.view) history.tables.places ≡ true → IsBegun n a (record mid { history = history })
    begun-here fit played places = record {
      app = app;
      taken = λ s h. begun s (room-was mid (record mid { history = history }) s (took-history mid history aside) fit h);
      played = played;
      places = places;
    }

    -- its play is one step
    pub play-steps : (s : State) → IsHubOf hub s → step s (playing at n app) ≡ play_in (at_moment at s) n (held_of a)
    play-steps s h =
        let m : State = at_moment at s in
        let t : IsTaken m n app (held_of a) = begun m (mid-in s h) in
        step-taken s at (Play n app) (play-alike m n app ∙ t.free) ∙ ap (play_step m n) t.chosen ∙ ap (play_in m n) (sym t.is)
