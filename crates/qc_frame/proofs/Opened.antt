-- What a log that was opened behind groups keeps or makes of its file, said of the whole file.
use Rattle.std.proofs.Common.{◌≡◌, inl, inr, ⊎_elim, ℕ, ◌<◌, ◌≤◌, List, [], ◌∷◌, ◌++◌, length, take, drop, zero, sym, ◌∙◌, ap, arith, append_assoc, take-append-drop, length-append}
use Rattle.std.specs.List.{flat_map}
use Rattle.std.proofs.lemmas.List.{take-take, length-drop}
use Rattle.qc_frame.specs.Frame.{groups_at, groups_past, group, Leads}
use Rattle.qc_frame.specs.Log.{SameFrom, WholeFrom, WholeOrNotFrom}
use Rattle.qc_frame.proofs.Groups.{groups_led, rest_at, led_by}

-- where a group stands, there are bytes
some_bytes : (bytes : List ℕ) (before : List (List ℕ)) (payload : List ℕ) → groups_past zero bytes ≡ before ++ payload ∷ [] → 1 ≤ length bytes
some_bytes [] before payload is = absurd (omega (arith, ap length is, length-append before (payload ∷ [])))
some_bytes (b ∷ bytes) before payload is = omega arith

-- `start` is reached from `from` over open groups alone, and up to there the file stayed
module _ (from start : ℕ) (old new : List ℕ) (before : List (List ℕ)) (led : Leads old from start before) (front : take start new ≡ take start old) (followed : start < length old → start < length new) where
  behind : from ≤ start
  behind = omega (arith, led.at)

  front_from : take from new ≡ take from old
  front_from = sym (take-take from start new behind) ∙ ap (λ (l : List ℕ). take from l) front ∙ take-take from start old behind

  there : before ≡ [] → from ≡ start
  there none = omega (arith, led.at, ap (λ (l : List (List ℕ)). length (flat_map group l)) none)

  inside : 1 ≤ length led.rest → start < length new
  inside more = followed (omega (arith, more, ap length (rest_at old start before led), length-drop start old))

  followed_from : from < length old → from < length new
  followed_from lt = ⊎_elim (λ (none : before ≡ []). omega (arith, there none, followed (omega (arith, lt, there none)))) (λ (more : 1 ≤ length led.rest). omega (arith, behind, inside more)) led.further

  pub groups_from : groups_at new from ≡ before ++ groups_at new start
  groups_from = ⊎_elim at_start further led.further
    where
      at_start : before ≡ [] → groups_at new from ≡ before ++ groups_at new start
      at_start none = ap (λ n. groups_at new n) (there none) ∙ ap (λ (l : List (List ℕ)). l ++ groups_at new start) (sym none)

      further : 1 ≤ length led.rest → groups_at new from ≡ before ++ groups_at new start
      further more = groups_led new start before (led_by old new start before led (drop start new) (sym (take-append-drop start new) ∙ ap (λ (l : List ℕ). l ++ drop start new) front) (omega (arith, inside more, length-drop start new)))

  groups_old : groups_at old from ≡ before ++ groups_at old start
  groups_old = groups_led old start before led ∙ ap (λ (l : List ℕ). before ++ groups_past zero l) (sym (rest_at old start before led))

  pub same_groups : groups_at new start ≡ groups_at old start → groups_at new from ≡ groups_at old from
  same_groups same = groups_from ∙ ap (λ (l : List (List ℕ)). before ++ l) same ∙ sym groups_old

  pub more_groups : (payload : List ℕ) → groups_at new start ≡ groups_at old start ++ payload ∷ [] → groups_at new from ≡ groups_at old from ++ payload ∷ []
  more_groups payload more = groups_from ∙ ap (λ (l : List (List ℕ)). before ++ l) more ∙ sym (append_assoc before (groups_at old start) (payload ∷ [])) ∙ ap (λ (l : List (List ℕ)). l ++ payload ∷ []) (sym groups_old)

-- so with `from` at 16 each step of such a log is one of the whole file
pub same_from : (from start : ℕ) (old new : List ℕ) (before : List (List ℕ)) → Leads old from start before → SameFrom start old new → SameFrom from old new
same_from from start old new before led at = record {
  front = front_from from start old new before led at.front at.followed;
  followed = followed_from from start old new before led at.front at.followed;
  same = same_groups from start old new before led at.front at.followed at.same;
}

pub whole_or_not_from : (from start : ℕ) (payload old new : List ℕ) (before : List (List ℕ)) → Leads old from start before → WholeOrNotFrom start payload old new → WholeOrNotFrom from payload old new
whole_or_not_from from start payload old new before led at = record {
  front = front_from from start old new before led at.front at.followed;
  followed = followed_from from start old new before led at.front at.followed;
  either = ⊎_elim (λ same. inl (same_groups from start old new before led at.front at.followed same)) (λ more. inr (more_groups from start old new before led at.front at.followed payload more)) at.either;
}

pub whole_from : (from start : ℕ) (payload old new : List ℕ) (before : List (List ℕ)) → Leads old from start before → WholeFrom start payload old new → WholeFrom from payload old new
whole_from from start payload old new before led at =
    let followed : start < length new = omega (arith, some_bytes (drop start new) (groups_at old start) payload at.more, length-drop start new) in
    record {
      front = front_from from start old new before led at.front (λ lt. followed);
      more = more_groups from start old new before led at.front (λ lt. followed) payload at.more;
    }
