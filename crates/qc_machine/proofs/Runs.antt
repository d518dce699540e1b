-- The calls of an attempt, as long as one is left and none failed.
use Rattle.std.proofs.Common.{◌≡◌, ◌∙◌, ◌⊎◌, ⊎_elim, ℕ, ◌+◌, ◌≤◌, List, [], ◌∷◌, cond, length, refl, sym, ap, subst, arith}
use Rattle.std.specs.Bool.{⊤}
use Rattle.qc_base.specs.declared.log_line.Stage.{Stage}
use Rattle.qc_base.specs.declared.log_line.Stage.TheVariants.{Calls, Ready, Failing, Commit, Abort}
use Rattle.qc_txn.specs.Parts.{Part, parts_of}
use Rattle.qc_machine.specs.Attempts.{parts_held}
use Rattle.qc_machine.specs.History.{History}
use Rattle.qc_machine.specs.Holding.{IsCalling, IsHeldIn, HasCome}
use Rattle.qc_machine.specs.Playing.{after_work, work_on}
use Rattle.qc_machine.specs.Slots.{has_calls}
use Rattle.qc_machine.specs.State.{HeldAttempt}
use Rattle.qc_machine.proofs.Calls.{IsOf, IsWorked, same-of, work-held}
use Rattle.qc_machine.proofs.Ended.{HasEnded}

-- it has come to its end, and is the same attempt
pub record ComesTo (h : History) (last : ℕ) (a b : HeldAttempt) : Type 0 where
  pub held : IsHeldIn h last b
  pub over : HasEnded h last b held.message b.stage
  pub of : IsOf a b

abbrev pub IsOnTheWay : Stage → Type 0
IsOnTheWay Calls = ⊤
IsOnTheWay Ready = ⊤
IsOnTheWay Failing = ⊤
IsOnTheWay Commit = ⊥
IsOnTheWay Abort = ⊥

of-on : (a b c : HeldAttempt) → IsOf a b → IsOf b c → IsOf a c
of-on a b c p q = record { id = q.id ∙ p.id; attempt = q.attempt ∙ p.attempt; kind = q.kind ∙ p.kind; recording = q.recording ∙ p.recording; rows = q.rows ∙ p.rows }

module _ (h : History) (last : ℕ) where
  same-parts : (a b : HeldAttempt) → IsOf a b → parts_held h.catalogue b ≡ parts_held h.catalogue a
  same-parts a b of = λ i. parts_of h.catalogue (of.recording i) (of.kind i)

  stands : (a : HeldAttempt) (is : IsHeldIn h last a) (stage : Stage) → a.stage ≡ stage → HasEnded h last a is.message stage → ComesTo h last a a
  stands a is stage e over = record { held = is; over = subst (HasEnded h last a is.message) (sym e) over; of = same-of a }

  come-to : (a : HeldAttempt) (is : IsHeldIn h last a) (stage : Stage) → a.stage ≡ stage → HasCome h last a is.message stage
  come-to a is stage e = subst (HasCome h last a is.message) e is.come

  pub works-on : (rest all : List Part) (a : HeldAttempt) → all ≡ parts_held h.catalogue a → (is : IsHeldIn h last a) → IsOnTheWay a.stage → (a.stage ≡ Calls → length all ≤ length rest + a.calls) → ComesTo h last a (work_on rest all a)
  works-on [] all a parts is way left = by a.stage refl way
    where
      by : (stage : Stage) → a.stage ≡ stage → IsOnTheWay stage → ComesTo h last a a
      by Calls e way = let c : IsCalling h last a is.message = come-to a is Calls e in absurd (omega (arith, left e, c.left, ap length parts))
      by Ready e way = stands a is Ready e (come-to a is Ready e)
      by Failing e way = stands a is Failing e (come-to a is Failing e)
      by Commit e way = absurd way
      by Abort e way = absurd way
  works-on (q ∷ rest) all a parts is way left = by a.stage refl way (works-on rest all (after_work all a))
    where
      by : (stage : Stage) → a.stage ≡ stage → IsOnTheWay stage
          → (all ≡ parts_held h.catalogue (after_work all a) → (is : IsHeldIn h last (after_work all a)) → IsOnTheWay (after_work all a).stage → ((after_work all a).stage ≡ Calls → length all ≤ length rest + (after_work all a).calls) → ComesTo h last (after_work all a) (work_on rest all (after_work all a)))
          → ComesTo h last a (cond (has_calls stage) (work_on rest all (after_work all a)) a)
      by Calls e way go =
          let c : IsCalling h last a is.message = come-to a is Calls e in
          let w : IsWorked h last a (after_work all a) = subst (λ ps. IsWorked h last a (after_work ps a)) (sym parts) (work-held h last a is c) in
          let comes = go (parts ∙ sym (same-parts a (after_work all a) w.of)) w.held
          (⊎_elim (λ (f : (after_work all a).stage ≡ Failing). subst IsOnTheWay (sym f) tt) (λ (f : ((after_work all a).calls ≡ a.calls + 1) × (((after_work all a).stage ≡ Ready) ⊎ ((after_work all a).stage ≡ Calls))). ⊎_elim (λ (g : (after_work all a).stage ≡ Ready). subst IsOnTheWay (sym g) tt) (λ (g : (after_work all a).stage ≡ Calls). subst IsOnTheWay (sym g) tt) f.1) w.run)
          (λ f. ⊎_elim (λ (g : (after_work all a).stage ≡ Failing). absurd (differ (sym f ∙ g))) (λ (g : ((after_work all a).calls ≡ a.calls + 1) × (((after_work all a).stage ≡ Ready) ⊎ ((after_work all a).stage ≡ Calls))). omega (arith, left e, g.0)) w.run) in
          record { held = comes.held; over = comes.over; of = of-on a (after_work all a) (work_on rest all (after_work all a)) w.of comes.of }
        where
          differ : Calls ≡ Failing → ⊥
          differ e = cc
      by Ready e way go = stands a is Ready e (come-to a is Ready e)
      by Failing e way go = stands a is Failing e (come-to a is Failing e)
      by Commit e way go = absurd way
      by Abort e way go = absurd way

  -- all calls of an attempt that has begun
  pub all-run : (a : HeldAttempt) → IsHeldIn h last a → IsOnTheWay a.stage → ComesTo h last a (work_on (parts_held h.catalogue a) (parts_held h.catalogue a) a)
  all-run a is way = works-on (parts_held h.catalogue a) (parts_held h.catalogue a) a refl is way (λ e. omega arith)
