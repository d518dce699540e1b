use Rattle.std.proofs.Common.{◌≡◌, ◌∙◌, ◌<◌, ◌≤◌, ◌+◌, ℕ, List, Some, None, sym, ap, subst, arith, rules}
use Rattle.qc_store.specs.Due.{next_due}
use Rattle.qc_listener.proofs.Choosing.{Walked, all_walked, blocked_on, comes_later, held_on, is_taken, none_left, set_out}
use Rattle.qc_listener.proofs.choice.choose.Goals as goal
use Rattle.qc_listener.proofs.choice.choose.Goals.{then-not-has+else-has_free_rows, else-not-has}

pub loop-init : goal.loop-init
loop-init c = set_out c.args.held.now c.args.rows.now c.args.now c.args.app.now c.args.store.now.messages c.len-end.ensures.rises

pub returns-in_default : goal.returns-in_default
returns-in_default c = λ k kept.
    let ms = c.args.store.now.messages in
    let told : next_due c.as_bytes.result.now c.loop.after ms ≡ None = search rules in
    none_left c.args.held.now c.args.rows.now c.args.now c.args.app.now ms c.len-end.ensures.rises c.loop.after c.loop.blocked c.loop.counter c.loop.invariant k kept (ap (λ (n : List ℕ). next_due n c.loop.after ms) (sym c.as_bytes.ensures.value) ∙ told)

pub returns-then-get : goal.returns-then-get
returns-then-get c = λ k kept.
    let ms = c.args.store.now.messages in
    let app = ap (λ (n : List ℕ). next_due n c.loop.after ms) (sym c.as_bytes.ensures.value) in
    let later : c.args.now < c.in-Some.next.3 = omega arith in
    comes_later c.args.held.now c.args.rows.now c.args.now c.args.app.now ms c.len-end.ensures.rises c.loop.after c.loop.blocked c.loop.counter c.loop.invariant
    c.in-Some.next.0 c.in-Some.next.1 c.in-Some.next.2 c.in-Some.next.3 (app ∙ sym c.in-Some.ensures) k kept later

pub returns-then-has_free_rows : goal.returns-then-has_free_rows
returns-then-has_free_rows c = λ k kept.
    let ms = c.args.store.now.messages in
    let app = ap (λ (n : List ℕ). next_due n c.loop.after ms) (sym c.as_bytes.ensures.value) in
    let due : c.in-Some.next.3 ≤ c.args.now = omega arith in
    is_taken c.args.held.now c.args.rows.now c.args.now c.args.app.now ms c.len-end.ensures.rises c.loop.after c.loop.blocked c.loop.counter c.loop.invariant
    c.in-Some.next.0 c.in-Some.next.1 c.in-Some.next.2 c.in-Some.next.3 (app ∙ sym c.in-Some.ensures) k kept due (search rules) (search rules)

pub loop-preserved : goal.loop-preserved
loop-preserved c =
    let ms = c.args.store.now.messages in
    let app = ap (λ (n : List ℕ). next_due n c.loop.after ms) (sym c.as_bytes.ensures.value) in
    let due : c.in-Some.next.3 ≤ c.args.now = omega arith in
    let to : ℕ → Type 0 = λ b. Walked c.args.held.now c.args.rows.now c.args.now c.args.app.now ms (Some (c.in-Some.next.3, c.in-Some.next.0)) b (c.loop.counter + 1) in
    elim c.if-not-has.branch [
      | then-not-has+else-has_free_rows w ↦
          let made = blocked_on c.args.held.now c.args.rows.now c.args.now c.args.app.now ms c.len-end.ensures.rises c.loop.after c.loop.blocked c.loop.counter c.loop.invariant
          c.in-Some.next.0 c.in-Some.next.1 c.in-Some.next.2 c.in-Some.next.3 (app ∙ sym c.in-Some.ensures) due (search rules) (search rules) in
          subst to (sym w.blocked-is) made
      | else-not-has w ↦
          let made = held_on c.args.held.now c.args.rows.now c.args.now c.args.app.now ms c.len-end.ensures.rises c.loop.after c.loop.blocked c.loop.counter c.loop.invariant
          c.in-Some.next.0 c.in-Some.next.1 c.in-Some.next.2 c.in-Some.next.3 (app ∙ sym c.in-Some.ensures) due (search rules) in
          subst to (sym w.blocked-is) made
    ]

pub returns : goal.returns
returns c = λ k kept.
    all_walked c.args.held.now c.args.rows.now c.args.now c.args.app.now c.args.store.now.messages c.len-end.ensures.rises c.loop.after c.loop.blocked c.loop.counter c.loop.invariant k kept (omega arith)
