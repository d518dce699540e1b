use Rattle.std.proofs.Common.{◌≡◌, ◌∙◌, ◌&&◌, ℕ, List, length, take, drop, true, false, sym, ap}
use Rattle.std.specs.Str.{bytes_eq}
use Rattle.qc_hub.proofs.Routes.{named-is, not-front}
use Rattle.qc_hub.proofs.route.is_queue.Goals as goal

pub returns-then-eq : goal.returns-then-eq
returns-then-eq c =
    let app = c.args.app.now in
    let name = c.args.name.now in
    let split = c.in-Some.ensures.cases in
    let first : bytes_eq app (take (length app) name) ≡ true = ap (λ (l : List ℕ). bytes_eq app l) (sym split.1) ∙ sym c.eq.ensures ∙ c.if-eq.true in
    let second : bytes_eq c.ending_of.result.now (drop (length app) name) ≡ c.eq-then-eq.result =
    (λ i. bytes_eq ((sym c.as_bytes.ensures.value) i) ((sym split.2) i)) ∙ sym c.eq-then-eq.ensures in
    sym (named-is app c.ending_of.result.now name c.args.queue (c.ending_of.ensures app) split.0 ∙ (λ i. first i && second i))

pub returns-else-eq : goal.returns-else-eq
returns-else-eq c =
    let app = c.args.app.now in
    let name = c.args.name.now in
    let split = c.in-Some.ensures.cases in
    let first : bytes_eq app (take (length app) name) ≡ false = ap (λ (l : List ℕ). bytes_eq app l) (sym split.1) ∙ sym c.eq.ensures ∙ c.if-eq.false in
    c.if-eq.false ∙ sym (not-front app name c.args.queue split.0 first)
