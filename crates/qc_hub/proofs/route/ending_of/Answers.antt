use Rattle.std.proofs.Common.{◌≡◌, ◌++◌, ℕ, codes, sym, subst, append_assoc}
use Rattle.std.specs.Fmt.{digits}
use Rattle.qc_protocol.specs.Texts.{queue_name}
use Rattle.qc_hub.proofs.route.ending_of.Goals as goal

pub returns-in-1 : goal.returns-in-1
unfolding digits
returns-in-1 c app = subst (λ (queue : ℕ). app ++ codes "_0" ≡ queue_name app queue) (sym c.in-1.is) (sym (append_assoc app (codes "_") (codes "0")))

pub returns-in-2 : goal.returns-in-2
unfolding digits
returns-in-2 c app = subst (λ (queue : ℕ). app ++ codes "_1" ≡ queue_name app queue) (sym c.in-2.is) (sym (append_assoc app (codes "_") (codes "1")))

pub returns-in-3 : goal.returns-in-3
unfolding digits
returns-in-3 c app = subst (λ (queue : ℕ). app ++ codes "_2" ≡ queue_name app queue) (sym c.in-3.is) (sym (append_assoc app (codes "_") (codes "2")))

pub returns-in-4 : goal.returns-in-4
unfolding digits
returns-in-4 c app = subst (λ (queue : ℕ). app ++ codes "_3" ≡ queue_name app queue) (sym c.in-4.is) (sym (append_assoc app (codes "_") (codes "3")))

pub returns-in-5 : goal.returns-in-5
unfolding digits
returns-in-5 c app = subst (λ (queue : ℕ). app ++ codes "_4" ≡ queue_name app queue) (sym c.in-5.is) (sym (append_assoc app (codes "_") (codes "4")))
