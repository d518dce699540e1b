-- The names of queues, and where moves lead.
use Rattle.std.proofs.Common.{◌≡◌, ◌∙◌, ◌≤◌, ◌+◌, ℕ, ◌==◌, ◌-◌, List, [], ◌∷◌, ◌++◌, Bool, true, false, ◌&&◌, cond, codes, decimal, length, take, drop, refl, sym, ap, arith, append-nil, append_assoc}
use Rattle.std.specs.Str.{bytes_eq}
use Rattle.qc_protocol.specs.Texts.{queue_name}

joined-is : (app ending name : List ℕ) → length app ≤ length name → bytes_eq (app ++ ending) name ≡ (bytes_eq app (take (length app) name) && bytes_eq ending (drop (length app) name))
joined-is [] ending name long = refl
joined-is (a ∷ app) ending [] long = absurd (omega (arith, long))
joined-is (a ∷ app) ending (n ∷ name) long = by (a == n) (joined-is app ending name (omega (arith, long)))
  where
    by : (b : Bool) → bytes_eq (app ++ ending) name ≡ (bytes_eq app (take (length app) name) && bytes_eq ending (drop (length app) name))
        → (b && bytes_eq (app ++ ending) name) ≡ ((b && bytes_eq app (take (length app) name)) && bytes_eq ending (drop (length app) name))
    by true rest = rest
    by false rest = refl

-- whether bytes are those of an application's name and an ending

pub named-is : (app ending name : List ℕ) (queue : ℕ) → app ++ ending ≡ queue_name app queue → length app ≤ length name → bytes_eq (queue_name app queue) name ≡ (bytes_eq app (take (length app) name) && bytes_eq ending (drop (length app) name))
named-is app ending name queue is long = ap (λ (n : List ℕ). bytes_eq n name) (sym is) ∙ joined-is app ending name long

-- a queue's name begins with its application's
begins : (app : List ℕ) (queue : ℕ) → (ending : List ℕ) × (app ++ ending ≡ queue_name app queue)
begins app queue = by (queue == 0) (queue == 6)
  where
    by : (first last : Bool) → (ending : List ℕ) × (app ++ ending ≡ cond first app (cond last (app ++ codes "_DeadQueue") (app ++ codes "_" ++ decimal (queue - 1))))
    by true last = ([], append-nil app)
    by false true = (codes "_DeadQueue", refl)
    by false false = (codes "_" ++ decimal (queue - 1), sym (append_assoc app (codes "_") (decimal (queue - 1))))

-- bytes that don't begin so are none
pub not-front : (app name : List ℕ) (queue : ℕ) → length app ≤ length name → bytes_eq app (take (length app) name) ≡ false → bytes_eq (queue_name app queue) name ≡ false
not-front app name queue long not =
    let front = begins app queue in
    named-is app front.0 name queue front.1 long ∙ ap (λ (b : Bool). b && bytes_eq front.0 (drop (length app) name)) not
