-- When a line has a value.
use Rattle.std.proofs.Common.{◌≡◌, ◌∙◌, List, ℕ, refl, ap, Some, None, cond, true, false, Bool}
use Rattle.std.specs.Str.{IsUtf8, is_utf8}
use Rattle.std.proofs.lemmas.Str.{is_utf8-from_IsUtf8, IsUtf8-from_is_utf8}
use Rattle.serde_json.specs.Data.{Data}
use Rattle.serde_json.specs.Read.{read}
use Rattle.qc_orders.specs.Orders.{value_of}

pub value_there : (line : List ℕ) (d : Data) → IsUtf8 line → read line ≡ Some d → value_of line ≡ Some d
value_there line d text is = ap (λ b. cond b (read line) None) (is_utf8-from_IsUtf8 line text) ∙ is

pub no_value : (line : List ℕ) → (IsUtf8 line → read line ≡ None) → value_of line ≡ None
no_value line none = by_test (is_utf8 line) (λ e. none (IsUtf8-from_is_utf8 line e))
  where
    by_test : (b : Bool) → (b ≡ true → read line ≡ None) → cond b (read line) None ≡ None
    by_test true h = h refl
    by_test false h = refl
