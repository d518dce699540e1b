-- The items of a list and the members of an object, one by one.
use Rattle.std.proofs.Common.{◌≡◌, List, [], ◌∷◌, map, ap, refl, String, Global, string_bytes, ◌&&◌, Option, Some, option_map, unwrap_or, false, ◌∙◌}
use Rattle.std.specs.List.{list_all}
use Rattle.serde_json.specs.Data.{Data, Members}
use Rattle.serde_json.specs.Find.{as_object}
use Rattle.serde_json.specs.View.{view, items_view, members_view}
use Rattle.serde_json.specs.declared.value.Value.{Value}
use Rattle.qc_protocol.specs.declared.order.Member.{Member}
use Rattle.qc_orders.specs.Orders.{arg_of, args_of, is_among, all_among, has_only}

pub args_of-items_view : (vs : List Value) → args_of (items_view vs) ≡ map (λ v. arg_of (view v)) vs
args_of-items_view [] = refl
args_of-items_view (v ∷ vs) = ap (λ rest. arg_of (view v) ∷ rest) (args_of-items_view vs)

all_among-members_view : (ms : List Member) (es : List (String Global × Value)) → list_all (λ name. is_among ms (string_bytes name)) (map (λ e. e.0) es) ≡ all_among ms (members_view es)
all_among-members_view ms [] = refl
all_among-members_view ms (e ∷ es) = ap (λ b. is_among ms (string_bytes e.0) && b) (all_among-members_view ms es)

-- an object has only these members where each of its keys is one of them
pub has_only-keys : (ms : List Member) (d : Data) (es : List (String Global × Value)) → Some (members_view es) ≡ as_object d
    → list_all (λ name. is_among ms (string_bytes name)) (map (λ e. e.0) es) ≡ has_only ms d
has_only-keys ms d es is = all_among-members_view ms es ∙ ap (λ (o : Option Members). unwrap_or (option_map (all_among ms) o) false) is
