-- The order that a line says: the table of orders, and the one rule by which a line is read along a row of it.
use Rattle.std.specs.Prelude.{ℕ, nat_le, ◌<◌, ◌≤◌, ◌≡◌, List, [], ◌∷◌, ◌++◌, map, length, Bool, true, false, ◌&&◌, Option, Some, None, option_map, option_and_then, is_some, Result, Ok, Err, unwrap_or, if◌then◌else◌, codes, ⊤}
use Rattle.std.specs.List.{list_any}
use Rattle.std.specs.Option.{ok_or}
use Rattle.std.specs.Str.{is_utf8, bytes_eq}
use Rattle.serde_json.specs.Data.{Data, Items, no_items, item, Members, no_members, member}
use Rattle.serde_json.specs.Read.{read}
use Rattle.serde_json.specs.Find.{get, as_number, as_u64, as_str, as_bool, as_array, as_object}
use Rattle.qc_protocol.specs.declared.order.Member.{Member}
use Rattle.qc_protocol.specs.declared.order.Member.TheVariants.{Line, Unknown, At, Do, Client, App, Component, Method, Args, Calls, Player, From, To, Batch, On, Table, Resource}
use Rattle.qc_protocol.specs.declared.order.RawArg.{RawArg}
use Rattle.qc_protocol.specs.declared.order.RawArg.TheVariants.{Text, Whole, Other}
use Rattle.qc_protocol.specs.declared.order.RawCall.{RawCall}
use Rattle.qc_protocol.specs.declared.order.Act.{Act}
use Rattle.qc_protocol.specs.declared.order.Act.TheVariants.{OpenSlot, CallSlot, CommitSlot, CancelSlot, Send, Take, Work, End, Phase, Play, Move, Switch, Queues, Table as TableOf, Outside}
use Rattle.qc_protocol.specs.declared.order.Order.{Order}
use Rattle.qc_protocol.specs.Refusals.{member_text}
use Rattle.qc_orders.specs.declared.error.OrderError.{OrderError}
use Rattle.qc_orders.specs.declared.error.OrderError.TheVariants.{LineTooLong, Malformed, NoMemory}

-- the kinds of members, and what a member of a kind holds

pub data Kind : Type 0 where
  whole : Kind
  text : Kind
  flag : Kind
  arg_list : Kind
  call_list : Kind

abbrev pub Held : Kind → Type 0
Held whole = ℕ
Held text = List ℕ
Held flag = Bool
Held arg_list = List RawArg
Held call_list = List RawCall

-- a whole number from 0 to 2^64 - 1, written without a point, an exponent and a sign
abbrev pub whole_in : Data → Option ℕ
whole_in d = option_and_then as_u64 (as_number d)

-- an item of a list of arguments: a text, else a whole number, else another value

abbrev pub arg_by : Option (List ℕ) → Option ℕ → RawArg
arg_by (Some s) n = Text s
arg_by None (Some n) = Whole n
arg_by None None = Other

abbrev pub arg_of : Data → RawArg
arg_of d = arg_by (as_str d) (whole_in d)

abbrev pub args_of : Items → List RawArg
args_of no_items = []
args_of (item d ds) = arg_of d ∷ args_of ds

abbrev pub args_in : Data → Option (List RawArg)
args_in d = option_map args_of (as_array d)

-- a call is a list that begins with a string, the method

abbrev pub raw_call : List ℕ → List RawArg → RawCall
raw_call method args = record { method = method; args = args }

abbrev pub call_in : Items → Option RawCall
call_in no_items = None
call_in (item d ds) = option_map (λ method. raw_call method (args_of ds)) (as_str d)

abbrev pub call_of : Data → Option RawCall
call_of d = option_and_then call_in (as_array d)

-- nothing where one item is no call

abbrev pub calls_of : Items → Option (List RawCall)
calls_of no_items = Some []
calls_of (item d ds) = option_and_then (λ call. option_map (λ more. call ∷ more) (calls_of ds)) (call_of d)

abbrev pub calls_in : Data → Option (List RawCall)
calls_in d = option_and_then calls_of (as_array d)

-- what a value holds as a member of a kind, or nothing where it isn't of this kind
abbrev pub held : (kind : Kind) → Data → Option (Held kind)
held whole d = whole_in d
held text d = as_str d
held flag d = as_bool d
held arg_list d = args_in d
held call_list d = calls_in d

-- A row of the table: the word that `do` has, the members in order with their kinds, and what their values make.

abbrev pub Makes : Type 0 → List (Member × Kind) → Type 0
Makes A [] = A
Makes A (m ∷ ms) = Held m.1 → Makes A ms

pub record Row : Type 0 where
  pub word : List ℕ
  pub members : List (Member × Kind)
  pub act : Makes Act members

abbrev pub names : List (Member × Kind) → List Member
names ms = map (λ m. m.0) ms

abbrev pub row : List ℕ → (members : List (Member × Kind)) → Makes Act members → Row
row word members act = record { word = word; members = members; act = act }

abbrev pub rows : List Row
rows =
    row (codes "open") ((Client, whole) ∷ (App, text) ∷ (Component, text) ∷ []) OpenSlot
    ∷ row (codes "call") ((Client, whole) ∷ (Method, text) ∷ (Args, arg_list) ∷ [])
    (λ client method args. CallSlot client (raw_call method args))
    ∷ row (codes "commit") ((Client, whole) ∷ []) CommitSlot
    ∷ row (codes "cancel") ((Client, whole) ∷ []) CancelSlot
    ∷ row (codes "send") ((App, text) ∷ (Component, text) ∷ (Calls, call_list) ∷ []) Send
    ∷ row (codes "take") ((Player, whole) ∷ (App, text) ∷ []) Take
    ∷ row (codes "play") ((Player, whole) ∷ (App, text) ∷ []) Play
    ∷ row (codes "work") ((Player, whole) ∷ []) Work
    ∷ row (codes "end") ((Player, whole) ∷ []) End
    ∷ row (codes "phase") ((Player, whole) ∷ []) Phase
    ∷ row (codes "move") ((From, text) ∷ (To, text) ∷ (Batch, whole) ∷ []) Move
    ∷ row (codes "switch") ((App, text) ∷ (On, flag) ∷ []) Switch
    ∷ row (codes "queues") ((App, text) ∷ []) Queues
    ∷ row (codes "table") ((Table, text) ∷ []) TableOf
    ∷ row (codes "outside") ((Resource, text) ∷ []) Outside
    ∷ []

-- the row of a word
abbrev pub row_of : List Row → List ℕ → Option Row
row_of [] word = None
row_of (row ∷ others) word = if bytes_eq word row.word then Some row else row_of others word

-- the rule: members are read in turn, the first that is missing or wrong is told, and then whether there is another

-- what is at a member, or the member, where it is missing or not of its kind
abbrev pub at_member : {A : Type 0} → Member → (Data → Option A) → Data → Result A Member
at_member m kind d = ok_or (option_and_then kind (get (member_text m) d)) m

-- goes on with a value, or stays at the member at fault
abbrev pub and_then : {A B : Type 0} → Result A Member → (A → Result B Member) → Result B Member
and_then (Ok x) go = go x
and_then (Err m) go = Err m

-- what the values of the members make
abbrev pub filled : {A : Type 0} (ms : List (Member × Kind)) → Makes A ms → Data → Result A Member
filled [] made d = Ok made
filled (m ∷ ms) make d = and_then (at_member m.0 (held m.1) d) (λ x. filled ms (make x) d)

-- whether an object has no member but these

abbrev pub is_among : List Member → List ℕ → Bool
is_among ms name = list_any (λ m. bytes_eq (member_text m) name) ms

abbrev pub all_among : List Member → Members → Bool
all_among ms no_members = true
all_among ms (member name d rest) = is_among ms name && all_among ms rest

abbrev pub has_only : List Member → Data → Bool
has_only ms d = unwrap_or (option_map (all_among ms) (as_object d)) false

abbrev pub no_other : List Member → Data → Result ⊤ Member
no_other ms d = if has_only ms d then Ok tt else Err Unknown

-- the moment that is handed in with an object; else its member `at` has it, from 0 to 10^12

abbrev pub moment_in_range : ℕ → Option ℕ
moment_in_range n = if nat_le n 1000000000000 then Some n else None

abbrev pub moment_in : Data → Option ℕ
moment_in d = option_and_then moment_in_range (whole_in d)

abbrev pub moment_of : Option ℕ → Data → Result ℕ Member
moment_of (Some now) d = Ok now
moment_of None d = at_member At moment_in d

-- the members before those of the row
abbrev pub heading : Option ℕ → List Member
heading (Some now) = Do ∷ []
heading None = At ∷ Do ∷ []

-- an object read along such members, which has no others
abbrev pub along : {A : Type 0} → Option ℕ → Data → (ms : List (Member × Kind)) → Makes A ms → Result A Member
along now d ms make = and_then (filled ms make d) (λ made. and_then (no_other (heading now ++ names ms) d) (λ _. Ok made))

-- by the word that `do` has
abbrev pub by_word : Option ℕ → Data → List ℕ → Result Act Member
by_word now d word = and_then (ok_or (row_of rows word) Do) (λ row. along now d row.members row.act)

abbrev pub act_of : Option ℕ → Data → Result Act Member
act_of now d = and_then (at_member Do as_str d) (λ word. by_word now d word)

abbrev pub by_object : Option ℕ → Data → Result Order Member
by_object now d = and_then (moment_of now d) (λ at. and_then (act_of now d) (λ act. Ok (record { at = at; act = act })))

-- the value of a line, where it is UTF-8 and a text of JSON
abbrev pub value_of : List ℕ → Option Data
value_of line = if is_utf8 line then read line else None

-- an object alone is an order
abbrev pub by_value : Option ℕ → Option Data → Result Order Member
by_value now None = Err Line
by_value now (Some d) = if is_some (as_object d) then by_object now d else Err Line

-- The order that a text says, or the member at fault. Where a moment is handed in, the text has no `at`.
abbrev pub order_in : Option ℕ → List ℕ → Result Order Member
order_in now bytes = by_value now (value_of bytes)

abbrev pub order_of : List ℕ → Result Order Member
order_of line = order_in None line

-- What an answer tells of what was asked. Want of memory tells nothing.
abbrev pub Tells : {A : Type 0} → Result A OrderError → Result A Member → Type 0
Tells (Ok x) asked = asked ≡ Ok x
Tells (Err LineTooLong) asked = ⊥
Tells (Err (Malformed m)) asked = asked ≡ Err m
Tells (Err NoMemory) asked = Unit

-- A line of at most 65,536 bytes is read; a longer one is refused before anything else is looked at.
abbrev pub TellsLine : Result Order OrderError → List ℕ → Type 0
TellsLine (Err LineTooLong) line = 65536 < length line
TellsLine (Err NoMemory) line = Unit
TellsLine (Err (Malformed m)) line = (length line ≤ 65536) × (order_of line ≡ Err m)
TellsLine (Ok order) line = (length line ≤ 65536) × (order_of line ≡ Ok order)
