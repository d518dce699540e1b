-- The number of each refusal, its name and its fields.
use Rattle.std.specs.Prelude.{ℕ, List, ◌++◌, codes, decimal, Option, Some, None}
use Rattle.qc_base.specs.declared.log_line.Stage.{Stage}
use Rattle.qc_base.specs.declared.log_line.Stage.TheVariants.{Calls as InCalls, Ready, Failing, Commit, Abort}
use Rattle.qc_protocol.specs.declared.order.Member.{Member}
use Rattle.qc_protocol.specs.declared.order.Member.TheVariants.{Line, Unknown, At, Do, Client, App, Component, Method, Args, Calls, Player, From, To, Batch, On, Table, Resource}
use Rattle.qc_protocol.specs.declared.reply.Side.{Side}
use Rattle.qc_protocol.specs.declared.reply.Side.TheVariants.{From as FromSide, To as ToSide}
use Rattle.qc_protocol.specs.declared.reply.Refusal.{Refusal}
use Rattle.qc_protocol.specs.declared.reply.Refusal.TheVariants.{LineTooLong, Malformed, NotBuilt, NoSuchSlot, SlotBusy, SlotIdle, Over, WrongStage, UnknownApp, UnknownComponent, UnknownMethod, BadArguments, TooManyCalls, TooLong, UnknownQueue, BadBatch, UnknownTable, TooManyMessages, SwitchedOff, NothingDue, Full}

abbrev pub member_text : Member → List ℕ
member_text Line = codes "line"
member_text Unknown = codes "unknown"
member_text At = codes "at"
member_text Do = codes "do"
member_text Client = codes "client"
member_text App = codes "app"
member_text Component = codes "component"
member_text Method = codes "method"
member_text Args = codes "args"
member_text Calls = codes "calls"
member_text Player = codes "player"
member_text From = codes "from"
member_text To = codes "to"
member_text Batch = codes "batch"
member_text On = codes "on"
member_text Table = codes "table"
member_text Resource = codes "resource"

abbrev pub stage_text : Stage → List ℕ
stage_text InCalls = codes "calls"
stage_text Ready = codes "ready"
stage_text Failing = codes "failing"
stage_text Commit = codes "commit"
stage_text Abort = codes "abort"

abbrev pub side_text : Side → List ℕ
side_text FromSide = codes "from"
side_text ToSide = codes "to"

abbrev pub moment_text : Option ℕ → List ℕ
moment_text (Some t) = decimal t
moment_text None = codes "none"

abbrev pub refusal_text : Refusal → List ℕ
refusal_text LineTooLong = codes "1 LineTooLong"
refusal_text (Malformed m) = codes "2 Malformed " ++ member_text m
refusal_text NotBuilt = codes "3 NotBuilt"
refusal_text (NoSuchSlot slot) = codes "4 NoSuchSlot " ++ decimal slot
refusal_text (SlotBusy n) = codes "5 SlotBusy " ++ decimal n
refusal_text SlotIdle = codes "6 SlotIdle"
refusal_text (Over began now) = codes "7 Over " ++ decimal began ++ codes " " ++ decimal now
refusal_text (WrongStage stage) = codes "8 WrongStage " ++ stage_text stage
refusal_text UnknownApp = codes "9 UnknownApp"
refusal_text UnknownComponent = codes "10 UnknownComponent"
refusal_text (UnknownMethod call) = codes "11 UnknownMethod " ++ decimal call
refusal_text (BadArguments call place) = codes "12 BadArguments " ++ decimal call ++ codes " " ++ decimal place
refusal_text TooManyCalls = codes "13 TooManyCalls"
refusal_text (TooLong size) = codes "14 TooLong " ++ decimal size
refusal_text (UnknownQueue side) = codes "15 UnknownQueue " ++ side_text side
refusal_text BadBatch = codes "16 BadBatch"
refusal_text UnknownTable = codes "17 UnknownTable"
refusal_text (TooManyMessages limit) = codes "18 TooManyMessages " ++ decimal limit
refusal_text SwitchedOff = codes "19 SwitchedOff"
refusal_text (NothingDue earliest_due blocked) = codes "20 NothingDue earliest " ++ moment_text earliest_due ++ codes " blocked " ++ decimal blocked
refusal_text (Full size) = codes "21 Full " ++ decimal size
