-- The bytes of recordings, facts and log lines. Each value within the limits has one spelling, and no other value has one.
use Rattle.std.specs.Prelude.{◌≡◌, ◌≢◌, ℕ, nat_le, List, [], ◌∷◌, ◌++◌, length, flat_map, Bool, true, ◌&&◌, ◌==◌, Option, MatchOption, if◌then◌else◌}
use Rattle.std.specs.List.{list_all}
use Rattle.std.specs.Int.{w16, w32, w64, to_be_bytes}
use Rattle.qc_base.specs.Names.{is_name, is_text}
use Rattle.qc_base.specs.declared.recording.Arg.{Arg}
use Rattle.qc_base.specs.declared.recording.Arg.TheVariants.{Text, Whole}
use Rattle.qc_base.specs.declared.recording.Call.{Call}
use Rattle.qc_base.specs.declared.recording.Recording.{Recording}
use Rattle.qc_base.specs.declared.fact.Fact.{Fact}
use Rattle.qc_base.specs.declared.fact.Fact.TheVariants.{Catalogue, Sent, Played, Failed, Moved, Switched}
use Rattle.qc_base.specs.declared.fact.Kind.{Kind}
use Rattle.qc_base.specs.declared.fact.Kind.TheVariants.{Normal, Final}
use Rattle.qc_base.specs.declared.log_line.LogRecord.{LogRecord}
use Rattle.qc_base.specs.declared.log_line.LogLine.{LogLine}
use Rattle.qc_base.specs.declared.log_line.LogLine.TheVariants.{Opened, Registered, Written, Forgot, Done}

-- a name or a text: its length in one byte, and its bytes
abbrev pub short_bytes : List ℕ → List ℕ
short_bytes word = length word ∷ word

-- a number, its highest byte first

unfoldable pub two_bytes : ℕ → List ℕ
two_bytes n = to_be_bytes w16 n

unfoldable pub four_bytes : ℕ → List ℕ
four_bytes n = to_be_bytes w32 n

unfoldable pub eight_bytes : ℕ → List ℕ
eight_bytes n = to_be_bytes w64 n

-- numbers from low to high
abbrev pub is_between : ℕ → ℕ → ℕ → Bool
is_between low high n = nat_le low n && nat_le n high

abbrev pub fits_two : ℕ → Bool
fits_two n = nat_le n 65535

abbrev pub fits_four : ℕ → Bool
fits_four n = nat_le n 4294967295

abbrev pub is_amount : ℕ → Bool
is_amount n = nat_le n 1000000000000000

abbrev pub is_moment : ℕ → Bool
is_moment n = nat_le n 1000000000000

abbrev pub is_attempt : ℕ → Bool
is_attempt n = is_between 1 9223372036854775807 n

abbrev pub is_id : ℕ → Bool
is_id n = nat_le n 18446744073709551615

-- recordings

abbrev pub spelled_arg : Arg → List ℕ
spelled_arg (Text t) = 1 ∷ short_bytes t
spelled_arg (Whole n) = 2 ∷ eight_bytes n

abbrev pub spelled_args : List Arg → List ℕ
spelled_args args = length args ∷ flat_map spelled_arg args

abbrev pub spelled_call : Call → List ℕ
spelled_call call = short_bytes call.method ++ spelled_args call.args

abbrev pub spelled_calls : List Call → List ℕ
spelled_calls calls = length calls ∷ flat_map spelled_call calls

abbrev pub spelled_recording : Recording → List ℕ
spelled_recording r = short_bytes r.app ++ short_bytes r.component ++ spelled_calls r.calls

abbrev pub is_arg : Arg → Bool
is_arg (Text t) = is_text t
is_arg (Whole n) = is_amount n

-- at most 16
abbrev pub are_args : List Arg → Bool
are_args args = nat_le (length args) 16 && list_all is_arg args

abbrev pub is_call : Call → Bool
is_call call = is_name call.method && are_args call.args

-- 1 to 64
abbrev pub are_calls : List Call → Bool
are_calls calls = is_between 1 64 (length calls) && list_all is_call calls

-- a recording whatever the length of its spelling
abbrev pub is_recorded : Recording → Bool
is_recorded r = is_name r.app && (is_name r.component && are_calls r.calls)

abbrev pub is_recording : Recording → Bool
is_recording r = is_recorded r && nat_le (length (spelled_recording r)) 16384

-- facts

abbrev pub flag_byte : Bool → ℕ
flag_byte b = if b then 1 else 0

abbrev pub kind_byte : Kind → ℕ
kind_byte Normal = 1
kind_byte Final = 2

abbrev pub spelled_fact : Fact → List ℕ
spelled_fact (Catalogue text) = 1 ∷ four_bytes (length text) ++ text
spelled_fact (Sent id at r) = 2 ∷ eight_bytes id ++ eight_bytes at ++ two_bytes (length (spelled_recording r)) ++ spelled_recording r
spelled_fact (Played id attempt kind at) = 3 ∷ eight_bytes id ++ eight_bytes attempt ++ kind_byte kind ∷ eight_bytes at
spelled_fact (Failed id attempt at) = 4 ∷ eight_bytes id ++ eight_bytes attempt ++ eight_bytes at
spelled_fact (Moved app queue at ids) = 5 ∷ short_bytes app ++ queue ∷ eight_bytes at ++ two_bytes (length ids) ++ flat_map eight_bytes ids
spelled_fact (Switched app on at) = 6 ∷ short_bytes app ++ flag_byte on ∷ eight_bytes at

abbrev pub is_fact : Fact → Bool
is_fact (Catalogue text) = nat_le (length text) 1048576
is_fact (Sent id at r) = is_id id && (is_moment at && is_recording r)
is_fact (Played id attempt kind at) = is_id id && (is_attempt attempt && is_moment at)
is_fact (Failed id attempt at) = is_id id && (is_attempt attempt && is_moment at)
is_fact (Moved app queue at ids) = is_name app && (nat_le queue 6 && (is_moment at && (is_between 1 1000 (length ids) && list_all is_id ids)))
is_fact (Switched app on at) = is_name app && is_moment at

-- log lines

abbrev pub spelled_line : LogLine → List ℕ
spelled_line (Opened attempt id) = 1 ∷ eight_bytes attempt ++ eight_bytes id
spelled_line (Registered attempt resource phases) = 2 ∷ eight_bytes attempt ++ short_bytes resource ++ phases ∷ []
spelled_line (Written attempt resource r) = 3 ∷ eight_bytes attempt ++ short_bytes resource ++ four_bytes r.seq ++ r.flags ∷ short_bytes r.key ++ eight_bytes r.old ++ eight_bytes r.new
spelled_line (Forgot attempt resource seq) = 4 ∷ eight_bytes attempt ++ short_bytes resource ++ four_bytes seq
spelled_line (Done attempt) = 5 ∷ eight_bytes attempt

abbrev pub is_record : LogRecord → Bool
is_record r = is_between 1 4294967295 r.seq && ((r.flags == 0) && (is_text r.key && (is_amount r.old && is_amount r.new)))

abbrev pub is_line : LogLine → Bool
is_line (Opened attempt id) = is_attempt attempt && is_id id
is_line (Registered attempt resource phases) = is_attempt attempt && (is_name resource && is_between 1 7 phases)
is_line (Written attempt resource r) = is_attempt attempt && (is_name resource && is_record r)
is_line (Forgot attempt resource seq) = is_attempt attempt && (is_name resource && fits_four seq)
is_line (Done attempt) = is_attempt attempt

-- the bytes are the spelling of the value
pub record Spells {A : Type 0} (within : A → Bool) (spelled : A → List ℕ) (bytes : List ℕ) (value : A) : Type 0 where
  pub limits : within value ≡ true
  pub is : bytes ≡ spelled value

-- the bytes begin with the spelling of the value, and these are left
pub record Begins {A : Type 0} (within : A → Bool) (spelled : A → List ℕ) (bytes : List ℕ) (value : A) (left : List ℕ) : Type 0 where
  pub limits : within value ≡ true
  pub is : bytes ≡ spelled value ++ left

-- the bytes begin with no spelling
abbrev pub NoneBegins : {A : Type 0} → (A → Bool) → (A → List ℕ) → List ℕ → Type 0
NoneBegins within spelled bytes = (value : _) (left : List ℕ) → within value ≡ true → bytes ≢ spelled value ++ left

-- what a reader answers: a value whose spelling it takes, or none where there is none
abbrev pub Reads : {A : Type 0} → (A → Bool) → (A → List ℕ) → List ℕ → List ℕ → Option A → Type 0
Reads within spelled before after found = MatchOption found (NoneBegins within spelled before) (λ value. Begins within spelled before value after)

-- no spelling begins another, and each value has one of its own
abbrev pub IsPrefixFree : {A : Type 0} → (A → Bool) → (A → List ℕ) → Type 0
IsPrefixFree within spelled = (a b : _) (x y : List ℕ) → within a ≡ true → within b ≡ true → spelled a ++ x ≡ spelled b ++ y → (a ≡ b) × (x ≡ y)

abbrev pub SpellsRecording : List ℕ → Recording → Type 0
SpellsRecording = Spells is_recording spelled_recording

abbrev pub SpellsFact : List ℕ → Fact → Type 0
SpellsFact = Spells is_fact spelled_fact

abbrev pub SpellsLine : List ℕ → LogLine → Type 0
SpellsLine = Spells is_line spelled_line
