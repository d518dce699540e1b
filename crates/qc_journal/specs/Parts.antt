-- The parts of facts that only facts have.
use Rattle.std.specs.Prelude.{ℕ, nat_le, List, [], ◌∷◌, ◌++◌, length, flat_map, Bool, true, ◌&&◌}
use Rattle.std.specs.List.{list_all}
use Rattle.qc_base.specs.declared.recording.Recording.{Recording}
use Rattle.qc_base.specs.declared.fact.Kind.{Kind}
use Rattle.qc_base.specs.Spelling.{two_bytes, four_bytes, eight_bytes, kind_byte, flag_byte, spelled_recording, is_between, is_id}

-- each value is within the limits
abbrev pub is_any : {A : Type 0} → A → Bool
is_any value = true

abbrev pub is_queue : ℕ → Bool
is_queue queue = nat_le queue 6

abbrev pub one_byte : ℕ → List ℕ
one_byte n = n ∷ []

abbrev pub spelled_kind : Kind → List ℕ
spelled_kind kind = kind_byte kind ∷ []

abbrev pub spelled_flag : Bool → List ℕ
spelled_flag on = flag_byte on ∷ []

-- the text of a catalogue
abbrev pub is_text_of : List ℕ → Bool
is_text_of text = nat_le (length text) 1048576

abbrev pub spelled_text : List ℕ → List ℕ
spelled_text text = four_bytes (length text) ++ text

-- a recording behind the length of its spelling
abbrev pub spelled_sized : Recording → List ℕ
spelled_sized recording = two_bytes (length (spelled_recording recording)) ++ spelled_recording recording

abbrev pub are_ids : List ℕ → Bool
are_ids ids = is_between 1 1000 (length ids) && list_all is_id ids

abbrev pub spelled_ids : List ℕ → List ℕ
spelled_ids ids = two_bytes (length ids) ++ flat_map eight_bytes ids
