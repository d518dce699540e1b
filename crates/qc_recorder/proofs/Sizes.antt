-- The length of a recording's spelling.
use Rattle.std.proofs.Common.{◌≡◌, ◌∙◌, ℕ, ◌+◌, ◌≤◌, ◌<◌, leb, List, [], ◌∷◌, ◌++◌, Bool, true, length, refl, sym, ap, arith, length-append, append-nil}
use Rattle.std.specs.List.{flat_map, list_all}
use Rattle.std.proofs.lemmas.Bool.{and_parts, and_from, ltb-true, le-leb}
use Rattle.std.proofs.lemmas.List.Concat.{flat_map-append}
use Rattle.qc_base.specs.Names.{is_name, is_letter, is_name_byte}
use Rattle.qc_base.specs.Spelling.{short_bytes, is_arg, are_args, is_call, spelled_call, spelled_recording}
use Rattle.qc_base.specs.declared.recording.Call.{Call}
use Rattle.qc_base.specs.declared.recording.Recording.{Recording}
use Rattle.qc_recorder.specs.Recording.{with_call, no_calls}

pub name-length : (name : List ℕ) → is_name name ≡ true → length name ≤ 32
name-length [] e = omega arith
name-length (b ∷ rest) e = omega (arith, ltb-true (length rest) 32 (and_parts (list_all is_name_byte rest) _ (and_parts (is_letter b) _ e).1).1)

pub size-empty : (app component : List ℕ) → length (spelled_recording (no_calls app component)) ≡ 3 + length app + length component
size-empty app component = omega (arith, length-append (short_bytes app ++ short_bytes component) (0 ∷ []), length-append (short_bytes app) (short_bytes component))

-- one call more adds its own bytes
pub size-with : (r : Recording) (call : Call) → length (spelled_recording (with_call r call)) ≡ length (spelled_recording r) + length (spelled_call call)
size-with r call = omega (
  arith,
  length-append (short_bytes r.app ++ short_bytes r.component) (length (r.calls ++ call ∷ []) ∷ flat_map spelled_call (r.calls ++ call ∷ [])),
  length-append (short_bytes r.app ++ short_bytes r.component) (length r.calls ∷ flat_map spelled_call r.calls),
  ap length (flat_map-append spelled_call r.calls (call ∷ [])),
  length-append (flat_map spelled_call r.calls) (spelled_call call ++ []),
  ap length (append-nil (spelled_call call)),
)

pub call-within : (call : Call) → is_name call.method ≡ true → length call.args ≤ 16 → list_all is_arg call.args ≡ true → is_call call ≡ true
call-within call named few limits = and_from (is_name call.method) (are_args call.args) named (and_from (leb (length call.args) 16) (list_all is_arg call.args) (le-leb _ _ few) limits)
