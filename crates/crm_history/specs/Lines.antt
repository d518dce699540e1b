-- What one line says.
use Rattle.std.specs.Prelude.{ℕ, List, Bool, false, ◌&&◌, ◌==◌}
use Rattle.std.specs.Str.{bytes_eq}
use Rattle.qc_base.specs.declared.log_line.LogLine.{LogLine}
use Rattle.qc_base.specs.declared.log_line.LogLine.TheVariants.{Registered, Written}

abbrev pub registers : ℕ → List ℕ → LogLine → Bool
registers attempt resource (Registered a name phases) = (a == attempt) && bytes_eq name resource
registers attempt resource _ = false

-- a record of an attempt and a resource, and of its row, and with its number

abbrev pub writes_to : ℕ → List ℕ → LogLine → Bool
writes_to attempt resource (Written a name r) = (a == attempt) && bytes_eq name resource
writes_to attempt resource _ = false

abbrev pub writes_key : ℕ → List ℕ → List ℕ → LogLine → Bool
writes_key attempt resource key (Written a name r) = (a == attempt) && (bytes_eq name resource && bytes_eq r.key key)
writes_key attempt resource key _ = false

abbrev pub writes_seq : ℕ → List ℕ → ℕ → LogLine → Bool
writes_seq attempt resource seq (Written a name r) = (a == attempt) && (bytes_eq name resource && (r.seq == seq))
writes_seq attempt resource seq _ = false
