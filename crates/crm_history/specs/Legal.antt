-- Which lines may stand in the log of compensations of a site, whose history has this catalogue, so many messages that
-- were sent, and these attempts that ended.
use Rattle.std.specs.Prelude.{ℕ, ◌+◌, List, [], ◌∷◌, ◌++◌, length, filter_map, Bool, true, false, not, ◌&&◌, ◌||◌, ◌==◌, is_some, find}
use Rattle.std.specs.List.{list_all, list_any}
use Rattle.std.specs.Option.{option_map_or}
use Rattle.std.specs.Str.{bytes_eq}
use Rattle.qc_base.specs.declared.log_line.LogRecord.{LogRecord}
use Rattle.qc_base.specs.declared.log_line.LogLine.{LogLine}
use Rattle.qc_base.specs.declared.log_line.LogLine.TheVariants.{Opened, Registered, Written, Forgot, Done}
use Rattle.qc_base.specs.LogLines.{Entry, attempt_of_line, opened_by, is_done, is_unfinished, is_registered, entries, of_resource, unforgotten}
use Rattle.qc_base.specs.Spelling.{is_between}
use Rattle.qc_catalogue.specs.declared.catalogue.Catalogue.{Catalogue}
use Rattle.qc_catalogue.specs.declared.catalogue.Resource.{Resource}
use Rattle.qc_catalogue.specs.Lookup.{resource_named}
use Rattle.crm_history.specs.declared.ended.Ended.{Ended}

-- an attempt that ended isn't this one, or is of this message
abbrev pub is_about : ℕ → ℕ → Ended → Bool
is_about attempt id e = not (e.attempt == attempt) || (e.id == id)

abbrev pub is_committed : ℕ → List Ended → Bool
is_committed attempt ended = list_any (λ (e : Ended). (e.attempt == attempt) && e.committed) ended

-- the catalogue has the resource, with these phases
abbrev pub has_phases : Catalogue → List ℕ → ℕ → Bool
has_phases c name phases = option_map_or (λ (r : Resource). r.phases == phases) (resource_named name c.resources) false

-- the catalogue has the resource, with a row of this key
abbrev pub has_row : Catalogue → List ℕ → List ℕ → Bool
has_row c name key = option_map_or (λ (r : Resource). list_any (λ (row : List ℕ × ℕ). bytes_eq row.0 key) r.rows) (resource_named name c.resources) false

-- an attempt has a record of a row, forgotten or not
abbrev pub wrote_row : List LogLine → List ℕ → List ℕ → ℕ → Bool
wrote_row lines resource key attempt = list_any (λ (e : Entry). bytes_eq e.resource resource && bytes_eq e.entry.key key) (entries lines attempt)

-- no other attempt that is opened and not done has a record of the row
abbrev pub is_row_free : List LogLine → List ℕ → List ℕ → ℕ → Bool
is_row_free lines resource key attempt =
    list_all (λ a. (a == attempt) || not (is_unfinished lines a && wrote_row lines resource key a)) (filter_map opened_by lines)

-- the number of the next record of an attempt and a resource, which goes on behind a record that is forgotten
abbrev pub next_seq : List LogLine → ℕ → List ℕ → ℕ
next_seq lines attempt resource = length (of_resource resource (entries lines attempt)) + 1

-- whether a line may follow those before it
abbrev pub line_may_follow : Catalogue → ℕ → List Ended → List LogLine → LogLine → Bool
line_may_follow c sent ended lines (Opened attempt id) =
    not (list_any (λ line. attempt_of_line line == attempt) lines) && (is_between 1 sent id && list_all (is_about attempt id) ended)
line_may_follow c sent ended lines (Registered attempt resource phases) =
    is_unfinished lines attempt && (not (is_registered lines attempt resource) && has_phases c resource phases)
line_may_follow c sent ended lines (Written attempt resource r) =
    is_unfinished lines attempt && (is_registered lines attempt resource
    && ((r.seq == next_seq lines attempt resource) && (has_row c resource r.key && is_row_free lines resource r.key attempt)))
line_may_follow c sent ended lines (Forgot attempt resource seq) =
    not (is_done lines attempt) && list_any (λ (r : LogRecord). r.seq == seq) (unforgotten lines attempt resource)
line_may_follow c sent ended lines (Done attempt) = is_unfinished lines attempt

abbrev pub lines_follow : Catalogue → ℕ → List Ended → List LogLine → List LogLine → Bool
lines_follow c sent ended before [] = true
lines_follow c sent ended before (line ∷ lines) =
    line_may_follow c sent ended before line && lines_follow c sent ended (before ++ line ∷ []) lines

-- each line may follow those before it
abbrev pub is_log_legal : Catalogue → ℕ → List Ended → List LogLine → Bool
is_log_legal c sent ended lines = lines_follow c sent ended [] lines
