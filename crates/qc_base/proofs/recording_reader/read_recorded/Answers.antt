use Rattle.std.proofs.Common.{◌++◌, sym, ◌∙◌, ◌&&◌}
use Rattle.std.proofs.lemmas.Bool.{and_parts}
use Rattle.qc_base.specs.Names.{is_name}
use Rattle.qc_base.specs.Spelling.{short_bytes, spelled_calls, are_calls}
use Rattle.qc_base.proofs.PrefixFree.{short_bytes-free, three_parts}
use Rattle.qc_base.proofs.recording_reader.read_recorded.Goals as goal

pub returns-in_default-read_name : goal.returns-in_default-read_name
returns-in_default-read_name c = λ value left limits e.
    let whole = sym c.in-Some.ensures.is ∙ e ∙ three_parts (short_bytes value.app) (short_bytes value.component) (spelled_calls value.calls) left in
    let parts = short_bytes-free c.in-Some.app value.app _ _ whole in
    let rest = and_parts (is_name value.app) (is_name value.component && are_calls value.calls) limits in
    c.in_default-read_name.ensures value.component (spelled_calls value.calls ++ left) (and_parts (is_name value.component) (are_calls value.calls) rest.1).0 parts.1

pub returns-in_default-2 : goal.returns-in_default-2
returns-in_default-2 c = λ value left limits e.
    let none = rw c.in_default-2.is at c.in_ok-calls.ensures in
    let whole = sym c.in-Some.ensures.is ∙ e ∙ three_parts (short_bytes value.app) (short_bytes value.component) (spelled_calls value.calls) left in
    let parts = short_bytes-free c.in-Some.app value.app _ _ whole in
    let second = short_bytes-free c.in-Some-read_name.component value.component _ _ (sym c.in-Some-read_name.ensures.is ∙ parts.1) in
    let rest = and_parts (is_name value.app) (is_name value.component && are_calls value.calls) limits in
    none value.calls left (and_parts (is_name value.component) (are_calls value.calls) rest.1).1 second.1
