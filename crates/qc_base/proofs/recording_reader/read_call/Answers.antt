use Rattle.std.proofs.Common.{◌++◌, sym, ◌∙◌, append_assoc}
use Rattle.std.proofs.lemmas.Bool.{and_parts}
use Rattle.qc_base.specs.Names.{is_name}
use Rattle.qc_base.specs.Spelling.{short_bytes, spelled_args, are_args}
use Rattle.qc_base.proofs.PrefixFree.{short_bytes-free}
use Rattle.qc_base.proofs.recording_reader.read_call.Goals as goal

pub returns-in_default : goal.returns-in_default
returns-in_default c = λ value left limits e.
    c.in_default.ensures value.method (spelled_args value.args ++ left) (and_parts (is_name value.method) (are_args value.args) limits).0
    (e ∙ append_assoc (short_bytes value.method) (spelled_args value.args) left)

pub returns-in_default-2 : goal.returns-in_default-2
returns-in_default-2 c = λ value left limits e.
    let none = rw c.in_default-2.is at c.in_ok-args.ensures in
    let whole = sym c.in-Some.ensures.is ∙ e ∙ append_assoc (short_bytes value.method) (spelled_args value.args) left in
    let parts = short_bytes-free c.in-Some.method value.method _ (spelled_args value.args ++ left) whole in
    none value.args left (and_parts (is_name value.method) (are_args value.args) limits).1 parts.1
