use Rattle.std.proofs.Common.{◌≡◌, ◌++◌, ◌∷◌, [], Some, None, rules}
use Rattle.qc_script.specs.Words.{by_word}
use Rattle.qc_script.specs.Terms.{term_of}
use Rattle.qc_script.specs.Sums.{sign_front}
use Rattle.qc_script.proofs.TermsRead.{term_missing, term_then, term_last}
use Rattle.qc_script.proofs.sums.read_signed.Goals as goal

pub returns-in_default : goal.returns-in_default
returns-in_default c =
    let none : by_word (term_of c.args.tables.now c.args.params.now) c.args.words.now ≡ None = search rules in
    term_missing c.args.tables.now c.args.params.now c.args.minus c.args.words.now none

pub returns-in-Some-next_sign : goal.returns-in-Some-next_sign
returns-in-Some-next_sign c =
    let front : by_word (term_of c.args.tables.now c.args.params.now) c.args.words.now ≡ Some (c.in-Some.term, c.read_term.new.words) = search rules in
    let put : c.put_term.new.terms.items ≡ c.args.terms.now.items ++ record { minus = c.args.minus; term = c.in-Some.term } ∷ [] = search rules in
    let sign : sign_front c.read_term.new.words ≡ Some (c.in-Some-next_sign.sign, c.next_sign.new.words) = search rules in
    term_then c.args.tables.now c.args.params.now c.args.minus c.args.words.now c.read_term.new.words c.next_sign.new.words c.args.terms.now.items c.put_term.new.terms.items c.in-Some.term c.in-Some-next_sign.sign front put sign

pub returns-in-None : goal.returns-in-None
returns-in-None c =
    let front : by_word (term_of c.args.tables.now c.args.params.now) c.args.words.now ≡ Some (c.in-Some.term, c.read_term.new.words) = search rules in
    let put : c.put_term.new.terms.items ≡ c.args.terms.now.items ++ record { minus = c.args.minus; term = c.in-Some.term } ∷ [] = search rules in
    let none : sign_front c.read_term.new.words ≡ None = search rules in
    let same : c.next_sign.new.words ≡ c.read_term.new.words = search rules in
    term_last c.args.tables.now c.args.params.now c.args.minus c.args.words.now c.read_term.new.words c.next_sign.new.words c.args.terms.now.items c.put_term.new.terms.items c.in-Some.term front put none same
