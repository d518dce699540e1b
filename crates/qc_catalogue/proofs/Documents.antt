-- When a text has a document, and the catalogue of a text by what is found in it.
use Rattle.std.proofs.Common.{◌≡◌, ◌∙◌, ◌≤◌, ◌<◌, List, [], ℕ, refl, ap, Option, Some, None, Ok, Err, cond, length, true, false, Bool, arith}
use Rattle.std.specs.Prelude.{Result}
use Rattle.std.proofs.lemmas.Bool.{le-leb, lt-leb}
use Rattle.std.specs.Str.{IsUtf8, is_utf8}
use Rattle.std.proofs.lemmas.Str.{is_utf8-from_IsUtf8, IsUtf8-from_is_utf8}
use Rattle.toml.specs.Data.{Members}
use Rattle.toml.specs.Parse.{parse_document}
use Rattle.qc_catalogue.specs.declared.catalogue.Catalogue.{Catalogue}
use Rattle.qc_catalogue.specs.declared.error.CatalogueError.{CatalogueError}
use Rattle.qc_catalogue.specs.declared.error.CatalogueError.TheVariants.{NotToml, TextTooLong}
use Rattle.qc_catalogue.specs.Findings.{walked}
use Rattle.qc_catalogue.specs.Catalogue.{document_of, of_document, catalogue_of, catalogue_by, catalogue_in, found_in}

pub document_there : (text : List ℕ) (ms : Members) → IsUtf8 text → parse_document text ≡ Some ms → document_of text ≡ Some ms
document_there text ms utf8 is = ap (λ b. cond b (parse_document text) None) (is_utf8-from_IsUtf8 text utf8) ∙ is

pub no_document : (text : List ℕ) → (IsUtf8 text → parse_document text ≡ None) → document_of text ≡ None
no_document text none = by_test (is_utf8 text) (λ e. none (IsUtf8-from_is_utf8 text e))
  where
    by_test : (b : Bool) → (b ≡ true → parse_document text ≡ None) → cond b (parse_document text) None ≡ None
    by_test true h = h refl
    by_test false h = refl

short : (text : List ℕ) → length text ≤ 1048576 → catalogue_of text ≡ of_document (document_of text)
short text h = ap (λ b. cond b (of_document (document_of text)) (Err TextTooLong)) (le-leb (length text) 1048576 h)

pub not_toml : (text : List ℕ) → length text ≤ 1048576 → document_of text ≡ None → catalogue_of text ≡ Err NotToml
not_toml text h none = short text h ∙ ap of_document none

pub refused_by : (text : List ℕ) (ms : Members) (e : CatalogueError) → length text ≤ 1048576 → document_of text ≡ Some ms → walked [] (found_in ms) ≡ Err e → catalogue_of text ≡ Err e
refused_by text ms e h is stopped = short text h ∙ ap of_document is ∙ ap (catalogue_by ms) stopped

pub read_by : (text : List ℕ) (ms : Members) (met : List (List ℕ)) → length text ≤ 1048576 → document_of text ≡ Some ms → walked [] (found_in ms) ≡ Ok met → catalogue_of text ≡ Ok (catalogue_in ms)
read_by text ms met h is on = short text h ∙ ap of_document is ∙ ap (catalogue_by ms) on

pub too_long : (text : List ℕ) → 1048576 < length text → catalogue_of text ≡ Err TextTooLong
too_long text h = ap (λ b. cond b (of_document (document_of text)) (Err TextTooLong)) (lt-leb (length text) 1048576 h)

-- what a catalogue was made of

abbrev Answer : Type 0
Answer = Result Catalogue CatalogueError

abbrev said : Catalogue → Answer
said c = Ok c

same_said : (c d : Catalogue) → said c ≡ said d → c ≡ d
same_said c d h = grind arith

not_said : (e : CatalogueError) (c : Catalogue) → Err e ≡ said c → ⊥
not_said e c h = grind arith

-- a document in which no rule is broken, and which says the catalogue
pub record IsMadeOf (text : List ℕ) (c : Catalogue) : Type 0 where
  pub document : Members
  pub met : List (List ℕ)
  pub is : document_of text ≡ Some document
  pub clean : walked [] (found_in document) ≡ Ok met
  pub says : catalogue_in document ≡ c

made_walked : (text : List ℕ) (ms : Members) (c : Catalogue) (w : Result (List (List ℕ)) CatalogueError) → document_of text ≡ Some ms → walked [] (found_in ms) ≡ w → catalogue_by ms w ≡ Ok c → IsMadeOf text c
made_walked text ms c (Ok met) is clean h = record { document = ms; met = met; is = is; clean = clean; says = same_said (catalogue_in ms) c h }
made_walked text ms c (Err e) is clean h = absurd (not_said e c h)

made_read : (text : List ℕ) (c : Catalogue) (o : Option Members) → document_of text ≡ o → of_document o ≡ Ok c → IsMadeOf text c
made_read text c None is h = absurd (not_said NotToml c h)
made_read text c (Some ms) is h = made_walked text ms c (walked [] (found_in ms)) is refl h

made_by : (text : List ℕ) (c : Catalogue) (b : Bool) → cond b (of_document (document_of text)) (Err TextTooLong) ≡ Ok c → IsMadeOf text c
made_by text c true h = made_read text c (document_of text) refl h
made_by text c false h = absurd (not_said TextTooLong c h)

pub made_of : (text : List ℕ) (c : Catalogue) → catalogue_of text ≡ Ok c → IsMadeOf text c
made_of text c h = made_by text c _ h
