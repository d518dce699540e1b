-- The tables of a history stand in order, and none of their rows has 0.
use Rattle.std.proofs.Common.{◌≡◌, List, ℕ, [], ◌∷◌, true, refl, unwrap_or, Option, Some, None, Ok, Err}
use Rattle.std.specs.Option.{option_map_or}
use Rattle.std.specs.declared.result.Result.{Result}
use Rattle.qc_base.specs.declared.fact.Fact.{Fact}
use Rattle.qc_base.specs.declared.fact.Kind.{Kind}
use Rattle.qc_base.specs.declared.message.Message.{Message}
use Rattle.qc_base.specs.Messages.{message_of}
use Rattle.qc_base.specs.declared.fact.Fact.TheVariants.{Catalogue as InForce, Sent, Played, Failed, Moved, Switched}
use Rattle.qc_catalogue.specs.declared.catalogue.Catalogue.{Catalogue}
use Rattle.qc_catalogue.specs.declared.error.CatalogueError.{CatalogueError}
use Rattle.qc_catalogue.specs.Catalogue.{catalogue_of}
use Rattle.qc_catalogue.specs.Laws.{keys_ascend}
use Rattle.qc_catalogue.proofs.Orderly.{stand_in_order}
use Rattle.qc_rows.specs.Laws.{are_canonical}
use Rattle.qc_rows.specs.Settling.{settled_by}
use Rattle.qc_rows.specs.Tables.{opened_tables, rows_shown}
use Rattle.qc_rows.proofs.Opened.{opens-canonical}
use Rattle.qc_rows.proofs.Settling.{canonical-ascend, keeps-canonical}
use Rattle.qc_txn.specs.Outcome.{Outcome, commits, fails}
use Rattle.qc_machine.specs.History.{History, by_text, if_ok, no_catalogue, no_facts, after_fact, after_facts, committed_tables, history_of, outcome_on, rows_after}

text-canonical : (text : List ℕ) → are_canonical (opened_tables (unwrap_or (by_text text) no_catalogue)) ≡ true
unfolding by_text
text-canonical text = by_read (catalogue_of text) refl
  where
    by_read : (r : Result Catalogue CatalogueError) → catalogue_of text ≡ r → are_canonical (opened_tables (unwrap_or (if_ok r) no_catalogue)) ≡ true
    by_read (Ok c) e = opens-canonical c (stand_in_order text c e)
    by_read (Err error) e = refl

committed-canonical : (h : History) (kind : Kind) (id : ℕ) → are_canonical h.tables ≡ true → are_canonical (committed_tables h kind id) ≡ true
committed-canonical h kind id was = by (message_of id h.messages)
  where
    after : (o : Outcome) → are_canonical (rows_after settled_by o h.tables) ≡ true
    after (commits play) = keeps-canonical play.view h.tables was
    after (fails why) = was

    by : (o : Option Message) → are_canonical (option_map_or (λ (m : Message). rows_after settled_by (outcome_on h kind m) h.tables) o h.tables) ≡ true
    by None = was
    by (Some m) = after (outcome_on h kind m)

after-canonical : (h : History) (facts : List Fact) → are_canonical h.tables ≡ true → are_canonical (after_facts by_text h facts).tables ≡ true
after-canonical h [] was = was
after-canonical h (InForce text ∷ facts) was = after-canonical (after_fact by_text h (InForce text)) facts (text-canonical text)
after-canonical h (Sent id at r ∷ facts) was = after-canonical (after_fact by_text h (Sent id at r)) facts was
after-canonical h (Played id attempt kind at ∷ facts) was = after-canonical (after_fact by_text h (Played id attempt kind at)) facts (committed-canonical h kind id was)
after-canonical h (Failed id attempt at ∷ facts) was = after-canonical (after_fact by_text h (Failed id attempt at)) facts was
after-canonical h (Moved app queue at ids ∷ facts) was = after-canonical (after_fact by_text h (Moved app queue at ids)) facts was
after-canonical h (Switched app on at ∷ facts) was = after-canonical (after_fact by_text h (Switched app on at)) facts was

pub tables-canonical : (facts : List Fact) → are_canonical (history_of by_text facts).tables ≡ true
tables-canonical facts = after-canonical no_facts facts refl

pub listings-ascend : (facts : List Fact) (name : List ℕ) → keys_ascend (rows_shown name (history_of by_text facts).tables) ≡ true
listings-ascend facts name = canonical-ascend name (history_of by_text facts).tables (tables-canonical facts)
