-- Facts that were read, taken one after another.
use Rattle.std.specs.Prelude.{◌≡◌, ℕ, ◌+◌, List, Bool, true, false, Ok, Err}
use Rattle.std.specs.declared.result.Result.{Result}
use Rattle.qc_base.specs.declared.fact.Fact.{Fact}
use Rattle.qc_base.specs.declared.number.NoMemory.{NoMemory}
use Rattle.qc_machine.specs.History.{History, by_text, goes_on, after_fact}
use Rattle.qc_history.specs.Adding.{SetsAside}
use Rattle.qc_history.specs.Stands.{IsHistoryOf, attempts_in}
use Rattle.qc_history.specs.View.{HistoryView}

-- this is kept of the history, beside the numbers of its attempts
pub record IsReadAs (view : HistoryView) (given : List ℕ) (h : History) : Type 0 where
  pub is : IsHistoryOf view h
  pub numbers : given ≡ attempts_in h

-- The fact goes on with the history, and is settled.
pub record Takes (fact : Fact) (old : HistoryView) (numbers : List ℕ) (new : HistoryView) (more : List ℕ) : Type 0 where
  pub follows : (h : History) → IsReadAs old numbers h → goes_on by_text h fact ≡ true
  pub settles : (h : History) → IsReadAs old numbers h → IsReadAs new more (after_fact by_text h fact)
  pub counted : new.facts ≡ old.facts + 1

-- It doesn't, and nothing is settled.
pub record Refuses (fact : Fact) (old : HistoryView) (given : List ℕ) (new : HistoryView) (left : List ℕ) : Type 0 where
  pub refused : (h : History) → IsReadAs old given h → goes_on by_text h fact ≡ false
  pub aside : SetsAside old new
  pub numbers : left ≡ given

-- There is no memory, and nothing is settled.
pub record Starves (old : HistoryView) (given : List ℕ) (new : HistoryView) (left : List ℕ) : Type 0 where
  pub aside : SetsAside old new
  pub numbers : left ≡ given

-- what a call answers that is given the next fact
abbrev pub TakesFact : Fact → Result Bool NoMemory → HistoryView → List ℕ → HistoryView → List ℕ → Type 0
TakesFact fact (Ok true) old numbers new more = Takes fact old numbers new more
TakesFact fact (Ok false) old numbers new more = Refuses fact old numbers new more
TakesFact fact (Err e) old numbers new more = Starves old numbers new more
