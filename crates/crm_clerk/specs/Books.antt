-- How accounts are kept: the records of all of them stand in one list, one account's behind another's.
use Rattle.std.specs.Prelude.{ℕ, ◌+◌, ◌≤◌, List, [], ◌∷◌, take, drop}
use Rattle.qc_base.specs.declared.log_line.LogRecord.{LogRecord}
use Rattle.crm_clerk.specs.declared.book.Counts.{Counts}
use Rattle.crm_clerk.specs.Accounts.{Account}

abbrev pub account_in : List ℕ × ℕ → Counts → List LogRecord → Account
account_in r c records = record { resource = r.0; phases = r.1; written = c.written; records = records }

abbrev pub accounts_in : List (List ℕ × ℕ) → List Counts → List LogRecord → List Account
accounts_in [] counts records = []
accounts_in (r ∷ rs) [] records = []
accounts_in (r ∷ rs) (c ∷ cs) records = account_in r c (take c.kept records) ∷ accounts_in rs cs (drop c.kept records)

-- a number of four bytes counts all records of a resource, those to come among them
abbrev pub IsWithin : ℕ → Counts → Type 0
IsWithin room c = c.written + room ≤ 4294967295
