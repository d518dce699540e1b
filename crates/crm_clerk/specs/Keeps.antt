-- What a clerk keeps of its lines.
use Rattle.std.specs.Prelude.{◌≡◌, ℕ, ◌+◌, ◌<◌, List, [], ◌∷◌, length, map, Bool, true, false, not, ◌&&◌, ◌==◌}
use Rattle.std.specs.List.{list_any}
use Rattle.std.specs.Str.{bytes_eq}
use Rattle.qc_base.specs.declared.log_line.LogRecord.{LogRecord}
use Rattle.qc_base.specs.declared.log_line.LogLine.{LogLine}
use Rattle.qc_base.specs.LogLines.{Registration, is_opened, is_done, is_registered, registrations, forgets_entry, unforgotten}
use Rattle.qc_base.specs.Spelling.{is_attempt}
use Rattle.crm_clerk.specs.Accounts.{Account}
use Rattle.crm_clerk.specs.Clerk.{records_in}

-- an account for each registration

abbrev pub account_by : List LogLine → ℕ → Registration → Account
account_by lines attempt r = record {
  resource = r.resource;
  phases = r.phases;
  written = length (records_in lines attempt r.resource);
  records = unforgotten lines attempt r.resource;
}

abbrev pub accounts_by : List LogLine → ℕ → List Account
accounts_by lines attempt = map (account_by lines attempt) (registrations lines attempt)

-- the records have the numbers from this one on
abbrev pub are_numbered : ℕ → List LogRecord → Bool
are_numbered seq [] = true
are_numbered seq (r ∷ records) = (r.seq == seq) && are_numbered (seq + 1) records

-- no resource is registered twice
abbrev pub are_distinct : List Registration → Bool
are_distinct [] = true
are_distinct (r ∷ rs) = not (list_any (λ (s : Registration). bytes_eq s.resource r.resource) rs) && are_distinct rs

abbrev pub is_begun : List Registration → Bool
is_begun [] = false
is_begun (r ∷ rs) = true

-- the accounts are those of the lines, and each line followed from those before it
pub record Keeps (attempt : ℕ) (lines : List LogLine) (accounts : List Account) : Type 0 where
  pub number : is_attempt attempt ≡ true
  pub kept : accounts ≡ accounts_by lines attempt
  pub opened : is_opened lines attempt ≡ is_begun (registrations lines attempt)
  pub going : is_done lines attempt ≡ false
  pub distinct : are_distinct (registrations lines attempt) ≡ true
  pub known : (resource : List ℕ) → is_registered lines attempt resource ≡ false → records_in lines attempt resource ≡ []
  pub numbered : (resource : List ℕ) → are_numbered 1 (records_in lines attempt resource) ≡ true
  pub forgot : (resource : List ℕ) (seq : ℕ) → length (records_in lines attempt resource) < seq
      → list_any (forgets_entry attempt resource seq) lines ≡ false
