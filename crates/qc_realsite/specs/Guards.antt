-- What a guarded file does, whatever its file answers. `g` has the members of the file's trait.
use Rattle.std.specs.Prelude.{◌≡◌, ◌≤◌, ◌<◌, ◌⊎◌, ℕ, ◌+◌, List, length, take, drop, min, true, false}
use Rattle.std.specs.Prelude.{is_ok, IfOk, OnOk, OnErr, IfSome, IsErr}
use Rattle.std.specs.declared.result.Result.{Result}
use Rattle.qc_site.specs.declared.site.Failed.{Failed}
use Rattle.qc_site.specs.Causes.{HasCause, Rose}
use Rattle.qc_realsite.specs.declared.guarded.Guarded.{Guarded}
use Rattle.qc_realsite.specs.declared.raw.RawFile.{Ghosts}
use Rattle.qc_realsite.specs.Calls.{TakesSome, IsCut, SyncsAll}

-- as many of the bytes from `at` on as fit and are there
pub record GivesAll (at size n : ℕ) (into bytes : List ℕ) : Type 0 where
  pub count : n ≡ min size (length (drop at bytes))
  pub given : take n into ≡ take n (drop at bytes)

-- a file that was handed in a moment ago
pub record IsNew {F : Type 0} (file : F) (guarded : Guarded F) : Type 0 where
  pub over : guarded.file ≡ file
  pub trusted : guarded.trusted ≡ true
  pub no_faults : guarded.faults.count ≡ 0

module _ {F : Type 0} (g : Ghosts F) where
  -- The count rises with a failure, and with nothing else. A file that isn't trusted isn't touched, and nothing but a
  -- failure is answered. Else a failure has its cause: a call of the file gave no answer, or the other one.
  pub record Guards {A : Type 0} (other : Type 0) (before now : Guarded F) (result : Result A Failed) : Type 0 where
    pub cause : HasCause before.faults.count now.faults.count (IsErr result)
    pub kept : OnOk result (now.faults.count ≡ before.faults.count)
    pub trusted : OnOk result (before.trusted ≡ true)
    pub why : OnErr result ((before.trusted ≡ false) ⊎ Rose (g.troubles before.file) (g.troubles now.file) ⊎ other)
    pub untouched : before.trusted ≡ false → now.file ≡ before.file

  -- the length; one past 2^62 is a failure
  pub record FindsLength (before now : Guarded F) (result : Result ℕ Failed) : Type 0 where
    pub guards : Guards (IfSome (g.holds before.file) (λ b. 4611686018427387904 < length b)) before now result
    pub stays : now.trusted ≡ before.trusted
    pub bound : IfOk result (λ n. n ≤ 4611686018427387904)
    pub size : IfOk result (λ n. IfSome (g.holds before.file) (λ b. n ≡ length b))
    pub same : g.holds now.file ≡ g.holds before.file

  -- all that fits and is there; a file has no byte past 2^62
  pub record ReadsAll (at : ℕ) (into read : List ℕ) (before now : Guarded F) (result : Result ℕ Failed) : Type 0 where
    pub guards : Guards ⊥ before now result
    pub stays : now.trusted ≡ before.trusted
    pub count : IfOk result (λ n. n ≤ length into)
    pub given : IfOk result (λ n. IfSome (g.holds before.file)
        (GivesAll (min at 4611686018427387904) (length into) n read))
    pub same : g.holds now.file ≡ g.holds before.file

  -- all the bytes, or a failure; past 2^62 bytes it fails, and the file isn't touched
  pub record WritesAll (at : ℕ) (bytes : List ℕ) (before now : Guarded F)
      (result : Result (Unit {0}) Failed) : Type 0 where
    pub guards : Guards (4611686018427387904 < at + length bytes) before now result
    pub stays : now.trusted ≡ before.trusted
    pub bound : OnOk result (at + length bytes ≤ 4611686018427387904)
    pub written : OnOk result (IfSome (g.holds before.file) (TakesSome at (length bytes) bytes (g.holds now.file)))
    pub refused : 4611686018427387904 < at + length bytes → now.file ≡ before.file

  -- a cut; a length past 2^62 is a failure, and the file isn't touched
  pub record CutsTo (len : ℕ) (before now : Guarded F) (result : Result (Unit {0}) Failed) : Type 0 where
    pub guards : Guards (4611686018427387904 < len) before now result
    pub stays : now.trusted ≡ before.trusted
    pub cut : OnOk result (IfSome (g.holds before.file) (IsCut len (g.holds now.file)))
    pub refused : 4611686018427387904 < len → now.file ≡ before.file

  -- a sync, after which the file is trusted exactly where it was Ok
  pub record MakesSure (before now : Guarded F) (result : Result (Unit {0}) Failed) : Type 0 where
    pub guards : Guards ⊥ before now result
    pub trust : now.trusted ≡ is_ok result
    pub sure : OnOk result (IfSome (g.holds before.file) (SyncsAll (g.holds now.file) (g.synced now.file)))
