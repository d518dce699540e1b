-- What the driver leaves that delivers a phase to a compensator. `g` has the members of the site's trait.
use Rattle.std.specs.Prelude.{◌≡◌, ◌+◌, List, [], ◌∷◌, ◌++◌, length, take, filter_map, Option, Ok, OnOk, OnErr}
use Rattle.std.specs.declared.result.Result.{Result}
use Rattle.qc_base.specs.declared.log_line.LogRecord.{LogRecord}
use Rattle.qc_base.specs.declared.log_line.Heard.{Heard}
use Rattle.qc_site.specs.declared.site.Failed.{Failed}
use Rattle.qc_site.specs.declared.site.Site.{Ghosts}
use Rattle.crm_driver.specs.Puts.{RowPut, MakesPuts}
use Rattle.crm_driver.specs.Compensators.{CompensatorState, hears}

module _ {S : Type 0} (g : Ghosts S) where
  -- A call that failed at the last of these records: those before it were done.
  pub record FailsAtLast {A : Type 0} (put : LogRecord → Option RowPut) (records : List LogRecord)
      (result : Result A Failed) (site after : S) : Type 0 where
    pub done : List LogRecord
    pub last : LogRecord
    pub is : records ≡ done ++ last ∷ []
    pub mid : S
    pub before : MakesPuts g (filter_map put done) (Ok (tt {0})) site mid
    pub failed : MakesPuts g (filter_map put (last ∷ [])) result mid after

  -- A call that tells a compensator of a phase: it hears `heard`, whole, with these records delivered in this order.
  -- After a failure it heard the begin and a front of the records, the last of them that at which the site failed, and
  -- the puts are those of this front.
  pub record Delivers {A : Type 0} (put : LogRecord → Option RowPut) (heard : List Heard) (records : List LogRecord)
      (result : Result A Failed) (old new : CompensatorState) (site after : S) : Type 0 where
    pub told : List LogRecord
    pub left : List LogRecord
    pub split : records ≡ told ++ left
    pub all : OnOk result (left ≡ [])
    pub whole : OnOk result (new ≡ hears heard records old)
    pub front : OnErr result (new ≡ hears (take (length told + 1) heard) told old)
    pub stopped : OnErr result (FailsAtLast put told result site after)
    pub puts : MakesPuts g (filter_map put told) result site after
