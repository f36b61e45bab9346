-- What is counted of the items of a delivery while they are gone through.
use Rattle.std.specs.Prelude.{◌≡◌, ℕ, List, length, min, Option, is_none}
use Rattle.std.specs.List.{count_by}
use Rattle.gw_base.specs.Count.{last_count}
use Rattle.journey_model.specs.Reports.{aside_from}
use Rattle.journey_model.specs.declared.fault.Fault.{Fault}
use Rattle.journey_model.specs.declared.report.Report.{Report}
use Rattle.gateway_core.specs.declared.items.tally.Tally.{Tally}

-- of items that are set aside for these faults, or taken, and of which so many parts were passed over in sum
pub record Tallied (faults : List (Option Fault)) (sum : ℕ) (tally : Tally) : Type 0 where
  pub items_are : tally.items ≡ length faults
  pub passed_is : tally.passed ≡ min sum last_count
  pub aside_are : tally.aside ≡ aside_from 0 faults

-- the report on them
abbrev pub report_of : List (Option Fault) → ℕ → Report
report_of faults sum =
    record { taken = count_by is_none faults; passed = min sum last_count; aside = aside_from 0 faults }
