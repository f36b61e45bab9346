-- What only private functions cite: a delivery that is being written, one entity after the other.
use Rattle.std.specs.Prelude.{◌+◌, ◌==◌, ℕ, ℤ, min, Bool, List, [], ◌∷◌, ◌++◌, Option, Some, None, Result, Ok, Err, if◌then◌else◌}
use Rattle.std.specs.Option.{option_or}
use Rattle.serde_json.specs.Written.{comma_if}
use Rattle.gw_base.specs.Count.{last_count}
use Rattle.gw_base.specs.declared.messages.Alert.{Alert}
use Rattle.timetable.specs.Table.{Table}
use Rattle.journey_model.specs.declared.fault.Fault.{Fault}
use Rattle.journey_model.specs.declared.fault.Fault.TheVariants.{NoAffects}
use Rattle.journey_model.specs.declared.report.Report.{Report}
use Rattle.journey_model.specs.declared.situation.Situation.{Situation}
use Rattle.reverse_alerts.specs.SituationTexts.{situation_text}
use Rattle.reverse_alerts.specs.Taken.{number_fault, periods_fault}

-- what becomes of an entity: nothing where it is passed
abbrev pub Verdict : Type 0
Verdict = Option (Result Situation Fault)

-- the first fault of an alert, by how many things its selectors name
abbrev pub none_named : ℕ → Option Fault
none_named named = if named == 0 then Some NoAffects else None

abbrev pub fault_by : List ℕ → Alert → ℕ → Option Fault
fault_by id alert named = option_or (number_fault id) (option_or (periods_fault alert.periods) (none_named named))

-- what an entity adds to the text, after a comma where a situation stands before
abbrev pub added_text : Bool → Table → ℤ → Verdict → List ℕ
added_text later table moment None = []
added_text later table moment (Some (Err fault)) = []
added_text later table moment (Some (Ok one)) = comma_if later ++ situation_text table moment one

-- the report with so many more that are passed, and with what became of the entity of that number
abbrev pub with_passed : ℕ → Report → Report
with_passed passed report = record {
  taken = report.taken;
  passed = min (report.passed + passed) last_count;
  aside = report.aside;
}

abbrev pub with_verdict : ℕ → Verdict → Report → Report
with_verdict number None report = report
with_verdict number (Some (Err fault)) report = record {
  taken = report.taken;
  passed = report.passed;
  aside = report.aside ++ (number, fault) ∷ [];
}
with_verdict number (Some (Ok one)) report = record {
  taken = report.taken + 1;
  passed = report.passed;
  aside = report.aside;
}

-- the report on no entity
abbrev pub no_report : Report
no_report = record { taken = 0; passed = 0; aside = [] }
