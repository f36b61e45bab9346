-- The report on what a file brought.
use Rattle.std.specs.Prelude.{ℕ, List, ◌++◌, codes}
use Rattle.journey_model.specs.Reports.{report_lines}
use Rattle.journey_model.specs.declared.report.Report.{Report}

-- the report on the items of a file: `FILE aside I FAULT` for each that is set aside, and
-- `FILE taken T passed P aside N`
abbrev pub feed_report : List ℕ → Report → List ℕ
feed_report file report = report_lines (file ++ codes " ") report
