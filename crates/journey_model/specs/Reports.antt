-- The report on what was read: which items were set aside, and the lines that tell it.
use Rattle.std.specs.Prelude.{◌+◌, ℕ, List, [], ◌∷◌, ◌++◌, codes, decimal, length, Option, Some, None}
use Rattle.std.specs.List.{flat_map}
use Rattle.journey_model.specs.FaultTexts.{fault_text}
use Rattle.journey_model.specs.declared.fault.Fault.{Fault}
use Rattle.journey_model.specs.declared.report.Report.{Report}

-- the item of that number with its fault, where it is set aside
abbrev pub aside_at : ℕ → Option Fault → List (ℕ × Fault)
aside_at number None = []
aside_at number (Some fault) = (number, fault) ∷ []

-- the items that are set aside, numbered from that number on, each with its fault
abbrev pub aside_from : ℕ → List (Option Fault) → List (ℕ × Fault)
aside_from number [] = []
aside_from number (None ∷ others) = aside_from (number + 1) others
aside_from number (Some fault ∷ others) = (number, fault) ∷ aside_from (number + 1) others

-- `aside I FAULT`, after what leads to it
abbrev pub aside_line : List ℕ → ℕ × Fault → List ℕ
aside_line lead aside = lead ++ codes "aside " ++ decimal aside.0 ++ codes " " ++ fault_text aside.1 ++ codes "\n"

-- `taken T passed P aside N`, after what leads to it
abbrev pub count_line : List ℕ → ℕ → ℕ → ℕ → List ℕ
count_line lead taken passed aside =
    lead ++ codes "taken " ++ decimal taken ++ codes " passed " ++ decimal passed ++ codes " aside " ++ decimal aside
    ++ codes "\n"

-- a line for each item that is set aside, and the line of counts, each after the same lead
abbrev pub report_lines : List ℕ → Report → List ℕ
report_lines lead report =
    flat_map (aside_line lead) report.aside ++ count_line lead report.taken report.passed (length report.aside)
