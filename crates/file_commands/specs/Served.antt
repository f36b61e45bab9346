-- What only private functions of the deliveries and of samples cite.
use Rattle.std.specs.Prelude.{◌≡◌, ◌<◌, ℕ, ℤ, List, [], ◌∷◌, length, Option, Some, None, Result, Ok, Err, unwrap_or}
use Rattle.gw_base.specs.Directory.{bytes_of}
use Rattle.journey_model.specs.declared.report.Report.{Report}
use Rattle.sample_maker.specs.Folder.{folder}
use Rattle.gateway_core.specs.Arrivals.{Arrival, Given}
use Rattle.gateway_core.specs.Standing.{Kept, Stands}
use Rattle.file_commands.specs.Work.{Arrived}
use Rattle.file_commands.specs.declared.exit.Exit.{Exit}

-- the first two words, a flag and a path, and the words after
abbrev pub IsNext : List (List ℕ) → Option (List ℕ × List ℕ × List (List ℕ)) → Type 0
IsNext words None = length words < 2
IsNext words (Some next) = words ≡ next.0 ∷ next.1 ∷ next.2

-- a step gives this report and something more, and a gateway stands for that after what it stood for; or the step ends
abbrev pub Takes : (Result (Given × Report) Exit → Type 0) → ℤ → List Arrival → Kept → Result Report Exit → Type 0
Takes Step at arrivals now (Ok report) =
    (given : Given) × Step (Ok (given, report)) × Stands now (record { moment = at; gives = given } ∷ arrivals)
Takes Step at arrivals now (Err end) = Step (Err end)

-- a gateway stands for something that arrived
abbrev pub IsStanding : Kept → Type 0
IsStanding now = (arrivals : List Arrival) × Stands now arrivals

-- a step finds these reports and what arrived, and a gateway stands for that; or the step ends
abbrev pub TakesAll : (Result Arrived Exit → Type 0) → Kept → Result (List ℕ) Exit → Type 0
TakesAll Step now (Ok reports) =
    (arrivals : List Arrival) × Step (Ok (record { arrivals = arrivals; reports = reports })) × Stands now arrivals
TakesAll Step now (Err end) = Step (Err end)

-- the text of the made folder's file of that name
abbrev pub text_of : ℕ → ℕ → List ℕ → List ℕ
text_of trips stops name = unwrap_or (bytes_of (folder trips stops) name) []

-- a step finds what arrived, and a gateway stands for it; or the step ends
abbrev pub TakesTexts : {A : Type 0} → (Result (List Arrival) Exit → Type 0) → Kept → Result A Exit → Type 0
TakesTexts Step now (Ok done) = (arrivals : List Arrival) × Step (Ok arrivals) × Stands now arrivals
TakesTexts Step now (Err end) = Step (Err end)
