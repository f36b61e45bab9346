-- When a situation holds (SIRI 2.0, ValidityPeriod), in whole seconds since 1970.
use Rattle.std.specs.Prelude.{ℕ, ℤ, Bool, List, [], ◌∷◌, Option, Some, None, option_map, unsigned_abs, is_ok, Result, Ok, Err, if◌then◌else◌}
use Rattle.std.specs.List.{list_all}
use Rattle.gw_base.specs.declared.member.Member.{Member}
use Rattle.gw_base.specs.Chains.{◌>>=◌}
use Rattle.journey_model.specs.declared.fault.Fault.{Fault}
use Rattle.journey_model.specs.declared.fault.Fault.TheVariants.{BadField}
use Rattle.journey_model.specs.declared.situation.ValidPeriod.{ValidPeriod}
use Rattle.serde_json.specs.Data.{Data}
use Rattle.service_day.specs.declared.zones.Rules.{Rules}
use Rattle.siri_json.specs.Fields.{optional_member}
use Rattle.siri_json.specs.Forms.{moment}
use Rattle.siri_situations.specs.Steps.{gather, trees_at}
use Rattle.siri_situations.specs.declared.steps.Step.TheVariants.{Repeated}

-- the whole seconds of an instant, which isn't before 1970
abbrev pub seconds : Option (ℤ × ℕ) → Option ℕ
seconds instant = option_map (λ instant. unsigned_abs instant.0) instant

-- a period; one that neither begins nor ends isn't kept
abbrev pub kept : Option ℕ → Option ℕ → List ValidPeriod
kept None None = []
kept None (Some end) = record { start = None; end = Some end } ∷ []
kept (Some start) end = record { start = Some start; end = end } ∷ []

-- the period that an object says, if it is kept
abbrev pub period : Rules → Data → Result (List ValidPeriod) Fault
period zone tree = do
  start ← optional_member (moment zone) Member.StartTime tree
  end ← optional_member (moment zone) Member.EndTime tree
  Ok (kept (seconds start) (seconds end))

-- the starts of all periods come before their ends
abbrev pub start_in_form : Rules → Data → Bool
start_in_form zone tree = is_ok (optional_member (moment zone) Member.StartTime tree)

abbrev pub periods_in : Rules → List Data → Result (List ValidPeriod) Fault
periods_in zone trees =
    if list_all (start_in_form zone) trees then gather (period zone) trees else Err (BadField Member.StartTime)

-- the periods of a situation, in their order
abbrev pub periods : Rules → Data → Result (List ValidPeriod) Fault
periods zone tree = do
  trees ← trees_at (Repeated Member.ValidityPeriod) tree
  periods_in zone trees
