-- What an alert says that a situation can say again (GTFS Realtime reference, Alert, Cause, Effect, TimeRange,
-- TranslatedString).
use Rattle.std.specs.Prelude.{◌&&◌, ◌||◌, ℕ, ℤ, Bool, is_none, int_le, List, [], ◌∷◌, map, Option, Some, None, if◌then◌else◌}
use Rattle.std.specs.List.{filter, list_any}
use Rattle.std.specs.Ordering.{int_eq}
use Rattle.gw_base.specs.Enums.{medical_emergency, modified_service, no_service, other_cause, significant_delays, technical_problem, unknown_cause, unknown_effect, weather}
use Rattle.gw_base.specs.declared.messages.Alert.{Alert}
use Rattle.gw_base.specs.declared.messages.Period.{Period}
use Rattle.gw_base.specs.declared.messages.Translation.{Translation}
use Rattle.timetable.specs.Table.{Table}
use Rattle.journey_model.specs.Names.{filled_text}
use Rattle.journey_model.specs.declared.situation.Ref.{Ref}
use Rattle.journey_model.specs.declared.situation.ValidPeriod.{ValidPeriod}
use Rattle.reverse_alerts.specs.Kept.{all_named, is_journey, is_route, is_stop}

-- when it holds, in seconds since 1970: where one period has neither start nor end it always does, and then no period
-- is named
abbrev pub is_open : Period → Bool
is_open period = is_none period.start && is_none period.end

abbrev pub valid_period : Period → ValidPeriod
valid_period period = record { start = period.start; end = period.end }

abbrev pub holding : List Period → List ValidPeriod
holding periods = if list_any is_open periods then [] else map valid_period periods

-- the cause: TECHNICAL_PROBLEM 3 and WEATHER 8 as they are, the other known ones from OTHER_CAUSE 2 to
-- MEDICAL_EMERGENCY 12 as OTHER_CAUSE, and all others as UNKNOWN_CAUSE 1
abbrev pub cause_of : ℤ → ℤ
cause_of cause =
    if int_eq cause technical_problem then technical_problem else
    (if int_eq cause weather then weather else
    (if int_le other_cause cause && int_le cause medical_emergency then other_cause else unknown_cause))

-- the effect: NO_SERVICE 1, SIGNIFICANT_DELAYS 3, DETOUR 4, ADDITIONAL_SERVICE 5 and MODIFIED_SERVICE 6 as they are,
-- and all others as UNKNOWN_EFFECT 8
abbrev pub effect_of : ℤ → ℤ
effect_of effect =
    if int_eq effect no_service || (int_le significant_delays effect && int_le effect modified_service) then effect
    else unknown_effect

-- a text: that of the first translation, where it isn't empty
abbrev pub first_text : List Translation → Option (List ℕ)
first_text [] = None
first_text (first ∷ others) = filled_text (Some first.text)

-- what an alert says: when it holds, the routes, stops and journeys that it names, each in order, why, with what
-- effect, and in which words
pub record Sense : Type 0 where
  pub periods : List ValidPeriod
  pub routes : List Ref
  pub stops : List Ref
  pub journeys : List Ref
  pub cause : ℤ
  pub effect : ℤ
  pub header : Option (List ℕ)
  pub description : Option (List ℕ)

abbrev pub sense : Table → Alert → Sense
sense table alert = record {
  periods = holding alert.periods;
  routes = filter is_route (all_named table alert.selectors);
  stops = filter is_stop (all_named table alert.selectors);
  journeys = filter is_journey (all_named table alert.selectors);
  cause = cause_of alert.cause;
  effect = effect_of alert.effect;
  header = first_text alert.header;
  description = first_text alert.description;
}
