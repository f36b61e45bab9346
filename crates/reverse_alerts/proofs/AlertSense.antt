-- The alert of a situation that can be said has the sense that the situation says.
use Rattle.std.proofs.Common.{◌≡◌, ℕ, List, [], ◌∷◌, map, Bool, true, false, ◌&&◌, ◌||◌, if◌then◌else◌, filter, is_some, is_none, Option, Some, None, refl, ap, ◌∙◌}
use Rattle.std.specs.List.{list_all, list_any}
use Rattle.std.proofs.lemmas.Bool.{and_parts, or_from}
use Rattle.timetable.specs.Sound.{IsSound}
use Rattle.timetable.specs.Table.{Table}
use Rattle.journey_model.specs.declared.situation.Situation.{Situation}
use Rattle.journey_model.specs.declared.situation.ValidPeriod.{ValidPeriod}
use Rattle.alert_map.specs.Alerts.{alert, period_of, translations}
use Rattle.reverse_alerts.specs.Kept.{is_journey, is_route, is_stop}
use Rattle.reverse_alerts.specs.Senses.{Sense, first_text, holding, is_open, sense, valid_period}
use Rattle.reverse_alerts.proofs.Names.{all-named-again}
use Rattle.reverse_alerts.proofs.Sayable.{IsSayable, cause_of-same, effect_of-same, is_bound, is_filled, is_period}

-- what a situation says
abbrev pub sense_of : Situation → Sense
sense_of one = record {
  periods = one.periods;
  routes = filter is_route one.refs;
  stops = filter is_stop one.refs;
  journeys = filter is_journey one.refs;
  cause = one.cause;
  effect = one.effect;
  header = one.summary;
  description = one.description;
}

-- no period is open at both ends
closed : (start end : Option ℕ) → (is_some start || is_some end) ≡ true → (is_none start && is_none end) ≡ false
closed None None h = cc
closed None (Some end) h = refl
closed (Some start) end h = refl

none-open : (periods : List ValidPeriod) → list_all is_period periods ≡ true → list_any is_open (map period_of periods) ≡ false
none-open [] h = refl
none-open (one ∷ others) h =
    let parts = and_parts (is_period one) (list_all is_period others) h in
    let bounds = and_parts (is_some one.start || is_some one.end) (is_bound one.start && is_bound one.end) parts.0 in
    or_from (is_open (period_of one)) (list_any is_open (map period_of others)) (closed one.start one.end bounds.0) (none-open others parts.1)

same-periods : (periods : List ValidPeriod) → map valid_period (map period_of periods) ≡ periods
same-periods [] = refl
same-periods (one ∷ others) = ap (λ rest. one ∷ rest) (same-periods others)

pub holding-again : (periods : List ValidPeriod) → list_all is_period periods ≡ true → holding (map period_of periods) ≡ periods
holding-again periods h =
    ap (λ (b : Bool). if b then [] else map valid_period (map period_of periods)) (none-open periods h) ∙ same-periods periods

-- its texts
pub first-again : (o : Option (List ℕ)) → is_filled o ≡ true → first_text (translations o) ≡ o
first-again None h = refl
first-again (Some []) h = cc
first-again (Some (byte ∷ bytes)) h = refl

-- all that it says
pub sense-again : (table : Table) (one : Situation) → IsSound table → IsSayable table one → sense table (alert table one) ≡ sense_of one
sense-again table one sound h =
    let holds = holding-again one.periods h.periods in
    let names = all-named-again table one.refs sound h.refs in
    let why = cause_of-same one.cause h.cause in
    let what = effect_of-same one.effect h.effect in
    let head = first-again one.summary h.summary in
    let long = first-again one.description h.description in
    λ i. record {
      periods = holds i;
      routes = filter is_route (names i);
      stops = filter is_stop (names i);
      journeys = filter is_journey (names i);
      cause = why i;
      effect = what i;
      header = head i;
      description = long i;
    }
