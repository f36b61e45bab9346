-- Situations that can be said and are read again as they are.
use Rattle.std.proofs.Common.{◌≡◌, ℕ, ◌<◌, List, [], ◌∷◌, length, Bool, true, false, ◌&&◌, ◌||◌, if◌then◌else◌, is_some, Option, Some, None, refl, sym, ap, ◌∙◌, ℤ, pos, negsuc, int_eq, int_le, inl, inr, arith, leb-true}
use Rattle.std.specs.List.{AllByRecursion, list_all}
use Rattle.std.proofs.lemmas.Bool.{and_parts, cases_eq, or_cases}
use Rattle.std.proofs.lemmas.Bool.Decides.{Decides-int_eq}
use Rattle.gw_base.specs.Moments.{is_moment}
use Rattle.service_day.specs.Days.{IsDay}
use Rattle.timetable.specs.Table.{Table}
use Rattle.journey_model.specs.declared.situation.Ref.{Ref}
use Rattle.journey_model.specs.declared.situation.Ref.TheVariants.{Route, Stop, Journey}
use Rattle.journey_model.specs.declared.situation.Situation.{Situation}
use Rattle.journey_model.specs.declared.situation.ValidPeriod.{ValidPeriod}
use Rattle.reverse_alerts.specs.Senses.{cause_of, effect_of}
use Rattle.reverse_alerts.proofs.Grouped.{by_kinds}

-- a bound is a moment, and a period has a bound
abbrev pub is_bound : Option ℕ → Bool
is_bound None = true
is_bound (Some secs) = is_moment (pos secs)

abbrev pub is_period : ValidPeriod → Bool
is_period period = (is_some period.start || is_some period.end) && (is_bound period.start && is_bound period.end)

-- what is referred to is there, and on a day
abbrev pub CanSay : Table → Ref → Type 0
CanSay table (Route route) = route.0 < length table.routes
CanSay table (Stop stop) = stop.0 < length table.stops
CanSay table (Journey trip day) = (trip.0 < length table.trips) × IsDay day

-- a text isn't empty
abbrev pub is_filled : Option (List ℕ) → Bool
is_filled None = true
is_filled (Some []) = false
is_filled (Some (byte ∷ bytes)) = true

-- a cause that a reason tells, and an effect that a condition tells
pub data IsCause (cause : ℤ) : Type 0 where
  unknown_cause : cause ≡ pos 1 → IsCause cause
  other : cause ≡ pos 2 → IsCause cause
  technical : cause ≡ pos 3 → IsCause cause
  weather : cause ≡ pos 8 → IsCause cause

pub data IsEffect (effect : ℤ) : Type 0 where
  no_service : effect ≡ pos 1 → IsEffect effect
  delays : effect ≡ pos 3 → IsEffect effect
  detour : effect ≡ pos 4 → IsEffect effect
  additional : effect ≡ pos 5 → IsEffect effect
  modified : effect ≡ pos 6 → IsEffect effect
  unknown_effect : effect ≡ pos 8 → IsEffect effect

pub record IsSayable (table : Table) (one : Situation) : Type 0 where
  pub periods : list_all is_period one.periods ≡ true
  pub refs : AllByRecursion (CanSay table) one.refs
  pub some : 0 < length one.refs
  pub kinds : by_kinds one.refs ≡ one.refs
  pub cause : IsCause one.cause
  pub effect : IsEffect one.effect
  pub summary : is_filled one.summary ≡ true
  pub description : is_filled one.description ≡ true

-- ---- causes and effects

pub IsCause-cause_of : (cause : ℤ) → IsCause (cause_of cause)
IsCause-cause_of cause = by (int_eq cause (pos 3)) (int_eq cause (pos 8)) (int_le (pos 2) cause && int_le cause (pos 12))
  where
    by : (a b c : Bool) → IsCause (if a then pos 3 else (if b then pos 8 else (if c then pos 2 else pos 1)))
    by true b c = technical refl
    by false true c = weather refl
    by false false true = other refl
    by false false false = unknown_cause refl

pub cause_of-same : (cause : ℤ) → IsCause cause → cause_of cause ≡ cause
cause_of-same cause (unknown_cause e) = ap cause_of e ∙ sym e
cause_of-same cause (other e) = ap cause_of e ∙ sym e
cause_of-same cause (technical e) = ap cause_of e ∙ sym e
cause_of-same cause (weather e) = ap cause_of e ∙ sym e

-- a number from 3 to 6
from-three : (effect : ℤ) → int_le (pos 3) effect ≡ true → int_le effect (pos 6) ≡ true → IsEffect effect
from-three (negsuc n) low high = cc
from-three (pos n) low high =
    let least = leb-true 3 n low in
    let most = leb-true n 6 high in
    elim (cases_eq n 3) [
      | inl e ↦ delays (ap pos e)
      | inr no3 ↦ elim (cases_eq n 4) [
        | inl e ↦ detour (ap pos e)
        | inr no4 ↦ elim (cases_eq n 5) [
          | inl e ↦ additional (ap pos e)
          | inr no5 ↦ elim (cases_eq n 6) [ inl e ↦ modified (ap pos e) | inr no6 ↦ absurd (no6 (omega arith)) ]
        ]
      ]
    ]

pub IsEffect-effect_of : (effect : ℤ) → IsEffect (effect_of effect)
IsEffect-effect_of effect = by (int_eq effect (pos 1) || (int_le (pos 3) effect && int_le effect (pos 6))) refl
  where
    by : (b : Bool) → (int_eq effect (pos 1) || (int_le (pos 3) effect && int_le effect (pos 6))) ≡ b → IsEffect (if b then effect else pos 8)
    by false e = unknown_effect refl
    by true e = elim (or_cases (int_eq effect (pos 1)) _ e) [
      | inl one ↦ no_service ((Decides-int_eq effect (pos 1)).0 one)
      | inr more ↦ let parts = and_parts (int_le (pos 3) effect) (int_le effect (pos 6)) more in from-three effect parts.0 parts.1
    ]

pub effect_of-same : (effect : ℤ) → IsEffect effect → effect_of effect ≡ effect
effect_of-same effect (no_service e) = ap effect_of e ∙ sym e
effect_of-same effect (delays e) = ap effect_of e ∙ sym e
effect_of-same effect (detour e) = ap effect_of e ∙ sym e
effect_of-same effect (additional e) = ap effect_of e ∙ sym e
effect_of-same effect (modified e) = ap effect_of e ∙ sym e
effect_of-same effect (unknown_effect e) = ap effect_of e ∙ sym e
