-- Delays and times as numbers.
use Rattle.std.proofs.Common.{◌≡◌, ◌≤ℤ◌, ◌-ℤ◌, ℕ, ℤ, pos, negsuc, Bool, true, false, cond, int_le, Some, None, Option, IfSome, refl, arith}
use Rattle.std.specs.Bool.{passes}
use Rattle.std.specs.Int.Signed.{le_z_yes}
use Rattle.std.proofs.lemmas.Bool.{and_parts}
use Rattle.std.proofs.lemmas.Int.{ints}
use Rattle.gw_base.specs.Moments.{IsMoment}
use Rattle.journey_model.specs.Times.{IsPlanned, IsTime, event_fault, is_delay}
use Rattle.journey_model.specs.declared.fault.Fault.TheVariants.{DelayRange}

pub delay-range : (delay : ℤ) → is_delay delay ≡ true → (negsuc 604799 ≤ℤ delay) × (delay ≤ℤ pos 604800)
delay-range delay h =
    let parts = and_parts (int_le (negsuc 604799) delay) (int_le delay (pos 604800)) h in
    (le_z_yes (passes _ parts.0), le_z_yes (passes _ parts.1))

-- what a clause says of a delay that is there
pub delay-some : (delay : Option ℤ) (value : ℤ) → delay ≡ Some value → IfSome delay (λ d. is_delay d ≡ true) → is_delay value ≡ true
delay-some delay value e h = rw e at h

-- a time at most a week from a planned one, and a moment, are times that can be told apart from planned ones
pub near_time : (planned time : ℤ) → IsPlanned planned → is_delay (time -ℤ planned) ≡ true → IsTime time
near_time planned time range near = let bounds = delay-range (time -ℤ planned) near in omega (arith, ints, range, bounds.0, bounds.1)

pub moment_time : (time : ℤ) → IsMoment time → IsTime time
moment_time time h = omega (arith, ints, h)

-- a time whose event has no fault is at most a week from the planned one
pub event_near : (number : ℕ) (planned time : ℤ) → event_fault number planned (Some time) ≡ None
    → is_delay (time -ℤ planned) ≡ true
event_near number planned time none = by (is_delay (time -ℤ planned)) none
  where
    by : (b : Bool) → cond b None (Some (DelayRange number (time -ℤ planned))) ≡ None → b ≡ true
    by true h = refl
    by false h = absurd (cc)
