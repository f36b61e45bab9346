-- Times without a fault are at most a week from the planned ones.
use Rattle.std.proofs.Common.{◌≡◌, ℕ, ℤ, ◌+ℤ◌, ◌-ℤ◌, true, Option, Some, None, arith}
use Rattle.std.proofs.lemmas.Int.{ints}
use Rattle.std.proofs.lemmas.Option.{none-some}
use Rattle.std.specs.Option.{ForSome}
use Rattle.gw_base.proofs.Elements.{or_neither}
use Rattle.journey_model.proofs.Delays.{event_near, near_time}
use Rattle.journey_model.specs.Times.{ArePlanned, IsPlanned, IsTime, both_times, delay_fault, event_fault, is_delay}

-- both times are a delay from the planned ones
pub record AreNear (planned both : ℤ × ℤ) : Type 0 where
  pub arrival : is_delay (both.0 -ℤ planned.0) ≡ true
  pub departure : is_delay (both.1 -ℤ planned.1) ≡ true

same_delay : (a b : ℤ) → a ≡ b → is_delay b ≡ true → is_delay a ≡ true
same_delay a b e h = rw e h

pub times_near : (number : ℕ) (planned : ℤ × ℤ) (arrival departure : Option ℤ) (both : ℤ × ℤ)
    → delay_fault number planned arrival departure ≡ None → both_times planned arrival departure ≡ Some both
    → AreNear planned both
times_near number planned (Some a) (Some d) both e same =
    let is : (a, d) ≡ both = cc in
    let no = or_neither (event_fault number planned.0 (Some a)) (event_fault number planned.1 (Some d)) e in
    rw (← is) (record { arrival = event_near number planned.0 a no.0; departure = event_near number planned.1 d no.1 })
times_near number planned (Some a) None both e same =
    let is : (a, planned.1 +ℤ (a -ℤ planned.0)) ≡ both = cc in
    let no = or_neither (event_fault number planned.0 (Some a)) None e in
    let near = event_near number planned.0 a no.0 in
    rw (← is) (record {
      arrival = near;
      departure = same_delay ((planned.1 +ℤ (a -ℤ planned.0)) -ℤ planned.1) (a -ℤ planned.0) (omega (arith, ints))
          near;
    })
times_near number planned None (Some d) both e same =
    let is : (planned.0 +ℤ (d -ℤ planned.1), d) ≡ both = cc in
    let no = or_neither None (event_fault number planned.1 (Some d)) e in
    let near = event_near number planned.1 d no.1 in
    rw (← is) (record {
      arrival =
          same_delay ((planned.0 +ℤ (d -ℤ planned.1)) -ℤ planned.0) (d -ℤ planned.1) (omega (arith, ints)) near;
      departure = near;
    })
times_near number planned None None both e same = absurd (none-some both same)

-- a time without a fault is near enough
pub time_in : (number : ℕ) (planned : ℤ) (time : Option ℤ) → IsPlanned planned → event_fault number planned time ≡ None → ForSome time IsTime
time_in number planned time range none = λ value is. near_time planned value range (event_near number planned value (rw is at none))

pub times_in : (number : ℕ) (planned : ℤ × ℤ) (arrival departure : Option ℤ) → ArePlanned planned → delay_fault number planned arrival departure ≡ None
    → ForSome arrival IsTime × ForSome departure IsTime
times_in number planned arrival departure range none =
    let each = or_neither (event_fault number planned.0 arrival) (event_fault number planned.1 departure) none in
    (time_in number planned.0 arrival range.0 each.0, time_in number planned.1 departure range.1 each.1)
