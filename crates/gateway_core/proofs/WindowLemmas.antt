-- A window is known by its first day, the number of its days and the zone.
use Rattle.std.proofs.Common.{◌≡◌, ◌∙◌, ◌&&◌, ◌<◌, ℕ, ℤ, pos, Bool, true, false, cond, map, Some, None, ap, sym, refl, subst, arith}
use Rattle.std.proofs.lemmas.Int.{ints}
use Rattle.std.proofs.lemmas.List.{ext_get_or}
use Rattle.std.proofs.lemmas.List.FromFn.{get_or-map-range_with_len, length-map-range_with_len}
use Rattle.std.proofs.lemmas.Option.{same_Some}
use Rattle.std.specs.Prelude.{◌+ℤ◌, ◌-ℤ◌, int_le, int_lt, length, slice_index_or, unsigned_abs}
use Rattle.std.specs.List.{range_with_len}
use Rattle.service_day.specs.Starts.{start}
use Rattle.service_day.specs.Windows.{DayStarts, IsWindow, start_among, start_in}
use Rattle.service_day.specs.declared.zones.Rules.{Rules}
use Rattle.gateway_core.specs.Arrivals.{window_from}

-- a day is among so many from a first one on
abbrev pub among : ℤ → ℕ → ℤ → Bool
among first days day = int_le first day && int_lt day (first +ℤ pos days)

within_place : (first : ℤ) (days place : ℕ) → place < days → among first days (first +ℤ pos place) ≡ true
within_place first days place h = grind (arith, ints)

place_is : (first : ℤ) (place : ℕ) → unsigned_abs ((first +ℤ pos place) -ℤ first) ≡ place
place_is first place = omega (arith, ints)

place_in : (first day : ℤ) (days : ℕ) → among first days day ≡ true → unsigned_abs (day -ℤ first) < days
place_in first day days h = grind (arith, ints)

day_is : (first day : ℤ) (days : ℕ) → among first days day ≡ true → first +ℤ pos (unsigned_abs (day -ℤ first)) ≡ day
day_is first day days h = grind (arith, ints)

-- the window of so many days from a first one on is one
pub window_from-is : (zone : Rules) (first : ℤ) (days : ℕ) → IsWindow zone first days (window_from zone first days)
window_from-is zone first days = record {
  first_is = refl;
  days_are = count;
  starts_are = λ day.
      ap (λ (n : ℕ). cond (among first n day) (Some (slice_index_or (map (λ place. start zone (first +ℤ pos place)) (range_with_len 0 days)) (unsigned_abs (day -ℤ first)) (pos 0))) None) count
      ∙ by day (among first days day) refl;
}
  where
    count : length (map (λ place. start zone (first +ℤ pos place)) (range_with_len 0 days)) ≡ days
    count = length-map-range_with_len (λ place. start zone (first +ℤ pos place)) 0 days

    by : (day : ℤ) (b : Bool) → among first days day ≡ b
        → cond b (Some (slice_index_or (map (λ place. start zone (first +ℤ pos place)) (range_with_len 0 days)) (unsigned_abs (day -ℤ first)) (pos 0))) None
        ≡ cond b (Some (start zone day)) None
    by day true e =
        ap (λ (at : ℤ). Some at)
        (get_or-map-range_with_len (λ place. start zone (first +ℤ pos place)) 0 days (unsigned_abs (day -ℤ first)) (unsigned_abs (day -ℤ first)) (pos 0) (place_in first day days e) (omega arith)
        ∙ ap (start zone) (day_is first day days e))
    by day false e = refl

-- and each window of these is that one
pub window_is : (zone : Rules) (first : ℤ) (days : ℕ) (window : DayStarts) → IsWindow zone first days window → window ≡ window_from zone first days
window_is zone first days window h = λ i. record { first = h.first_is i; starts = starts_are i }
  where
    at : (place : ℕ) → place < days → slice_index_or window.starts place (pos 0) ≡ start zone (first +ℤ pos place)
    at place lt = same_Some (slice_index_or window.starts place (pos 0)) (start zone (first +ℤ pos place)) (sym left ∙ h.starts_are (first +ℤ pos place) ∙ right)
      where
        left : start_in window (first +ℤ pos place) ≡ Some (slice_index_or window.starts place (pos 0))
        left = rw (h.first_is, h.days_are, within_place first days place lt, place_is first place) refl

        right : start_among zone first days (first +ℤ pos place) ≡ Some (start zone (first +ℤ pos place))
        right = rw (within_place first days place lt) refl

    starts_are : window.starts ≡ map (λ place. start zone (first +ℤ pos place)) (range_with_len 0 days)
    starts_are =
        ext_get_or (pos 0) window.starts (map (λ place. start zone (first +ℤ pos place)) (range_with_len 0 days))
        (h.days_are ∙ sym (length-map-range_with_len (λ place. start zone (first +ℤ pos place)) 0 days))
        (λ place lt.
        let lt' : place < days = subst (λ (n : ℕ). place < n) h.days_are lt in
        at place lt' ∙ sym (get_or-map-range_with_len (λ place. start zone (first +ℤ pos place)) 0 days place place (pos 0) lt' (omega arith)))
