-- What a window has for a day.
use Rattle.std.proofs.Common.{◌≡◌, ℕ, ◌<◌, ◌≤◌, ◌⊎◌, Bool, true, false, ◌&&◌, if◌then◌else◌, List, length, take, get_or, arith, refl, sym, ap, ◌∙◌, ℤ, pos, ◌+ℤ◌, ◌-ℤ◌, ◌<ℤ◌, ◌≤ℤ◌, int_le, int_lt, unsigned_abs, FitsSigned, w32, Some, None, inl, inr}
use Rattle.std.proofs.lemmas.Int.{ints}
use Rattle.std.proofs.lemmas.List.{get_or-take, length-take-le}
use Rattle.service_day.specs.Days.{IsDay}
use Rattle.service_day.specs.Starts.{start}
use Rattle.service_day.specs.Windows.{DayStarts, IsWindow, start_in}
use Rattle.service_day.specs.declared.zones.Rules.{Rules}
use Rattle.service_day.proofs.DayLemmas.{forward}

pub start_in-none : (w : DayStarts) (day : ℤ) → (day <ℤ w.first) ⊎ ((w.first +ℤ pos (length w.starts)) ≤ℤ day) → start_in w day ≡ None
start_in-none w day (inl before) = grind (arith, ints)
start_in-none w day (inr after) = grind (arith, ints)

pub start_in-some : (w : DayStarts) (day : ℤ) → w.first ≤ℤ day → day <ℤ (w.first +ℤ pos (length w.starts)) → start_in w day ≡ Some (get_or w.starts (unsigned_abs (day -ℤ w.first)) (pos 0))
start_in-some w day low high = grind (arith, ints)

same_if : (b : Bool) (x y : ℤ) → (b ≡ true → x ≡ y) → (if b then Some x else None) ≡ (if b then Some y else None)
same_if true x y h = ap (λ z. Some z) (h refl)
same_if false x y h = refl

within : (first day end : ℤ) → (int_le first day && int_lt day end) ≡ true → (first ≤ℤ day) × (day <ℤ end)
within first day end h = grind (arith, ints)

-- the place of a day in a window
pub place_in : (first day : ℤ) (days : ℕ) → first ≤ℤ day → day <ℤ (first +ℤ pos days) → unsigned_abs (day -ℤ first) < days
place_in first day days low high = omega (arith, ints, forward first day low)

-- the distance of two days fits 32 bits
pub distance_fits : (a b : ℤ) → IsDay a → IsDay b → FitsSigned w32 (a -ℤ b)
distance_fits a b h k = omega (arith, ints)

-- what is computed for each day is what a window has for it
each_day : (f : ℤ → ℤ) (first : ℤ) (days : ℕ) (starts : List ℤ) → days ≤ length starts
    → ((k : ℕ) → k < days → get_or starts k (pos 0) ≡ f (first +ℤ pos k))
    → (day : ℤ) → first ≤ℤ day → day <ℤ (first +ℤ pos days) → get_or (take days starts) (unsigned_abs (day -ℤ first)) (pos 0) ≡ f day
each_day f first days starts room each day low high =
    let k = unsigned_abs (day -ℤ first) in
    let there = forward first day low in
    let h : k < days = place_in first day days low high in
    get_or-take days starts k (pos 0) h ∙ each k h ∙ ap f (sym there)

-- the starts that were computed make the window
pub window_is : (zone : Rules) (first : ℤ) (days : ℕ) (starts : List ℤ) → days ≤ length starts
    → ((k : ℕ) → k < days → get_or starts k (pos 0) ≡ start zone (first +ℤ pos k))
    → IsWindow zone first days (record { first = first; starts = take days starts })
window_is zone first days starts room each = record {
  first_is = refl;
  days_are = length-take-le days starts room;
  starts_are = λ day. rw (length-take-le days starts room)
      (same_if (int_le first day && int_lt day (first +ℤ pos days)) _ (start zone day)
      (λ e. each_day (start zone) first days starts room each day (within first day _ e).0 (within first day _ e).1));
}
