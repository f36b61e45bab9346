-- What stands at the position of a call is of its stop's station.
use Rattle.std.proofs.Common.{◌≡◌, ◌+◌, ◌-◌, ◌==◌, ℕ, zero, suc, Bool, true, false, cond, List, [], ◌∷◌, drop, position, slice_get, Option, Some, None, option_map, refl, arith, add-zero, subst, nat_le}
use Rattle.std.specs.List.{list_any}
use Rattle.std.specs.Option.{option_map_or, option_or}
use Rattle.std.proofs.Math.Bool.{or-true}
use Rattle.std.proofs.lemmas.Bool.Decides.{nat_tests}
use Rattle.std.proofs.lemmas.List.Quantifiers.{position-Some}
use Rattle.std.proofs.lemmas.Option.{slice_get-get_or}
use Rattle.journey_model.specs.Matching.{call_position, first_from, fits_order, is_of_station, is_of_stop, later_position, ordered_position, position_after, stands_at}
use Rattle.timetable.specs.declared.stop_row.StopRow.{StopRow}
use Rattle.timetable.proofs.IdLemmas.{and-right}

pub same-number : (n : ℕ) → (n == n) ≡ true
same-number n = grind (arith, nat_tests)

pub other-way : (n m : ℕ) → (n == m) ≡ true → (m == n) ≡ true
other-way n m h = grind (arith, nat_tests)

-- ---- the position of a call is that of its order, or the first of its stop or of its stop's station

module _ (station_of : ℕ → ℕ) (stops : List StopRow) (from stop : ℕ) (P : ℕ → Type 0)
    (fits : (order : ℕ) → fits_order (is_of_station station_of stop) from order stops ≡ true → P (order - 1))
    (same : (k : ℕ) → first_from (is_of_stop stop) from stops ≡ Some k → P k)
    (near : (k : ℕ) → first_from (is_of_station station_of stop) from stops ≡ Some k → P k) where
  later-case : (position : ℕ) → later_position station_of stop from stops ≡ Some position → P position
  later-case position at = by (first_from (is_of_stop stop) from stops) refl at
    where
      by : (found : Option ℕ) → first_from (is_of_stop stop) from stops ≡ found
          → option_or found (first_from (is_of_station station_of stop) from stops) ≡ Some position → P position
      by None is e = near position e
      by (Some k) is e = let it : k ≡ position = cc in subst P it (same k is)

  ordered-case : (order position : ℕ)
      → option_or (cond (fits_order (is_of_station station_of stop) from order stops) (Some (order - 1)) None) (later_position station_of stop from stops) ≡ Some position
      → P position
  ordered-case order position at = by (fits_order (is_of_station station_of stop) from order stops) refl at
    where
      by : (b : Bool) → fits_order (is_of_station station_of stop) from order stops ≡ b
          → option_or (cond b (Some (order - 1)) None) (later_position station_of stop from stops) ≡ Some position → P position
      by false is e = later-case position e
      by true is e = let it : order - 1 ≡ position = cc in subst P it (fits order is)

  pub call-cases : (order : Option ℕ) (position : ℕ)
      → option_or (ordered_position (is_of_station station_of stop) from stops order) (later_position station_of stop from stops) ≡ Some position → P position
  call-cases None position at = later-case position at
  call-cases (Some order) position at = ordered-case order position at

-- ---- a test at a position

stands-weaker : (test other : StopRow → Bool) → ((row : StopRow) → test row ≡ true → other row ≡ true) → (found : Option StopRow)
    → option_map_or test found false ≡ true → option_map_or other found false ≡ true
stands-weaker test other weaker None h = h
stands-weaker test other weaker (Some row) h = weaker row h

pub stands-any : (test : StopRow → Bool) (position : ℕ) (stops : List StopRow) → stands_at test position stops ≡ true → list_any test stops ≡ true
stands-any test position [] h = absurd (cc)
stands-any test zero (row ∷ rows) h = rw h refl
stands-any test (suc position) (row ∷ rows) h = rw (stands-any test position rows h) (or-true (test row))

no_row : StopRow
no_row = record { sequence = 0; stop = record { 0 = 0 }; arrival = 0; departure = 0 }

position-stands : (test : StopRow → Bool) (stops : List StopRow) (k : ℕ) → position test stops ≡ Some k → stands_at test k stops ≡ true
position-stands test stops k at =
    let found = position-Some test stops k no_row at in
    rw (slice_get-get_or stops k no_row found.0) found.1

stands-from : (test : StopRow → Bool) (from k : ℕ) (stops : List StopRow) → stands_at test k (drop from stops) ≡ true → stands_at test (k + from) stops ≡ true
stands-from test zero k stops h = rw (add-zero k) h
stands-from test (suc from) k [] h = absurd (cc)
stands-from test (suc from) k (row ∷ rows) h =
    let later : suc (k + from) ≡ k + suc from = omega arith in
    subst (λ i. stands_at test i (row ∷ rows) ≡ true) later (stands-from test from k rows h)

first-stands : (test : StopRow → Bool) (from : ℕ) (stops : List StopRow) (k : ℕ) → first_from test from stops ≡ Some k → stands_at test k stops ≡ true
first-stands test from stops k at = by (position test (drop from stops)) refl at
  where
    by : (found : Option ℕ) → position test (drop from stops) ≡ found → option_map (λ p. p + from) found ≡ Some k → stands_at test k stops ≡ true
    by None is e = absurd (cc)
    by (Some p) is e =
        let same : p + from ≡ k = cc in
        subst (λ i. stands_at test i stops ≡ true) same (stands-from test from p stops (position-stands test (drop from stops) p is))

-- a row of a stop is of its station
of-station : (station_of : ℕ → ℕ) (stop : ℕ) (row : StopRow) → is_of_stop stop row ≡ true → is_of_station station_of stop row ≡ true
of-station station_of stop row h =
    let same : row.stop.0 ≡ stop = grind (arith, nat_tests) in
    rw same (same-number (station_of stop))

-- ---- what stands at the position of a call

pub call-stands : (station_of : ℕ → ℕ) (stops : List StopRow) (after : Option ℕ) (stop : ℕ) (order : Option ℕ) (position : ℕ)
    → call_position station_of stops after stop order ≡ Some position → stands_at (is_of_station station_of stop) position stops ≡ true
call-stands station_of stops after stop order position at =
    call-cases station_of stops (position_after after) stop (λ k. stands_at (is_of_station station_of stop) k stops ≡ true)
    (λ n fits. and-right (nat_le (position_after after) (n - 1)) (stands_at (is_of_station station_of stop) (n - 1) stops) (and-right (nat_le 1 n) _ fits))
    (λ k is. stands-weaker (is_of_stop stop) (is_of_station station_of stop) (of-station station_of stop) (slice_get stops k) (first-stands (is_of_stop stop) (position_after after) stops k is))
    (λ k is. first-stands (is_of_station station_of stop) (position_after after) stops k is)
    order position at

-- a stop that has a position is of a station of the trip
pub placed-any : (station_of : ℕ → ℕ) (stops : List StopRow) (after : Option ℕ) (stop : ℕ) (order : Option ℕ) (position : ℕ)
    → call_position station_of stops after stop order ≡ Some position → list_any (is_of_station station_of stop) stops ≡ true
placed-any station_of stops after stop order position at =
    stands-any (is_of_station station_of stop) position stops (call-stands station_of stops after stop order position at)
