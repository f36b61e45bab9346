-- The definitions at the smallest sample, of seed 0 and one trip at three stops: the numbers that are drawn, the calls
-- and the delays, and so the seconds since 1970 at which the trip is expected. The whole texts are in the tests.
use Rattle.std.proofs.Common.{◌≡◌, pos, refl}
use Rattle.sample_maker.specs.Deliveries.{expected_at}
use Rattle.sample_maker.specs.Draws.{after_stops, call_of, drawn, number_of}
use Rattle.sample_maker.specs.declared.draws.DrawnCall.TheVariants.{Cancelled, Expected}

drawn_numbers : (number_of (drawn 0) ≡ 0) × (number_of (drawn (drawn 0)) ≡ 21468)
    × (number_of (drawn (drawn (drawn 0))) ≡ 9988) × (number_of (drawn (drawn (drawn (drawn 0)))) ≡ 22117)
drawn_numbers = (refl, refl, refl, refl)

drawn_calls : (call_of (after_stops 0 0) ≡ Cancelled)
    × (call_of (after_stops 0 1) ≡ Expected) × (call_of (after_stops 0 2) ≡ Expected)
unfolding after_stops
drawn_calls = (refl, refl, refl)

delays : ((after_stops 0 1).delay ≡ pos 0) × ((after_stops 0 2).delay ≡ pos 0) × ((after_stops 0 3).delay ≡ pos 421)
unfolding after_stops
delays = (refl, refl, refl)

-- 06:02:00 and 06:11:01
expected : (expected_at 0 1 (pos 0) ≡ pos 1714543320) × (expected_at 0 2 (pos 421) ≡ pos 1714543861)
expected = (refl, refl)
