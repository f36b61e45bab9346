-- A sample while its deliveries are given.
use Rattle.std.specs.Prelude.{ℕ, ◌+◌, ◌*◌, ◌≡◌, ◌≤◌, min, Bool, nat_lt, if◌then◌else◌, Option, Some, None, List}
use Rattle.sample_maker.specs.Deliveries.{delivery_count, delivery_text}
use Rattle.sample_maker.specs.Draws.{after_trips}

-- the three numbers of a sample, and how many deliveries were given
pub record Making : Type 0 where
  pub seed : ℕ
  pub trips : ℕ
  pub stops : ℕ
  pub given : ℕ

-- the ranges of the three numbers
pub record IsSample (seed trips stops : ℕ) : Type 0 where
  pub seed_in : seed ≤ 2147483647
  pub some_trip : 1 ≤ trips
  pub trips_in : trips ≤ 20000
  pub two_stops : 2 ≤ stops
  pub stops_in : stops ≤ 100

-- a delivery is left
abbrev pub has_next : Making → Bool
has_next making = nat_lt making.given (delivery_count making.trips)

-- the next delivery's text, and what follows it
abbrev pub next_text : Making → Option (List ℕ)
next_text making =
    if has_next making then Some (delivery_text making.seed making.trips making.stops making.given) else None

abbrev pub after_next : Making → Making
after_next making = if has_next making then record making { given = making.given + 1 } else making

-- what is held between two deliveries: the generator as the trips so far left it
pub record IsHeld (seed trips stops given held : ℕ) : Type 0 where
  pub sample : IsSample seed trips stops
  pub given_in : given ≤ delivery_count trips
  pub held_is : held ≡ after_trips stops seed (min trips (100 * given))
