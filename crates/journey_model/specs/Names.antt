-- What messages name: texts that count, and the routes, stops and trips of a timetable.
use Rattle.std.specs.Prelude.{ℕ, ℤ, List, [], ◌∷◌, position, Option, Some, None, option_map}
use Rattle.std.specs.Str.{bytes_eq}
use Rattle.timetable.specs.Table.{Table}
use Rattle.journey_model.specs.declared.situation.Ref.{Ref}
use Rattle.journey_model.specs.declared.situation.Ref.TheVariants.{Route, Stop, Journey}

-- a text that isn't empty: an empty one counts as missing
abbrev pub filled_text : Option (List ℕ) → Option (List ℕ)
filled_text None = None
filled_text (Some []) = None
filled_text (Some (byte ∷ bytes)) = Some (byte ∷ bytes)

-- the route, the stop, and the trip on a day with these ids, where the timetable has them
abbrev pub route_named : Table → List ℕ → Option Ref
route_named table id = option_map (λ n. Route (record { 0 = n })) (position (bytes_eq id) table.routes)

abbrev pub stop_named : Table → List ℕ → Option Ref
stop_named table id = option_map (λ n. Stop (record { 0 = n })) (position (bytes_eq id) table.stops)

abbrev pub journey_named : Table → List ℕ → ℤ → Option Ref
journey_named table id day = option_map (λ n. Journey (record { 0 = n }) day) (position (bytes_eq id) table.trips)
