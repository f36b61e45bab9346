-- What a list of updates says of the stops of a trip.
use Rattle.std.proofs.Common.{◌≡◌, ℕ, List, map, length, true, Result, Ok, Err, None, refl, sym, ap}
use Rattle.std.specs.List.{range_with_len, zip}
use Rattle.gw_base.specs.declared.messages.StopUpdate.{StopUpdate}
use Rattle.gw_base.specs.declared.messages.TripUpdate.{TripUpdate}
use Rattle.journey_model.specs.FeedReadings.{stops_said}
use Rattle.journey_model.specs.Propagation.{prop}
use Rattle.journey_model.specs.Runs.{Run}
use Rattle.journey_model.specs.Updates.{places}
use Rattle.journey_model.specs.declared.fault.Fault.{Fault}
use Rattle.journey_model.specs.declared.readings.JourneyReading.TheVariants.{Stops}
use Rattle.journey_model.specs.declared.readings.StopReading.{StopReading}
use Rattle.propagation.specs.Saying.{placed_all, placed_at}
use Rattle.propagation.specs.Spreading.{are_rising_from}
use Rattle.propagation.specs.declared.placing.MatchedUpdate.{MatchedUpdate}
use Rattle.propagation.proofs.PlaceLemmas.{places-from, places-rise}

-- the readings of placed updates are those of the updates
pub said_stops : (run : Run) (update : TripUpdate) (placed : List MatchedUpdate) (all : List StopReading)
    → placed_all run update.updates (places run update.updates) ≡ Ok placed
    → ((updates : List (ℕ × StopUpdate)) → are_rising_from 0 updates ≡ true → placed ≡ map (placed_at run) updates
    → all ≡ map (prop run updates) (range_with_len 0 (length run.stops)))
    → stops_said run update (places run update.updates) ≡ Ok (Stops all)
said_stops run update placed all e reads = by (places run update.updates) refl e
  where
    by : (said : Result (List ℕ) Fault) → places run update.updates ≡ said
        → placed_all run update.updates said ≡ Ok placed → stops_said run update said ≡ Ok (Stops all)
    by (Ok at) is same =
        let are : map (placed_at run) (zip at update.updates) ≡ placed = cc in
        ap (λ readings. Ok (Stops readings))
        (sym (reads (zip at update.updates) (places-rise run 0 None update.updates at (places-from run update.updates at is).0) (sym are)))
    by (Err fault) is same = cc
