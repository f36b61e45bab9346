-- The deliveries of a sample (SIRI 2.0, EstimatedTimetableDelivery), each of at most 100 journeys, in JSON.
use Rattle.std.specs.Prelude.{ℕ, ◌+◌, ◌-◌, ◌*◌, ◌/◌, min, ℤ, pos, ◌+ℤ◌, List, [], ◌∷◌, ◌++◌, codes, decimal}
use Rattle.service_day.specs.Utc.{moment_text}
use Rattle.sample_maker.specs.declared.draws.DrawnCall.{DrawnCall}
use Rattle.sample_maker.specs.declared.draws.DrawnCall.TheVariants.{Cancelled, Unsaid, Expected}
use Rattle.sample_maker.specs.declared.draws.Draws.{Draws}
use Rattle.sample_maker.specs.Draws.{after_stop, after_stops, after_trips, call_of}
use Rattle.sample_maker.specs.Folder.{second_at}
use Rattle.sample_maker.specs.Listed.{listed}
use Rattle.sample_maker.specs.Pieces.{all_below, led}

-- when a trip with that delay is at the stop after so many others, in seconds since 1970: the service day is
-- 2024-05-01, which starts at 1714521600 in UTC
abbrev pub expected_at : ℕ → ℕ → ℤ → ℤ
expected_at trip place delay = pos (1714521600 + second_at trip place) +ℤ delay

-- the expected arrival and departure, which are the same, with which a call begins
abbrev pub times_text : ℤ → List ℕ
times_text secs =
    led (codes "{\"ExpectedArrivalTime\":\"") (moment_text secs)
    ++ led (codes "\",\"ExpectedDepartureTime\":\"") (moment_text secs)
    ++ codes "\""

-- which stop it is, with which a call ends
abbrev pub stop_text : ℕ → List ℕ
stop_text place =
    led (codes ",\"Order\":") (decimal (place + 1))
    ++ led (codes ",\"StopPointRef\":\"P") (decimal (place + 1))
    ++ codes "\"}"

-- the call of a stop that isn't served, and of one at which the trip is expected
abbrev pub cancelled_text : ℕ → List ℕ
cancelled_text place = codes "{\"Cancellation\":true" ++ stop_text place

abbrev pub expected_text : ℕ → ℕ → ℤ → List ℕ
expected_text trip place delay = times_text (expected_at trip place delay) ++ stop_text place

-- the call at the stop after so many others, or none
unfoldable pub calls_at : ℕ → ℕ → ℤ → DrawnCall → List (List ℕ)
calls_at trip place delay Cancelled = cancelled_text place ∷ []
calls_at trip place delay Unsaid = []
calls_at trip place delay Expected = expected_text trip place delay ∷ []

-- by the draws so far; a delay that is set there counts there
abbrev pub drawn_calls : ℕ → ℕ → Draws → List (List ℕ)
drawn_calls trip place draws = calls_at trip place (after_stop draws).delay (call_of draws)

-- the calls at the first so many stops, where the generator held that before the trip's draws
abbrev pub calls_of : ℕ → ℕ → ℕ → List (List ℕ)
calls_of trip held place = drawn_calls trip place (after_stops held place)

abbrev pub calls : ℕ → ℕ → ℕ → List (List ℕ)
calls trip held stops = all_below (calls_of trip held) stops

-- the journey of a trip
abbrev pub opening_text : List ℕ
opening_text = codes "{\"EstimatedCalls\":{\"EstimatedCall\":["

abbrev pub closing_text : ℕ → List ℕ
closing_text trip =
    codes "]},\"FramedVehicleJourneyRef\":{\"DataFrameRef\":\"2024-05-01\""
    ++ led (codes ",\"DatedVehicleJourneyRef\":\"G") (decimal trip)
    ++ codes "\"},\"RecordedAtTime\":\"2024-05-01T00:00:00Z\"}"

unfoldable pub journey_text : ℕ → ℕ → ℕ → List ℕ
journey_text stops trip held = opening_text ++ listed (calls trip held stops) ++ closing_text trip

-- the journeys of so many trips from one on, where the generator held that before the first one's draws
abbrev pub journey_at : ℕ → ℕ → ℕ → ℕ → List (List ℕ)
journey_at stops from held n = journey_text stops (from + n) (after_trips stops held n) ∷ []

abbrev pub journeys : ℕ → ℕ → ℕ → ℕ → List (List ℕ)
journeys stops from held count = all_below (journey_at stops from held) count

-- a delivery of journeys
abbrev pub head_text : List ℕ
head_text =
    codes "{\"ServiceDelivery\":{\"EstimatedTimetableDelivery\":["
    ++ codes "{\"EstimatedJourneyVersionFrame\":[{\"EstimatedVehicleJourney\":["

abbrev pub tail_text : List ℕ
tail_text = codes "]}]}]}}"

abbrev pub text_of_journeys : List (List ℕ) → List ℕ
text_of_journeys texts = head_text ++ listed texts ++ tail_text

-- the delivery after so many others: 100 trips, or what is left of them
abbrev pub trips_in : ℕ → ℕ → ℕ
trips_in trips number = min (trips - 100 * number) 100

unfoldable pub delivery_text : ℕ → ℕ → ℕ → ℕ → List ℕ
delivery_text seed trips stops number =
    text_of_journeys (journeys stops (100 * number) (after_trips stops seed (100 * number)) (trips_in trips number))

-- how many deliveries the trips are in, and all of them
abbrev pub delivery_count : ℕ → ℕ
delivery_count trips = (trips + 99) / 100

abbrev pub deliveries : ℕ → ℕ → ℕ → List (List ℕ)
deliveries seed trips stops = all_below (λ number. delivery_text seed trips stops number ∷ []) (delivery_count trips)
