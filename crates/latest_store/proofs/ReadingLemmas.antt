-- The entity of a record says just its reading.
use Rattle.std.proofs.Common.{◌≡◌, ◌≤◌, ℕ, ℤ, pos, negsuc, List, [], ◌∷◌, Bool, true, false, length, map, Ok, Some, ap, refl, arith}
use Rattle.std.proofs.lemmas.Bool.{le-leb}
use Rattle.std.proofs.lemmas.Int.{ints}
use Rattle.std.specs.Prelude.{position, unsigned_abs}
use Rattle.std.specs.Str.{bytes_eq}
use Rattle.gw_base.specs.declared.messages.Feed.{Feed}
use Rattle.service_day.specs.DayTexts.{compact_text, day_of}
use Rattle.gw_base.specs.Limits.{last_moment}
use Rattle.gw_base.specs.Moments.{IsMoment}
use Rattle.service_day.specs.declared.days.DayForm.TheVariants.{Compact}
use Rattle.journey_model.specs.Ids.{id_of}
use Rattle.journey_model.specs.FeedReadings.{entity_said, moment_in}
use Rattle.journey_model.specs.Records.{Recorded}
use Rattle.journey_model.specs.Runs.{Run}
use Rattle.journey_model.specs.Schedules.{Schedule, run_on}
use Rattle.journey_model.specs.Names.{filled_text}
use Rattle.journey_model.specs.declared.readings.JourneyReading.{JourneyReading}
use Rattle.journey_model.specs.declared.readings.JourneyReading.TheVariants.{Cancelled, Stops}
use Rattle.journey_model.specs.declared.readings.StopReading.{StopReading}
use Rattle.sparse_planner.specs.Means.{Says, SaysStops}
use Rattle.sparse_planner.specs.Shortest.{shortest}
use Rattle.latest_store.specs.Entities.{is_silent, message, messages}
use Rattle.latest_store.specs.Reads.{SaysItself, dated_reading}
use Rattle.latest_store.proofs.EntityLemmas.{messages_none, messages_one}

-- what a record names: its trip by the id, its day, and a moment
pub record IsNamed (schedule : Schedule) (one : Recorded) : Type 0 where
  pub trip : position (bytes_eq (id_of schedule.table.trips one.trip)) schedule.table.trips ≡ Some one.trip
  pub some_id : 1 ≤ length (id_of schedule.table.trips one.trip)
  pub day : day_of Compact (compact_text one.day) ≡ Some one.day
  pub date : length (compact_text one.day) ≡ 8
  pub moment : IsMoment one.at.0

moment_is : (moment : ℤ) → IsMoment moment → moment_in (Some (unsigned_abs moment)) ≡ Some moment
moment_is (pos n) h =
    let last = h.1 in
    let le : n ≤ last_moment = omega (arith, ints) in
    rw (le-leb 0 n (omega arith), le-leb n last_moment le) refl
moment_is (negsuc n) h = let first = h.0 in absurd (omega (arith, ints))

filled_is : (text : List ℕ) → 1 ≤ length text → filled_text (Some text) ≡ Some text
filled_is [] h = absurd (omega arith)
filled_is (byte ∷ bytes) h = refl

-- the trip, the day and the moment of a message are those of the record, and its updates say the reading
said_cancelled : (schedule : Schedule) (feed : Feed) (run : Run) (trip : ℕ) (day : ℤ) (at : ℤ × ℕ) → let one : Recorded = record { trip = trip; day = day; at = at; reading = Cancelled } in
    IsNamed schedule one → run_on schedule trip day ≡ Some run → schedule.table.runs trip day ≡ true
    → entity_said schedule feed (message (id_of schedule.table.trips trip) run one) ≡ Some (Ok (dated_reading one))
said_cancelled schedule feed run trip day at named on runs =
    rw (filled_is _ named.some_id, named.trip, filled_is (compact_text day) (omega (arith, named.date)), named.day, on, runs, moment_is at.0 named.moment) refl

said_stops : (schedule : Schedule) (feed : Feed) (run : Run) (trip : ℕ) (day : ℤ) (at : ℤ × ℕ) (readings : List StopReading) → let one : Recorded = record { trip = trip; day = day; at = at; reading = Stops readings } in
    IsNamed schedule one → run_on schedule trip day ≡ Some run → schedule.table.runs trip day ≡ true
    → SaysStops run (shortest run (Stops readings)) readings
    → entity_said schedule feed (message (id_of schedule.table.trips trip) run one) ≡ Some (Ok (dated_reading one))
said_stops schedule feed run trip day at readings named on runs says =
    rw (filled_is _ named.some_id, named.trip, filled_is (compact_text day) (omega (arith, named.date)), named.day, on, runs, moment_is at.0 named.moment, says.placed, says.read) refl

said : (schedule : Schedule) (feed : Feed) (run : Run) (trip : ℕ) (day : ℤ) (at : ℤ × ℕ) (reading : JourneyReading) → let one : Recorded = record { trip = trip; day = day; at = at; reading = reading } in
    IsNamed schedule one → run_on schedule trip day ≡ Some run → schedule.table.runs trip day ≡ true
    → Says run (shortest run reading) reading
    → entity_said schedule feed (message (id_of schedule.table.trips trip) run one) ≡ Some (Ok (dated_reading one))
said schedule feed run trip day at Cancelled named on runs says = said_cancelled schedule feed run trip day at named on runs
said schedule feed run trip day at (Stops readings) named on runs says = said_stops schedule feed run trip day at readings named on runs says

-- the messages of a record say just its reading
pub says_itself : (schedule : Schedule) (one : Recorded) (run : Run) → IsNamed schedule one → run_on schedule one.trip one.day ≡ Some run → schedule.table.runs one.trip one.day ≡ true
    → Says run (shortest run one.reading) one.reading → SaysItself schedule one
says_itself schedule one run named on runs says feed = by (is_silent one.reading) refl
  where
    by : (b : Bool) → is_silent one.reading ≡ b → map (entity_said schedule feed) (messages schedule one) ≡ map (λ entity. Some (Ok (dated_reading one))) (messages schedule one)
    by true silent = rw (messages_none schedule one run on silent) refl
    by false silent = rw (messages_one schedule one run on silent) (ap (λ said. said ∷ []) (said schedule feed run one.trip one.day one.at one.reading named on runs says))

-- and those of one of which nothing is known say nothing
pub silent_says : (schedule : Schedule) (one : Recorded) (run : Run) → run_on schedule one.trip one.day ≡ Some run → is_silent one.reading ≡ true → SaysItself schedule one
silent_says schedule one run on silent feed = rw (messages_none schedule one run on silent) refl
