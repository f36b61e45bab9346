-- A board to which the journeys of the served feed were added shows what arrived.
use Rattle.std.proofs.Common.{◌≡◌, ◌∙◌, ◌+◌, ◌++◌, ◌∷◌, [], ℕ, ℤ, Bool, true, false, cond, List, map, not, Result, Ok, Err, refl, sym, ap, subst}
use Rattle.std.proofs.lemmas.Bool.{false≢true}
use Rattle.std.specs.Prelude.{IfOk, filter}
use Rattle.std.specs.List.{enumerate_from, flat_map, list_all}
use Rattle.std.specs.Option.{option_to_list}
use Rattle.gw_base.specs.declared.messages.Feed.{Feed}
use Rattle.feed_reading.specs.Tables.{MeansFeed, full_dataset}
use Rattle.journey_model.specs.Readings.{is_absent}
use Rattle.journey_model.specs.Records.{Recorded}
use Rattle.journey_model.specs.Schedules.{Schedule}
use Rattle.journey_model.specs.declared.readings.DatedReading.{DatedReading}
use Rattle.journey_model.specs.declared.readings.JourneyReading.{JourneyReading}
use Rattle.journey_model.specs.declared.readings.JourneyReading.TheVariants.{Cancelled, Stops}
use Rattle.journey_model.specs.declared.readings.StopReading.{StopReading}
use Rattle.journey_model.specs.declared.readings.StopReading.TheVariants.{Absent, Skipped, Timed}
use Rattle.latest_store.specs.Entities.{is_silent}
use Rattle.latest_store.specs.Reads.{dated_reading}
use Rattle.propagation.specs.Feeds.{IsReading}
use Rattle.propagation.specs.declared.feeds.FeedReading.{FeedReading}
use Rattle.gateway_core.specs.Arrivals.{Arrival, moments_of, present, schedule_at}
use Rattle.gateway_core.specs.Gives.{GivesEach, SaysLatest, says_something}
use Rattle.gateway_core.specs.declared.setting.Setting.{Setting}
use Rattle.stop_board.specs.BoardTree.{IsBoardText}
use Rattle.stop_board.specs.Boards.{Board}
use Rattle.stop_board.specs.Visits.{stops_of, visit_at, visits_among, visits_of}
use Rattle.stop_board.specs.declared.visits.Asked.{Asked}
use Rattle.stop_board.specs.declared.visits.Visit.{Visit}
use Rattle.timetable.specs.declared.numbers.StopNo.{StopNo}
use Rattle.board_command.specs.Shown.{ShowsBoard, visits}
use Rattle.board_command.proofs.ReadLemmas.{journeys_are}

-- ---- a record that says nothing has no visit

abbrev visits_from : Asked → DatedReading → ℤ → ℕ → List StopReading → List Visit
visits_from asked journey recorded number readings =
    flat_map (λ one. option_to_list (visit_at asked journey recorded one.0 one.1)) (enumerate_from number readings)

none_absent : (asked : Asked) (journey : DatedReading) (recorded : ℤ) (number : ℕ) (readings : List StopReading) → list_all is_absent readings ≡ true
    → visits_from asked journey recorded number readings ≡ []
none_absent asked journey recorded number [] absent = refl
none_absent asked journey recorded number (Absent ∷ readings) absent = none_absent asked journey recorded (number + 1) readings absent
none_absent asked journey recorded number (Skipped ∷ readings) absent = absurd (false≢true absent)
none_absent asked journey recorded number (Timed arrival departure place ∷ readings) absent = absurd (false≢true absent)

none_silent : (asked : Asked) (journey : DatedReading) (recorded : ℤ) (reading : JourneyReading) → is_silent reading ≡ true
    → visits_among asked journey recorded (stops_of reading) ≡ []
none_silent asked journey recorded Cancelled silent = absurd (false≢true silent)
none_silent asked journey recorded (Stops readings) silent = none_absent asked journey recorded 0 readings silent

abbrev of_record : Asked → Recorded → List Visit
of_record asked one = visits_of asked (dated_reading one)

-- so the visits of those that say something are those of all
told_visits : (asked : Asked) (records : List Recorded) → flat_map (visits_of asked) (map dated_reading (filter says_something records)) ≡ flat_map (of_record asked) records
told_visits asked [] = refl
told_visits asked (one ∷ others) = by (is_silent one.reading) refl (told_visits asked others)
  where
    by : (b : Bool) → is_silent one.reading ≡ b → flat_map (visits_of asked) (map dated_reading (filter says_something others)) ≡ flat_map (of_record asked) others
        → flat_map (visits_of asked) (map dated_reading (cond (not (is_silent one.reading)) (one ∷ filter says_something others) (filter says_something others)))
        ≡ of_record asked one ++ flat_map (of_record asked) others
    by true silent rest = rw (silent, none_silent asked (dated_reading one) one.at.0 one.reading silent) rest
    by false silent rest = rw silent (ap (λ (visits : List Visit). of_record asked one ++ visits) rest)

-- ---- the feed that is served, read again

pub said_again : {E : Type 0} (at : ℤ) (schedule : Schedule) (records : List Recorded) (bytes : List ℕ) (answer : Result Feed E)
    → GivesEach at schedule records bytes → ((other : Feed) → MeansFeed bytes other → IfOk answer (λ feed. feed ≡ other))
    → IfOk answer (SaysLatest schedule records)
said_again at schedule records bytes (Ok feed) gives only =
    subst (SaysLatest schedule records) (sym (only (full_dataset at gives.entities) gives.means)) gives.says
said_again at schedule records bytes (Err end) gives only = tt

-- ---- the board

-- what the words ask for
abbrev asked_for : StopNo → ℤ → ℕ → Asked
asked_for stop at minutes = record { stop = stop; from = at; minutes = minutes }

-- what was added to a board without visits are all its visits
visits_are : (asked : Asked) (journeys : List DatedReading) (made : Board) (visits : List Visit) → made ≡ record { asked = asked; visits = [] }
    → visits ≡ made.visits ++ flat_map (visits_of made.asked) journeys → visits ≡ flat_map (visits_of asked) journeys
visits_are asked journeys made visits is added =
    added ∙ ap (λ (board : Board). board.visits ++ flat_map (visits_of board.asked) journeys) is

pub shown : {E : Type 0} (setting : Setting) (at : ℤ) (arrivals : List Arrival) (feed : Feed) (schedule : Schedule) (reading : FeedReading) (made now : Board)
    (stop : StopNo) (minutes most : ℕ) (answer : Result (List ℕ) E)
    → SaysLatest (schedule_at setting (moments_of arrivals)) (present setting arrivals) feed → schedule ≡ schedule_at setting (moments_of arrivals) → IsReading schedule feed reading
    → made ≡ record { asked = asked_for stop at minutes; visits = [] }
    → now.asked ≡ made.asked → now.visits ≡ made.visits ++ flat_map (visits_of made.asked) reading.journeys
    → IfOk answer (IsBoardText schedule now.asked.stop now.visits at most)
    → IfOk answer (ShowsBoard setting at arrivals stop minutes most)
shown setting at arrivals feed schedule reading made now stop minutes most (Ok text) says same reads is asked added shows =
    record {
      latest = says.latest;
      are_latest = says.are_latest;
      shows = subst (λ (s : Schedule). IsBoardText s stop (visits says.latest stop at minutes) at most text) same of_all;
    }
  where
    journeys : reading.journeys ≡ map dated_reading (filter says_something says.latest)
    journeys =
        journeys_are (schedule_at setting (moments_of arrivals)) (present setting arrivals) feed reading says
        (subst (λ (s : Schedule). IsReading s feed reading) same reads)

    all : now.visits ≡ visits says.latest stop at minutes
    all =
        visits_are (asked_for stop at minutes) reading.journeys made now.visits is added
        ∙ ap (flat_map (visits_of (asked_for stop at minutes))) journeys
        ∙ told_visits (asked_for stop at minutes) says.latest

    at_stop : IsBoardText schedule stop now.visits at most text
    at_stop =
        subst (λ (a : Asked). IsBoardText schedule a.stop now.visits at most text) (asked ∙ ap (λ (board : Board). board.asked) is) shows

    of_all : IsBoardText schedule stop (visits says.latest stop at minutes) at most text
    of_all = subst (λ (visits : List Visit). IsBoardText schedule stop visits at most text) all at_stop
shown setting at arrivals feed schedule reading made now stop minutes most (Err end) says same reads is asked added shows = tt
