-- What is kept while the verdicts of a delivery are gone through.
use Rattle.std.specs.Prelude.{◌||◌, Bool, true, not, nat_lt, filter, is_some, length, List, ◌++◌, Option, Some, None, Result}
use Rattle.std.specs.Cmp.Lexicographic.{slice_cmp}
use Rattle.std.specs.Ordering.{nat_cmp}
use Rattle.feed_index.specs.Order.{with_one}
use Rattle.journey_model.specs.Records.{Recorded}
use Rattle.journey_model.specs.Schedules.{Schedule}
use Rattle.journey_model.specs.declared.fault.Fault.{Fault}
use Rattle.journey_model.specs.declared.situation.Situation.{Situation}
use Rattle.timetable.specs.Table.{Table}
use Rattle.latest_store.specs.Latest.{is_later}
use Rattle.gateway_core.specs.Arrivals.{always, is_within, most_journeys, most_numbers}
use Rattle.gateway_core.specs.Deliveries.{taken}
use Rattle.gateway_core.specs.Keeping.{at_key}
use Rattle.gateway_core.specs.Standing.{JourneyEntry, KeepsJourneys, KeepsSituations, SituationEntry}
use Rattle.gateway_core.specs.Taking.{journeys_with_room, situations_with_room}
use Rattle.gateway_core.specs.Winners.{key_cmp, key_of}

-- entries are those of the records that were admitted before and have days in the window, and of what so far has room
abbrev pub JourneysAfter : Schedule → List Recorded → List (Result Recorded Fault) → List JourneyEntry → Type 0
JourneysAfter schedule before so_far entries =
    KeepsJourneys schedule
    (filter (is_within schedule.window) before ++ taken (journeys_with_room schedule.window before so_far)) entries

abbrev pub SituationsAfter : Table → List Situation → List (Result Situation Fault) → List SituationEntry → Type 0
SituationsAfter table before so_far entries =
    KeepsSituations table (filter always before ++ taken (situations_with_room before so_far)) entries

-- what is kept of a record's journey, and of a situation's number
abbrev pub journey_kept : List JourneyEntry → Recorded → Option JourneyEntry
journey_kept entries one = at_key (λ entry. entry.key) key_cmp entries (key_of one)

abbrev pub situation_kept : List SituationEntry → Situation → Option SituationEntry
situation_kept entries one = at_key (λ entry. entry.key) (slice_cmp nat_cmp) entries one.number

-- one has room: something is kept under its key, or fewer are kept than the limit
abbrev pub journey_fits : List JourneyEntry → Recorded → Bool
journey_fits entries one = is_some (journey_kept entries one) || nat_lt (length entries) most_journeys

abbrev pub situation_fits : List SituationEntry → Situation → Bool
situation_fits entries one = is_some (situation_kept entries one) || nat_lt (length entries) most_numbers

-- one counts where what is kept isn't later
abbrev pub journey_counts : Option JourneyEntry → Recorded → Bool
journey_counts None one = true
journey_counts (Some entry) one = not (is_later entry.value one.at)

abbrev pub situation_counts : Option SituationEntry → Situation → Bool
situation_counts None one = true
situation_counts (Some entry) one = not (nat_lt one.version entry.value.0)

-- entries with one more at its key
abbrev pub with_journey : List JourneyEntry → JourneyEntry → List JourneyEntry
with_journey entries one = with_one (λ entry. entry.key) key_cmp entries one

abbrev pub with_situation : List SituationEntry → SituationEntry → List SituationEntry
with_situation entries one = with_one (λ entry. entry.key) (slice_cmp nat_cmp) entries one
