-- What only private functions cite: the text of situations piece by piece. The delivery as a tree is `delivery_tree` of
-- `SituationTree.antt`, and its text is theirs: `proofs/WrittenLemmas.antt`.
use Rattle.std.specs.Prelude.{◌||◌, ◌≤◌, ℕ, ℤ, pos, Bool, true, false, List, [], ◌∷◌, ◌++◌, codes, Option, Some, None, IfSome}
use Rattle.std.specs.List.{filter}
use Rattle.serde_json.specs.Written.{comma_if}
use Rattle.gw_base.specs.Limits.{last_moment}
use Rattle.gw_base.specs.declared.messages.Period.{Period}
use Rattle.service_day.specs.DayTexts.{dashed_text}
use Rattle.timetable.specs.Table.{Table}
use Rattle.journey_model.specs.Ids.{id_of}
use Rattle.journey_model.specs.declared.situation.Ref.{Ref}
use Rattle.journey_model.specs.declared.situation.Ref.TheVariants.{Route, Stop, Journey}
use Rattle.journey_model.specs.declared.situation.Situation.{Situation}
use Rattle.journey_model.specs.declared.situation.ValidPeriod.{ValidPeriod}
use Rattle.siri_json.specs.WrittenTexts.{led, led_moment}
use Rattle.reverse_alerts.specs.Kept.{is_journey, is_route, is_stop}
use Rattle.reverse_alerts.specs.SituationTree.{condition_of, reason_of}

-- a text as a string, and a moment, after what leads to it, where there is one
abbrev pub led_if : List ℕ → Option (List ℕ) → List ℕ
led_if lead None = []
led_if lead (Some text) = led lead text

abbrev pub moment_if : List ℕ → Option ℕ → List ℕ
moment_if lead None = []
moment_if lead (Some secs) = led_moment lead (pos secs)

-- what is referred to, as an item
abbrev pub line_text : List ℕ → List ℕ
line_text id = led (codes "{\"LineRef\":") id ++ codes "}"

abbrev pub stop_point_text : List ℕ → List ℕ
stop_point_text id = led (codes "{\"StopPointRef\":") id ++ codes "}"

abbrev pub framed_text : ℤ → List ℕ → List ℕ
framed_text day id =
    led (codes "{\"FramedVehicleJourneyRef\":{\"DataFrameRef\":") (dashed_text day)
    ++ led (codes ",\"DatedVehicleJourneyRef\":") id

abbrev pub journey_text : ℤ → List ℕ → List ℕ
journey_text day id = framed_text day id ++ codes "}}"

abbrev pub ref_text : Table → Ref → List ℕ
ref_text table (Route route) = line_text (id_of table.routes route.0)
ref_text table (Stop stop) = stop_point_text (id_of table.stops stop.0)
ref_text table (Journey trip day) = journey_text day (id_of table.trips trip.0)

-- items from one on, after a comma where another stands before, and the bracket that closes them
abbrev pub refs_text : Bool → Table → List Ref → List ℕ
refs_text later table [] = codes "]"
refs_text later table (one ∷ others) = comma_if later ++ ref_text table one ++ refs_text true table others

-- there are some
abbrev pub are_some : List Ref → Bool
are_some [] = false
are_some (one ∷ others) = true

-- all of a kind, between what leads to them and what closes them; nothing where there are none
unfoldable pub kind_text : Table → Bool → List ℕ → List Ref → List ℕ → List ℕ
kind_text table later lead [] end = []
kind_text table later lead (one ∷ others) end = comma_if later ++ lead ++ refs_text false table (one ∷ others) ++ end

-- what a situation affects: lines, stops and journeys
abbrev pub lines_text : Table → List Ref → List ℕ
lines_text table lines =
    kind_text table false (codes "\"Networks\":{\"AffectedNetwork\":[{\"AffectedLine\":[") lines (codes "}]}")

abbrev pub stops_text : Table → Bool → List Ref → List ℕ
stops_text table later stops =
    kind_text table later (codes "\"StopPoints\":{\"AffectedStopPoint\":[") stops (codes "}")

abbrev pub journeys_text : Table → Bool → List Ref → List ℕ
journeys_text table later journeys =
    kind_text table later (codes "\"VehicleJourneys\":{\"AffectedVehicleJourney\":[") journeys (codes "}")

abbrev pub kinds_text : Table → List Ref → List Ref → List Ref → List ℕ
kinds_text table lines stops journeys =
    lines_text table lines ++ stops_text table (are_some lines) stops
    ++ journeys_text table (are_some lines || are_some stops) journeys

unfoldable pub affects_text : Table → List Ref → List Ref → List Ref → List ℕ
affects_text table lines stops journeys = codes "{\"Affects\":{" ++ kinds_text table lines stops journeys ++ codes "}"

-- its effect, after the others
abbrev pub condition_text : Option (List ℕ) → List ℕ
condition_text None = []
condition_text (Some word) = led (codes ",\"Consequences\":{\"Consequence\":[{\"Condition\":") word ++ codes "}]}"

-- its cause, whose word is always the same
abbrev pub reason_text : Option (List ℕ) → List ℕ
reason_text None = []
reason_text (Some name) = led (codes ",") name ++ codes ":\"unknown\""

-- a period, and its comma where it has both an end and a start
abbrev pub start_lead : Option ℕ → List ℕ
start_lead None = codes "\"StartTime\":"
start_lead (Some secs) = codes ",\"StartTime\":"

unfoldable pub period_text : ValidPeriod → List ℕ
period_text period =
    codes "{" ++ moment_if (codes "\"EndTime\":") period.end ++ moment_if (start_lead period.end) period.start
    ++ codes "}"

-- periods from one on, and the bracket that closes them
abbrev pub periods_text : Bool → List ValidPeriod → List ℕ
periods_text later [] = codes "]"
periods_text later (one ∷ others) = comma_if later ++ period_text one ++ periods_text true others

abbrev pub valid_text : List ValidPeriod → List ℕ
valid_text [] = []
valid_text (one ∷ others) = codes ",\"ValidityPeriod\":[" ++ periods_text false (one ∷ others)

-- a situation: what it affects and how, why and in which words, and when
abbrev pub what_text : Table → ℤ → List Ref → List Ref → List Ref → ℤ → List ℕ
what_text table moment lines stops journeys effect =
    affects_text table lines stops journeys ++ condition_text (condition_of effect)
    ++ led_moment (codes ",\"CreationTime\":") moment

abbrev pub cause_text : ℤ → Option (List ℕ) → List ℕ
cause_text cause description = led_if (codes ",\"Description\":") description ++ reason_text (reason_of cause)

abbrev pub number_text : List ℕ → Option (List ℕ) → List ℕ
number_text number summary = led (codes ",\"SituationNumber\":") number ++ led_if (codes ",\"Summary\":") summary

abbrev pub why_text : List ℕ → ℤ → Option (List ℕ) → Option (List ℕ) → List ℕ
why_text number cause summary description = cause_text cause description ++ number_text number summary

unfoldable pub situation_text : Table → ℤ → Situation → List ℕ
situation_text table moment one =
    what_text table moment (filter is_route one.refs) (filter is_stop one.refs) (filter is_journey one.refs) one.effect
    ++ why_text one.number one.cause one.summary one.description
    ++ (valid_text one.periods ++ codes "}")

-- situations from one on, after a comma where another stands before, and the bracket that closes them
abbrev pub situations_text : Bool → Table → ℤ → List Situation → List ℕ
situations_text later table moment [] = codes "]"
situations_text later table moment (one ∷ others) =
    comma_if later ++ situation_text table moment one ++ situations_text true table moment others

-- the delivery up to its situations, and what stands after them
abbrev pub frame_text : ℤ → List ℕ
frame_text moment =
    led_moment (codes "{\"Siri\":{\"ServiceDelivery\":{\"ResponseTimestamp\":") moment
    ++ led_moment (codes ",\"SituationExchangeDelivery\":[{\"ResponseTimestamp\":") moment

abbrev pub head_text : ℤ → List ℕ
head_text moment = frame_text moment ++ codes ",\"Situations\":{\"PtSituationElement\":["

abbrev pub tail_text : List ℕ
tail_text = codes "},\"version\":\"2.0\"}]}}}"

-- the bounds of a period, where it has them, are moments
abbrev pub IsBound : Option ℕ → Type 0
IsBound bound = IfSome bound (λ secs. secs ≤ last_moment)

abbrev pub IsTold : Period → Type 0
IsTold period = IsBound period.start × IsBound period.end
