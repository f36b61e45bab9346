-- The tree of a delivery of situations is plain: its texts are UTF-8, and the names of members rise.
use Rattle.std.proofs.Common.{◌≡◌, ℕ, ◌<◌, List, [], ◌∷◌, ◌++◌, length, map, codes, Bool, true, false, ◌&&◌, ◌||◌, filter, is_some, IsUtf8, IfSome, option_map, Option, Some, None, refl, sym, subst, ℤ, pos, int_eq, if◌then◌else◌}
use Rattle.std.specs.List.{AllByRecursion, list_all}
use Rattle.std.proofs.lemmas.Bool.{and_parts}
use Rattle.json.proofs.Printed.Utf8.{are_ascii, IsUtf8-are_ascii}
use Rattle.gw_base.specs.Moments.{IsMoment}
use Rattle.gw_base.proofs.Elements.{all_filter}
use Rattle.service_day.specs.Utc.{moment_text}
use Rattle.service_day.proofs.MomentTextLemmas.{IsUtf8-dashed_text, IsUtf8-moment_text}
use Rattle.timetable.specs.Ids.{are_ids}
use Rattle.timetable.specs.Sound.{IsSound}
use Rattle.timetable.specs.Table.{Table}
use Rattle.journey_model.specs.Ids.{id_of}
use Rattle.journey_model.specs.declared.situation.Ref.{Ref}
use Rattle.journey_model.specs.declared.situation.Ref.TheVariants.{Route, Stop, Journey}
use Rattle.journey_model.specs.declared.situation.Situation.{Situation}
use Rattle.journey_model.specs.declared.situation.ValidPeriod.{ValidPeriod}
use Rattle.serde_json.specs.Data.{Data, string}
use Rattle.siri_json.specs.Trees.{items_of, object_of}
use Rattle.journey_model.proofs.IdLemmas.{IsUtf8-id, id-at}
use Rattle.siri_json.proofs.TreesReadAgain.{ArePlain, IsPlain}
use Rattle.reverse_alerts.specs.Kept.{is_journey, is_route, is_stop}
use Rattle.reverse_alerts.specs.Sayable.{HasUtf8}
use Rattle.reverse_alerts.specs.SituationTree.{affects_tree, bound_member, condition_of, delivery_tree, exchange_tree, period_tree, ref_tree, ref_trees, service_tree, situation_tree}
use Rattle.reverse_alerts.proofs.Blocks.{ArePlainParts, IsPlainPart, plain-object}
use Rattle.reverse_alerts.proofs.FromAlerts.{IsSaid}
use Rattle.reverse_alerts.proofs.Grouped.{all-filter}
use Rattle.reverse_alerts.proofs.ReadAffects.{affects-parts, affects_parts, networks_of, stop_points_of, vehicle_journeys_of}
use Rattle.reverse_alerts.proofs.ReadForms.{IsMoment-is_moment, array_if_any}
use Rattle.reverse_alerts.proofs.Sayable.{CanSay, is_bound, is_period}
use Rattle.reverse_alerts.proofs.SituationParts.{consequences_tree, parts, reason_if, situation-parts, trees_of}

-- a name of ASCII letters
name : (letters : List ℕ) → are_ascii letters ≡ true → IsUtf8 letters
name letters h = IsUtf8-are_ascii letters h

IsUtf8-id_of : (ids : List (List ℕ)) (place : ℕ) → are_ids ids ≡ true → place < length ids → IsUtf8 (id_of ids place)
IsUtf8-id_of ids place h less = IsUtf8-id (id_of ids place) (id-at ids place h less)

-- ---- what it affects

plain-line : (table : Table) (n : ℕ) → IsSound table → n < length table.routes → IsPlain 1 (ref_tree table (Route (record { 0 = n })))
plain-line table n sound less = (refl, name (codes "LineRef") refl, IsUtf8-id_of table.routes n sound.routes less, tt)

plain-stop : (table : Table) (n : ℕ) → IsSound table → n < length table.stops → IsPlain 3 (ref_tree table (Stop (record { 0 = n })))
plain-stop table n sound less = (refl, name (codes "StopPointRef") refl, IsUtf8-id_of table.stops n sound.stops less, tt)

plain-journey : (table : Table) (n : ℕ) (on : ℤ) → IsSound table → CanSay table (Journey (record { 0 = n }) on) → IsPlain 3 (ref_tree table (Journey (record { 0 = n }) on))
plain-journey table n on sound h = (
  refl,
  name (codes "FramedVehicleJourneyRef") refl,
  (
    refl,
    name (codes "DataFrameRef") refl,
    IsUtf8-dashed_text on h.1,
    (refl, name (codes "DatedVehicleJourneyRef") refl, IsUtf8-id_of table.trips n sound.trips h.0, tt),
  ),
  tt,
)

plain-lines : (table : Table) (refs : List Ref) → IsSound table → AllByRecursion (CanSay table) refs → list_all is_route refs ≡ true
    → ArePlain 1 (items_of (ref_trees table refs))
plain-lines table [] sound h kind = tt
plain-lines table (Route route ∷ refs) sound h kind = (plain-line table route.0 sound h.0, plain-lines table refs sound h.1 kind)
plain-lines table (Stop stop ∷ refs) sound h kind = cc
plain-lines table (Journey trip day ∷ refs) sound h kind = cc

plain-stops : (table : Table) (refs : List Ref) → IsSound table → AllByRecursion (CanSay table) refs → list_all is_stop refs ≡ true
    → ArePlain 3 (items_of (ref_trees table refs))
plain-stops table [] sound h kind = tt
plain-stops table (Route route ∷ refs) sound h kind = cc
plain-stops table (Stop stop ∷ refs) sound h kind = (plain-stop table stop.0 sound h.0, plain-stops table refs sound h.1 kind)
plain-stops table (Journey trip day ∷ refs) sound h kind = cc

plain-journeys : (table : Table) (refs : List Ref) → IsSound table → AllByRecursion (CanSay table) refs → list_all is_journey refs ≡ true
    → ArePlain 3 (items_of (ref_trees table refs))
plain-journeys table [] sound h kind = tt
plain-journeys table (Route route ∷ refs) sound h kind = cc
plain-journeys table (Stop stop ∷ refs) sound h kind = cc
plain-journeys table (Journey trip on ∷ refs) sound h kind = (plain-journey table trip.0 on sound h.0, plain-journeys table refs sound h.1 kind)

plain-networks : (trees : List Data) → ArePlain 1 (items_of trees) → IsPlainPart 5 (networks_of trees)
plain-networks [] h = tt
plain-networks (first ∷ others) h = (refl, name (codes "AffectedNetwork") refl, ((refl, name (codes "AffectedLine") refl, h, tt), tt), tt)

plain-stop-points : (trees : List Data) → ArePlain 3 (items_of trees) → IsPlainPart 5 (stop_points_of trees)
plain-stop-points [] h = tt
plain-stop-points (first ∷ others) h = (refl, name (codes "AffectedStopPoint") refl, h, tt)

plain-vehicles : (trees : List Data) → ArePlain 3 (items_of trees) → IsPlainPart 5 (vehicle_journeys_of trees)
plain-vehicles [] h = tt
plain-vehicles (first ∷ others) h = (refl, name (codes "AffectedVehicleJourney") refl, h, tt)

plain-affects : (table : Table) (refs : List Ref) → IsSound table → AllByRecursion (CanSay table) refs → IsPlain 6 (affects_tree table refs)
plain-affects table refs sound h =
    let r = filter is_route refs in
    let s = filter is_stop refs in
    let j = filter is_journey refs in
    let lines = plain-networks (ref_trees table r) (plain-lines table r sound (all_filter (CanSay table) is_route refs h) (all-filter is_route refs)) in
    let stops = plain-stop-points (ref_trees table s) (plain-stops table s sound (all_filter (CanSay table) is_stop refs h) (all-filter is_stop refs)) in
    let journeys = plain-vehicles (ref_trees table j) (plain-journeys table j sound (all_filter (CanSay table) is_journey refs h) (all-filter is_journey refs)) in
    let plain : ArePlainParts 5 (affects_parts (ref_trees table r) (ref_trees table s) (ref_trees table j)) = (
      name (codes "Networks") refl,
      lines,
      (name (codes "StopPoints") refl, stops, (name (codes "VehicleJourneys") refl, journeys, tt)),
    ) in
    subst (IsPlain 6) (sym (affects-parts table refs)) (plain-object 5 (affects_parts (ref_trees table r) (ref_trees table s) (ref_trees table j)) refl plain)

-- ---- when it holds

plain-moment : (secs : ℕ) → is_bound (Some secs) ≡ true → IsUtf8 (moment_text (pos secs))
plain-moment secs h = IsUtf8-moment_text (pos secs) (IsMoment-is_moment (pos secs) h)

plain-period-by : (start end : Option ℕ) → is_bound start ≡ true → is_bound end ≡ true
    → IsPlain 5 (object_of (bound_member (codes "EndTime") end ++ bound_member (codes "StartTime") start))
plain-period-by None None first last = tt
plain-period-by None (Some end) first last = (refl, name (codes "EndTime") refl, plain-moment end last, tt)
plain-period-by (Some start) None first last = (refl, name (codes "StartTime") refl, plain-moment start first, tt)
plain-period-by (Some start) (Some end) first last =
    (refl, name (codes "EndTime") refl, plain-moment end last, (refl, name (codes "StartTime") refl, plain-moment start first, tt))

plain-periods : (all : List ValidPeriod) → list_all is_period all ≡ true → ArePlain 5 (items_of (map period_tree all))
plain-periods [] h = tt
plain-periods (one ∷ others) h =
    let here = and_parts (is_period one) (list_all is_period others) h in
    let bounds = and_parts (is_bound one.start) (is_bound one.end) (and_parts (is_some one.start || is_some one.end) (is_bound one.start && is_bound one.end) here.0).1 in
    (plain-period-by one.start one.end bounds.0 bounds.1, plain-periods others here.1)

plain-array : (trees : List Data) → ArePlain 5 (items_of trees) → IsPlainPart 6 (array_if_any trees)
plain-array [] h = tt
plain-array (first ∷ others) h = h

-- ---- the others

plain-text : (t : Option (List ℕ)) → IfSome t IsUtf8 → IsPlainPart 6 (option_map string t)
plain-text None h = tt
plain-text (Some t) h = h

plain-consequences : (word : Option (List ℕ)) → IfSome word IsUtf8 → IsPlainPart 6 (option_map consequences_tree word)
plain-consequences None h = tt
plain-consequences (Some word) h = (refl, name (codes "Consequence") refl, ((refl, name (codes "Condition") refl, h, tt), tt), tt)

word-utf8 : (effect : ℤ) → IfSome (condition_of effect) IsUtf8
word-utf8 effect = by (int_eq effect (pos 1)) (int_eq effect (pos 3)) (int_eq effect (pos 4)) (int_eq effect (pos 5)) (int_eq effect (pos 6))
  where
    by : (a b c d e : Bool) → IfSome (
        if a then Some (codes "noService") else
        (if b then Some (codes "delayed") else
        (if c then Some (codes "diverted") else
        (if d then Some (codes "additionalService") else
        (if e then Some (codes "altered") else None))))) IsUtf8
    by true b c d e = name (codes "noService") refl
    by false true c d e = name (codes "delayed") refl
    by false false true d e = name (codes "diverted") refl
    by false false false true e = name (codes "additionalService") refl
    by false false false false true = name (codes "altered") refl
    by false false false false false = tt

plain-reason : (number cause : ℤ) → IsPlainPart 6 (reason_if number cause)
plain-reason number cause = by (int_eq cause number)
  where
    by : (b : Bool) → IsPlainPart 6 (if b then Some (string (codes "unknown")) else None)
    by true = name (codes "unknown") refl
    by false = tt

-- a situation
plain-situation : (table : Table) (moment : ℤ) (one : Situation) → IsSound table → IsMoment moment → IsSaid table one → HasUtf8 one
    → IsPlain 7 (situation_tree table moment one)
plain-situation table moment one sound at h utf8 =
    let can = h.sayable in
    let plain : ArePlainParts 6 (parts (trees_of table moment one)) = (
      name (codes "Affects") refl,
      plain-affects table one.refs sound can.refs,
      (
        name (codes "Consequences") refl,
        plain-consequences (condition_of one.effect) (word-utf8 one.effect),
        (
          name (codes "CreationTime") refl,
          IsUtf8-moment_text moment at,
          (
            name (codes "Description") refl,
            plain-text one.description utf8.2,
            (
              name (codes "EnvironmentReason") refl,
              plain-reason (pos 8) one.cause,
              (
                name (codes "EquipmentReason") refl,
                plain-reason (pos 3) one.cause,
                (
                  name (codes "MiscellaneousReason") refl,
                  plain-reason (pos 2) one.cause,
                  (
                    name (codes "SituationNumber") refl,
                    utf8.0,
                    (
                      name (codes "Summary") refl,
                      plain-text one.summary utf8.1,
                      (
                        name (codes "ValidityPeriod") refl,
                        plain-array (map period_tree one.periods) (plain-periods one.periods can.periods),
                        tt,
                      ),
                    ),
                  ),
                ),
              ),
            ),
          ),
        ),
      ),
    ) in
    subst (IsPlain 7) (sym (situation-parts table moment one can.cause)) (plain-object 6 (parts (trees_of table moment one)) refl plain)

plain-situations : (table : Table) (moment : ℤ) (all : List Situation) → IsSound table → IsMoment moment → AllByRecursion (IsSaid table) all
    → AllByRecursion HasUtf8 all → ArePlain 7 (items_of (map (situation_tree table moment) all))
plain-situations table moment [] sound at h utf8 = tt
plain-situations table moment (one ∷ others) sound at h utf8 =
    (plain-situation table moment one sound at h.0 utf8.0, plain-situations table moment others sound at h.1 utf8.1)

-- the tree of a delivery
pub plain-delivery : (table : Table) (moment : ℤ) (all : List Situation) → IsSound table → IsMoment moment → AllByRecursion (IsSaid table) all
    → AllByRecursion HasUtf8 all → IsPlain 14 (delivery_tree table moment all)
plain-delivery table moment all sound at h utf8 =
    let stamp = IsUtf8-moment_text moment at in
    let exchange : IsPlain 10 (exchange_tree table moment all) = (
      refl,
      name (codes "ResponseTimestamp") refl,
      stamp,
      (
        refl,
        name (codes "Situations") refl,
        (refl, name (codes "PtSituationElement") refl, plain-situations table moment all sound at h utf8, tt),
        (refl, name (codes "version") refl, name (codes "2.0") refl, tt),
      ),
    ) in
    let service : IsPlain 12 (service_tree table moment all) = (
      refl,
      name (codes "ResponseTimestamp") refl,
      stamp,
      (refl, name (codes "SituationExchangeDelivery") refl, (exchange, tt), tt),
    ) in
    (refl, name (codes "Siri") refl, (refl, name (codes "ServiceDelivery") refl, service, tt), tt)
