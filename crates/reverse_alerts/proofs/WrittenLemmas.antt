-- The text of a delivery of situations is that of its pieces.
use Rattle.std.proofs.Common.{◌≡◌, ◌∙◌, ◌||◌, ℕ, ℤ, Bool, true, false, List, [], ◌∷◌, ◌++◌, map, codes, Option, Some, None, refl, ap, sym, append_assoc}
use Rattle.std.specs.List.{filter}
use Rattle.std.proofs.lemmas.List.{append-nil}
use Rattle.json.specs.Print.{escape_byte, quoted}
use Rattle.service_day.specs.Utc.{moment_text}
use Rattle.serde_json.specs.Data.{Items, array, string}
use Rattle.serde_json.specs.Written.{comma_if, compact_text, items_text, members_text}
use Rattle.timetable.specs.Table.{Table}
use Rattle.journey_model.specs.declared.situation.Ref.{Ref}
use Rattle.journey_model.specs.declared.situation.Ref.TheVariants.{Route, Stop, Journey}
use Rattle.journey_model.specs.declared.situation.Situation.{Situation}
use Rattle.journey_model.specs.declared.situation.ValidPeriod.{ValidPeriod}
use Rattle.siri_json.specs.Trees.{array_of, items_of, members, moment_tree, object_of}
use Rattle.siri_json.specs.WrittenTexts.{led}
use Rattle.siri_json.proofs.Pieces.{in_front}
use Rattle.reverse_alerts.specs.Kept.{is_journey, is_route, is_stop}
use Rattle.reverse_alerts.specs.SituationTree.{Named, condition_of, consequences_of, delivery_text, journeys_member, lines_member, period_tree, periods_member, reason_member, reason_of, ref_tree, ref_trees, situation_tree, stops_member, text_member}
use Rattle.reverse_alerts.specs.SituationTexts.{are_some, affects_text, condition_text, head_text, kind_text, kinds_text, led_if, period_text, periods_text, reason_text, ref_text, refs_text, situation_text, situations_text, tail_text, valid_text}

-- ---- members one after the other

-- there are some
abbrev some : Named → Bool
some [] = false
some (one ∷ others) = true

-- the text of members without the bracket that closes them
abbrev front : Bool → Named → List ℕ
front later [] = []
front later (one ∷ others) = (comma_if later ++ (quoted one.0 ++ 58 ∷ compact_text one.1)) ++ front true others

regrouped : (comma key text rest end : List ℕ) → comma ++ (key ++ 58 ∷ (text ++ (rest ++ end))) ≡ ((comma ++ (key ++ 58 ∷ text)) ++ rest) ++ end
regrouped comma key text rest end = simp append_assoc

all_members : (later : Bool) (all : Named) → members_text later (members all) ≡ front later all ++ codes "}"
all_members later [] = refl
all_members later (one ∷ others) =
    ap (λ rest. comma_if later ++ (quoted one.0 ++ 58 ∷ (compact_text one.1 ++ rest))) (all_members true others)
    ∙ regrouped (comma_if later) (quoted one.0) (compact_text one.1) (front true others) (codes "}")

front-append : (later : Bool) (a b : Named) → front later (a ++ b) ≡ front later a ++ front (later || some a) b
front-append true [] b = refl
front-append false [] b = refl
front-append true (one ∷ others) b =
    ap (λ rest. (comma_if true ++ (quoted one.0 ++ 58 ∷ compact_text one.1)) ++ rest) (front-append true others b)
    ∙ sym (append_assoc (comma_if true ++ (quoted one.0 ++ 58 ∷ compact_text one.1)) (front true others) (front true b))
front-append false (one ∷ others) b =
    ap (λ rest. (comma_if false ++ (quoted one.0 ++ 58 ∷ compact_text one.1)) ++ rest) (front-append true others b)
    ∙ sym (append_assoc (comma_if false ++ (quoted one.0 ++ 58 ∷ compact_text one.1)) (front true others) (front true b))

-- ---- what a situation affects

ref : (table : Table) (one : Ref) → compact_text (ref_tree table one) ≡ ref_text table one
unfolding escape_byte led
ref table (Route route) = simp append_assoc
ref table (Stop stop) = simp append_assoc
ref table (Journey trip day) = simp append_assoc

refs : (table : Table) (all : List Ref) (later : Bool) → items_text later (items_of (ref_trees table all)) ≡ refs_text later table all
refs table [] later = refl
refs table (one ∷ others) later = in_front (comma_if later) _ _ _ _ (ref table one) (refs table others true)

-- what closes the items of a kind
close_network : (lead all : List ℕ) → lead ++ ((((all ++ codes "}") ++ codes "]") ++ codes "}") ++ []) ≡ lead ++ all ++ codes "}]}"
close_network lead all = simp append_assoc

close_object : (lead all : List ℕ) → lead ++ ((all ++ codes "}") ++ []) ≡ lead ++ all ++ codes "}"
close_object lead all = simp append_assoc

-- all of a kind, by the text of its items
lines_by : (later : Bool) (trees : Items) (all : List ℕ) → items_text false trees ≡ all
    → front later ((codes "Networks", object_of ((codes "AffectedNetwork", array_of (object_of ((codes "AffectedLine", array trees) ∷ []) ∷ [])) ∷ [])) ∷ [])
    ≡ comma_if later ++ codes "\"Networks\":{\"AffectedNetwork\":[{\"AffectedLine\":[" ++ all ++ codes "}]}"
unfolding escape_byte
lines_by true trees all same = rw same (close_network (codes ",\"Networks\":{\"AffectedNetwork\":[{\"AffectedLine\":[") all)
lines_by false trees all same = rw same (close_network (codes "\"Networks\":{\"AffectedNetwork\":[{\"AffectedLine\":[") all)

stops_by : (later : Bool) (trees : Items) (all : List ℕ) → items_text false trees ≡ all
    → front later ((codes "StopPoints", object_of ((codes "AffectedStopPoint", array trees) ∷ [])) ∷ [])
    ≡ comma_if later ++ codes "\"StopPoints\":{\"AffectedStopPoint\":[" ++ all ++ codes "}"
unfolding escape_byte
stops_by true trees all same = rw same (close_object (codes ",\"StopPoints\":{\"AffectedStopPoint\":[") all)
stops_by false trees all same = rw same (close_object (codes "\"StopPoints\":{\"AffectedStopPoint\":[") all)

journeys_by : (later : Bool) (trees : Items) (all : List ℕ) → items_text false trees ≡ all
    → front later ((codes "VehicleJourneys", object_of ((codes "AffectedVehicleJourney", array trees) ∷ [])) ∷ [])
    ≡ comma_if later ++ codes "\"VehicleJourneys\":{\"AffectedVehicleJourney\":[" ++ all ++ codes "}"
unfolding escape_byte
journeys_by true trees all same = rw same (close_object (codes ",\"VehicleJourneys\":{\"AffectedVehicleJourney\":[") all)
journeys_by false trees all same = rw same (close_object (codes "\"VehicleJourneys\":{\"AffectedVehicleJourney\":[") all)

lines : (table : Table) (later : Bool) (all : List Ref)
    → front later (lines_member (ref_trees table all)) ≡ kind_text table later (codes "\"Networks\":{\"AffectedNetwork\":[{\"AffectedLine\":[") all (codes "}]}")
unfolding kind_text
lines table later [] = refl
lines table later (one ∷ others) = lines_by later (items_of (ref_trees table (one ∷ others))) (refs_text false table (one ∷ others)) (refs table (one ∷ others) false)

stops : (table : Table) (later : Bool) (all : List Ref)
    → front later (stops_member (ref_trees table all)) ≡ kind_text table later (codes "\"StopPoints\":{\"AffectedStopPoint\":[") all (codes "}")
unfolding kind_text
stops table later [] = refl
stops table later (one ∷ others) = stops_by later (items_of (ref_trees table (one ∷ others))) (refs_text false table (one ∷ others)) (refs table (one ∷ others) false)

journeys : (table : Table) (later : Bool) (all : List Ref)
    → front later (journeys_member (ref_trees table all)) ≡ kind_text table later (codes "\"VehicleJourneys\":{\"AffectedVehicleJourney\":[") all (codes "}")
unfolding kind_text
journeys table later [] = refl
journeys table later (one ∷ others) =
    journeys_by later (items_of (ref_trees table (one ∷ others))) (refs_text false table (one ∷ others)) (refs table (one ∷ others) false)

some_lines : (table : Table) (all : List Ref) → some (lines_member (ref_trees table all)) ≡ are_some all
some_lines table [] = refl
some_lines table (one ∷ others) = refl

some_stops : (table : Table) (all : List Ref) → some (stops_member (ref_trees table all)) ≡ are_some all
some_stops table [] = refl
some_stops table (one ∷ others) = refl

some-append : (a b : Named) → some (a ++ b) ≡ (some a || some b)
some-append [] b = refl
some-append (one ∷ others) b = refl

kinds : (table : Table) (a b c : List Ref)
    → front false (lines_member (ref_trees table a) ++ stops_member (ref_trees table b) ++ journeys_member (ref_trees table c)) ≡ kinds_text table a b c
kinds table a b c =
    let first = lines_member (ref_trees table a) in
    let second = stops_member (ref_trees table b) in
    let third = journeys_member (ref_trees table c) in
    let cut : front false (first ++ second ++ third) ≡ (front false first ++ front (some first) second) ++ front (some (first ++ second)) third =
    front-append false (first ++ second) third ∙ ap (λ l. l ++ front (some (first ++ second)) third) (front-append false first second) in
    let any : some (first ++ second) ≡ (are_some a || are_some b) =
    some-append first second ∙ ap (λ s. s || some second) (some_lines table a) ∙ ap (λ s. are_some a || s) (some_stops table b) in
    cut
    ∙ ap (λ l. (l ++ front (some first) second) ++ front (some (first ++ second)) third) (lines table false a)
    ∙ ap (λ s. (kind_text table false (codes "\"Networks\":{\"AffectedNetwork\":[{\"AffectedLine\":[") a (codes "}]}") ++ front s second) ++ front (some (first ++ second)) third) (some_lines table a)
    ∙ ap (λ l. (kind_text table false (codes "\"Networks\":{\"AffectedNetwork\":[{\"AffectedLine\":[") a (codes "}]}") ++ l) ++ front (some (first ++ second)) third) (stops table (are_some a) b)
    ∙ ap (λ s. (kind_text table false (codes "\"Networks\":{\"AffectedNetwork\":[{\"AffectedLine\":[") a (codes "}]}") ++ kind_text table (are_some a) (codes "\"StopPoints\":{\"AffectedStopPoint\":[") b (codes "}")) ++ front s third) any
    ∙ ap (λ l. (kind_text table false (codes "\"Networks\":{\"AffectedNetwork\":[{\"AffectedLine\":[") a (codes "}]}") ++ kind_text table (are_some a) (codes "\"StopPoints\":{\"AffectedStopPoint\":[") b (codes "}")) ++ l) (journeys table (are_some a || are_some b) c)

affects_by : (ms : Named) (text rest : List ℕ) → front false ms ≡ text
    → 123 ∷ ((comma_if false ++ (quoted (codes "Affects") ++ 58 ∷ compact_text (object_of ms))) ++ rest) ≡ (codes "{\"Affects\":{" ++ text ++ codes "}") ++ rest
unfolding escape_byte
affects_by ms text rest same = rw (all_members false ms, same) refl

-- ---- the other members

condition : (word : Option (List ℕ)) → front true (consequences_of word) ≡ condition_text word
unfolding escape_byte led
condition None = refl
condition (Some word) = simp append_assoc

description : (text : Option (List ℕ)) → front true (text_member (codes "Description") text) ≡ led_if (codes ",\"Description\":") text
unfolding escape_byte led
description None = refl
description (Some text) = simp append_assoc

summary : (text : Option (List ℕ)) → front true (text_member (codes "Summary") text) ≡ led_if (codes ",\"Summary\":") text
unfolding escape_byte led
summary None = refl
summary (Some text) = simp append_assoc

reason : (name : Option (List ℕ)) → front true (reason_member name) ≡ reason_text name
unfolding escape_byte led
reason None = refl
reason (Some name) = simp append_assoc

period : (one : ValidPeriod) → compact_text (period_tree one) ≡ period_text one
unfolding escape_byte led period_text
period one = by one.end one.start
  where
    by : (end start : Option ℕ) → compact_text (period_tree (record { start = start; end = end })) ≡ period_text (record { start = start; end = end })
    by None None = refl
    by None (Some start) = simp append_assoc
    by (Some end) None = simp append_assoc
    by (Some end) (Some start) = simp append_assoc

periods : (all : List ValidPeriod) (later : Bool) → items_text later (items_of (map period_tree all)) ≡ periods_text later all
periods [] later = refl
periods (one ∷ others) later = in_front (comma_if later) _ _ _ _ (period one) (periods others true)

periods_by : (trees : Items) (all : List ℕ) → items_text false trees ≡ all → front true ((codes "ValidityPeriod", array trees) ∷ []) ≡ codes ",\"ValidityPeriod\":[" ++ all
unfolding escape_byte
periods_by trees all same = rw same (append-nil (codes ",\"ValidityPeriod\":[" ++ all))

valid : (all : List ValidPeriod) → front true (periods_member (map period_tree all)) ≡ valid_text all
valid [] = refl
valid (one ∷ others) = periods_by (items_of (map period_tree (one ∷ others))) (periods_text false (one ∷ others)) (periods (one ∷ others) false)

created_by : (moment : ℤ) (ms : Named) → front true ((codes "CreationTime", moment_tree moment) ∷ ms) ≡ led (codes ",\"CreationTime\":") (moment_text moment) ++ front true ms
unfolding escape_byte led
created_by moment ms = simp append_assoc

number_by : (number : List ℕ) (ms : Named) → front true ((codes "SituationNumber", string number) ∷ ms) ≡ led (codes ",\"SituationNumber\":") number ++ front true ms
unfolding escape_byte led
number_by number ms = simp append_assoc

-- ---- a situation

-- five runs of members, of which the first has one
five : (a b c d e : Named) → front true (a ++ b ++ c ++ d ++ e) ≡ front true a ++ front true b ++ front true c ++ front true d ++ front true e
five a b c d e =
    front-append true (a ++ b ++ c ++ d) e
    ∙ ap (λ l. l ++ front true e) (front-append true (a ++ b ++ c) d
    ∙ ap (λ l. l ++ front true d) (front-append true (a ++ b) c ∙ ap (λ l. l ++ front true c) (front-append true a b)))

-- the pieces of a situation, as its members come and by subject
situation_pieces : (affects word created description reason number summary periods end : List ℕ)
    → affects ++ ((word ++ (created ++ description) ++ reason ++ (number ++ summary) ++ periods) ++ end)
    ≡ (affects ++ word ++ created) ++ ((description ++ reason) ++ (number ++ summary)) ++ (periods ++ end)
situation_pieces affects word created description reason number summary periods end = simp append_assoc

-- the members of a situation after what it affects
abbrev after : ℤ → Situation → Named
after moment one =
    consequences_of (condition_of one.effect)
    ++ (codes "CreationTime", moment_tree moment) ∷ text_member (codes "Description") one.description
    ++ reason_member (reason_of one.cause)
    ++ (codes "SituationNumber", string one.number) ∷ text_member (codes "Summary") one.summary
    ++ periods_member (map period_tree one.periods)

same_five : (a b c d e a' b' c' d' e' : List ℕ) → a ≡ a' → b ≡ b' → c ≡ c' → d ≡ d' → e ≡ e' → a ++ b ++ c ++ d ++ e ≡ a' ++ b' ++ c' ++ d' ++ e'
same_five a b c d e a' b' c' d' e' p q r s t = rw (p, q, r, s, t) refl

after_text : (moment : ℤ) (one : Situation) → front true (after moment one)
    ≡ condition_text (condition_of one.effect)
    ++ (led (codes ",\"CreationTime\":") (moment_text moment) ++ led_if (codes ",\"Description\":") one.description)
    ++ reason_text (reason_of one.cause)
    ++ (led (codes ",\"SituationNumber\":") one.number ++ led_if (codes ",\"Summary\":") one.summary)
    ++ valid_text one.periods
after_text moment one =
    let a = consequences_of (condition_of one.effect) in
    let b = (codes "CreationTime", moment_tree moment) ∷ text_member (codes "Description") one.description in
    let c = reason_member (reason_of one.cause) in
    let d = (codes "SituationNumber", string one.number) ∷ text_member (codes "Summary") one.summary in
    let e = periods_member (map period_tree one.periods) in
    five a b c d e
    ∙ same_five (front true a) (front true b) (front true c) (front true d) (front true e) _ _ _ _ _
    (condition (condition_of one.effect))
    (created_by moment (text_member (codes "Description") one.description)
    ∙ ap (λ l. led (codes ",\"CreationTime\":") (moment_text moment) ++ l) (description one.description))
    (reason (reason_of one.cause))
    (number_by one.number (text_member (codes "Summary") one.summary)
    ∙ ap (λ l. led (codes ",\"SituationNumber\":") one.number ++ l) (summary one.summary))
    (valid one.periods)

situation : (table : Table) (moment : ℤ) (one : Situation) → compact_text (situation_tree table moment one) ≡ situation_text table moment one
unfolding situation_text affects_text
situation table moment one =
    let a = filter is_route one.refs in
    let b = filter is_stop one.refs in
    let c = filter is_journey one.refs in
    let ms = lines_member (ref_trees table a) ++ stops_member (ref_trees table b) ++ journeys_member (ref_trees table c) in
    let affects = codes "{\"Affects\":{" ++ kinds_text table a b c ++ codes "}" in
    let all : compact_text (situation_tree table moment one)
    ≡ (123 ∷ ((comma_if false ++ (quoted (codes "Affects") ++ 58 ∷ compact_text (object_of ms))) ++ front true (after moment one))) ++ codes "}" =
    ap (λ l. 123 ∷ l) (all_members false ((codes "Affects", object_of ms) ∷ after moment one)) in
    all
    ∙ ap (λ l. l ++ codes "}") (affects_by ms (kinds_text table a b c) (front true (after moment one)) (kinds table a b c) ∙ ap (λ l. affects ++ l) (after_text moment one))
    ∙ append_assoc affects _ (codes "}")
    ∙ situation_pieces affects (condition_text (condition_of one.effect)) (led (codes ",\"CreationTime\":") (moment_text moment))
    (led_if (codes ",\"Description\":") one.description) (reason_text (reason_of one.cause)) (led (codes ",\"SituationNumber\":") one.number)
    (led_if (codes ",\"Summary\":") one.summary) (valid_text one.periods) (codes "}")

situations : (table : Table) (moment : ℤ) (all : List Situation) (later : Bool)
    → items_text later (items_of (map (situation_tree table moment) all)) ≡ situations_text later table moment all
situations table moment [] later = refl
situations table moment (one ∷ others) later = in_front (comma_if later) _ _ _ _ (situation table moment one) (situations table moment others true)

-- ---- the delivery

-- the pieces of a delivery, as its objects nest and in a row
delivery_pieces : (service moment exchange situations all close version end : List ℕ)
    → service ++ (((moment ++ (exchange ++ (((moment ++ (situations ++ ((all ++ close) ++ version))) ++ end) ++ close))) ++ close) ++ close)
    ≡ (service ++ moment ++ (exchange ++ moment) ++ situations) ++ all ++ (close ++ version ++ end ++ close ++ close ++ close)
delivery_pieces service moment exchange situations all close version end = simp append_assoc

delivery_by : (moment : ℤ) (trees : Items) (all : List ℕ) → items_text false trees ≡ all
    → compact_text (object_of ((
      codes "Siri",
      object_of ((
        codes "ServiceDelivery",
        object_of (
            (codes "ResponseTimestamp", moment_tree moment)
            ∷ (
              codes "SituationExchangeDelivery",
              array_of (object_of (
                  (codes "ResponseTimestamp", moment_tree moment)
                  ∷ (codes "Situations", object_of ((codes "PtSituationElement", array trees) ∷ []))
                  ∷ (codes "version", string (codes "2.0"))
                  ∷ []) ∷ []),
            )
            ∷ []),
      ) ∷ []),
    ) ∷ []))
    ≡ head_text moment ++ all ++ tail_text
unfolding escape_byte led
delivery_by moment trees all same =
    rw same (delivery_pieces (codes "{\"Siri\":{\"ServiceDelivery\":{\"ResponseTimestamp\":") (quoted (moment_text moment))
    (codes ",\"SituationExchangeDelivery\":[{\"ResponseTimestamp\":") (codes ",\"Situations\":{\"PtSituationElement\":[") all (codes "}")
    (codes ",\"version\":\"2.0\"}") (codes "]"))

-- the text of a delivery is its head, its situations and its tail
pub delivery : (table : Table) (moment : ℤ) (all : List Situation)
    → head_text moment ++ situations_text false table moment all ++ tail_text ≡ delivery_text table moment all
delivery table moment all =
    sym (delivery_by moment (items_of (map (situation_tree table moment) all)) (situations_text false table moment all) (situations table moment all false))
