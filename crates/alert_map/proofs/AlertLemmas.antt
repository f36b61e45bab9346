-- How long the bodies of entities are.
use Rattle.std.proofs.Common.{◌≡◌, ◌∙◌, ◌<◌, ◌≤◌, ◌-◌, ◌^◌, ◌++◌, ◌∷◌, true, ℕ, List, [], length, length-append, take, drop, Result, Ok, Err, refl, ap, arith}
use Rattle.std.proofs.lemmas.Bool.{ltb-true}
use Rattle.std.proofs.lemmas.List.{take_all}
use Rattle.std.proofs.lemmas.List.Elements.{All-from_recursion}
use Rattle.std.specs.List.{AllByRecursion, list_all}
use Rattle.std.specs.Prelude.{IfOk}
use Rattle.gw_base.specs.declared.messages.Entity.{Entity}
use Rattle.gw_base.specs.declared.messages.Feed.{Feed}
use Rattle.timetable.specs.Table.{Table}
use Rattle.timetable.proofs.IdLemmas.{and-left, and-right}
use Rattle.journey_model.specs.Situations.{AreKnown, is_known}
use Rattle.journey_model.specs.declared.situation.Ref.{Ref}
use Rattle.journey_model.specs.declared.situation.Ref.TheVariants.{Route, Stop, Journey}
use Rattle.alert_map.specs.Alerts.{IsOfEntity}
use Rattle.alert_map.specs.Known.{IsEachKnown, IsKnown}
use Rattle.wire_fields.specs.Grammar.{BeginsNumber}
use Rattle.wire_fields.specs.Reading.{varint_at}
use Rattle.wire_fields.specs.Spelling.{bytes_field, seven_bits_each, varint}
use Rattle.wire_fields.proofs.Numbers.{varint_again}
use Rattle.wire_fields.proofs.Written.{varint_written}
use Rattle.feed_reading.specs.Tables.{MeansEntity, MeansFeed, with_entity}
use Rattle.feed_writing.specs.Written.{feed_entity, written}
use Rattle.feed_reading.proofs.Building.{means_more}

-- bytes begin with one number at most
pub one_number : (bytes : List ℕ) (a b : ℕ) (after_a after_b : List ℕ) → BeginsNumber bytes a after_a → BeginsNumber bytes b after_b → a ≡ b
one_number bytes a b after_a after_b first second =
    let found : varint_at bytes ≡ Ok (a, after_a) = rw first.1 (varint_again first.0 after_a a first.2) in
    let again : varint_at bytes ≡ Ok (b, after_b) = rw second.1 (varint_again second.0 after_b b second.2) in
    let same : (a, after_a) ≡ (b, after_b) = cc in
    ap (λ (one : ℕ × List ℕ). one.0) same

-- the tag of an entity takes one byte
tag_is : varint 18 ≡ 18 ∷ []
unfolding varint seven_bits_each
tag_is = refl

-- after it stand the length of the body and the body
after_tag : (bytes body : List ℕ) → bytes ≡ bytes_field 2 body → drop 1 bytes ≡ varint (length body) ++ body
after_tag bytes body is = rw is (rw tag_is refl)

field_within : (body : List ℕ) → length body ≤ length (bytes_field 2 body)
field_within body = simp length-append (omega arith)

body_within : (bytes body : List ℕ) → bytes ≡ bytes_field 2 body → length body ≤ length bytes
body_within bytes body is = rw is (field_within body)

rest_is : (bytes : List ℕ) → take (length bytes - 1) (drop 1 bytes) ≡ drop 1 bytes
rest_is [] = refl
rest_is (byte ∷ bytes) = take_all (length (byte ∷ bytes) - 1) bytes (omega arith)

-- so the bytes after the tag begin with that length
body_begins : (bytes body : List ℕ) → bytes ≡ bytes_field 2 body → length bytes < 2 ^ 64 → BeginsNumber (take (length bytes - 1) (drop 1 bytes)) (length body) body
body_begins bytes body is few =
    let within : length body < 2 ^ 64 = omega (arith, body_within bytes body is) in
    let rest : take (length bytes - 1) (drop 1 bytes) ≡ varint (length body) ++ body = rest_is bytes ∙ after_tag bytes body is in
    (varint (length body), rest, varint_written (length body) within)

pub begins_len : (bytes : List ℕ) (entity : Entity) → bytes ≡ written entity → length bytes < 2 ^ 64
    → BeginsNumber (take (length bytes - 1) (drop 1 bytes)) (length (feed_entity entity)) (feed_entity entity)
begins_len bytes entity is few = body_begins bytes (feed_entity entity) is few

-- an entity has bytes
pub some_bytes : (bytes : List ℕ) → IsOfEntity bytes → 0 < length bytes
some_bytes bytes h =
    let tag : length (varint 18) ≡ 1 = ap length tag_is in
    rw h.1 (simp length-append (omega arith))

-- where the bytes of a message were made, they are its bytes and mean it
pub made : {E : Type 0} (result : Result (List ℕ) E) (entity message : Entity) → entity ≡ message → IfOk result (λ bytes. bytes ≡ written entity)
    → IfOk result (λ bytes. bytes ≡ written message)
made (Ok bytes) entity message same is = is ∙ ap written same
made (Err fault) entity message same is = tt

pub meant : {E : Type 0} (result : Result (List ℕ) E) (entity message : Entity) → entity ≡ message → IfOk result (λ bytes. MeansEntity bytes entity)
    → IfOk result (λ bytes. (before : List ℕ) (feed : Feed) → MeansFeed before feed → MeansFeed (before ++ bytes) (with_entity feed message))
meant (Ok bytes) entity message same means = λ before feed h. rw (← same) (means_more before bytes feed entity h means)
meant (Err fault) entity message same means = tt

-- ---- what a situation refers to

is_there : (table : Table) (one : Ref) → is_known table one ≡ true → IsKnown table one
is_there table (Route route) h = ltb-true route.0 (length table.routes) h
is_there table (Stop stop) h = ltb-true stop.0 (length table.stops) h
is_there table (Journey trip day) h = ltb-true trip.0 (length table.trips) h

-- the timetable has each thing
pub each_known : (table : Table) (refs : List Ref) → AreKnown table refs → IsEachKnown table refs
each_known table refs known = All-from_recursion (IsKnown table) refs (each refs known)
  where
    each : (refs : List Ref) → list_all (is_known table) refs ≡ true → AllByRecursion (IsKnown table) refs
    each [] h = tt
    each (one ∷ refs) h = (is_there table one (and-left (is_known table one) _ h), each refs (and-right (is_known table one) _ h))
