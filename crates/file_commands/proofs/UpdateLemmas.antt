-- A feed has no more updates than bytes.
use Rattle.std.proofs.Common.{◌++◌, ◌+◌, ◌*◌, ◌<◌, ◌^◌, ◌≤◌, ◌∷◌, [], ℕ, ℤ, List, length, Option, Some, None, arith, length-append}
use Rattle.std.proofs.lemmas.List.Sums.{sum_by-cons}
use Rattle.std.specs.Prelude.{sum_by}
use Rattle.std.specs.List.{flat_map}
use Rattle.wire_fields.proofs.Varints.{length-varint_some}
use Rattle.wire_fields.specs.Spelling.{bytes_field, varint, varint_field}
use Rattle.gw_base.specs.declared.messages.Entity.{Entity}
use Rattle.gw_base.specs.declared.messages.StopUpdate.{StopUpdate}
use Rattle.gw_base.specs.declared.messages.TripUpdate.{TripUpdate}
use Rattle.feed_writing.specs.Written.{alert, deleted_field, feed_entity, header, if_there, stop_time_update, trip_descriptor, trip_update, written, written_feed}
use Rattle.sample_counts.specs.Counts.{updates_in, updates_of}

-- a field of bytes has some byte, and has those of its body
some_byte : (number : ℕ) (body : List ℕ) → number * 8 + 2 < 2 ^ 64 → 1 + length body ≤ length (bytes_field number body)
some_byte number body small =
    let tag = length-varint_some (number * 8 + 2) small in
    let front = length-append (varint (number * 8 + 2)) (varint (length body)) in
    let all = length-append (varint (number * 8 + 2) ++ varint (length body)) body in
    omega arith

in_list : (updates : List StopUpdate) → length updates ≤ length (flat_map (λ stop. bytes_field 2 (stop_time_update stop)) updates)
in_list [] = omega arith
in_list (one ∷ others) =
    let first = some_byte 2 (stop_time_update one) (omega arith) in
    let all = length-append (bytes_field 2 (stop_time_update one)) (flat_map (λ stop. bytes_field 2 (stop_time_update stop)) others) in
    let rest = in_list others in
    omega arith

in_update : (update : TripUpdate) → length update.updates ≤ length (trip_update update)
in_update update =
    let stops = flat_map (λ (stop : StopUpdate). bytes_field 2 (stop_time_update stop)) update.updates in
    let front = length-append (bytes_field 1 (trip_descriptor update.trip)) (flat_map (λ (stop : StopUpdate). bytes_field 2 (stop_time_update stop)) update.updates) in
    let all = length-append (bytes_field 1 (trip_descriptor update.trip) ++ flat_map (λ (stop : StopUpdate). bytes_field 2 (stop_time_update stop)) update.updates)
    (if_there (varint_field 4) update.timestamp) in
    let each = in_list update.updates in
    omega arith

in_field : (update : Option TripUpdate) → updates_in update ≤ length (if_there (λ (one : TripUpdate). bytes_field 3 (trip_update one)) update)
in_field None = omega arith
in_field (Some update) =
    let its = in_update update in
    let field = some_byte 3 (trip_update update) (omega arith) in
    omega arith

in_entity : (entity : Entity) → updates_of entity ≤ length (written entity)
in_entity entity =
    let its = in_field entity.trip_update in
    let two = length-append (bytes_field 1 entity.id) (deleted_field entity.deleted) in
    let three = length-append (bytes_field 1 entity.id ++ deleted_field entity.deleted) (if_there (λ (one : TripUpdate). bytes_field 3 (trip_update one)) entity.trip_update) in
    let four = length-append (bytes_field 1 entity.id ++ deleted_field entity.deleted ++ if_there (λ (one : TripUpdate). bytes_field 3 (trip_update one)) entity.trip_update)
    (if_there (λ a. bytes_field 5 (alert a)) entity.alert) in
    let field = some_byte 2 (feed_entity entity) (omega arith) in
    omega arith

in_entities : (entities : List Entity) → sum_by updates_of entities ≤ length (flat_map written entities)
in_entities [] = omega arith
in_entities (one ∷ others) =
    let first = in_entity one in
    let rest = in_entities others in
    let sum = sum_by-cons updates_of one others in
    let all = length-append (written one) (flat_map written others) in
    omega arith

pub no_more_updates : (at : ℤ) (entities : List Entity) → sum_by updates_of entities ≤ length (written_feed at entities)
no_more_updates at entities =
    let its = in_entities entities in
    let all = length-append (header at) (flat_map written entities) in
    omega arith
