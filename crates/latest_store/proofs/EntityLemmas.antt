-- The messages of a record, and the bytes of them.
use Rattle.std.proofs.Common.{◌≡◌, ◌∙◌, ◌++◌, ◌∷◌, ℕ, zero, suc, List, [], true, false, Result, Ok, Err, Some, refl, sym, ap}
use Rattle.std.proofs.lemmas.Bool.{true≢false}
use Rattle.std.proofs.lemmas.Option.{none-some}
use Rattle.std.proofs.lemmas.List.{append-nil}
use Rattle.std.specs.Prelude.{◌↔◌, Bool, IfOk, slice_get}
use Rattle.std.specs.List.{flat_map}
use Rattle.gw_base.specs.declared.messages.Entity.{Entity}
use Rattle.gw_base.specs.declared.messages.Feed.{Feed}
use Rattle.wire_fields.specs.Spelling.{seven_bits_each, varint}
use Rattle.feed_reading.specs.Tables.{MeansFeed, MeansEntity}
use Rattle.feed_writing.specs.Written.{written}
use Rattle.feed_reading.proofs.Building.{means_more}
use Rattle.journey_model.specs.Ids.{id_of}
use Rattle.journey_model.specs.Records.{Recorded}
use Rattle.journey_model.specs.Runs.{Run}
use Rattle.journey_model.specs.Schedules.{Schedule, run_on}
use Rattle.latest_store.specs.Entities as spec
use Rattle.latest_store.specs.Entities.{is_silent, message, messages}
use Rattle.latest_store.specs.Reads.{with_messages}

-- a record has no message where nothing is known, and else one
pub messages_none : (schedule : Schedule) (one : Recorded) (run : Run) → run_on schedule one.trip one.day ≡ Some run → is_silent one.reading ≡ true → messages schedule one ≡ []
messages_none schedule one run on silent = rw (on, silent) refl

pub messages_one : (schedule : Schedule) (one : Recorded) (run : Run) → run_on schedule one.trip one.day ≡ Some run → is_silent one.reading ≡ false
    → messages schedule one ≡ message (id_of schedule.table.trips one.trip) run one ∷ []
messages_one schedule one run on silent = rw (on, silent) refl

-- a feed with no message more is the same
pub means_none : (before : List ℕ) (feed : Feed) → MeansFeed before feed → MeansFeed (before ++ []) (with_messages feed [])
means_none before feed h = rw (append-nil before, append-nil feed.entities) h

pub id_found : (trips : List (List ℕ)) (trip : ℕ) (id : List ℕ) → slice_get trips trip ≡ Some id → id_of trips trip ≡ id
id_found [] trip id found = absurd (none-some id found)
id_found (first ∷ trips) zero id found = cc
id_found (first ∷ trips) (suc trip) id found = id_found trips trip id found

-- the bytes of the one message
pub entity_one : (schedule : Schedule) (one : Recorded) (run : Run) → run_on schedule one.trip one.day ≡ Some run → is_silent one.reading ≡ false
    → spec.entity schedule one ≡ written (message (id_of schedule.table.trips one.trip) run one)
entity_one schedule one run on silent = ap (flat_map written) (messages_one schedule one run on silent) ∙ append-nil (written (message (id_of schedule.table.trips one.trip) run one))

-- where the bytes of a message were made, they are those of the record and mean it
pub made : {E : Type 0} (result : Result (List ℕ) E) (schedule : Schedule) (one : Recorded) (run : Run) (entity : Entity)
    → run_on schedule one.trip one.day ≡ Some run → is_silent one.reading ≡ false → entity ≡ message (id_of schedule.table.trips one.trip) run one
    → IfOk result (λ bytes. bytes ≡ written entity) → IfOk result (λ bytes. bytes ≡ spec.entity schedule one)
made (Ok bytes) schedule one run entity on silent same is = is ∙ ap written same ∙ sym (entity_one schedule one run on silent)
made (Err fault) schedule one run entity on silent same is = tt

pub meant : {E : Type 0} (result : Result (List ℕ) E) (schedule : Schedule) (one : Recorded) (run : Run) (entity : Entity)
    → run_on schedule one.trip one.day ≡ Some run → is_silent one.reading ≡ false → entity ≡ message (id_of schedule.table.trips one.trip) run one
    → IfOk result (λ bytes. MeansEntity bytes entity)
    → IfOk result (λ bytes. (before : List ℕ) (feed : Feed) → MeansFeed before feed → MeansFeed (before ++ bytes) (with_messages feed (messages schedule one)))
meant (Ok bytes) schedule one run entity on silent same means =
    λ before feed h. rw (messages_one schedule one run on silent, ← same) (means_more before bytes feed entity h means)
meant (Err fault) schedule one run entity on silent same means = tt

pub anyway : {T E : Type 0} (result : Result T E) (P : Type 0) → P → IfOk result (λ value. P)
anyway (Ok value) P p = p
anyway (Err fault) P p = tt

-- a message has bytes
some_bytes : (entity : Entity) → written entity ≡ [] → ⊥
unfolding varint seven_bits_each
some_bytes entity e = absurd cc

pub empty_so : {E : Type 0} (result : Result (List ℕ) E) (entity : Entity) (silent : Bool) → silent ≡ false → IfOk result (λ bytes. bytes ≡ written entity)
    → IfOk result (λ bytes. (bytes ≡ []) ↔ (silent ≡ true))
empty_so (Ok bytes) entity silent is e = ((λ none. absurd (some_bytes entity (sym e ∙ none))), (λ yes. absurd (true≢false (sym yes ∙ is))))
empty_so (Err fault) entity silent is e = tt
