-- How the entity of a record is read, and what a feed with it means.
use Rattle.std.specs.Prelude.{◌≡◌, List, ◌++◌, map, Some, Ok}
use Rattle.gw_base.specs.declared.messages.Entity.{Entity}
use Rattle.gw_base.specs.declared.messages.Feed.{Feed}
use Rattle.journey_model.specs.FeedReadings.{entity_said}
use Rattle.journey_model.specs.Records.{Recorded}
use Rattle.journey_model.specs.Schedules.{Schedule}
use Rattle.journey_model.specs.declared.readings.DatedReading.{DatedReading}
use Rattle.latest_store.specs.Entities.{messages}

-- what is to be read of a record: its trip on its day, the second of recording, and its reading
abbrev pub dated_reading : Recorded → DatedReading
dated_reading one =
    record { trip = record { 0 = one.trip }; day = one.day; recorded = Some one.at.0; reading = one.reading }

-- the messages of a record, in any feed, say just its reading
abbrev pub SaysItself : Schedule → Recorded → Type 0
SaysItself schedule one =
    (feed : Feed) → map (entity_said schedule feed) (messages schedule one)
    ≡ map (λ entity. Some (Ok (dated_reading one))) (messages schedule one)

-- a feed with these entities after its own
abbrev pub with_messages : Feed → List Entity → Feed
with_messages feed entities =
    record {
      version = feed.version;
      incrementality = feed.incrementality;
      timestamp = feed.timestamp;
      entities = feed.entities ++ entities;
    }
