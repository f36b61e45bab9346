-- What is answered to the bytes of a feed, over what journeys are read over (GTFS Realtime, FeedMessage).
use Rattle.std.specs.Prelude.{◌≡◌, ℕ, ℤ, false, true, List, Result, Ok, Err, ⊤}
use Rattle.gw_base.specs.declared.messages.Feed.{Feed}
use Rattle.feed_reading.specs.Tables.{MeansFeed}
use Rattle.feed_reading.specs.Faults.{HasFault, IsFeedFault}
use Rattle.feed_reading.specs.declared.fault.FeedFault as faults
use Rattle.feed_reading.specs.declared.fault.FeedFault.TheVariants as fault
use Rattle.journey_model.specs.FeedReadings.{is_differential}
use Rattle.journey_model.specs.Schedules.{Schedule}
use Rattle.journey_model.specs.declared.report.Report.{Report}
use Rattle.reverse_calls.specs.Siri.{HasTooMany, IsSiri}
use Rattle.gateway_core.specs.declared.accepted.FeedRefusal.{FeedRefusal}
use Rattle.gateway_core.specs.declared.accepted.FeedRefusal.TheVariants as refusal

-- the refusal of bytes that have a fault
abbrev pub of_bytes : faults.FeedFault → FeedRefusal
of_bytes (fault.EntityTooLong at) = refusal.Feed (fault.EntityTooLong at)
of_bytes (fault.Wire one) = refusal.Feed (fault.Wire one)
of_bytes (fault.NotText at) = refusal.Feed (fault.NotText at)
of_bytes (fault.MissingField at name) = refusal.Feed (fault.MissingField at name)
of_bytes fault.Memory = refusal.Memory

-- bytes are a feed without a fault
pub record IsFeed (body : List ℕ) (given : Feed) : Type 0 where
  pub means : MeansFeed body given
  pub faultless : (one : faults.FeedFault) → ¬ HasFault body one

-- bytes are a full dataset with this SIRI text and report
pub record SaysFeed (schedule : Schedule) (moment : ℤ) (body : List ℕ) (text : List ℕ) (report : Report) : Type 0 where
  pub given : Feed
  pub is_feed : IsFeed body given
  pub full : is_differential given ≡ false
  pub siri : IsSiri schedule given moment text report

-- why bytes are refused: for the first of their faults, else for what the feed says; want of memory is free
abbrev pub IsRefusedFeed : Schedule → List ℕ → FeedRefusal → Type 0
IsRefusedFeed schedule body (refusal.Feed one) = IsFeedFault body one
IsRefusedFeed schedule body refusal.Differential = (given : Feed) × IsFeed body given × (is_differential given ≡ true)
IsRefusedFeed schedule body (refusal.TooManyCalls calls) =
    (given : Feed) × IsFeed body given × (is_differential given ≡ false) × HasTooMany schedule given calls
IsRefusedFeed schedule body refusal.Memory = ⊤

-- what is answered to the end of a feed without a fault: that it is differential, that it has too many calls, or its
-- SIRI text and the report on its entities; want of memory is free
abbrev pub IsEnded : Schedule → ℤ → Feed → Result (List ℕ × Report) FeedRefusal → Type 0
IsEnded schedule moment given (Ok both) =
    (is_differential given ≡ false) × IsSiri schedule given moment both.0 both.1
IsEnded schedule moment given (Err (refusal.Feed one)) = ⊥
IsEnded schedule moment given (Err refusal.Differential) = is_differential given ≡ true
IsEnded schedule moment given (Err (refusal.TooManyCalls calls)) =
    (is_differential given ≡ false) × HasTooMany schedule given calls
IsEnded schedule moment given (Err refusal.Memory) = ⊤
