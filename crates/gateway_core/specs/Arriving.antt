-- What a feed stands for that is posted, while it arrives (GTFS Realtime, FeedMessage).
use Rattle.std.specs.Prelude.{ℕ, ℤ, List}
use Rattle.gw_base.specs.declared.messages.Entity.{Entity}
use Rattle.feed_reading.specs.FeedPieces as pieces
use Rattle.journey_model.specs.Schedules.{Schedule}
use Rattle.propagation.specs.Folding as folding
use Rattle.service_day.specs.Windows.{DayStarts}
use Rattle.gateway_core.specs.declared.setting.Setting.{Setting}
use Rattle.gateway_core.specs.Deliveries.{schedule_over}

-- a feed that arrives, as contracts see it: the moment at which it began to, the window of that moment, what is read of
-- its bytes, and what its entities say
pub record Arriving : Type 0 where
  pub moment : ℤ
  pub window : DayStarts
  pub reader : pieces.Seen
  pub fold : folding.Folded

-- a reader stands for these bytes, and a fold for the entities that it gave of them
pub record Reads (schedule : Schedule) (reader : pieces.Seen) (fold : folding.Folded) (bytes : List ℕ) : Type 0 where
  pub given : List Entity
  pub read : pieces.StandsFor reader bytes given
  pub folded : folding.StandsFor schedule fold given

-- a feed that arrives stands for these bytes under a setting
abbrev pub StandsFor : Setting → Arriving → List ℕ → Type 0
StandsFor setting arriving bytes =
    Reads (schedule_over setting arriving.window) arriving.reader arriving.fold bytes
