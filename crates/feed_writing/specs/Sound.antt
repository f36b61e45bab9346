-- What holds of each value of a message in memory: its numbers fit their types, and its texts are UTF-8.
use Rattle.std.specs.Prelude.{◌<◌, ◌^◌, IfSome, FitsSigned, IsUtf8}
use Rattle.std.specs.Int.{w32, w64}
use Rattle.std.specs.List.{AllByRecursion}
use Rattle.gw_base.specs.declared.messages.Alert.{Alert}
use Rattle.gw_base.specs.declared.messages.Entity.{Entity}
use Rattle.gw_base.specs.declared.messages.Event.{Event}
use Rattle.gw_base.specs.declared.messages.Period.{Period}
use Rattle.gw_base.specs.declared.messages.Selector.{Selector}
use Rattle.gw_base.specs.declared.messages.StopUpdate.{StopUpdate}
use Rattle.gw_base.specs.declared.messages.Translation.{Translation}
use Rattle.gw_base.specs.declared.messages.TripDescriptor.{TripDescriptor}
use Rattle.gw_base.specs.declared.messages.TripUpdate.{TripUpdate}

pub record IsSoundTrip (trip : TripDescriptor) : Type 0 where
  pub trip_id : IfSome trip.trip_id IsUtf8
  pub start_date : IfSome trip.start_date IsUtf8
  pub relation : FitsSigned w32 trip.relation
  pub route_id : IfSome trip.route_id IsUtf8

pub record IsSoundEvent (event : Event) : Type 0 where
  pub delay : IfSome event.delay (FitsSigned w32)
  pub time : IfSome event.time (FitsSigned w64)

pub record IsSoundStop (update : StopUpdate) : Type 0 where
  pub sequence : IfSome update.sequence (λ n. n < 2 ^ 32)
  pub arrival : IfSome update.arrival IsSoundEvent
  pub departure : IfSome update.departure IsSoundEvent
  pub stop_id : IfSome update.stop_id IsUtf8
  pub relation : FitsSigned w32 update.relation
  pub assigned : IfSome update.assigned IsUtf8

pub record IsSoundUpdate (update : TripUpdate) : Type 0 where
  pub trip : IsSoundTrip update.trip
  pub updates : AllByRecursion IsSoundStop update.updates
  pub timestamp : IfSome update.timestamp (λ n. n < 2 ^ 64)

pub record IsSoundPeriod (period : Period) : Type 0 where
  pub start : IfSome period.start (λ n. n < 2 ^ 64)
  pub end : IfSome period.end (λ n. n < 2 ^ 64)

pub record IsSoundSelector (selector : Selector) : Type 0 where
  pub agency_id : IfSome selector.agency_id IsUtf8
  pub route_id : IfSome selector.route_id IsUtf8
  pub trip : IfSome selector.trip IsSoundTrip
  pub stop_id : IfSome selector.stop_id IsUtf8

pub record IsSoundTranslation (translation : Translation) : Type 0 where
  pub text : IsUtf8 translation.text
  pub language : IfSome translation.language IsUtf8

pub record IsSoundAlert (alert : Alert) : Type 0 where
  pub periods : AllByRecursion IsSoundPeriod alert.periods
  pub selectors : AllByRecursion IsSoundSelector alert.selectors
  pub cause : FitsSigned w32 alert.cause
  pub effect : FitsSigned w32 alert.effect
  pub header : AllByRecursion IsSoundTranslation alert.header
  pub description : AllByRecursion IsSoundTranslation alert.description

pub record IsSoundEntity (entity : Entity) : Type 0 where
  pub id : IsUtf8 entity.id
  pub trip_update : IfSome entity.trip_update IsSoundUpdate
  pub alert : IfSome entity.alert IsSoundAlert
