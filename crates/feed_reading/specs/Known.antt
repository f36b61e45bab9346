-- The known fields of each message: which are texts, which are messages, and which have to be there (GTFS Realtime
-- reference, gtfs-realtime.proto). Numbers have no faults, and don't stand here.
use Rattle.std.specs.Prelude.{ℕ, Option, Some, None}
use Rattle.gw_base.specs.declared.required.Required.{Required}
use Rattle.gw_base.specs.declared.required.Required.TheVariants.{Header, GtfsRealtimeVersion, Id, Trip, Text}

-- a list of fields, each with its number: a text, or a message that is read from all its pieces together, with its name
-- where it has to be there; or messages that repeat, of which each piece is one. After a message stand its own fields
pub data Known : Type 0 where
  Nothing : Known
  WithText : ℕ → Option Required → Known → Known
  WithMessage : ℕ → Option Required → Known → Known → Known
  WithMessages : ℕ → Known → Known → Known

abbrev pub trip_known : Known
trip_known = WithText 1 None (WithText 3 None (WithText 5 None Nothing))

-- a StopTimeEvent and a TimeRange have numbers alone
abbrev pub event_known : Known
event_known = Nothing

abbrev pub period_known : Known
period_known = Nothing

-- a StopTimeProperties has a text
abbrev pub properties_known : Known
properties_known = WithText 1 None Nothing

abbrev pub stop_known : Known
stop_known =
    WithMessage 2 None event_known
    (WithMessage 3 None event_known (WithText 4 None (WithMessage 6 None properties_known Nothing)))

abbrev pub update_known : Known
update_known = WithMessage 1 (Some Trip) trip_known (WithMessages 2 stop_known Nothing)

abbrev pub selector_known : Known
selector_known = WithText 1 None (WithText 2 None (WithMessage 4 None trip_known (WithText 5 None Nothing)))

abbrev pub translation_known : Known
translation_known = WithText 1 (Some Text) (WithText 2 None Nothing)

abbrev pub string_known : Known
string_known = WithMessages 1 translation_known Nothing

abbrev pub alert_known : Known
alert_known =
    WithMessages 1 period_known
    (WithMessages 5 selector_known (WithMessage 10 None string_known (WithMessage 11 None string_known Nothing)))

abbrev pub entity_known : Known
entity_known = WithText 1 (Some Id) (WithMessage 3 None update_known (WithMessage 5 None alert_known Nothing))

abbrev pub header_known : Known
header_known = WithText 1 (Some GtfsRealtimeVersion) Nothing

abbrev pub feed_known : Known
feed_known = WithMessage 1 (Some Header) header_known (WithMessages 2 entity_known Nothing)
