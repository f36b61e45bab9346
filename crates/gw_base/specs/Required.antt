-- The names of the fields that a feed has to have (gtfs-realtime.proto).
use Rattle.std.specs.Prelude.{ℕ, List, codes}
use Rattle.gw_base.specs.declared.required.Required.{Required}
use Rattle.gw_base.specs.declared.required.Required.TheVariants.{Header, GtfsRealtimeVersion, Id, Trip, Text}

abbrev pub required_name : Required → List ℕ
required_name Header = codes "header"
required_name GtfsRealtimeVersion = codes "gtfs_realtime_version"
required_name Id = codes "id"
required_name Trip = codes "trip"
required_name Text = codes "text"
