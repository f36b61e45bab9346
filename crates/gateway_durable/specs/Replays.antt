-- What kept bodies give that are taken again, one after the other (SIRI 2.0, ServiceDelivery; GTFS Realtime,
-- FeedMessage).
use Rattle.std.specs.Prelude.{◌≡◌, List, [], ◌∷◌}
use Rattle.journey_model.specs.declared.report.Report.{Report}
use Rattle.delivery_journal.specs.Kept.{KeptBody}
use Rattle.gateway_core.specs.Arrivals.{Arrival, Given}
use Rattle.gateway_core.specs.Bodies.{Brings}
use Rattle.gateway_core.specs.declared.setting.Setting.{Setting}

-- kept bodies, the oldest first, are taken one after the other at a gateway of this setting at which the first arrivals
-- came before; the last ones came by then. Of arrivals the newest stands first
abbrev pub Replays : Setting → List Arrival → List KeptBody → List Arrival → Type 0
Replays setting before [] now = now ≡ before
Replays setting before (first ∷ rest) now =
    (report : Report) × (given : Given) × Brings setting before first.moment first.kind first.body report given
    × Replays setting (record { moment = first.moment; gives = given } ∷ before) rest now
