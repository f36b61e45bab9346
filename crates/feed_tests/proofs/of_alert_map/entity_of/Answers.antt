-- The route is one of the timetable's, and the bytes are those of the situation's entity.
use Rattle.std.proofs.Common.{◌≡◌, ◌<◌, ◌∷◌, List, [], length, refl}
use Rattle.std.proofs.lemmas.Bool.{lt-ltb}
use Rattle.std.proofs.lemmas.Result.{IfOk-weaker}
use Rattle.timetable.specs.Seen.{seen}
use Rattle.timetable.specs.Table.{Table}
use Rattle.timetable.specs.declared.numbers.RouteNo.{RouteNo}
use Rattle.journey_model.specs.Situations.{AreKnown}
use Rattle.journey_model.specs.declared.situation.Ref.{Ref}
use Rattle.journey_model.specs.declared.situation.Ref.TheVariants.{Route}
use Rattle.alert_map.specs.Alerts.{IsOfEntity, alert_message}
use Rattle.feed_tests.proofs.of_alert_map.entity_of.Goals as goal

known_one : (table : Table) (refs : List Ref) (route : RouteNo) → refs ≡ Route route ∷ [] → route.0 < length table.routes → AreKnown table refs
known_one table refs route is within = rw is (rw (lt-ltb route.0 (length table.routes) within) refl)

pub alert_entity-requires : goal.alert_entity-requires
alert_entity-requires c = known_one (seen c.args.table.now) _ c.args.route c.in_ok-situation.ensures c.requires

pub returns : goal.returns
returns c =
    IfOk-weaker c.alert_entity.result _ IsOfEntity (λ bytes is. (alert_message (seen c.args.table.now) c.in_ok-situation.situation, is)) c.alert_entity.ensures.bytes
