-- A delivery that was written says the same when it is read again.
use Rattle.std.proofs.Common.{List, All, ℤ, arith}
use Rattle.gw_base.specs.Moments.{IsMoment}
use Rattle.timetable.specs.Sound.{IsSound}
use Rattle.journey_model.specs.Schedules.{Schedule}
use Rattle.journey_model.specs.declared.readings.DatedReading.{DatedReading}
use Rattle.siri_calls.specs.Written.DeliveryTree.{delivery_text, delivery_tree}
use Rattle.siri_calls.specs.Written.SaidAgain.{SaysAgain}
use Rattle.siri_calls.specs.Written.Sayable.{IsSayable}
use Rattle.siri_calls.proofs.Written.SaidAgainItems.{verdicts-said}
use Rattle.siri_calls.proofs.Written.SaidAgainPlain.{plain-delivery}
use Rattle.siri_json.proofs.TreesReadAgain.{is_utf8-compact_text, read-compact_text}

pub says_again : (schedule : Schedule) (moment : ℤ) (journeys : List DatedReading) → IsSound schedule.table → IsMoment moment → All (IsSayable schedule) journeys
    → SaysAgain schedule moment journeys (delivery_text schedule moment journeys)
says_again schedule moment journeys sound at all =
    let tree = delivery_tree schedule moment journeys in
    let plain = plain-delivery schedule moment journeys sound at all in
    record {
      tree = tree;
      is_tree = rw (is_utf8-compact_text 12 tree plain) (read-compact_text 12 tree (omega arith) plain);
      all = verdicts-said schedule moment journeys sound at all;
    }
