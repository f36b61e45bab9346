-- the journeys so far, and after them the text of the others
use Rattle.std.proofs.Common.{◌≡◌, ◌++◌, false, drop}
use Rattle.siri_calls.specs.Written.DeliveryTexts.{journeys_text}
use Rattle.siri_calls.proofs.writing.journeys.put_journeys.Given as goal

abbrev pub invariant-loop-one : goal.invariant-loop-one
invariant-loop-one l =
    l.out ++ journeys_text l.later l.context l.moment (drop l.one-index l.journeys)
    ≡ l.fn.out ++ journeys_text false l.context l.moment l.journeys
