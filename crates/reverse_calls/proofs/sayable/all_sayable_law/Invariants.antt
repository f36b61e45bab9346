use Rattle.std.proofs.Common.{All, take}
use Rattle.propagation.specs.Feeds.{IsServable}
use Rattle.siri_calls.specs.Written.Sayable.{IsSayable}
use Rattle.reverse_calls.proofs.sayable.all_sayable_law.Given as goal

abbrev pub invariant-loop-one : goal.invariant-loop-one
invariant-loop-one l = All (IsServable l.context) l.journeys → All (IsSayable l.context) (take l.one-index l.journeys)
