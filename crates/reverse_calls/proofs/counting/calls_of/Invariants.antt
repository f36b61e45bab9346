use Rattle.std.proofs.Common.{◌≡◌, take}
use Rattle.reverse_calls.specs.Siri.{call_count}
use Rattle.reverse_calls.proofs.counting.calls_of.Given as goal

abbrev pub invariant-loop-one : goal.invariant-loop-one
invariant-loop-one l = l.calls ≡ call_count l.context (take l.one-index l.journeys)
